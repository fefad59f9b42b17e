-- The first eight octets of both decide as numbers, or what follows them.
use Rattle.std.proofs.Common.{◌∙◌, ap, arith, length, length-drop}
use Rattle.std.specs.Cmp.Lexicographic.{slice_cmp}
use Rattle.std.specs.Ordering.{nat_cmp}
use Rattle.shared_map.proofs.Numbers.{other_numbers, same_numbers}
use Rattle.shared_map.proofs.queries.compare_bytes.Goals as goal

pub returns-then-number-other_number : goal.returns-then-number-other_number
returns-then-number-other_number c =
    c.cmp.ensures
    ∙ other_numbers c.loop-number.one.now c.loop-number.other.now c.in-Some.number c.in-Some.other_number c.in-Some.ensures.0 c.in-Some.ensures.1 c.if-number-other_number.true
    ∙ c.loop-number.invariant

pub after_eight-rest-requires : goal.after_eight-rest-requires
after_eight-rest-requires c = c.in-Some.ensures.0.enough

pub after_eight-other_rest-requires : goal.after_eight-other_rest-requires
after_eight-other_rest-requires c = c.in-Some.ensures.1.enough

pub loop-number-preserved : goal.loop-number-preserved
loop-number-preserved c =
    (λ i. slice_cmp nat_cmp (c.after_eight-rest.ensures i) (c.after_eight-other_rest.ensures i))
    ∙ same_numbers c.loop-number.one.now c.loop-number.other.now c.in-Some.number c.in-Some.other_number c.in-Some.ensures.0 c.in-Some.ensures.1 c.if-number-other_number.false
    ∙ c.loop-number.invariant

pub loop-number-smaller : goal.loop-number-smaller
loop-number-smaller c =
    omega (
      arith,
      c.in-Some.ensures.0.enough,
      ap length c.after_eight-rest.ensures,
      length-drop 8 c.loop-number.one.now,
    )
