-- As many passes as there are have left the provider as it is.
use Rattle.std.proofs.Common.{◌≡◌, ◌+◌, map, ap, ◌∙◌, arith}
use Rattle.shared_directory.proofs.First.{replicate-more, held_first, held_come}
use Rattle.shared_directory.proofs.held.HeldDirectory.new.Goals as goal

pub push_reserved-requires : goal.push_reserved-requires
push_reserved-requires c = let inv = c.loop-place.invariant in omega (arith, inv.len, inv.room, c.loop-place-test.true)

pub loop-place-preserved : goal.loop-place-preserved
loop-place-preserved c =
    let inv = c.loop-place.invariant in
    record {
      left = ap (map (λ s. s.value)) c.push_reserved.ensures.items
          ∙ replicate-more (λ s. s.value) c.loop-place.last.items c.of.result c.in-Ok-boxed.now.value c.loop-place._place inv.left (c.of.ensures ∙ c.as_ref.ensures);
      len = c.push_reserved.ensures.len ∙ ap (λ n. n + 1) inv.len;
      room = omega (arith, c.push_reserved.ensures.capacity, inv.room);
    }

pub invariant_of-result : goal.invariant_of-result
invariant_of-result c =
    let all : c.loop-place._place ≡ c.args.seats + 1 = omega (arith, c.loop-place-test.false, c.loop-place.auto._place-end) in
    held_come c.args.provider c.args.seats c.loop-place._place c.in-Ok-boxed.now.value (map (λ s. s.value) c.loop-place.last.items) c.in-Ok-boxed.ensures.ok c.loop-place.invariant.left all

pub returns-clause-ok : goal.returns-clause-ok
returns-clause-ok c =
    let all : c.loop-place._place ≡ c.args.seats + 1 = omega (arith, c.loop-place-test.false, c.loop-place.auto._place-end) in
    held_first c.args.provider c.args.seats c.loop-place._place c.in-Ok-boxed.now.value (map (λ s. s.value) c.loop-place.last.items) c.in-Ok-boxed.ensures.ok c.loop-place.invariant.left all
