-- An RDN is its pairs, and a fault of these is the RDN's.
use Rattle.std.proofs.Common.{◌∙◌, ◌<◌, ◌≤◌, sym, arith, length}
use Rattle.std.proofs.lemmas.Grind.{common_steps}
use Rattle.std.proofs.lemmas.Result.{err_from_is_err_and}
use Rattle.dn_names.specs.Writing.{rdn_text}
use Rattle.dn_names.proofs.Pieces.{rdn_of-spaced, rdn_of-pairs, rdn_of-refused, checked-double, checked-long, checked-fine, read_is_rdn}
use Rattle.dn_names.proofs.rdn.Rdn.read.Goals as goal

pub returns-then-begins_with_space-clause-fault : goal.returns-then-begins_with_space-clause-fault
returns-then-begins_with_space-clause-fault c = rdn_of-spaced c.args.place c.args.ended c.args.chars.now (sym c.begins_with_space.ensures ∙ c.if-begins_with_space.true)

pub returns-in_err-pairs-clause-fault : goal.returns-in_err-pairs-clause-fault
returns-in_err-pairs-clause-fault c =
    let p = err_from_is_err_and c.from_residual.result c.from_residual.ensures.1 in
    rw (p.1, p.2) (rdn_of-refused c.args.place c.args.ended c.args.chars.now _ (sym c.begins_with_space.ensures ∙ c.if-begins_with_space.false) c.in_err-pairs.ensures.fault)

pub returns-then-branch-clause-fault : goal.returns-then-branch-clause-fault
returns-then-branch-clause-fault c =
    let double = rw c.as_slice.ensures.value at c.in_ok-has_double.ensures in
    rdn_of-pairs c.args.place c.args.ended c.args.chars.now _ (sym c.begins_with_space.ensures ∙ c.if-begins_with_space.false) c.in_ok-pairs.ensures.ok
    ∙ checked-double c.args.place c.in_ok-pairs.pairs.items (sym double ∙ c.if-branch.true)

pub returns-then-length-gt-MOST_BYTES-clause-fault : goal.returns-then-length-gt-MOST_BYTES-clause-fault
returns-then-length-gt-MOST_BYTES-clause-fault c =
    let double = rw c.as_slice.ensures.value at c.in_ok-has_double.ensures in
    let long : 1024 < length (rdn_text c.in_ok-pairs.pairs.items) = grind (arith, common_steps) in
    rdn_of-pairs c.args.place c.args.ended c.args.chars.now _ (sym c.begins_with_space.ensures ∙ c.if-begins_with_space.false) c.in_ok-pairs.ensures.ok
    ∙ checked-long c.args.place c.in_ok-pairs.pairs.items (sym double ∙ c.if-branch.false) long

pub invariant_of-result : goal.invariant_of-result
invariant_of-result c =
    let double = rw c.as_slice.ensures.value at c.in_ok-has_double.ensures in
    let fits : length (rdn_text c.in_ok-pairs.pairs.items) ≤ 1024 = grind (arith, common_steps) in
    record {
      rdn = read_is_rdn c.args.place c.args.ended c.args.chars.now c.in_ok-pairs.pairs.items c.in_ok-pairs.ensures.ok (sym double ∙ c.if-branch.false) fits;
      written = grind (arith, common_steps);
    }

pub returns-clause-ok : goal.returns-clause-ok
returns-clause-ok c =
    let double = rw c.as_slice.ensures.value at c.in_ok-has_double.ensures in
    let fits : length (rdn_text c.in_ok-pairs.pairs.items) ≤ 1024 = grind (arith, common_steps) in
    rdn_of-pairs c.args.place c.args.ended c.args.chars.now _ (sym c.begins_with_space.ensures ∙ c.if-begins_with_space.false) c.in_ok-pairs.ensures.ok
    ∙ checked-fine c.args.place c.in_ok-pairs.pairs.items (sym double ∙ c.if-branch.false) fits

pub returns-clause-sound : goal.returns-clause-sound
returns-clause-sound c =
    let double = rw c.as_slice.ensures.value at c.in_ok-has_double.ensures in
    let fits : length (rdn_text c.in_ok-pairs.pairs.items) ≤ 1024 = grind (arith, common_steps) in
    read_is_rdn c.args.place c.args.ended c.args.chars.now c.in_ok-pairs.pairs.items c.in_ok-pairs.ensures.ok (sym double ∙ c.if-branch.false) fits
