-- One more identity is looked at.
use Rattle.std.proofs.Common.{◌+◌, Some, take, sym, subst, refl}
use Rattle.std.proofs.lemmas.List.{take_all}
use Rattle.entry_tree.specs.NameIndex.{IsLeast}
use Rattle.entry_tree.proofs.NameKeys.{least_more}
use Rattle.entry_tree.proofs.names.least.Goals as goal

pub loop-uuid-init : goal.loop-uuid-init
loop-uuid-init c = λ number. refl

pub loop-uuid-preserved : goal.loop-uuid-preserved
loop-uuid-preserved c =
    subst (λ n. IsLeast (take (c.loop-uuid.uuid-index + 1) c.args.uuids.now) (Some n)) (sym c.lesser.ensures)
    (least_more c.args.uuids.now c.loop-uuid.uuid-index c.loop-uuid.least c.loop-uuid-test.true c.loop-uuid.invariant)

pub returns : goal.returns
returns c = subst (λ us. IsLeast us c.loop-uuid.least) (take_all c.loop-uuid.uuid-index c.args.uuids.now c.loop-uuid-test.false) c.loop-uuid.invariant
