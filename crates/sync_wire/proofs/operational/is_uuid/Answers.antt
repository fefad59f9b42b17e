-- A text of this identity, of another one, or of none.
use Rattle.std.proofs.Common.{sym, ◌∙◌}
use Rattle.sync_wire.specs.WireEntry.{uuid_of}
use Rattle.sync_wire.proofs.Identified.{one_none, one_other, one_same}
use Rattle.sync_wire.proofs.operational.is_uuid.Goals as goal

pub returns-in-Some : goal.returns-in-Some
returns-in-Some c = one_other uuid_of c.args.uuid c.args.text.now c.in-Some.other (sym c.uuid_of.ensures ∙ c.in-Some.is) c.if-other-uuid.true

pub returns-in-Some-2 : goal.returns-in-Some-2
returns-in-Some-2 c = one_same uuid_of c.args.uuid c.args.text.now c.in-Some.other (sym c.uuid_of.ensures ∙ c.in-Some.is) c.if-other-uuid.false

pub returns-in-None : goal.returns-in-None
returns-in-None c = one_none uuid_of c.args.uuid c.args.text.now (sym c.uuid_of.ensures ∙ c.in-None.is)
