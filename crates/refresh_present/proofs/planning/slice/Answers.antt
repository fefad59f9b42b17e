use Rattle.std.proofs.Common.{ap, sym, ◌∙◌, subst}
use Rattle.std.specs.Prelude.{map}
use Rattle.std.specs.List.Sorted.{IsStrictlySortedBy}
use Rattle.std.specs.Ordering.{nat_cmp}
use Rattle.std.proofs.lemmas.Result.{IfOk-weaker}
use Rattle.refresh_present.specs.Decision.{identity_of}
use Rattle.refresh_present.proofs.Deciding.{identities_of-planned, ascends-planned}
use Rattle.refresh_present.proofs.planning.slice.Goals as goal

pub returns-clause-items_decided : goal.returns-clause-items_decided
returns-clause-items_decided c = IfOk-weaker c.decide_each.result _ _
    (λ plan exact. ap (map identity_of) exact ∙ identities_of-planned c.args.after c.args.items.now) c.decide_each.ensures

pub returns-clause-ascends : goal.returns-clause-ascends
returns-clause-ascends c = IfOk-weaker c.decide_each.result _ _
    (λ plan exact. subst (IsStrictlySortedBy nat_cmp) (ap (map identity_of) (sym exact))
    (ascends-planned c.args.after c.args.items.now c.requires.ascends)) c.decide_each.ensures
