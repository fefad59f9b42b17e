use Rattle.std.proofs.Common.{◌∷◌, [], ◌++◌, refl, sym, ap, ◌∙◌, subst}
use Rattle.std.proofs.lemmas.Bool.{false≢true}
use mathlib.Core.List.{IsPrefix}
use Rattle.link_rings.specs.Ends.{IsSameConsumer, known_items, taken}
use Rattle.sync_drill.specs.Handing.{HasTaken}
use Rattle.sync_drill.proofs.TakingSteps.{known_next, knows_some, taken-as, taken-more}
use Rattle.sync_drill.proofs.taking.Taking.step.Goals as goal

-- ---- the ring shows none

pub returns-in_default-clause-goes : goal.returns-in_default-clause-goes
returns-in_default-clause-goes c =
    let old = c.args.self.now in
    record {
      consumer = refl;
      ring = c.take.ensures.ring;
      copy = λ fine. subst (HasTaken old.consumer old.copy) (sym c.in_default.ensures.none.0) c.requires;
    }

pub returns-in_default-clause-none : goal.returns-in_default-clause-none
returns-in_default-clause-none c =
    let old = c.args.self.now in
    λ none. subst (HasTaken old.consumer old.copy) (sym c.in_default.ensures.none.0) c.requires

pub returns-in_default-clause-known : goal.returns-in_default-clause-known
returns-in_default-clause-known c = λ item rest known. absurd (false≢true (c.in_default.ensures.none_only_where_none_is_known (knows_some item rest _ known)))

-- ---- one is taken

pub returns-in-Ok-clause-goes : goal.returns-in-Ok-clause-goes
returns-in-Ok-clause-goes c =
    let old = c.args.self.now in
    let new = c.apply.new.self in
    record {
      consumer = c.apply.ensures.same.1;
      ring = subst (IsSameConsumer old.end) (sym c.apply.ensures.same.2) c.take.ensures.ring;
      copy = λ fine.
          taken-as old.consumer new.consumer new.copy (taken old.end ++ c.in-Some.item ∷ []) (taken new.end)
          c.apply.ensures.same.1 (ap taken c.apply.ensures.same.2 ∙ c.in-Some.ensures.item)
          (taken-more old.consumer old.copy new.copy (taken old.end) c.in-Some.item c.requires c.in-Ok.ensures.ok c.apply.ensures.same.0);
    }

pub returns-in-Ok-clause-none : goal.returns-in-Ok-clause-none
returns-in-Ok-clause-none c = λ none. absurd (false≢true (sym none))

pub returns-in-Ok-clause-known : goal.returns-in-Ok-clause-known
returns-in-Ok-clause-known c = λ item rest known.
    let old = c.args.self.now in
    let next = known_next item c.in-Some.item rest (known_items old.end) (known_items c.take.new.self) known c.in-Some.ensures.one_fewer in
    record {
      taken_is = ap taken c.apply.ensures.same.2 ∙ c.in-Some.ensures.item ∙ ap (λ i. taken old.end ++ i ∷ []) next.same;
      known = subst (IsPrefix rest) (sym (ap known_items c.apply.ensures.same.2)) next.more;
    }

pub returns-clause-goes : goal.returns-clause-goes
returns-clause-goes c =
    let old = c.args.self.now in
    record {
      consumer = c.apply.ensures.same.1;
      ring = subst (IsSameConsumer old.end) (sym c.apply.ensures.same.2) c.take.ensures.ring;
      copy = λ fine. absurd (false≢true (sym fine));
    }

pub returns-clause-none : goal.returns-clause-none
returns-clause-none c = λ none. absurd (false≢true (sym none))

pub returns-clause-known : goal.returns-clause-known
returns-clause-known c = λ item rest known.
    let old = c.args.self.now in
    let next = known_next item c.in-Some.item rest (known_items old.end) (known_items c.take.new.self) known c.in-Some.ensures.one_fewer in
    record {
      taken_is = ap taken c.apply.ensures.same.2 ∙ c.in-Some.ensures.item ∙ ap (λ i. taken old.end ++ i ∷ []) next.same;
      known = subst (IsPrefix rest) (sym (ap known_items c.apply.ensures.same.2)) next.more;
    }
