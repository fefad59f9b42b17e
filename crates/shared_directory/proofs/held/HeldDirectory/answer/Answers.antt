-- What a turn leaves: the call is answered, and the pass leaves the provider so.
use Rattle.std.proofs.Common.{◌≡◌, true, map, set, ap, sym, ◌∙◌, subst}
use Rattle.std.specs.Prelude.{slice_get, is_some}
use Rattle.shared_directory.specs.Desks.{IsAnswered, HaveCome}
use Rattle.shared_directory.proofs.Turns.{is_place, turn_kept, turn_grows, turn_is}
use Rattle.shared_directory.proofs.held.HeldDirectory.answer.Goals as goal

pub remember-requires : goal.remember-requires
remember-requires g c =
    is_place (λ s. s.value) c.self.inside.last.items c.args.number
    (subst (λ h. is_some (slice_get h.last c.args.number) ≡ true) (sym c.self.view_is) c.requires)

pub invariant_of-self : goal.invariant_of-self
invariant_of-self g c =
    let now = c.make-answer.new.provider in
    let replies = g.C.Call.replies c.args.call c.make-answer.result in
    turn_kept c.args.number c.args.self.now now (map (λ s. s.value) c.remember.new.last.items) replies c.requires
    (subst (λ d. IsAnswered c.args.number d now replies) (c.as_mut.ensures.value ∙ ap (λ h. h.now) c.self.view_is) c.make-answer.ensures)
    (c.remember.ensures ∙ ap (set (map (λ s. s.value) c.self.inside.last.items) c.args.number) c.as_ref.ensures
    ∙ ap (λ h. set h.last c.args.number now) c.self.view_is)
    (subst HaveCome c.self.view_is c.self.invariant)

pub returns-clause-grows : goal.returns-clause-grows
returns-clause-grows g c =
    let now = c.make-answer.new.provider in
    let replies = g.C.Call.replies c.args.call c.make-answer.result in
    turn_grows c.args.number c.args.self.now now (map (λ s. s.value) c.remember.new.last.items) replies c.requires
    (subst (λ d. IsAnswered c.args.number d now replies) (c.as_mut.ensures.value ∙ ap (λ h. h.now) c.self.view_is) c.make-answer.ensures)
    (c.remember.ensures ∙ ap (set (map (λ s. s.value) c.self.inside.last.items) c.args.number) c.as_ref.ensures
    ∙ ap (λ h. set h.last c.args.number now) c.self.view_is)

pub returns-clause-turn : goal.returns-clause-turn
returns-clause-turn g c =
    let now = c.make-answer.new.provider in
    let replies = g.C.Call.replies c.args.call c.make-answer.result in
    turn_is c.args.number c.args.self.now now (map (λ s. s.value) c.remember.new.last.items) replies c.requires
    (subst (λ d. IsAnswered c.args.number d now replies) (c.as_mut.ensures.value ∙ ap (λ h. h.now) c.self.view_is) c.make-answer.ensures)
    (c.remember.ensures ∙ ap (set (map (λ s. s.value) c.self.inside.last.items) c.args.number) c.as_ref.ensures
    ∙ ap (λ h. set h.last c.args.number now) c.self.view_is)
    (subst HaveCome c.self.view_is c.self.invariant)
