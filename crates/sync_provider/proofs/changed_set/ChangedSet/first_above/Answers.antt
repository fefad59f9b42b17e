-- The first pair has the first key.
use Rattle.std.proofs.Common.{◌∙◌, ℕ, Some, ap, sym}
use Rattle.std.specs.List.{slice_get}
use Rattle.std.specs.Option.{option_map}
use Rattle.entry_tree.specs.IdentityOrder.{above}
use Rattle.entry_tree.proofs.Following.{first_above, first_key, lent_key}
use Rattle.sync_provider.proofs.changed_set.ChangedSet.first_above.Goals as goal

pub returns-in-None : goal.returns-in-None
returns-in-None c =
    c.key_of.ensures
    ∙ lent_key c.first.result
    ∙ ap (option_map (λ (pair : ℕ × Unit {0}). pair.0)) c.first.ensures
    ∙ first_key c.self.inside.uuids
    ∙ ap (λ uuids. slice_get uuids 0) c.self.view_is
    ∙ ap (λ after. slice_get (above after c.args.self.now) 0) (sym c.in-None.is)

pub returns-in-Some : goal.returns-in-Some
returns-in-Some c =
    c.key_of-in-Some.ensures
    ∙ lent_key c.next_after.result
    ∙ ap (option_map (λ (pair : ℕ × Unit {0}). pair.0)) c.next_after.ensures
    ∙ first_above c.in-Some.after c.self.inside.uuids
    ∙ ap (λ uuids. slice_get (above (Some c.in-Some.after) uuids) 0) c.self.view_is
    ∙ ap (λ after. slice_get (above after c.args.self.now) 0) (sym c.in-Some.is)
