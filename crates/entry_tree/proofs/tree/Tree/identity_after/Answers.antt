-- The first pair has the first key.
use Rattle.std.proofs.Common.{◌≡◌, ◌∙◌, ℕ, Some, ap, sym}
use Rattle.std.specs.List.{slice_get}
use Rattle.std.specs.Map.{keys_of, values_of}
use Rattle.std.specs.Option.{option_map}
use Rattle.entry_writes.specs.declared.entry.Entry.{Entry}
use Rattle.entry_writes.specs.Touched.{identities}
use Rattle.entry_tree.specs.IdentityOrder.{above}
use Rattle.entry_tree.proofs.Following.{first_above, first_key, keys_are, lent_key}
use Rattle.entry_tree.proofs.tree.Tree.identity_after.Goals as goal

pub returns-in-None : goal.returns-in-None
returns-in-None c =
    let pairs = c.self.inside.entries in
    let keys : keys_of pairs ≡ identities c.args.self.now = ap keys_of c.self.invariant.keyed ∙ keys_are (values_of pairs) ∙ ap identities c.self.view_is in
    c.key_of.ensures
    ∙ lent_key c.first.result
    ∙ ap (option_map (λ (pair : ℕ × Entry). pair.0)) c.first.ensures
    ∙ first_key pairs
    ∙ ap (λ uuids. slice_get uuids 0) keys
    ∙ ap (λ after. slice_get (above after (identities c.args.self.now)) 0) (sym c.in-None.is)

pub returns-in-Some : goal.returns-in-Some
returns-in-Some c =
    let pairs = c.self.inside.entries in
    let keys : keys_of pairs ≡ identities c.args.self.now = ap keys_of c.self.invariant.keyed ∙ keys_are (values_of pairs) ∙ ap identities c.self.view_is in
    c.key_of-in-Some.ensures
    ∙ lent_key c.next_after.result
    ∙ ap (option_map (λ (pair : ℕ × Entry). pair.0)) c.next_after.ensures
    ∙ first_above c.in-Some.after pairs
    ∙ ap (λ uuids. slice_get (above (Some c.in-Some.after) uuids) 0) keys
    ∙ ap (λ after. slice_get (above after (identities c.args.self.now)) 0) (sym c.in-Some.is)
