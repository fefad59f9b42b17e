-- The names are those that the references point to.
use Rattle.std.proofs.Common.{◌∙◌, List, ℕ, Bor, refl, sym, ap}
use Rattle.std.specs.List.{list_all}
use Rattle.std.proofs.lemmas.List.{take_all}
use Rattle.std.proofs.lemmas.List.Recursion.{and_fails_at}
use Rattle.std.proofs.lemmas.List.Folds.{list_all-map}
use Rattle.schema_rules.specs.Attributes.{has_type}
use Rattle.schema_rules.proofs.entry_check.has_each.Goals as goal

pub returns-then-not-has_type : goal.returns-then-not-has_type
returns-then-not-has_type c =
    let has = λ (n : Bor (List ℕ)). has_type c.args.attributes.now n.now in
    let fails = and_fails_at (list_all has) has refl (λ _ _. refl) c.args.names.now c.loop-name.name-index _ c.loop-name-test.true (sym c.if-not-has_type.ensures) in
    sym (list_all-map (has_type c.args.attributes.now) (λ n. n.now) c.args.names.now ∙ fails)

pub returns : goal.returns
returns c =
    let has = λ (n : Bor (List ℕ)). has_type c.args.attributes.now n.now in
    let whole = take_all c.loop-name.name-index c.args.names.now c.loop-name-test.false in
    sym (list_all-map (has_type c.args.attributes.now) (λ n. n.now) c.args.names.now ∙ ap (list_all has) (sym whole) ∙ c.loop-name.invariant)
