-- An attribute of the name has its values, and another none.
use Rattle.std.proofs.Common.{◌≡◌, ℕ, ◌≤◌, true, false, List, ◌++◌, length, Option, Bor, append-nil, subst, sym, ap, ◌∙◌}
use Rattle.std.specs.Prelude.{option_copied, option_to_list, IfNone, IfSome}
use Rattle.std.specs.Str.{str_eq_ignore_ascii_case}
use Rattle.sync_wire.proofs.Identified.{named_alone, other_alone}
use Rattle.sync_wire.proofs.operational.only_after.Goals as goal

pub returns-then-is_named-clause-some : goal.returns-then-is_named-clause-some
returns-then-is_named-clause-some c =
    let raw = c.args.raw.now in
    let name = c.args.name.now in
    let only = option_to_list (option_copied c.args.only) in
    let named : str_eq_ignore_ascii_case raw.name name ≡ true = sym c.is_named.ensures ∙ c.if-is_named.true in
    subst (λ (x : List (List ℕ)). IfSome c.only_of.result (λ (after : Option (Bor (List ℕ))). option_to_list (option_copied after) ≡ only ++ x))
    (c.list.ensures ∙ sym (named_alone name raw named)) c.only_of.ensures.some

pub returns-then-is_named-clause-none : goal.returns-then-is_named-clause-none
returns-then-is_named-clause-none c =
    let raw = c.args.raw.now in
    let name = c.args.name.now in
    let only = option_to_list (option_copied c.args.only) in
    let named : str_eq_ignore_ascii_case raw.name name ≡ true = sym c.is_named.ensures ∙ c.if-is_named.true in
    subst (λ (x : List (List ℕ)). IfNone c.only_of.result (2 ≤ length (only ++ x)))
    (c.list.ensures ∙ sym (named_alone name raw named)) c.only_of.ensures.none

pub returns-clause-some : goal.returns-clause-some
returns-clause-some c =
    let raw = c.args.raw.now in
    let name = c.args.name.now in
    let only = option_to_list (option_copied c.args.only) in
    let other : str_eq_ignore_ascii_case raw.name name ≡ false = sym c.is_named.ensures ∙ c.if-is_named.false in
    sym (append-nil only) ∙ ap (λ (x : List (List ℕ)). only ++ x) (sym (other_alone name raw other))
