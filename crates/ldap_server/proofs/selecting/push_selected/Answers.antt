use Rattle.std.proofs.Common.{◌≡◌, ◌++◌, ◌∙◌, ◌∷◌, ℕ, List, [], sym, ap}
use Rattle.std.proofs.lemmas.List.{append-nil}
use Rattle.std.proofs.lemmas.Result.{on_ok_weaker}
use Rattle.schema_rules.specs.declared.raw.RawAttribute.{RawAttribute}
use Rattle.ldap_server.specs.Selecting.{as_sent, is_chosen, values_sent}
use Rattle.ldap_server.proofs.Selections.{sent_of-chosen, sent_of-other}
use Rattle.ldap_server.proofs.selecting.push_selected.Goals as goal

pub returns-then-not-is_chosen : goal.returns-then-not-is_chosen
returns-then-not-is_chosen c =
    let selection = c.args.selection in
    let a : RawAttribute = record { name = c.args.name.now; values = c.args.values.now } in
    let other = ap (is_chosen selection.selectors.now) (sym c.requires) ∙ sym (c.is_chosen.ensures ∙ ap (λ xs. is_chosen xs c.args.kind) c.list.ensures) ∙ c.if-not-is_chosen.true in
    sym (ap (λ xs. c.args.list.now ++ xs) (sent_of-other selection.selectors.now selection.types_only a other) ∙ append-nil c.args.list.now)

pub returns : goal.returns
returns c =
    let selection = c.args.selection in
    let a : RawAttribute = record { name = c.args.name.now; values = c.args.values.now } in
    let chosen = ap (is_chosen selection.selectors.now) (sym c.requires) ∙ sym (c.is_chosen.ensures ∙ ap (λ xs. is_chosen xs c.args.kind) c.list.ensures) ∙ c.if-not-is_chosen.false in
    let of : List ℕ → List (List ℕ) → RawAttribute = λ n v. record { name = n; values = v } in
    let made : of c.in_ok-text.text c.in_ok-sent.sent ≡ as_sent selection.types_only a =
    ap (of c.in_ok-text.text) c.in_ok-sent.ensures ∙ ap (λ n. of n (values_sent selection.types_only c.args.values.now)) c.in_ok-text.ensures in
    on_ok_weaker c.push.result
    (λ pushed. pushed ∙ ap (λ x. c.args.list.now ++ x ∷ []) made
    ∙ ap (λ xs. c.args.list.now ++ xs) (sym (sent_of-chosen selection.selectors.now selection.types_only a chosen)))
    c.push.ensures.ok
