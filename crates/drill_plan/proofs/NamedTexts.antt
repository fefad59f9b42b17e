-- The texts of entries as a set, with one entry more.
use Rattle.std.proofs.Common.{◌≡◌, ℕ, ◌+◌, ◌<◌, Bor, List, [], ◌∷◌, ◌++◌, length, map, take, get_or, fold, sym, ap, ◌∙◌}
use Rattle.std.specs.BTreeSet.{insert_key}
use Rattle.std.specs.Cmp.Lexicographic.{slice_cmp}
use Rattle.std.specs.Ordering.{nat_cmp}
use Rattle.std.proofs.lemmas.List.{map-append, take_more}
use Rattle.std.proofs.lemmas.List.Sums.{fold-append}
use Rattle.entry_writes.specs.declared.entry.Entry.{Entry}
use Rattle.drill_plan.specs.Plain.{PlainEntry, plain, plain_of_each}
use Rattle.drill_plan.specs.Summary.{named_text, in_order}

one_more : (entries : List PlainEntry) (e : PlainEntry)
    → in_order (entries ++ e ∷ []) ≡ insert_key (slice_cmp nat_cmp) (in_order entries) (named_text e)
one_more entries e =
    ap (fold (insert_key (slice_cmp nat_cmp)) []) (map-append named_text entries (e ∷ []))
    ∙ fold-append (insert_key (slice_cmp nat_cmp)) [] (map named_text entries) (named_text e ∷ [])

-- the entries that are referred to
abbrev pub plain_at : List (Bor Entry) → List PlainEntry
plain_at entries = plain_of_each (map (λ (e : Bor Entry). e.now) entries)

at_more : (entries : List (Bor Entry)) (e : Bor Entry) → plain_at (entries ++ e ∷ []) ≡ plain_at entries ++ plain e.now ∷ []
at_more entries e =
    ap plain_of_each (map-append (λ (x : Bor Entry). x.now) entries (e ∷ []))
    ∙ map-append plain (map (λ (x : Bor Entry). x.now) entries) (e.now ∷ [])

-- an entry more stands at its place among the others
pub in_order_more : (entries : List (Bor Entry)) (i : ℕ) (e : Bor Entry) → i < length entries → e ≡ get_or entries i e
    → in_order (plain_at (take (i + 1) entries)) ≡ insert_key (slice_cmp nat_cmp) (in_order (plain_at (take i entries))) (named_text (plain e.now))
in_order_more entries i e within is =
    ap (λ es. in_order (plain_at es)) (take_more entries i e within ∙ ap (λ x. take i entries ++ x ∷ []) (sym is))
    ∙ ap in_order (at_more (take i entries) e)
    ∙ one_more (plain_at (take i entries)) (plain e.now)
