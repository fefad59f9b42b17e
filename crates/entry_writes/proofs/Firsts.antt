-- The first code against the items of a list, one item after another.
use Rattle.std.proofs.Common.{◌≡◌, ℕ, ◌+◌, ◌<◌, List, [], ◌∷◌, ◌++◌, length, take, drop, get_or, Option, None, Some, ap, sym, ◌∙◌, refl}
use Rattle.std.specs.Option.{option_or}
use Rattle.std.proofs.lemmas.List.{take_more, take-append-drop}
use Rattle.entry_writes.specs.Fault.{first_code, HasOpCode}
use Rattle.entry_writes.specs.declared.fault.OpFault.{OpFault}
use Rattle.entry_writes.specs.declared.fault.OpFault.TheVariants.{Code, NoMemory}
use Rattle.schema_rules.proofs.Lists.{option_or-assoc}

first_code-append : {X : Type 0} (h : X → Option ℕ) (xs ys : List X) → first_code h (xs ++ ys) ≡ option_or (first_code h xs) (first_code h ys)
first_code-append h [] ys = refl
first_code-append h (x ∷ xs) ys = ap (option_or (h x)) (first_code-append h xs ys) ∙ sym (option_or-assoc (h x) (first_code h xs) (first_code h ys))

first_code-more : {X : Type 0} (h : X → Option ℕ) (xs : List X) (i : ℕ) (x : X) → i < length xs → x ≡ get_or xs i x → first_code h (take i xs) ≡ None
    → first_code h (take (i + 1) xs) ≡ option_or (h x) None
first_code-more h xs i x low at before =
    ap (first_code h) (take_more xs i x low ∙ ap (λ r. take i xs ++ r ∷ []) (sym at)) ∙ first_code-append h (take i xs) (x ∷ [])
    ∙ ap (λ o. option_or o (option_or (h x) None)) before

-- nothing rejects the next item either
pub first_code_none : {X : Type 0} (h : X → Option ℕ) (xs : List X) (i : ℕ) (x : X) → i < length xs → x ≡ get_or xs i x → first_code h (take i xs) ≡ None → h x ≡ None
    → first_code h (take (i + 1) xs) ≡ None
first_code_none h xs i x low at before none = first_code-more h xs i x low at before ∙ ap (λ o. option_or o None) none

-- something rejects the next item
pub first_code_some : {X : Type 0} (h : X → Option ℕ) (xs : List X) (i : ℕ) (x : X) (n : ℕ) → i < length xs → x ≡ get_or xs i x → first_code h (take i xs) ≡ None → h x ≡ Some n
    → first_code h xs ≡ Some n
first_code_some h xs i x n low at before some =
    ap (first_code h) (sym (take-append-drop (i + 1) xs)) ∙ first_code-append h (take (i + 1) xs) (drop (i + 1) xs)
    ∙ ap (λ o. option_or o (first_code h (drop (i + 1) xs))) (first_code-more h xs i x low at before ∙ ap (λ o. option_or o None) some)

-- a fault that reports one code reports the other
pub HasCode-same : (one two : Option ℕ) (fault : OpFault) → ((n : ℕ) → one ≡ Some n → two ≡ Some n) → HasOpCode one fault → HasOpCode two fault
HasCode-same one two (Code n) same shown = same n shown
HasCode-same one two NoMemory same shown = tt
