-- Numbers in the words of a run.
use Rattle.std.proofs.Common.{◌≡◌, ◌<◌, ◌^◌, ℕ, Bool, true, false, List, Result, Ok, sym, subst, ◌∙◌, arith}
use Rattle.std.proofs.lemmas.Bool.{false≢true}
use Rattle.std.proofs.lemmas.Fmt.{decimal_injective, parse-decimal}
use Rattle.std.specs.Fmt.{decimal}
use Rattle.std.specs.Str.Parse.{ParsesUnsigned}
use Rattle.syncrepl_tool.specs.Numbers.{IsNumber}

-- a word is one number
pub same_number : (word : List ℕ) (least most one other : ℕ) → most < 2 ^ 64 → IsNumber word least most one → IsNumber word least most other → one ≡ other
same_number word least most one other bound first second =
    decimal_injective one other (omega (arith, first.1, bound)) (omega (arith, second.1, bound)) (sym first.2 ∙ second.2)

-- it is read as that number
pub number_read : {E : Type 0} (text : List ℕ) (result : Result ℕ E) (n : ℕ) → n < 2 ^ 64 → text ≡ decimal n → ParsesUnsigned 64 10 text result → result ≡ Ok n
number_read text result n bound is parses = parse-decimal 64 n text result bound bound is parses

one_value : {E : Type 0} (result : Result ℕ E) (found n : ℕ) → result ≡ Ok found → result ≡ Ok n → found ≡ n
one_value result found n one other = cc

-- a word that is read as a number that it does not write so, or that is none of these, writes none
pub not_number : {E : Type 0} (text : List ℕ) (least most : ℕ) (result : Result ℕ E) (found : ℕ) (counts : Bool) → most < 2 ^ 64 → result ≡ Ok found → ParsesUnsigned 64 10 text result
    → (IsNumber text least most found → counts ≡ true) → counts ≡ false → (n : ℕ) → IsNumber text least most n → ⊥
not_number text least most result found counts bound read parses wrote other n number =
    let same : found ≡ n = one_value result found n read (number_read text result n (omega (arith, number.1, bound)) number.2 parses) in
    let counted : counts ≡ true = wrote (subst (IsNumber text least most) (sym same) number) in
    absurd (false≢true (sym other ∙ counted))
