-- The smallest number under which no search is open, and what an answer to a search has of it.
use Rattle.std.proofs.Common.{◌≡◌, ◌<◌, ◌≤◌, ◌⊎◌, ◌+◌, ℕ, zero, suc, Bool, true, false, cond, List, Option, Some, None, refl, ap, sym, subst, ◌∙◌, inl, inr, arith}
use Rattle.std.specs.Prelude.{Result, Ok, Err, not, is_some}
use Rattle.std.specs.List.{find}
use Rattle.std.proofs.lemmas.Bool.{cases_order}
use Rattle.std.proofs.lemmas.Option.{none-some}
use Rattle.ldap_constants.specs.declared.result_codes.TheConstants.{NO_SUCH_OBJECT}
use Rattle.dn_names.specs.Names.{is_at_or_below}
use Rattle.sync_messages.specs.Request.{request_of}
use Rattle.sync_messages.specs.declared.fault.SyncFault.{SyncFault}
use Rattle.sync_messages.specs.declared.request.SyncRequest.{SyncRequest}
use Rattle.directory_writes.specs.Directory.{DirectoryState}
use Rattle.sync_provider.specs.Accepting.{is_free, numbers_from, free_number, request_code, refused_or_opened, numbered, answer_to}
use Rattle.sync_provider.specs.HandingOut.{search_at}
use Rattle.sync_provider.specs.Ports.{answer_by}
use Rattle.sync_provider.specs.Returning.{number_of_answer}
use Rattle.sync_provider.specs.Search.{SearchState}
use Rattle.sync_provider.specs.declared.searches.Accepted.TheVariants.{Refused}
use Rattle.sync_provider.specs.declared.searches.SyncSearch.{SyncSearch}
use Rattle.sync_provider.proofs.Journals.{answer_by_is}

abbrev Searches : Type 0
Searches = List (ℕ × SearchState)

abbrev Order : ℕ → ℕ → Type 0
Order a b = (a ≡ b) ⊎ ((a < b) ⊎ (b < a))

-- a search is open under a number
abbrev pub IsOpenAt : List (ℕ × SearchState) → ℕ → Type 0
IsOpenAt es n = is_some (search_at es n) ≡ true

-- ---- the numbers below it

-- where the numbers end that are not free, by the free number, if there is one
abbrev pub end_of_taken : ℕ → Option ℕ → ℕ
end_of_taken end None = end
end_of_taken end (Some number) = number

taken_from : (es : Searches) (first count : ℕ) (found : Option ℕ) → find (is_free es) (numbers_from first count) ≡ found
    → (n : ℕ) → first ≤ n → n < end_of_taken (first + count) found → IsOpenAt es n
taken_from es first zero found is n low high =
    let end : n < first + 0 = subst (λ o. n < end_of_taken (first + 0) o) (sym is) high in
    absurd (omega (arith, low, end))
taken_from es first (suc count) found is n low high = by (taken_from es (first + 1) count found) (is_some (search_at es first)) refl is (cases_order n first)
  where
    more : first + suc count ≡ (first + 1) + count
    more = omega arith

    by : (find (is_free es) (numbers_from (first + 1) count) ≡ found → (n : ℕ) → first + 1 ≤ n → n < end_of_taken ((first + 1) + count) found → IsOpenAt es n) → (b : Bool) → is_some (search_at es first) ≡ b → cond (not b) (Some first) (find (is_free es) (numbers_from (first + 1) count)) ≡ found → Order n first → IsOpenAt es n
    by rest true used later (inl here) = ap (λ m. is_some (search_at es m)) here ∙ used
    by rest true used later (inr (inl less)) = absurd (omega (arith, low, less))
    by rest true used later (inr (inr above)) = rest later n (omega (arith, above)) (subst (λ end. n < end_of_taken end found) more high)
    by rest false free later order =
        let end : n < first = subst (λ o. n < end_of_taken (first + suc count) o) (sym later) high in
        absurd (omega (arith, low, end))

-- the numbers below the free one are taken; all are where none is free
pub taken_below : (es : List (ℕ × SearchState)) (found : Option ℕ) → free_number es ≡ found → (n : ℕ) → 1 ≤ n → n < end_of_taken 65 found → IsOpenAt es n
taken_below es found is n low high = taken_from es 1 64 found is n low high

-- a number that is free, of those from the first on
record IsFreeFrom (es : Searches) (first end number : ℕ) : Type 0 where
  first_is : first ≤ number
  last_is : number < end
  free : is_some (search_at es number) ≡ false

free_from : (es : Searches) (first count number : ℕ) → find (is_free es) (numbers_from first count) ≡ Some number → IsFreeFrom es first (first + count) number
free_from es first zero number is = absurd (far is)
  where
    far : None ≡ Some number → ⊥
    far e = cc
free_from es first (suc count) number is = by (free_from es (first + 1) count number) (is_some (search_at es first)) refl is
  where
    same : Some first ≡ Some number → first ≡ number
    same e = cc

    by : (find (is_free es) (numbers_from (first + 1) count) ≡ Some number → IsFreeFrom es (first + 1) ((first + 1) + count) number) → (b : Bool) → is_some (search_at es first) ≡ b
        → cond (not b) (Some first) (find (is_free es) (numbers_from (first + 1) count)) ≡ Some number → IsFreeFrom es first (first + suc count) number
    by rest true used later =
        let found = rest later in
        record { first_is = omega (arith, found.first_is); last_is = omega (arith, found.last_is); free = found.free }
    by rest false free later =
        let here : first ≡ number = same later in
        record { first_is = omega (arith, here); last_is = omega (arith, here); free = sym (ap (λ m. is_some (search_at es m)) here) ∙ free }

least_from : (es : Searches) (first count number : ℕ) → IsFreeFrom es first (first + count) number → ((n : ℕ) → first ≤ n → n < number → IsOpenAt es n) → find (is_free es) (numbers_from first count) ≡ Some number
least_from es first zero number is below = absurd (omega (arith, is.first_is, is.last_is))
least_from es first (suc count) number is below = by (least_from es (first + 1) count number) (cases_order first number)
  where
    by : (IsFreeFrom es (first + 1) ((first + 1) + count) number → ((n : ℕ) → first + 1 ≤ n → n < number → IsOpenAt es n) → find (is_free es) (numbers_from (first + 1) count) ≡ Some number)
        → Order first number → find (is_free es) (numbers_from first (suc count)) ≡ Some number
    by rest (inl here) =
        ap (λ b. cond (not b) (Some first) (find (is_free es) (numbers_from (first + 1) count))) (ap (λ m. is_some (search_at es m)) here ∙ is.free) ∙ ap Some here
    by rest (inr (inl less)) =
        ap (λ b. cond (not b) (Some first) (find (is_free es) (numbers_from (first + 1) count))) (below first (omega arith) less)
        ∙ rest (record { first_is = omega (arith, less); last_is = omega (arith, is.last_is); free = is.free }) (λ n low high. below n (omega (arith, low)) high)
    by rest (inr (inr more)) = absurd (omega (arith, is.first_is, more))

none_from : (es : Searches) (first count : ℕ) → ((n : ℕ) → first ≤ n → n < first + count → IsOpenAt es n) → find (is_free es) (numbers_from first count) ≡ None
none_from es first zero all = refl
none_from es first (suc count) all =
    ap (λ b. cond (not b) (Some first) (find (is_free es) (numbers_from (first + 1) count))) (all first (omega arith) (omega arith))
    ∙ none_from es (first + 1) count (λ n low high. all n (omega (arith, low)) (omega (arith, high)))

-- a number that is free in one map of searches is so in another that has the same at that number and is taken below it
pub free_again : (es fs : List (ℕ × SearchState)) (number : ℕ) → free_number es ≡ Some number → search_at es number ≡ search_at fs number → ((n : ℕ) → 1 ≤ n → n < number → IsOpenAt fs n)
    → free_number fs ≡ Some number
free_again es fs number is same below =
    let found = free_from es 1 64 number is in
    least_from fs 1 64 number (record { first_is = found.first_is; last_is = found.last_is; free = sym (ap is_some same) ∙ found.free }) below

-- none is free where all are taken
pub none_free : (es : List (ℕ × SearchState)) → ((n : ℕ) → 1 ≤ n → n < 65 → IsOpenAt es n) → free_number es ≡ None
none_free es all = none_from es 1 64 all

-- ---- the number that an answer has

-- it is the free one
opened_at : (d : DirectoryState) (free : Option ℕ) (ask : SyncSearch) (read : Result SyncRequest SyncFault) (number : ℕ) → number_of_answer (answer_by d free ask read) ≡ Some number → free ≡ Some number
opened_at d free ask (Err fault) number is = absurd (none-some number is)
opened_at d free ask (Ok request) number is = by_base (is_at_or_below ask.spec.base d.suffix) is
  where
    by_code : (k : ℕ) (code : Option ℕ) → number_of_answer (refused_or_opened d k code) ≡ Some number → Some k ≡ Some number
    by_code k None is = is
    by_code k (Some code) is = absurd (none-some number is)

    by_number : (free : Option ℕ) → number_of_answer (numbered d request free) ≡ Some number → free ≡ Some number
    by_number None is = absurd (none-some number is)
    by_number (Some k) is = by_code k (request_code d request) is

    by_base : (b : Bool) → number_of_answer (cond b (numbered d request free) (Refused NO_SUCH_OBJECT)) ≡ Some number → free ≡ Some number
    by_base true is = by_number free is
    by_base false is = absurd (none-some number is)

-- where none is free it has none
crowded : (d : DirectoryState) (ask : SyncSearch) (read : Result SyncRequest SyncFault) → number_of_answer (answer_by d None ask read) ≡ None
crowded d ask (Err fault) = refl
crowded d ask (Ok request) = by_base (is_at_or_below ask.spec.base d.suffix)
  where
    by_base : (b : Bool) → number_of_answer (cond b (numbered d request None) (Refused NO_SUCH_OBJECT)) ≡ None
    by_base true = refl
    by_base false = refl

-- what is refused though a number is free is refused whatever number is free
refused_still : (d : DirectoryState) (k : ℕ) (ask : SyncSearch) (read : Result SyncRequest SyncFault) → number_of_answer (answer_by d (Some k) ask read) ≡ None
    → (free : Option ℕ) → number_of_answer (answer_by d free ask read) ≡ None
refused_still d k ask (Err fault) is free = refl
refused_still d k ask (Ok request) is free = by_base (is_at_or_below ask.spec.base d.suffix) is
  where
    by_code : (j : ℕ) (code : Option ℕ) → number_of_answer (refused_or_opened d k code) ≡ None → number_of_answer (refused_or_opened d j code) ≡ None
    by_code j None is = absurd (none-some k (sym is))
    by_code j (Some code) is = refl

    by_number : (free : Option ℕ) → number_of_answer (numbered d request (Some k)) ≡ None → number_of_answer (numbered d request free) ≡ None
    by_number None is = refl
    by_number (Some j) is = by_code j (request_code d request) is

    by_base : (b : Bool) → number_of_answer (cond b (numbered d request (Some k)) (Refused NO_SUCH_OBJECT)) ≡ None → number_of_answer (cond b (numbered d request free) (Refused NO_SUCH_OBJECT)) ≡ None
    by_base true is = by_number free is
    by_base false is = refl

-- a search is refused whatever number is free
abbrev pub IsRefused : DirectoryState → SyncSearch → Type 0
IsRefused d ask = (free : Option ℕ) → number_of_answer (answer_by d free ask (request_of ask.control)) ≡ None

-- an answer's number is that by the free one
pub number_by_free : (d : DirectoryState) (es : List (ℕ × SearchState)) (ask : SyncSearch)
    → number_of_answer (answer_to d es ask) ≡ number_of_answer (answer_by d (free_number es) ask (request_of ask.control))
number_by_free d es ask = ap number_of_answer (answer_by_is d es ask (request_of ask.control))

-- where a search is opened under a number, that is the free one
pub opened_free_number : (d : DirectoryState) (es : List (ℕ × SearchState)) (ask : SyncSearch) (number : ℕ) → number_of_answer (answer_to d es ask) ≡ Some number → free_number es ≡ Some number
opened_free_number d es ask number is = opened_at d (free_number es) ask (request_of ask.control) number (sym (number_by_free d es ask) ∙ is)

-- where none is opened, all numbers are taken, or the search is refused whatever number is free
pub full_or_refused : (d : DirectoryState) (es : List (ℕ × SearchState)) (ask : SyncSearch) → number_of_answer (answer_to d es ask) ≡ None → ((n : ℕ) → 1 ≤ n → n < 65 → IsOpenAt es n) ⊎ IsRefused d ask
full_or_refused d es ask is = by (free_number es) refl
  where
    by : (free : Option ℕ) → free_number es ≡ free → ((n : ℕ) → 1 ≤ n → n < 65 → IsOpenAt es n) ⊎ IsRefused d ask
    by None none = inl (λ n low high. taken_below es None none n low high)
    by (Some k) some =
        inr (refused_still d k ask (request_of ask.control)
        (ap (λ free. number_of_answer (answer_by d free ask (request_of ask.control))) (sym some) ∙ sym (number_by_free d es ask) ∙ is))

-- where none is free none is opened
pub none_opened : (d : DirectoryState) (es : List (ℕ × SearchState)) (ask : SyncSearch) → free_number es ≡ None → number_of_answer (answer_to d es ask) ≡ None
none_opened d es ask none =
    number_by_free d es ask ∙ ap (λ free. number_of_answer (answer_by d free ask (request_of ask.control))) none ∙ crowded d ask (request_of ask.control)
