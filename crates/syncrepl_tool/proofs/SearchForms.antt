-- The words of `search`.
use Rattle.std.proofs.Common.{◌≡◌, ◌≤◌, ◌-◌, ℕ, Bool, true, false, List, [], ◌∷◌, Option, Some, None, drop, get_or, length, length-drop, take, take_all, string_bytes, codes, inl, inr, refl, sym, ap, subst, ◌∙◌, arith}
use Rattle.std.proofs.lemmas.Bool.{false≢true}
use Rattle.std.specs.declared.alloc.Global.{Global}
use Rattle.std.specs.declared.string.String.{String}
use Rattle.entry_tree.specs.declared.spec.Scope.{Scope}
use Rattle.entry_tree.specs.declared.spec.Scope.TheVariants.{Base, One, Sub}
use Rattle.drill_plan.specs.declared.plan.DrillPlan.{DrillPlan}
use Rattle.syncrepl_tool.specs.Cascade.{IsCascade, IsForm}
use Rattle.syncrepl_tool.specs.DrillWords.{IsDrill}
use Rattle.syncrepl_tool.specs.Searching.{IsAskedBy, IsCount, IsSearch, IsSearchStatus, SearchAsked, scope_text}
use Rattle.syncrepl_tool.specs.Serve.{IsServe, IsServeStatus}
use Rattle.syncrepl_tool.proofs.NumberWords.{same_number}

-- ---- no words are of two forms

-- the words of a search are not `cascade`
pub not_cascade : (words : List (String Global)) (asked : SearchAsked) → IsCascade words → IsSearch words asked → ⊥
not_cascade [] asked cascade search = cascade
not_cascade (word ∷ []) asked cascade search = search
not_cascade (word ∷ other ∷ words) asked cascade search = cascade

-- nor `serve FILE`
pub not_serve : (words : List (String Global)) (name : List ℕ) (asked : SearchAsked) → IsServe words name → IsSearch words asked → ⊥
not_serve [] name asked serve search = serve
not_serve (word ∷ []) name asked serve search = serve
not_serve (word ∷ file ∷ []) name asked serve search = search
not_serve (word ∷ file ∷ more ∷ words) name asked serve search = serve

-- the status of other words is none of a search
pub not_two : (code : ℕ) → IsSearchStatus code → code ≡ 2 → ⊥
not_two code (inl zero) two = omega (arith, zero, two)
not_two code (inr (inl three)) two = omega (arith, three, two)
not_two code (inr (inr (inl five))) two = omega (arith, five, two)
not_two code (inr (inr (inr (inl seven)))) two = omega (arith, seven, two)
not_two code (inr (inr (inr (inr nine)))) two = omega (arith, nine, two)

-- nor is it one of `serve FILE`
pub not_two_served : (code : ℕ) → IsServeStatus code → code ≡ 2 → ⊥
not_two_served code (inl zero) two = omega (arith, zero, two)
not_two_served code (inr (inl three)) two = omega (arith, three, two)
not_two_served code (inr (inr (inl four))) two = omega (arith, four, two)
not_two_served code (inr (inr (inr (inl seven)))) two = omega (arith, seven, two)
not_two_served code (inr (inr (inr (inr eight)))) two = omega (arith, eight, two)

-- words of none of the four forms
pub no_form : (words : List (String Global)) (cascade : Bool) → (IsCascade words → cascade ≡ true) → cascade ≡ false → ((name : List ℕ) → IsServe words name → ⊥)
    → ((plan : DrillPlan) → IsDrill words plan → ⊥) → ((asked : SearchAsked) → IsSearch words asked → ⊥) → IsForm words → ⊥
no_form words cascade tested other unserved undrilled unasked (inl is) = false≢true (sym other ∙ tested is)
no_form words cascade tested other unserved undrilled unasked (inr (inl serve)) = unserved serve.0 serve.1
no_form words cascade tested other unserved undrilled unasked (inr (inr (inl asks))) = unasked asks.0 asks.1
no_form words cascade tested other unserved undrilled unasked (inr (inr (inr drill))) = undrilled drill.0 drill.1

-- ---- they ask for one search

abbrev first_of : List ℕ → ℕ
first_of bytes = get_or bytes 0 0

-- the first letters of the scopes differ
same_scope : (one other : Scope) → scope_text one ≡ scope_text other → one ≡ other
same_scope Base Base same = refl
same_scope Base One same = let first : 98 ≡ 111 = ap first_of same in absurd (omega (arith, first))
same_scope Base Sub same = let first : 98 ≡ 115 = ap first_of same in absurd (omega (arith, first))
same_scope One Base same = let first : 111 ≡ 98 = ap first_of same in absurd (omega (arith, first))
same_scope One One same = refl
same_scope One Sub same = let first : 111 ≡ 115 = ap first_of same in absurd (omega (arith, first))
same_scope Sub Base same = let first : 115 ≡ 98 = ap first_of same in absurd (omega (arith, first))
same_scope Sub One same = let first : 115 ≡ 111 = ap first_of same in absurd (omega (arith, first))
same_scope Sub Sub same = refl

same_count : (more : List (String Global)) (one other : Option ℕ) → IsCount more one → IsCount more other → one ≡ other
same_count [] None None first second = refl
same_count [] None (Some other) first second = absurd second
same_count [] (Some one) other first second = absurd first
same_count (word ∷ []) None other first second = absurd first
same_count (word ∷ []) (Some one) None first second = absurd second
same_count (word ∷ []) (Some one) (Some other) first second =
    ap (λ (n : ℕ). Some n) (same_number (string_bytes word) 1 1000 one other (omega arith) first second)
same_count (word ∷ next ∷ words) one other first second = absurd first

abbrev asking : List ℕ → List ℕ → Scope → List ℕ → Option ℕ → SearchAsked
asking address base scope filter count = record { address = address; base = base; scope = scope; filter = filter; count = count }

same_parts : (address base scope filter : List ℕ) (more : List (String Global)) (one other : SearchAsked)
    → IsAskedBy address base scope filter more one → IsAskedBy address base scope filter more other → one ≡ other
same_parts address base scope filter more one other first second =
    let addresses : one.address ≡ other.address = sym first.0.0 ∙ second.0.0 in
    let bases : one.base ≡ other.base = sym first.1.0 ∙ second.1.0 in
    let scopes : one.scope ≡ other.scope = same_scope one.scope other.scope (sym first.2 ∙ second.2) in
    let filters : one.filter ≡ other.filter = sym first.3.0 ∙ second.3.0 in
    let counts : one.count ≡ other.count = same_count more one.count other.count first.4 second.4 in
    ap (λ (a : List ℕ). asking a one.base one.scope one.filter one.count) addresses
    ∙ ap (λ (b : List ℕ). asking other.address b one.scope one.filter one.count) bases
    ∙ ap (λ (s : Scope). asking other.address other.base s one.filter one.count) scopes
    ∙ ap (λ (f : List ℕ). asking other.address other.base other.scope f one.count) filters
    ∙ ap (λ (n : Option ℕ). asking other.address other.base other.scope other.filter n) counts

-- no words ask for two searches
pub same_asked : (words : List (String Global)) (one other : SearchAsked) → IsSearch words one → IsSearch words other → one ≡ other
same_asked [] one other first second = absurd first
same_asked (word ∷ []) one other first second = absurd first
same_asked (word ∷ address ∷ []) one other first second = absurd first
same_asked (word ∷ address ∷ base ∷ []) one other first second = absurd first
same_asked (word ∷ address ∷ base ∷ scope ∷ []) one other first second = absurd first
same_asked (word ∷ address ∷ base ∷ scope ∷ filter ∷ more) one other first second =
    same_parts (string_bytes address) (string_bytes base) (string_bytes scope) (string_bytes filter) more one other first.1 second.1

-- ---- words that are read

asked_as : (a a' b b' s s' f f' : List ℕ) (more : List (String Global)) (asked : SearchAsked) → a ≡ a' → b ≡ b' → s ≡ s' → f ≡ f' → IsAskedBy a b s f more asked → IsAskedBy a' b' s' f' more asked
asked_as a a' b b' s s' f f' more asked p q r t is = ((sym p ∙ is.0.0, is.0.1), (sym q ∙ is.1.0, is.1.1), sym r ∙ is.2, (sym t ∙ is.3.0, is.3.1), is.4)

-- words that are one have the same bytes
pub bytes_same : (one other : String Global) → one ≡ other → string_bytes one ≡ string_bytes other
bytes_same one other same = ap (λ (s : String Global). string_bytes s) same

-- what follows the first five
pub rest_is : (words : List (String Global)) → take (length words - 5) (drop 5 words) ≡ drop 5 words
rest_is words = take_all (length words - 5) (drop 5 words) (omega (arith, length-drop 5 words))

-- all words, by those after the first
pub search_is : (words : List (String Global)) (word address base scope filter : String Global) (more : List (String Global)) (a b s f : List ℕ) (asked : SearchAsked) → 5 ≤ length words
    → word ≡ get_or words 0 word → address ≡ get_or words 1 address → base ≡ get_or words 2 base → scope ≡ get_or words 3 scope → filter ≡ get_or words 4 filter → more ≡ drop 5 words
    → string_bytes word ≡ codes "search" → a ≡ string_bytes address → b ≡ string_bytes base → s ≡ string_bytes scope → f ≡ string_bytes filter → IsAskedBy a b s f more asked
    → IsSearch words asked
search_is [] word address base scope filter more a b s f asked five at0 at1 at2 at3 at4 rest search p q r t is = absurd (omega (arith, five))
search_is (v ∷ []) word address base scope filter more a b s f asked five at0 at1 at2 at3 at4 rest search p q r t is = absurd (omega (arith, five))
search_is (v ∷ w ∷ []) word address base scope filter more a b s f asked five at0 at1 at2 at3 at4 rest search p q r t is = absurd (omega (arith, five))
search_is (v ∷ w ∷ x ∷ []) word address base scope filter more a b s f asked five at0 at1 at2 at3 at4 rest search p q r t is = absurd (omega (arith, five))
search_is (v ∷ w ∷ x ∷ y ∷ []) word address base scope filter more a b s f asked five at0 at1 at2 at3 at4 rest search p q r t is = absurd (omega (arith, five))
search_is (v ∷ w ∷ x ∷ y ∷ z ∷ words) word address base scope filter more a b s f asked five at0 at1 at2 at3 at4 rest search p q r t is = (
  sym (bytes_same word v at0) ∙ search,
  subst (λ (ws : List (String Global)). IsAskedBy (string_bytes w) (string_bytes x) (string_bytes y) (string_bytes z) ws asked) rest
      (asked_as a (string_bytes w) b (string_bytes x) s (string_bytes y) f (string_bytes z) more asked
      (p ∙ bytes_same address w at1) (q ∙ bytes_same base x at2) (r ∙ bytes_same scope y at3) (t ∙ bytes_same filter z at4) is),
)
