-- The words of `drill`.
use Rattle.std.proofs.Common.{◌≡◌, ◌-◌, ◌^◌, ℕ, List, [], ◌∷◌, get_or, length, string_bytes, codes, inl, inr, refl, sym, ap, ◌∙◌, arith}
use Rattle.std.specs.declared.alloc.Global.{Global}
use Rattle.std.specs.declared.string.String.{String}
use Rattle.drill_plan.specs.declared.plan.DrillPlan.{DrillPlan}
use Rattle.syncrepl_tool.specs.Cascade.{IsCascade}
use Rattle.syncrepl_tool.specs.DrillWords.{IsDrill, IsDrillStatus, IsPlanOf}
use Rattle.syncrepl_tool.specs.Searching.{IsSearch, SearchAsked}
use Rattle.syncrepl_tool.specs.Serve.{IsServe}
use Rattle.syncrepl_tool.proofs.NumberWords.{same_number}
use Rattle.syncrepl_tool.proofs.SearchForms.{bytes_same}

-- ---- no words are of two forms

-- the words of a drill are not `cascade`
pub not_cascade_drill : (words : List (String Global)) (plan : DrillPlan) → IsCascade words → IsDrill words plan → ⊥
not_cascade_drill [] plan cascade drill = cascade
not_cascade_drill (word ∷ []) plan cascade drill = drill
not_cascade_drill (word ∷ other ∷ words) plan cascade drill = cascade

-- nor `serve FILE`
pub not_serve_drill : (words : List (String Global)) (name : List ℕ) (plan : DrillPlan) → IsServe words name → IsDrill words plan → ⊥
not_serve_drill [] name plan serve drill = serve
not_serve_drill (word ∷ []) name plan serve drill = serve
not_serve_drill (word ∷ file ∷ []) name plan serve drill = drill
not_serve_drill (word ∷ file ∷ more ∷ words) name plan serve drill = serve

abbrev first_of : List ℕ → ℕ
first_of bytes = get_or bytes 0 0

-- nor those of a search, the first of which has another first letter
pub not_search_drill : (words : List (String Global)) (asked : SearchAsked) (plan : DrillPlan) → IsSearch words asked → IsDrill words plan → ⊥
not_search_drill [] asked plan search drill = search
not_search_drill (v ∷ []) asked plan search drill = search
not_search_drill (v ∷ w ∷ []) asked plan search drill = search
not_search_drill (v ∷ w ∷ x ∷ []) asked plan search drill = search
not_search_drill (v ∷ w ∷ x ∷ y ∷ []) asked plan search drill = search
not_search_drill (v ∷ w ∷ x ∷ y ∷ z ∷ []) asked plan search drill =
    let first : 115 ≡ 100 = ap first_of (sym search.0 ∙ drill.0) in absurd (omega (arith, first))
not_search_drill (v ∷ w ∷ x ∷ y ∷ z ∷ more ∷ words) asked plan search drill = drill

-- the status of other words is none of a drill
pub not_two_drilled : (code : ℕ) → IsDrillStatus code → code ≡ 2 → ⊥
not_two_drilled code (inl zero) two = omega (arith, zero, two)
not_two_drilled code (inr five) two = omega (arith, five, two)

-- ---- they are of one plan

abbrev planning : (seed writers consumers size : ℕ) → DrillPlan
planning seed writers consumers size = record { seed = seed; writers = writers; consumers = consumers; size = size }

same_parts : (seed writers consumers size : List ℕ) (one other : DrillPlan) → IsPlanOf seed writers consumers size one → IsPlanOf seed writers consumers size other → one ≡ other
same_parts seed writers consumers size one other first second =
    let seeds : one.seed ≡ other.seed = same_number seed 0 (2 ^ 64 - 1) one.seed other.seed (omega arith) first.0 second.0 in
    let all_writers : one.writers ≡ other.writers = same_number writers 1 8 one.writers other.writers (omega arith) first.1 second.1 in
    let all_consumers : one.consumers ≡ other.consumers = same_number consumers 1 8 one.consumers other.consumers (omega arith) first.2 second.2 in
    let sizes : one.size ≡ other.size = same_number size 1 2000 one.size other.size (omega arith) first.3 second.3 in
    ap (λ (n : ℕ). planning n one.writers one.consumers one.size) seeds
    ∙ ap (λ (n : ℕ). planning other.seed n one.consumers one.size) all_writers
    ∙ ap (λ (n : ℕ). planning other.seed other.writers n one.size) all_consumers
    ∙ ap (λ (n : ℕ). planning other.seed other.writers other.consumers n) sizes

-- no words are of two plans
pub same_plan : (words : List (String Global)) (one other : DrillPlan) → IsDrill words one → IsDrill words other → one ≡ other
same_plan [] one other first second = absurd first
same_plan (v ∷ []) one other first second = absurd first
same_plan (v ∷ w ∷ []) one other first second = absurd first
same_plan (v ∷ w ∷ x ∷ []) one other first second = absurd first
same_plan (v ∷ w ∷ x ∷ y ∷ []) one other first second = absurd first
same_plan (v ∷ w ∷ x ∷ y ∷ z ∷ []) one other first second =
    same_parts (string_bytes w) (string_bytes x) (string_bytes y) (string_bytes z) one other first.1 second.1
same_plan (v ∷ w ∷ x ∷ y ∷ z ∷ more ∷ words) one other first second = absurd first

-- ---- words that are read

plan_as : (s s' w w' c c' z z' : List ℕ) (plan : DrillPlan) → s ≡ s' → w ≡ w' → c ≡ c' → z ≡ z' → IsPlanOf s w c z plan → IsPlanOf s' w' c' z' plan
plan_as s s' w w' c c' z z' plan p q r t is =
    ((is.0.0, is.0.1, sym p ∙ is.0.2), (is.1.0, is.1.1, sym q ∙ is.1.2), (is.2.0, is.2.1, sym r ∙ is.2.2), (is.3.0, is.3.1, sym t ∙ is.3.2))

-- five words are a drill's where the first is `drill`, and the others are of a plan
pub drill_is : (words : List (String Global)) (word seed writers consumers size : String Global) (s w c z : List ℕ) (plan : DrillPlan) → length words ≡ 5
    → word ≡ get_or words 0 word → seed ≡ get_or words 1 seed → writers ≡ get_or words 2 writers → consumers ≡ get_or words 3 consumers → size ≡ get_or words 4 size
    → string_bytes word ≡ codes "drill" → s ≡ string_bytes seed → w ≡ string_bytes writers → c ≡ string_bytes consumers → z ≡ string_bytes size → IsPlanOf s w c z plan → IsDrill words plan
drill_is [] word seed writers consumers size s w c z plan five at0 at1 at2 at3 at4 drill p q r t is = absurd (omega (arith, five))
drill_is (v0 ∷ []) word seed writers consumers size s w c z plan five at0 at1 at2 at3 at4 drill p q r t is = absurd (omega (arith, five))
drill_is (v0 ∷ v1 ∷ []) word seed writers consumers size s w c z plan five at0 at1 at2 at3 at4 drill p q r t is = absurd (omega (arith, five))
drill_is (v0 ∷ v1 ∷ v2 ∷ []) word seed writers consumers size s w c z plan five at0 at1 at2 at3 at4 drill p q r t is = absurd (omega (arith, five))
drill_is (v0 ∷ v1 ∷ v2 ∷ v3 ∷ []) word seed writers consumers size s w c z plan five at0 at1 at2 at3 at4 drill p q r t is = absurd (omega (arith, five))
drill_is (v0 ∷ v1 ∷ v2 ∷ v3 ∷ v4 ∷ []) word seed writers consumers size s w c z plan five at0 at1 at2 at3 at4 drill p q r t is = (
  sym (bytes_same word v0 at0) ∙ drill,
  plan_as s (string_bytes v1) w (string_bytes v2) c (string_bytes v3) z (string_bytes v4) plan
      (p ∙ bytes_same seed v1 at1) (q ∙ bytes_same writers v2 at2) (r ∙ bytes_same consumers v3 at3) (t ∙ bytes_same size v4 at4) is,
)
drill_is (v0 ∷ v1 ∷ v2 ∷ v3 ∷ v4 ∷ v5 ∷ words) word seed writers consumers size s w c z plan five at0 at1 at2 at3 at4 drill p q r t is = absurd (omega (arith, five))

-- more or fewer words are not
pub not_drill_length : (words : List (String Global)) (plan : DrillPlan) → (length words ≡ 5 → ⊥) → IsDrill words plan → ⊥
not_drill_length [] plan other drill = drill
not_drill_length (v ∷ []) plan other drill = drill
not_drill_length (v ∷ w ∷ []) plan other drill = drill
not_drill_length (v ∷ w ∷ x ∷ []) plan other drill = drill
not_drill_length (v ∷ w ∷ x ∷ y ∷ []) plan other drill = drill
not_drill_length (v ∷ w ∷ x ∷ y ∷ z ∷ []) plan other drill = other refl
not_drill_length (v ∷ w ∷ x ∷ y ∷ z ∷ more ∷ words) plan other drill = drill

-- nor are five of which the first is another
pub not_drill_word : (words : List (String Global)) (plan : DrillPlan) (word : String Global) → word ≡ get_or words 0 word → (string_bytes word ≡ codes "drill" → ⊥) → IsDrill words plan → ⊥
not_drill_word [] plan word first other drill = drill
not_drill_word (v ∷ []) plan word first other drill = drill
not_drill_word (v ∷ w ∷ []) plan word first other drill = drill
not_drill_word (v ∷ w ∷ x ∷ []) plan word first other drill = drill
not_drill_word (v ∷ w ∷ x ∷ y ∷ []) plan word first other drill = drill
not_drill_word (v ∷ w ∷ x ∷ y ∷ z ∷ []) plan word first other drill = other (bytes_same word v first ∙ drill.0)
not_drill_word (v ∷ w ∷ x ∷ y ∷ z ∷ more ∷ words) plan word first other drill = drill

-- nor are five of which the others are of no plan
pub not_drill_plan : (words : List (String Global)) (seed writers consumers size : String Global) (s w c z : List ℕ) → length words ≡ 5
    → seed ≡ get_or words 1 seed → writers ≡ get_or words 2 writers → consumers ≡ get_or words 3 consumers → size ≡ get_or words 4 size
    → s ≡ string_bytes seed → w ≡ string_bytes writers → c ≡ string_bytes consumers → z ≡ string_bytes size → ((plan : DrillPlan) → IsPlanOf s w c z plan → ⊥)
    → (plan : DrillPlan) → IsDrill words plan → ⊥
not_drill_plan [] seed writers consumers size s w c z five at1 at2 at3 at4 p q r t none plan drill = drill
not_drill_plan (v0 ∷ []) seed writers consumers size s w c z five at1 at2 at3 at4 p q r t none plan drill = drill
not_drill_plan (v0 ∷ v1 ∷ []) seed writers consumers size s w c z five at1 at2 at3 at4 p q r t none plan drill = drill
not_drill_plan (v0 ∷ v1 ∷ v2 ∷ []) seed writers consumers size s w c z five at1 at2 at3 at4 p q r t none plan drill = drill
not_drill_plan (v0 ∷ v1 ∷ v2 ∷ v3 ∷ []) seed writers consumers size s w c z five at1 at2 at3 at4 p q r t none plan drill = drill
not_drill_plan (v0 ∷ v1 ∷ v2 ∷ v3 ∷ v4 ∷ []) seed writers consumers size s w c z five at1 at2 at3 at4 p q r t none plan drill =
    none plan
    (plan_as (string_bytes v1) s (string_bytes v2) w (string_bytes v3) c (string_bytes v4) z plan
    (sym (p ∙ bytes_same seed v1 at1)) (sym (q ∙ bytes_same writers v2 at2)) (sym (r ∙ bytes_same consumers v3 at3)) (sym (t ∙ bytes_same size v4 at4)) drill.1)
not_drill_plan (v0 ∷ v1 ∷ v2 ∷ v3 ∷ v4 ∷ v5 ∷ words) seed writers consumers size s w c z five at1 at2 at3 at4 p q r t none plan drill = drill

-- what decides that words are no drill
pub ruleset drill_words = (not_drill_length, not_drill_word)
