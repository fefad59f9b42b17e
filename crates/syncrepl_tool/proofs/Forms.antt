-- The forms of the words.
use Rattle.std.proofs.Common.{◌≡◌, ℕ, true, false, List, [], ◌∷◌, length, get_or, codes, string_bytes, refl, sym, ap, subst, ◌∙◌, arith}
use Rattle.std.specs.declared.alloc.Global.{Global}
use Rattle.std.specs.declared.string.String.{String}
use Rattle.syncrepl_tool.specs.Cascade.{IsCascade}
use Rattle.syncrepl_tool.specs.Serve.{IsServe, begins_with_dash}

-- no words are of both forms
pub not_both : (words : List (String Global)) (name : List ℕ) → IsCascade words → IsServe words name → ⊥
not_both [] name cascade serve = cascade
not_both (word ∷ []) name cascade serve = serve
not_both (word ∷ other ∷ words) name cascade serve = cascade

-- they name one file
pub same_name : (words : List (String Global)) (name other : List ℕ) → IsServe words name → IsServe words other → name ≡ other
same_name [] name other one two = absurd one
same_name (word ∷ []) name other one two = absurd one
same_name (word ∷ file ∷ []) name other one two = sym one.1 ∙ two.1
same_name (word ∷ file ∷ more ∷ words) name other one two = absurd one

-- ---- the words `serve FILE`

-- two words are `serve FILE` where the first is `serve`, and the second begins with no `-`
pub serve_is : (words : List (String Global)) (word file : String Global) → length words ≡ 2 → word ≡ get_or words 0 word → file ≡ get_or words 1 file
    → string_bytes word ≡ codes "serve" → begins_with_dash (string_bytes file) ≡ false → IsServe words (string_bytes file)
serve_is [] word file two first second serve dash = absurd (omega (arith, two))
serve_is (w ∷ []) word file two first second serve dash = absurd (omega (arith, two))
serve_is (w ∷ f ∷ []) word file two first second serve dash =
    (subst (λ (s : String Global). string_bytes s ≡ codes "serve") first serve, sym (ap (λ (s : String Global). string_bytes s) second), dash)
serve_is (w ∷ f ∷ more ∷ words) word file two first second serve dash = absurd (omega (arith, two))

-- more or fewer words are not
pub not_serve_length : (words : List (String Global)) (name : List ℕ) → (length words ≡ 2 → ⊥) → IsServe words name → ⊥
not_serve_length [] name other serve = serve
not_serve_length (w ∷ []) name other serve = serve
not_serve_length (w ∷ f ∷ []) name other serve = other refl
not_serve_length (w ∷ f ∷ more ∷ words) name other serve = serve

-- nor are two of which the first is another
pub not_serve_word : (words : List (String Global)) (name : List ℕ) (word : String Global) → word ≡ get_or words 0 word
    → (string_bytes word ≡ codes "serve" → ⊥) → IsServe words name → ⊥
not_serve_word [] name word first other serve = serve
not_serve_word (w ∷ []) name word first other serve = serve
not_serve_word (w ∷ f ∷ []) name word first other serve =
    other (subst (λ (s : String Global). string_bytes s ≡ codes "serve") (sym first) serve.0)
not_serve_word (w ∷ f ∷ more ∷ words) name word first other serve = serve

-- nor are two of which the second begins with `-`
pub not_serve_dash : (words : List (String Global)) (name : List ℕ) (file : String Global) → file ≡ get_or words 1 file
    → begins_with_dash (string_bytes file) ≡ true → IsServe words name → ⊥
not_serve_dash [] name file second dash serve = serve
not_serve_dash (w ∷ []) name file second dash serve = serve
not_serve_dash (w ∷ f ∷ []) name file second dash serve =
    let same : string_bytes file ≡ name = ap (λ (s : String Global). string_bytes s) second ∙ serve.1 in
    let wrong : true ≡ false = sym dash ∙ ap (λ (bytes : List ℕ). begins_with_dash bytes) same ∙ serve.2 in
    cc
not_serve_dash (w ∷ f ∷ more ∷ words) name file second dash serve = serve

-- what decides whether words are `serve` and a name
pub ruleset serve_words = (serve_is, not_serve_length, not_serve_word, not_serve_dash)
