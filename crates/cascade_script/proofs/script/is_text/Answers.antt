use Rattle.std.proofs.Common.{◌≡◌, ℕ, List, sym, Result, Ok, Err, MatchResult, is_ok, IsUtf8, ◌∙◌}
use Rattle.std.proofs.lemmas.Str.{is_utf8-from_IsUtf8, IsUtf8-from_is_utf8}
use Rattle.std.proofs.lemmas.Bool.{false_from_ne_true}
use Rattle.std.specs.Str.{is_utf8}
use Rattle.cascade_script.proofs.script.is_text.Goals as goal

-- what `from_utf8` answers, as a test
is_ok-text : {A E : Type 0} (r : Result A E) (bytes : List ℕ) (P : A → Type 0) (Q : E → Type 0) → MatchResult r P Q
    → ((a : A) → P a → IsUtf8 bytes) → ((e : E) → Q e → IsUtf8 bytes → ⊥) → is_ok r ≡ is_utf8 bytes
is_ok-text (Ok a) bytes P Q m text other = sym (is_utf8-from_IsUtf8 bytes (text a m))
is_ok-text (Err e) bytes P Q m text other = sym (false_from_ne_true (is_utf8 bytes) (λ t. other e m (IsUtf8-from_is_utf8 bytes t)))

pub returns : goal.returns
returns c = c.is_ok.ensures.value ∙ is_ok-text c.from_utf8.result c.args.bytes.now _ _ c.from_utf8.ensures.cases (λ a p. p.1) (λ e q. q.0)
