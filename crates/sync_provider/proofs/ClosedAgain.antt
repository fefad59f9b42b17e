-- The other searches, where one is closed after it was handed out from, or opened.
use Rattle.std.proofs.Common.{◌≡◌, ◌<◌, ℕ, Bool, true, false, cond, List, [], ◌∷◌, Option, Some, None, refl, ap, sym, ◌∙◌, inl, inr, arith}
use Rattle.std.specs.Prelude.{◌⊎◌}
use Rattle.std.specs.BTreeMap.{insert_entry, is_at}
use Rattle.std.specs.Ordering.{nat_cmp, match_ordering}
use Rattle.std.proofs.lemmas.Bool.{cases_order}
use Rattle.directory_writes.specs.Directory.{DirectoryState}
use Rattle.directory_writes.proofs.Keyed.{kept_at, closed_at, put_on, is_at-same, is_at-other, less_cmp, more_cmp}
use Rattle.sync_provider.specs.HandingOut.{handed_on}
use Rattle.sync_provider.specs.Search.{SearchState, advanced}

closed_put : (es : List (ℕ × SearchState)) (k : ℕ) (s : SearchState) → closed_at (put_on es k s) k ≡ closed_at es k
closed_put [] k s = refl
closed_put (e ∷ es) k s = by (closed_put es k s) (is_at (nat_cmp k) e.0) refl
  where
    by : closed_at (put_on es k s) k ≡ closed_at es k → (b : Bool) → is_at (nat_cmp k) e.0 ≡ b → closed_at (cond b ((e.0, s) ∷ es) (e ∷ put_on es k s)) k ≡ cond b es (e ∷ closed_at es k)
    by rest true hit = ap (λ b. cond b es ((e.0, s) ∷ closed_at es k)) hit
    by rest false miss = ap (λ b. cond b (put_on es k s) (e ∷ closed_at (put_on es k s) k)) miss ∙ ap (λ xs. e ∷ xs) rest

-- with the first message of a search handed out
pub closed_on : (d : DirectoryState) (es : List (ℕ × SearchState)) (k : ℕ) (found : Option SearchState) → closed_at (handed_on d es k found) k ≡ closed_at es k
closed_on d es k None = refl
closed_on d es k (Some s) = closed_put es k (advanced d s)

-- one that is opened and closed leaves those that were open
pub closed_opened : (es : List (ℕ × SearchState)) (k : ℕ) (s : SearchState) → kept_at es k ≡ None → closed_at (insert_entry nat_cmp es k s) k ≡ es
closed_opened [] k s free = ap (λ b. cond b [] ((k, s) ∷ [])) (is_at-same k k refl)
closed_opened (e ∷ es) k s free = by (closed_opened es k s) (cases_order k e.0)
  where
    taken : Some e.1 ≡ None → ⊥
    taken is = cc

    by : (kept_at es k ≡ None → closed_at (insert_entry nat_cmp es k s) k ≡ es) → (k ≡ e.0) ⊎ ((k < e.0) ⊎ (e.0 < k)) → closed_at (insert_entry nat_cmp (e ∷ es) k s) k ≡ e ∷ es
    by rest (inl same) = absurd (taken (sym (ap (λ b. cond b (Some e.1) (kept_at es k)) (is_at-same k e.0 same)) ∙ free))
    by rest (inr (inl less)) =
        ap (λ o. closed_at (match_ordering o ((k, s) ∷ e ∷ es) ((e.0, s) ∷ es) (e ∷ insert_entry nat_cmp es k s)) k) (less_cmp k e.0 less)
        ∙ ap (λ b. cond b (e ∷ es) ((k, s) ∷ closed_at (e ∷ es) k)) (is_at-same k k refl)
    by rest (inr (inr more)) =
        let apart : is_at (nat_cmp k) e.0 ≡ false = is_at-other k e.0 (λ same. omega arith) in
        ap (λ o. closed_at (match_ordering o ((k, s) ∷ e ∷ es) ((e.0, s) ∷ es) (e ∷ insert_entry nat_cmp es k s)) k) (more_cmp k e.0 more)
        ∙ ap (λ b. cond b (insert_entry nat_cmp es k s) (e ∷ closed_at (insert_entry nat_cmp es k s) k)) apart
        ∙ ap (λ xs. e ∷ xs) (rest (sym (ap (λ b. cond b (Some e.1) (kept_at es k)) apart) ∙ free))
