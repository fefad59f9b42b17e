-- Open searches by their numbers: what holds of each.
use Rattle.std.proofs.Common.{◌≡◌, ℕ, Bool, true, false, cond, List, [], ◌∷◌, Some, None, refl, ap, sym, ◌∙◌, subst}
use Rattle.std.specs.BTreeMap.{insert_entry, is_at}
use Rattle.std.specs.Ordering.{nat_cmp, match_ordering}
use Rattle.std.specs.declared.cmp.Ordering.{Ordering}
use Rattle.std.specs.declared.cmp.Ordering.TheVariants.{Less, Equal, Greater}
use Rattle.directory_writes.proofs.Keyed.{put_on}
use Rattle.sync_provider.specs.HandingOut.{search_at, closed}
use Rattle.sync_provider.specs.Law.{EachSearch}
use Rattle.sync_provider.specs.Search.{SearchState}

abbrev Searches : Type 0
Searches = List (ℕ × SearchState)

-- what holds of each search, and of one more, holds of all of them
pub each-opened : (P : SearchState → Type 0) (es : Searches) (k : ℕ) (s : SearchState) → EachSearch P es → P s → EachSearch P (insert_entry nat_cmp es k s)
each-opened P [] k s each new = (new, tt)
each-opened P (e ∷ es) k s each new = by (each-opened P es k s each.1 new) (nat_cmp k e.0)
  where
    by : EachSearch P (insert_entry nat_cmp es k s) → (o : Ordering) → EachSearch P (match_ordering o ((k, s) ∷ e ∷ es) ((e.0, s) ∷ es) (e ∷ insert_entry nat_cmp es k s))
    by rest Less = (new, each)
    by rest Equal = (new, each.1)
    by rest Greater = (each.0, rest)

-- it holds of those that are left after one is closed
pub each-closed : (P : SearchState → Type 0) (es : Searches) (k : ℕ) → EachSearch P es → EachSearch P (closed es k)
each-closed P [] k each = tt
each-closed P (e ∷ es) k each = by (each-closed P es k each.1) (is_at (nat_cmp k) e.0)
  where
    by : EachSearch P (closed es k) → (b : Bool) → EachSearch P (cond b es (e ∷ closed es k))
    by rest true = each.1
    by rest false = (each.0, rest)

-- it holds of them where one is put in the place of another
pub each-put_on : (P : SearchState → Type 0) (es : Searches) (k : ℕ) (s : SearchState) → EachSearch P es → P s → EachSearch P (put_on es k s)
each-put_on P [] k s each new = tt
each-put_on P (e ∷ es) k s each new = by (each-put_on P es k s each.1 new) (is_at (nat_cmp k) e.0)
  where
    by : EachSearch P (put_on es k s) → (b : Bool) → EachSearch P (cond b ((e.0, s) ∷ es) (e ∷ put_on es k s))
    by rest true = (new, each.1)
    by rest false = (each.0, rest)

-- it holds of the search that is found under a number
pub each-at : (P : SearchState → Type 0) (es : Searches) (k : ℕ) (s : SearchState) → EachSearch P es → search_at es k ≡ Some s → P s
each-at P [] k s each found = absurd (far found)
  where
    far : None ≡ Some s → ⊥
    far e = cc
each-at P (e ∷ es) k s each found = by (each-at P es k s each.1) (is_at (nat_cmp k) e.0) refl
  where
    same : Some e.1 ≡ Some s → e.1 ≡ s
    same q = cc

    by : (search_at es k ≡ Some s → P s) → (b : Bool) → is_at (nat_cmp k) e.0 ≡ b → P s
    by rest true hit = subst P (same (sym (ap (λ b. cond b (Some e.1) (search_at es k)) hit) ∙ found)) each.0
    by rest false miss = rest (sym (ap (λ b. cond b (Some e.1) (search_at es k)) miss) ∙ found)

-- what follows of each holds of each
pub each-weaker : (P Q : SearchState → Type 0) (es : Searches) → ((s : SearchState) → P s → Q s) → EachSearch P es → EachSearch Q es
each-weaker P Q [] h each = tt
each-weaker P Q (e ∷ es) h each = (h e.1 each.0, each-weaker P Q es h each.1)
