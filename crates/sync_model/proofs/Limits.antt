-- What is among entries within the limits is within them too.
use Rattle.std.proofs.Common.{◌≡◌, ◌<◌, ℕ, Bool, true, false, cond, nat_eq, nat_lt, List, [], ◌∷◌, length, refl, sym, ap, ◌∙◌, arith, Some, None, Option, subst}
use Rattle.std.specs.Prelude.{not, ◌||◌, ⊤, filter, option_map, ◌&&◌}
use Rattle.std.specs.List.{cons_option}
use Rattle.std.specs.Option.{option_or}
use Rattle.std.specs.Ordering.{match_ordering}
use Rattle.std.specs.declared.cmp.Ordering.TheVariants.{Less, Equal, Greater}
use Rattle.std.proofs.lemmas.Bool.{eqb-true, eqb-false, ltb-true, ltb-false, lt-ltb, le-ltb, eq-eqb, ne_eqb, and_from, cond-true, cond-false}
use Rattle.std.proofs.lemmas.Map.Entries.{option_filter}
use Rattle.std.proofs.lemmas.List.Filters.{length-filter_both}
use Rattle.entry_tree.specs.declared.entry.Entry.{Entry}
use Rattle.dn_names.specs.Names.{TypeAndValue}
use Rattle.entry_tree.specs.State.{ascends, entry_at, entry_named, is_named, total_weight, most_entries, most_weight}
use Rattle.entry_tree.proofs.Directory.{ascends_filter, total_parts}
use Rattle.entry_tree.proofs.Identities.{above, none_at}
use Rattle.sync_model.specs.Copy.{Stage, slot, is_put, staged, all_dropped, puts_of, Fault}
use Rattle.sync_model.specs.Copy.Fault.{StageFull, DuplicateName}
use Rattle.sync_model.specs.Within.{exceeds_limits, same_named, against}
use Rattle.sync_model.specs.Law.{IsWithinLimits}
use Rattle.entry_tree.proofs.Order.{entry_at-filter, same_entries}
use Rattle.entry_tree.proofs.Changing.{own_uuid}
use Rattle.sync_model.proofs.Gather.{Each, each_weaker}

-- ---- entries within the limits

not_crowded : (entries : List Entry) → IsWithinLimits entries → exceeds_limits entries ≡ false
not_crowded entries within =
    ap (λ b. b || nat_lt most_weight (total_weight entries)) (le-ltb most_entries (length entries) within.few) ∙ le-ltb most_weight (total_weight entries) within.light

-- where two together give nothing, neither gives anything
pub option_or-none : {X : Type 0} (one other : Option X) → option_or one other ≡ None → (one ≡ None) × (other ≡ None)
option_or-none None other h = (refl, h)
option_or-none (Some x) other h = let never : ⊥ = cc in absurd never

-- where what is made of something is nothing, there was nothing
pub option_map-none : {X Y : Type 0} (f : X → Y) (found : Option X) → option_map f found ≡ None → found ≡ None
option_map-none f None h = refl
option_map-none f (Some x) h = let never : ⊥ = cc in absurd never

-- a name that none of some entries has none of those that pass a test has
unnamed_filter : (test : Entry → Bool) (entries : List Entry) (name : List (List TypeAndValue)) → entry_named entries name ≡ None → entry_named (filter test entries) name ≡ None
unnamed_filter test [] name none = refl
unnamed_filter test (entry ∷ entries) name none = step (is_named name entry) (test entry) refl (unnamed_filter test entries name) none where
  step : (named kept : Bool) → is_named name entry ≡ named → (entry_named entries name ≡ None → entry_named (filter test entries) name ≡ None)
      → cond named (Some entry) (entry_named entries name) ≡ None → entry_named (cond kept (entry ∷ filter test entries) (filter test entries)) name ≡ None
  step true kept is ih h = let never : ⊥ = cc in absurd never
  step false true is ih h = cond-false _ _ _ is ∙ ih h
  step false false is ih h = ih h

apart_filter : (test : Entry → Bool) (entries : List Entry) → same_named entries ≡ None → same_named (filter test entries) ≡ None
apart_filter test [] apart = refl
apart_filter test (entry ∷ entries) apart =
    let pair : Entry → ℕ × ℕ = λ other. (entry.uuid, other.uuid) in
    let parts = option_or-none (option_map pair (entry_named entries entry.dn)) (same_named entries) apart in
    step (test entry) (unnamed_filter test entries entry.dn (option_map-none pair (entry_named entries entry.dn) parts.0)) (apart_filter test entries parts.1)
  where
    step : (kept : Bool) → entry_named (filter test entries) entry.dn ≡ None → same_named (filter test entries) ≡ None → same_named (cond kept (entry ∷ filter test entries) (filter test entries)) ≡ None
    step true none ih = ap (λ found. option_or (option_map (λ (other : Entry). (entry.uuid, other.uuid)) found) (same_named (filter test entries))) none ∙ ih
    step false none ih = ih

-- a part of entries that are within the limits is within them
pub within_filter : (test : Entry → Bool) (entries : List Entry) → IsWithinLimits entries → IsWithinLimits (filter test entries)
within_filter test entries within = record {
  few = omega (arith, length-filter_both test (λ e. not (test e)) (λ e. refl) entries, within.few);
  light = omega (arith, total_parts test entries, within.light);
  unique_names = apart_filter test entries within.unique_names;
}

-- entries within the limits are refused by none of them
pub nothing_against : (entries : List Entry) → IsWithinLimits entries → against entries ≡ None
nothing_against entries within =
    ap (λ b. cond b (Some StageFull) (option_map (λ (pair : ℕ × ℕ). DuplicateName pair.0 pair.1) (same_named entries))) (not_crowded entries within)
    ∙ ap (option_map (λ (pair : ℕ × ℕ). DuplicateName pair.0 pair.1)) within.unique_names

-- ---- what is staged is among the entries to come

-- the identities of a stage ascend
abbrev pub Ordered : Stage → Type 0
Ordered [] = ⊤
Ordered (change ∷ stage) = Each (λ (later : ℕ × Option Entry). change.0 < later.0) stage × Ordered stage

-- a change puts what the target has of its identity, or drops it
abbrev pub IsAmong : List Entry → ℕ → Option Entry → Type 0
IsAmong target uuid None = ⊤
IsAmong target uuid (Some entry) = entry_at target uuid ≡ Some entry

-- the stage is in ascending order, and each entry that it puts is one of these
pub record Fits (target : List Entry) (stage : Stage) : Type 0 where
  pub ordered : Ordered stage
  pub among : Each (λ (change : ℕ × Option Entry). IsAmong target change.0 change.1) stage

each-staged : (Q : ℕ × Option Entry → Type 0) (stage : Stage) (v : ℕ) (change : Option Entry) → ((k : ℕ) → k ≡ v → Q (k, change)) → Each Q stage → Each Q (staged v change stage)
each-staged Q [] v change own each = (own v refl, tt)
each-staged Q (s ∷ stage) v change own each = step (each-staged Q stage v change own each.1) _ _ refl refl where
  step : Each Q (staged v change stage) → (l q : Bool) → nat_lt v s.0 ≡ l → nat_eq v s.0 ≡ q
      → Each Q (match_ordering (cond l Less (cond q Equal Greater)) ((v, change) ∷ s ∷ stage) ((s.0, change) ∷ stage) (s ∷ staged v change stage))
  step ih true q _ _ = (own v refl, each)
  step ih false true _ same = (own s.0 (sym (eqb-true v s.0 same)), each.1)
  step ih false false _ _ = (each.0, ih)

-- a stage in order is so with one change more
pub ordered-staged : (stage : Stage) (v : ℕ) (change : Option Entry) → Ordered stage → Ordered (staged v change stage)
ordered-staged [] v change ordered = (tt, tt)
ordered-staged (s ∷ stage) v change ordered = step (ordered-staged stage v change ordered.1) _ _ refl refl where
  step : Ordered (staged v change stage) → (l q : Bool) → nat_lt v s.0 ≡ l → nat_eq v s.0 ≡ q
      → Ordered (match_ordering (cond l Less (cond q Equal Greater)) ((v, change) ∷ s ∷ stage) ((s.0, change) ∷ stage) (s ∷ staged v change stage))
  step ih true q less _ =
      let far : v < s.0 = ltb-true v s.0 less in
      ((far, each_weaker (λ (later : ℕ × Option Entry). s.0 < later.0) (λ (later : ℕ × Option Entry). v < later.0) stage (λ later h. omega (arith, far, h)) ordered.0), ordered)
  step ih false true _ same = ordered
  step ih false false less same =
      let far : s.0 < v = omega (arith, ltb-false v s.0 less, eqb-false v s.0 same) in
      (each-staged (λ (later : ℕ × Option Entry). s.0 < later.0) stage v change (λ k is. omega (arith, far, is)) ordered.0, ih)

-- a stage fits its target with one more change that does
pub fits-staged : (target : List Entry) (stage : Stage) (v : ℕ) (change : Option Entry) → IsAmong target v change → Fits target stage → Fits target (staged v change stage)
fits-staged target stage v change is fits = record {
  ordered = ordered-staged stage v change fits.ordered;
  among = each-staged (λ (c : ℕ × Option Entry). IsAmong target c.0 c.1) stage v change (λ k same. subst (λ u. IsAmong target u change) (sym same) is) fits.among;
}

-- a stage fits its target with more identities that are dropped
pub fits-all_dropped : (us : List ℕ) (target : List Entry) (stage : Stage) → Fits target stage → Fits target (all_dropped stage us)
fits-all_dropped [] target stage fits = fits
fits-all_dropped (u ∷ us) target stage fits = fits-all_dropped us target (staged u None stage) (fits-staged target stage u None tt fits)

-- the empty stage fits each target
pub fits-none : (target : List Entry) → Fits target []
fits-none target = record { ordered = tt; among = tt }

-- the entries that it puts are above each identity below its own
above-puts : (stage : Stage) (target : List Entry) (u : ℕ) → Each (λ (change : ℕ × Option Entry). IsAmong target change.0 change.1) stage → Each (λ (later : ℕ × Option Entry). u < later.0) stage
    → above u (puts_of stage) ≡ true
above-puts [] target u among below = refl
above-puts (s ∷ stage) target u among below = step s.1 among.0 (above-puts stage target u among.1 below.1) where
  step : (change : Option Entry) → IsAmong target s.0 change → above u (puts_of stage) ≡ true → above u (cons_option change (puts_of stage)) ≡ true
  step None is ih = ih
  step (Some entry) is ih = and_from (nat_lt u entry.uuid) (above u (puts_of stage)) (lt-ltb u entry.uuid (subst (λ k. u < k) (sym (own_uuid target s.0 entry is)) below.0)) ih

ascends-puts : (stage : Stage) (target : List Entry) → Fits target stage → ascends (puts_of stage) ≡ true
ascends-puts [] target fits = refl
ascends-puts (s ∷ stage) target fits = step s.1 fits.among.0 (ascends-puts stage target (record { ordered = fits.ordered.1; among = fits.among.1 })) where
  step : (change : Option Entry) → IsAmong target s.0 change → ascends (puts_of stage) ≡ true → ascends (cons_option change (puts_of stage)) ≡ true
  step None is ih = ih
  step (Some entry) is ih =
      let own : entry.uuid ≡ s.0 = own_uuid target s.0 entry is in
      and_from (above entry.uuid (puts_of stage)) (ascends (puts_of stage)) (ap (λ u. above u (puts_of stage)) own ∙ above-puts stage target s.0 fits.among.1 fits.ordered.0) ih

-- what a slot puts
abbrev put_in : Option (Option Entry) → Option Entry
put_in None = None
put_in (Some change) = change

at-puts : (stage : Stage) (target : List Entry) (u : ℕ) → Fits target stage → entry_at (puts_of stage) u ≡ put_in (slot stage u)
at-puts [] target u fits = refl
at-puts (s ∷ stage) target u fits = step s.1 (nat_eq u s.0) refl fits.among.0 (at-puts stage target u (record { ordered = fits.ordered.1; among = fits.among.1 })) where
  step : (change : Option Entry) (here : Bool) → nat_eq u s.0 ≡ here → IsAmong target s.0 change → entry_at (puts_of stage) u ≡ put_in (slot stage u)
      → entry_at (cons_option change (puts_of stage)) u ≡ put_in (cond here (Some change) (slot stage u))
  step None true here is ih =
      none_at (puts_of stage) u (ap (λ k. above k (puts_of stage)) (eqb-true u s.0 here) ∙ above-puts stage target s.0 fits.among.1 fits.ordered.0)
  step None false off is ih = ih
  step (Some entry) true here is ih = cond-true _ _ _ (eq-eqb entry.uuid u (own_uuid target s.0 entry is ∙ sym (eqb-true u s.0 here)))
  step (Some entry) false off is ih =
      cond-false _ _ _ (ne_eqb entry.uuid u (λ same. eqb-false u s.0 off (sym same ∙ own_uuid target s.0 entry is))) ∙ ih

among-slot : (stage : Stage) (target : List Entry) (u : ℕ) (change : Option Entry) → Each (λ (c : ℕ × Option Entry). IsAmong target c.0 c.1) stage → slot stage u ≡ Some change → IsAmong target u change
among-slot [] target u change among h = let never : ⊥ = cc in absurd never
among-slot (s ∷ stage) target u change among h = step (nat_eq u s.0) refl (among-slot stage target u change among.1) h where
  step : (here : Bool) → nat_eq u s.0 ≡ here → (slot stage u ≡ Some change → IsAmong target u change) → cond here (Some s.1) (slot stage u) ≡ Some change → IsAmong target u change
  step true here ih q =
      let same : s.1 ≡ change = cc in
      subst (λ k. IsAmong target k change) (sym (eqb-true u s.0 here)) (subst (IsAmong target s.0) same among.0)
  step false off ih q = ih q

-- so they are those of the entries that it puts
puts_are : (stage : Stage) (target : List Entry) → ascends target ≡ true → Fits target stage → puts_of stage ≡ filter (λ entry. is_put (slot stage entry.uuid)) target
puts_are stage target ascending fits =
    same_entries (puts_of stage) (filter test target) (ascends-puts stage target fits) (ascends_filter test target ascending)
    (λ u. at-puts stage target u fits ∙ at u (slot stage u) refl ∙ sym (entry_at-filter test target u ascending))
  where
    test : Entry → Bool
    test entry = is_put (slot stage entry.uuid)

    not_put : (u : ℕ) → is_put (slot stage u) ≡ false → (found : Option Entry) → entry_at target u ≡ found → option_filter test found ≡ None
    not_put u off None is = refl
    not_put u off (Some entry) is = cond-false _ _ _ (ap (λ k. is_put (slot stage k)) (own_uuid target u entry is) ∙ off)

    at : (u : ℕ) (change : Option (Option Entry)) → slot stage u ≡ change → put_in change ≡ option_filter test (entry_at target u)
    at u None is = sym (not_put u (ap is_put is) (entry_at target u) refl)
    at u (Some None) is = sym (not_put u (ap is_put is) (entry_at target u) refl)
    at u (Some (Some entry)) is =
        let there : entry_at target u ≡ Some entry = among-slot stage target u (Some entry) fits.among is in
        sym (ap (option_filter test) there ∙ cond-true _ _ _ (ap (λ k. is_put (slot stage k)) (own_uuid target u entry there) ∙ ap is_put is))

-- what a stage puts is within the limits where all of its target is
pub puts_fit : (stage : Stage) (target : List Entry) → ascends target ≡ true → IsWithinLimits target → Fits target stage → exceeds_limits (puts_of stage) ≡ false
puts_fit stage target ascending within fits =
    ap exceeds_limits (puts_are stage target ascending fits)
    ∙ not_crowded (filter (λ entry. is_put (slot stage entry.uuid)) target) (within_filter (λ entry. is_put (slot stage entry.uuid)) target within)

-- no room is needed where nothing crowds
pub no_room_needed : (puts : Bool) (stage : Stage) (other : Option Fault) → exceeds_limits (puts_of stage) ≡ false → other ≡ None → cond (puts && exceeds_limits (puts_of stage)) (Some StageFull) other ≡ None
no_room_needed true stage other room none = cond-false _ _ _ room ∙ none
no_room_needed false stage other room none = none

-- what is there now is among the target
pub among_now : (target : List Entry) (uuid : ℕ) (now : Option Entry) → now ≡ entry_at target uuid → IsAmong target uuid now
among_now target uuid None is = tt
among_now target uuid (Some entry) is = sym is
