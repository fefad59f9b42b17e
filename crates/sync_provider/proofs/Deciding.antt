-- What is planned for the identities of a piece is what its search sends of them.
use Rattle.std.proofs.Common.{◌≡◌, ℕ, ◌-◌, ◌≤◌, Bool, true, false, cond, nat_lt, List, [], ◌∷◌, ◌++◌, length, map, refl, sym, ap, ◌∙◌, arith, subst, Some, None, Option, inl, inr}
use Rattle.std.specs.Prelude.{not, if◌then◌else◌}
use Rattle.std.specs.List.{flat_map, cons_option, AllByRecursion}
use Rattle.std.specs.List.Sorted.{IsStrictlySortedBy}
use Rattle.std.specs.Ordering.{nat_cmp}
use Rattle.std.specs.declared.cmp.Ordering.TheVariants.{Less}
use Rattle.std.proofs.lemmas.Bool.{cases_lt, le-ltb, ltb-true, and_parts}
use Rattle.std.proofs.lemmas.List.{append-nil}
use Rattle.std.proofs.lemmas.Map.Entries.{option_filter}
use Rattle.entry_tree.specs.declared.entry.Entry.{Entry}
use Rattle.entry_tree.specs.History.{state_of, differing_over}
use Rattle.entry_tree.specs.Selection.{Search, select, is_selected}
use Rattle.entry_tree.specs.State.{ascends, entry_at}
use Rattle.entry_tree.specs.Touched.{identities}
use Rattle.entry_tree.proofs.Identities.{above}
use Rattle.refresh_present.specs.declared.decision.Decision as decision
use Rattle.refresh_present.specs.declared.decision.Decision.TheVariants.{Send, Present, Delete}
use Rattle.refresh_present.specs.Item as items
use Rattle.refresh_present.specs.Present as presents
use Rattle.refresh_delete.specs.Delete as deletes
use Rattle.csn_cookie.specs.Cookie.{cookie_text}
use Rattle.sync_model.specs.Stream.{SyncOperation, Start, WalkDecision, among, walk, decided, decide, decide_late}
use Rattle.sync_model.specs.Stream.Start.{InitialContent, DeletePhase, PresentPhase}
use Rattle.entry_tree.proofs.Order.{entry_at-filter}
use Rattle.sync_model.proofs.Steps.{over_none}
use Rattle.directory_writes.specs.Directory.{DirectoryState, entries_of, cookie_at, cookie_of}
use Rattle.directory_writes.specs.Touches.{last_touch}
use Rattle.directory_writes.proofs.Keyed.{less_cmp}
use Rattle.directory_writes.proofs.Notified.{last-low, last-shows}
use Rattle.directory_writes.proofs.Writes.{state_now, csn_now, ascends_now}
use Rattle.sync_provider.specs.Refreshing.{all_identities, walked, item_of, item_at, is_selected_found, touched_item_at, present_planned, delete_planned, decided_now, decided_late, sends, said_all}
use Rattle.sync_provider.specs.Search.{cookie_after, session_of}

-- ---- identities in ascending order

item_uuid : (d : DirectoryState) (search : Search) (u : ℕ) (found : Option Entry) → (item_of d search u found).uuid ≡ u
item_uuid d search u None = refl
item_uuid d search u (Some entry) = refl

-- the items of identities have these identities
pub items_uuids : (d : DirectoryState) (search : Search) (us : List ℕ) → items.identities (map (item_at d search) us) ≡ us
items_uuids d search [] = refl
items_uuids d search (u ∷ us) = λ i. item_uuid d search u (entry_at (entries_of d) u) i ∷ items_uuids d search us i

each_above : (u : ℕ) (es : List Entry) → above u es ≡ true → AllByRecursion (λ y. nat_cmp u y ≡ Less) (identities es)
each_above u [] h = tt
each_above u (e ∷ es) h =
    let p = and_parts (nat_lt u e.uuid) (above u es) h in
    (less_cmp u e.uuid (ltb-true u e.uuid p.0), each_above u es p.1)

-- those of entries in order are
pub sorted_identities : (es : List Entry) → ascends es ≡ true → IsStrictlySortedBy nat_cmp (identities es)
unfolding IsStrictlySortedBy
sorted_identities [] asc = tt
sorted_identities (e ∷ es) asc =
    let p = and_parts (above e.uuid es) (ascends es) asc in
    (each_above e.uuid es p.0, sorted_identities es p.1)

-- so are those of their items
pub items_sorted : (d : DirectoryState) (search : Search) (us : List ℕ) → IsStrictlySortedBy nat_cmp us → IsStrictlySortedBy nat_cmp (items.identities (map (item_at d search) us))
items_sorted d search us sorted = subst (IsStrictlySortedBy nat_cmp) (sym (items_uuids d search us)) sorted

-- and those of a directory
pub all_sorted : (d : DirectoryState) → IsStrictlySortedBy nat_cmp (all_identities d)
all_sorted d =
    sorted_identities (entries_of d) (ascends_now d)

-- the same of what is known of identities that were touched
touched_uuids : (d : DirectoryState) (search : Search) (us : List ℕ) → items.identities (map (touched_item_at d search) us) ≡ us
touched_uuids d search [] = refl
touched_uuids d search (u ∷ us) = ap (λ others. u ∷ others) (touched_uuids d search us)

-- and so they are in order
pub touched_sorted : (d : DirectoryState) (search : Search) (us : List ℕ) → IsStrictlySortedBy nat_cmp us → IsStrictlySortedBy nat_cmp (items.identities (map (touched_item_at d search) us))
touched_sorted d search us sorted = subst (IsStrictlySortedBy nat_cmp) (sym (touched_uuids d search us)) sorted

-- ---- one identity

module _ (persists : Bool) (d : DirectoryState) (search : Search) where
  abbrev operation : SyncOperation
  operation = session_of persists d.sid d.history search d.writes

  blank_said : (u : ℕ) (found : Option Entry) → entry_at (entries_of d) u ≡ found → (more : List decision.Decision)
      → said_all (entries_of d) (cons_option (presents.decided None (item_of d search u found)) more)
      ≡ decided false true u (option_filter (is_selected search) found) ++ said_all (entries_of d) more
  blank_said u None at more = refl
  blank_said u (Some e) at more = step (is_selected search e) where
    step : (b : Bool) → said_all (entries_of d) (cons_option (if not b then None else Some (Send u)) more)
        ≡ decided false true u (cond b (Some e) None) ++ said_all (entries_of d) more
    step true = ap (λ found. sends found ++ said_all (entries_of d) more) at
    step false = refl

  present_said : (a u : ℕ) (found : Option Entry) → entry_at (entries_of d) u ≡ found → (more : List decision.Decision)
      → said_all (entries_of d) (cons_option (presents.decided (Some a) (item_of d search u found)) more)
      ≡ decided false (nat_lt a (last_touch (state_of d.history d.writes) (length d.writes) u)) u (option_filter (is_selected search) found) ++ said_all (entries_of d) more
  present_said a u None at more = refl
  present_said a u (Some e) at more = step (is_selected search e) (nat_lt a (last_touch (state_of d.history d.writes) (length d.writes) u)) where
    step : (b t : Bool) → said_all (entries_of d) (cons_option (if not b then None else if t then Some (Send u) else Some (Present u)) more)
        ≡ decided false t u (cond b (Some e) None) ++ said_all (entries_of d) more
    step true true = ap (λ found. sends found ++ said_all (entries_of d) more) at
    step true false = refl
    step false t = refl

  touched_said : (u : ℕ) (found : Option Entry) → entry_at (entries_of d) u ≡ found → (more : List decision.Decision)
      → said_all (entries_of d) (cons_option (deletes.decided 0 (record { uuid = u; touched = 1; selected = is_selected_found search found })) more)
      ≡ decided true true u (option_filter (is_selected search) found) ++ said_all (entries_of d) more
  touched_said u None at more = refl
  touched_said u (Some e) at more = step (is_selected search e) where
    step : (b : Bool) → said_all (entries_of d) (cons_option (if b then Some (Send u) else Some (Delete u)) more)
        ≡ decided true true u (cond b (Some e) None) ++ said_all (entries_of d) more
    step true = ap (λ found. sends found ++ said_all (entries_of d) more) at
    step false = refl

  -- the number of its last touch is above one where it was touched since
  since : (a u : ℕ) → nat_lt a (last_touch (state_of d.history d.writes) (length d.writes) u) ≡ among u (differing_over (state_of d.history d.writes) a (length d.writes - a))
  since a u = elim (cases_lt (length d.writes) a) [
    | inl past ↦ (let none : length d.writes - a ≡ 0 = omega (arith, past) in
        let most : last_touch (state_of d.history d.writes) (length d.writes) u ≤ length d.writes = last-low (length d.writes) (state_of d.history d.writes) u in
        le-ltb a (last_touch (state_of d.history d.writes) (length d.writes) u) (omega (arith, most, past))
        ∙ sym (ap (among u) (ap (differing_over (state_of d.history d.writes) a) none ∙ over_none (state_of d.history d.writes) a)))
    | inr low ↦ last-shows (length d.writes) (state_of d.history d.writes) a u low
  ]

  -- ---- all of a piece

  now : state_of d.history d.writes (length d.writes) ≡ entries_of d
  now = state_now d d.writes [] (append-nil d.writes)

  abbrev content : List Entry
  content = select search (state_of d.history d.writes (length d.writes))

  found_in : (u : ℕ) → option_filter (is_selected search) (entry_at (entries_of d) u) ≡ entry_at content u
  found_in u = sym (entry_at-filter (is_selected search) (entries_of d) u (ascends_now d)) ∙ ap (λ xs. entry_at (select search xs) u) (sym now)

  -- what is planned for a piece where no cookie was given
  pub blank_is : (us : List ℕ) → said_all (entries_of d) (present_planned d search None us) ≡ decided_now persists d search InitialContent us
  blank_is [] = refl
  blank_is (u ∷ us) =
      blank_said u (entry_at (entries_of d) u) refl (presents.planned None (map (item_at d search) us))
      ∙ (λ i. decided false true u (found_in u i) ++ blank_is us i)

  -- in a present phase
  pub present_is : (a : ℕ) (us : List ℕ) → said_all (entries_of d) (present_planned d search (Some a) us) ≡ decided_now persists d search (PresentPhase a) us
  present_is a [] = refl
  present_is a (u ∷ us) =
      present_said a u (entry_at (entries_of d) u) refl (presents.planned (Some a) (map (item_at d search) us))
      ∙ (λ i. decided false (since a u i) u (found_in u i) ++ present_is a us i)

  -- where each is sent or named as deleted
  all_touched : (said : ℕ → List WalkDecision) → ((u : ℕ) → said u ≡ decided true true u (entry_at content u)) → (us : List ℕ)
      → said_all (entries_of d) (delete_planned d search us) ≡ flat_map said us
  all_touched said is [] = refl
  all_touched said is (u ∷ us) =
      touched_said u (entry_at (entries_of d) u) refl (deletes.planned 0 (map (touched_item_at d search) us))
      ∙ (λ i. (ap (decided true true u) (found_in u) ∙ sym (is u)) i ++ all_touched said is us i)

  -- in a delete phase
  pub touched_is : (a : ℕ) (us : List ℕ) → said_all (entries_of d) (delete_planned d search us) ≡ decided_now persists d search (DeletePhase a) us
  touched_is a us = all_touched (decide operation (DeletePhase a) (length d.writes)) (λ u. refl) us

  -- and for the late part
  pub late_is : (us : List ℕ) → said_all (entries_of d) (delete_planned d search us) ≡ decided_late persists d search us
  late_is us = all_touched (decide_late operation (length d.writes)) (λ u. refl) us

  -- ---- the walk, and the cookie

  -- what a refresh goes through is its walk
  pub walked_is : (start : Start) → walked d start ≡ walk operation start (length d.writes)
  walked_is InitialContent = ap identities (sym now)
  walked_is (DeletePhase a) = refl
  walked_is (PresentPhase a) = ap identities (sym now)

  -- the cookie of the content now
  pub cookie_is : cookie_of d ≡ cookie_after d.sid d.history d.writes (length d.writes)
  cookie_is = ap (λ csn. cookie_text (cookie_at d.sid d.history csn)) (sym (csn_now d d.writes [] (append-nil d.writes)))
