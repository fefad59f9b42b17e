-- What a write's touches say to a search is what its Stream sends for the write.
use Rattle.std.proofs.Common.{◌≡◌, ℕ, ◌+◌, Bool, true, false, cond, List, [], ◌∷◌, ◌++◌, length, map, refl, sym, ap, ◌∙◌, arith, Some, None, Option, inl, inr, length-append, nat_eq, eqb-true, eq-eqb}
use Rattle.std.specs.Prelude.{not, ◌||◌, ◌&&◌, filter, flat_map, is_some, take}
use Rattle.std.specs.Cmp.{nat_cmp_total}
use Rattle.std.specs.Ordering.{nat_cmp}
use Rattle.std.proofs.lemmas.Bool.{false≢true, or_right}
use Rattle.std.proofs.lemmas.List.{append-nil}
use Rattle.std.proofs.lemmas.Map.Entries.{option_filter}
use Rattle.csn_cookie.specs.Csn.{start}
use Rattle.csn_cookie.specs.Cookie.{cookie_text}
use Rattle.dn_names.proofs.SortedLists.{In, Sorted, same_members}
use Rattle.dn_names.specs.Writing.{name_text}
use Rattle.entry_tree.specs.declared.entry.Entry.{Entry}
use Rattle.entry_tree.specs.declared.op.Write.{Write}
use Rattle.entry_tree.specs.declared.touched.EntryChange.{EntryChange}
use Rattle.entry_tree.specs.Bytes.{is_one_entry, is_one_found}
use Rattle.entry_tree.specs.History.{state_of}
use Rattle.entry_tree.specs.Selection.{Search, select, is_selected}
use Rattle.entry_tree.specs.State.{ascends, entry_at}
use Rattle.entry_tree.specs.Touched.{identities, joined, change_at, is_change, touched}
use Rattle.entry_tree.proofs.Directory.{ascends_filter}
use Rattle.entry_tree.proofs.Searching.{same_where}
use Rattle.sync_model.specs.Message.{CookieText, SyncMessage}
use Rattle.sync_model.specs.Message.SyncMessage.{AddOrModify, Delete}
use Rattle.sync_model.specs.Stream.{among, notified, notified_all}
use Rattle.sync_model.proofs.Gather.{Each}
use Rattle.sync_model.proofs.Later.{IsStep, each-touched}
use Rattle.sync_model.proofs.Maps.{among-joined, among-filter}
use Rattle.entry_tree.proofs.Order.{entry_at-filter}
use Rattle.entry_tree.proofs.Same.{one_entry-true, one_found-same}
use Rattle.entry_tree.proofs.Taking.{among_identities}
use Rattle.sync_model.proofs.Steps.{differs, found_there}
use Rattle.directory_writes.specs.Directory.{DirectoryState, cookie_at, entries_of, entries_after, last_csn, with_write}
use Rattle.directory_writes.proofs.SortedIdentities.{sorted-filter, sorted-identities, sorted-joined}
use Rattle.directory_writes.proofs.Csns.{last_csn-push}
use Rattle.directory_writes.proofs.Writes.{state_now, csn_now, ascends_now}
use Rattle.sync_provider.specs.Queueing.{group_of}
use Rattle.sync_provider.specs.Search.{SearchState}
use Rattle.sync_provider.specs.Staging.{if_selected, notified_of_change, notified_of_changes, with_cookie, last_with_cookie, messages_for}

-- ---- lists of identities in ascending order

in-among : (u : ℕ) (xs : List ℕ) → In u xs → among u xs ≡ true
in-among u [] is = absurd is
in-among u (x ∷ xs) (inl here) = ap (λ b. b || among u xs) (eq-eqb u x here)
in-among u (x ∷ xs) (inr later) = or_right (nat_eq u x) (among u xs) (in-among u xs later)

among-in : (u : ℕ) (xs : List ℕ) → among u xs ≡ true → In u xs
among-in u [] h = absurd (false≢true h)
among-in u (x ∷ xs) h = by (among-in u xs) (nat_eq u x) refl h where
  by : (among u xs ≡ true → In u xs) → (b : Bool) → nat_eq u x ≡ b → (b || among u xs) ≡ true → In u (x ∷ xs)
  by rest true here q = inl (eqb-true u x here)
  by rest false off q = inr (rest q)

same_list : (xs ys : List ℕ) → Sorted nat_cmp xs → Sorted nat_cmp ys → ((u : ℕ) → among u xs ≡ among u ys) → xs ≡ ys
same_list xs ys one other same =
    same_members nat_cmp_total same_where xs ys one other
    (λ u is. among-in u ys (sym (same u) ∙ in-among u xs is))
    (λ u is. among-in u xs (same u ∙ in-among u ys is))

-- ---- one identity

split_one : (f : EntryChange → List SyncMessage) (b : Bool) (t : EntryChange) (ts : List EntryChange) → flat_map f (cond b (t ∷ ts) ts) ≡ cond b (f t) [] ++ flat_map f ts
split_one f true t ts = refl
split_one f false t ts = refl

-- what is said of a change between two states is what is said of the change between what is selected from them
one_said : (spec : Search) (u : ℕ) (was now : Option Entry)
    → cond (not (is_one_found was now)) (notified None u (if_selected spec was) (if_selected spec now)) []
    ≡ cond (not (is_one_found (if_selected spec was) (if_selected spec now))) (notified None u (if_selected spec was) (if_selected spec now)) []
one_said spec u None None = refl
one_said spec u (Some a) None = step (is_selected spec a) where
  step : (b : Bool) → notified None u (cond b (Some a) None) None
      ≡ cond (not (is_one_found (cond b (Some a) None) None)) (notified None u (cond b (Some a) None) None) []
  step true = refl
  step false = refl
one_said spec u None (Some b) = step (is_selected spec b) where
  step : (c : Bool) → notified None u None (cond c (Some b) None)
      ≡ cond (not (is_one_found None (cond c (Some b) None))) (notified None u None (cond c (Some b) None)) []
  step true = refl
  step false = refl
one_said spec u (Some a) (Some b) = by (is_one_entry a b) refl where
  said : Bool → Bool → List SyncMessage
  said p q = notified None u (cond p (Some a) None) (cond q (Some b) None)

  differ : (p q : Bool) → is_one_entry a b ≡ false → said p q ≡ cond (not (is_one_found (cond p (Some a) None) (cond q (Some b) None))) (said p q) []
  differ true true off = ap (λ c. cond (not c) (said true true) []) (sym off)
  differ true false off = refl
  differ false true off = refl
  differ false false off = refl

  alike : a ≡ b → is_one_found (if_selected spec (Some a)) (if_selected spec (Some b)) ≡ true
  alike same = ap (λ c. is_one_found (if_selected spec (Some a)) (if_selected spec (Some c))) (sym same) ∙ one_found-same (if_selected spec (Some a))

  by : (c : Bool) → is_one_entry a b ≡ c
      → cond (not c) (notified None u (if_selected spec (Some a)) (if_selected spec (Some b))) []
      ≡ cond (not (is_one_found (if_selected spec (Some a)) (if_selected spec (Some b)))) (notified None u (if_selected spec (Some a)) (if_selected spec (Some b))) []
  by true here = sym (ap (λ c. cond (not c) (notified None u (if_selected spec (Some a)) (if_selected spec (Some b))) []) (alike (one_entry-true a b here)))
  by false off = differ (is_selected spec a) (is_selected spec b) off

-- ---- all identities

-- what a touch says by itself
abbrev plain : EntryChange → List SyncMessage
plain entry_change = notified None entry_change.uuid entry_change.before entry_change.after

if_selected-filter : (spec : Search) (found : Option Entry) → option_filter (is_selected spec) found ≡ if_selected spec found
if_selected-filter spec None = refl
if_selected-filter spec (Some e) = refl

module _ (spec : Search) (old new : List Entry) (asc_old : ascends old ≡ true) (asc_new : ascends new ≡ true) where
  abbrev kept_old : List Entry
  kept_old = select spec old

  abbrev kept_new : List Entry
  kept_new = select spec new

  selected_old : (u : ℕ) → if_selected spec (entry_at old u) ≡ entry_at kept_old u
  selected_old u = sym (entry_at-filter (is_selected spec) old u asc_old ∙ if_selected-filter spec (entry_at old u))

  selected_new : (u : ℕ) → if_selected spec (entry_at new u) ≡ entry_at kept_new u
  selected_new u = sym (entry_at-filter (is_selected spec) new u asc_new ∙ if_selected-filter spec (entry_at new u))

  said_alike : (us : List ℕ) → flat_map (notified_of_change spec) (filter is_change (map (change_at old new) us)) ≡ flat_map plain (filter is_change (map (change_at kept_old kept_new) us))
  said_alike [] = refl
  said_alike (u ∷ us) =
      split_one (notified_of_change spec) (is_change (change_at old new u)) (change_at old new u) (filter is_change (map (change_at old new) us))
      ∙ ap (λ ms. ms ++ flat_map (notified_of_change spec) (filter is_change (map (change_at old new) us))) (one_said spec u (entry_at old u) (entry_at new u))
      ∙ (λ i. cond (not (is_one_found (selected_old u i) (selected_new u i))) (notified None u (selected_old u i) (selected_new u i)) [] ++ said_alike us i)
      ∙ sym (split_one plain (is_change (change_at kept_old kept_new u)) (change_at kept_old kept_new u) (filter is_change (map (change_at kept_old kept_new) us)))

  -- the identities of the states, and those of what is selected from them
  abbrev all_uuids : List ℕ
  all_uuids = joined (identities old) (identities new)

  abbrev kept_uuids : List ℕ
  kept_uuids = joined (identities kept_old) (identities kept_new)

  -- what differs has an entry before or after
  differs_there : (was now : Option Entry) → ((is_some was || is_some now) && not (is_one_found (if_selected spec was) (if_selected spec now))) ≡ not (is_one_found (if_selected spec was) (if_selected spec now))
  differs_there None None = refl
  differs_there None (Some b) = refl
  differs_there (Some a) None = refl
  differs_there (Some a) (Some b) = refl

  among-two : (one other : List Entry) (u : ℕ) → among u (joined (identities one) (identities other)) ≡ (is_some (entry_at one u) || is_some (entry_at other u))
  among-two one other u =
      among-joined (identities other) (identities one) u
      ∙ (λ i. among_identities one u i || among_identities other u i)

  among_all : (u : ℕ) → among u (filter (differs kept_old kept_new) all_uuids) ≡ differs kept_old kept_new u
  among_all u =
      among-filter (differs kept_old kept_new) all_uuids u
      ∙ (λ i. among-two old new u i && not (is_one_found (sym (selected_old u) i) (sym (selected_new u) i)))
      ∙ differs_there (entry_at old u) (entry_at new u)
      ∙ (λ i. not (is_one_found (selected_old u i) (selected_new u i)))

  among_kept : (u : ℕ) → among u (filter (differs kept_old kept_new) kept_uuids) ≡ differs kept_old kept_new u
  among_kept u =
      among-filter (differs kept_old kept_new) kept_uuids u
      ∙ (λ i. among-two kept_old kept_new u i && differs kept_old kept_new u)
      ∙ found_there (entry_at kept_old u) (entry_at kept_new u)

  same_uuids : ascends kept_old ≡ true → filter (differs kept_old kept_new) all_uuids ≡ filter (differs kept_old kept_new) kept_uuids
  same_uuids asc_kept =
      same_list (filter (differs kept_old kept_new) all_uuids) (filter (differs kept_old kept_new) kept_uuids)
      (sorted-filter (differs kept_old kept_new) all_uuids (sorted-joined (identities new) (identities old) (sorted-identities old asc_old)))
      (sorted-filter (differs kept_old kept_new) kept_uuids (sorted-joined (identities kept_new) (identities kept_old) (sorted-identities kept_old asc_kept)))
      (λ u. among_all u ∙ sym (among_kept u))

  changes-filter : (us : List ℕ) → filter is_change (map (change_at kept_old kept_new) us) ≡ map (change_at kept_old kept_new) (filter (differs kept_old kept_new) us)
  changes-filter [] = refl
  changes-filter (u ∷ us) = step (differs kept_old kept_new u) (changes-filter us) where
    step : (b : Bool) → filter is_change (map (change_at kept_old kept_new) us) ≡ map (change_at kept_old kept_new) (filter (differs kept_old kept_new) us)
        → cond b (change_at kept_old kept_new u ∷ filter is_change (map (change_at kept_old kept_new) us)) (filter is_change (map (change_at kept_old kept_new) us))
        ≡ map (change_at kept_old kept_new) (cond b (u ∷ filter (differs kept_old kept_new) us) (filter (differs kept_old kept_new) us))
    step true ih = ap (λ ts. change_at kept_old kept_new u ∷ ts) ih
    step false ih = ih

  touches_are : ascends kept_old ≡ true → filter is_change (map (change_at kept_old kept_new) all_uuids) ≡ touched kept_old kept_new
  touches_are asc_kept =
      changes-filter all_uuids ∙ ap (map (change_at kept_old kept_new)) (same_uuids asc_kept) ∙ sym (changes-filter kept_uuids)

  -- what is said of all touches is what differs between the contents
  pub said_of_kept : ascends kept_old ≡ true → notified_of_changes spec (touched old new) ≡ flat_map plain (touched kept_old kept_new)
  said_of_kept asc_kept = said_alike all_uuids ∙ ap (flat_map plain) (touches_are asc_kept)

-- ---- the cookie

-- a change is reported by one message, with a cookie and without
record NotifiedAs (cookie : CookieText) (entry_change : EntryChange) : Type 0 where
  message : SyncMessage
  plainly : plain entry_change ≡ message ∷ []
  marked : notified (Some cookie) entry_change.uuid entry_change.before entry_change.after ≡ with_cookie cookie message ∷ []

notified_as : (cookie : CookieText) (entry_change : EntryChange) → is_change entry_change ≡ true → NotifiedAs cookie entry_change
notified_as cookie entry_change change = step entry_change.before entry_change.after refl refl change where
  step : (was now : Option Entry) → entry_change.before ≡ was → entry_change.after ≡ now → not (is_one_found was now) ≡ true → NotifiedAs cookie entry_change
  step None None before after is = absurd (false≢true is)
  step (Some was) None before after is = record {
    message = Delete entry_change.uuid (name_text was.dn) None;
    plainly = λ i. notified None entry_change.uuid (before i) (after i);
    marked = λ i. notified (Some cookie) entry_change.uuid (before i) (after i);
  }
  step None (Some now) before after is = record {
    message = AddOrModify true now None;
    plainly = λ i. notified None entry_change.uuid (before i) (after i);
    marked = λ i. notified (Some cookie) entry_change.uuid (before i) (after i);
  }
  step (Some was) (Some now) before after is = record {
    message = AddOrModify false now None;
    plainly = λ i. notified None entry_change.uuid (before i) (after i);
    marked = λ i. notified (Some cookie) entry_change.uuid (before i) (after i);
  }

last_more : (cookie : CookieText) (m n : SyncMessage) (xs ns : List SyncMessage) → xs ≡ n ∷ ns → last_with_cookie cookie (m ∷ xs) ≡ m ∷ last_with_cookie cookie xs
last_more cookie m n xs ns is = ap (λ l. last_with_cookie cookie (m ∷ l)) is ∙ ap (λ l. m ∷ last_with_cookie cookie l) (sym is)

last_notified : (entry_changes : List EntryChange) (cookie : CookieText) → Each IsStep entry_changes → last_with_cookie cookie (flat_map plain entry_changes) ≡ notified_all cookie entry_changes
last_notified [] cookie steps = refl
last_notified (t ∷ []) cookie steps =
    let one : NotifiedAs cookie t = notified_as cookie t steps.0.change in
    ap (λ ms. last_with_cookie cookie (ms ++ [])) one.plainly ∙ sym one.marked
last_notified (t ∷ u ∷ entry_changes) cookie steps =
    let one : NotifiedAs cookie t = notified_as cookie t steps.0.change in
    let two : NotifiedAs cookie u = notified_as cookie u steps.1.0.change in
    ap (λ ms. last_with_cookie cookie (ms ++ flat_map plain (u ∷ entry_changes))) one.plainly
    ∙ last_more cookie one.message two.message (flat_map plain (u ∷ entry_changes)) (flat_map plain entry_changes) (ap (λ ms. ms ++ flat_map plain entry_changes) two.plainly)
    ∙ ap (λ ms. one.message ∷ ms) (last_notified (u ∷ entry_changes) cookie steps.1)
    ∙ ap (λ ms. ms ++ notified_all cookie (u ∷ entry_changes)) (sym one.plainly)

-- ---- a write of a directory

-- the messages for a search are those of its stream
pub group_is : (d : DirectoryState) (s : SearchState) (w : Write)
    → messages_for s.spec (touched (entries_of d) (entries_after d.history (d.writes ++ w ∷ []))) (cookie_text (cookie_at d.sid d.history w.csn)) ≡ group_of d s w
group_is d s w =
    ap (last_with_cookie cookie) (said_of_kept s.spec old new (ascends_now d) (ascends_now after) (ascends_filter (is_selected s.spec) old (ascends_now d)))
    ∙ last_notified (touched (select s.spec old) (select s.spec new)) cookie (each-touched (select s.spec old) (select s.spec new))
    ∙ (λ i. notified_all (cookie_is i) (touched (select s.spec (old_is i)) (select s.spec (new_is i))))
  where
    after : DirectoryState
    after = with_write d w

    old : List Entry
    old = entries_of d

    new : List Entry
    new = entries_after d.history (d.writes ++ w ∷ [])

    cookie : CookieText
    cookie = cookie_text (cookie_at d.sid d.history w.csn)

    long : length (d.writes ++ w ∷ []) ≡ length d.writes + 1
    long = omega (arith, length-append d.writes (w ∷ []))

    old_is : old ≡ state_of d.history (d.writes ++ w ∷ []) (length d.writes)
    old_is = sym (state_now d (d.writes ++ w ∷ []) (w ∷ []) refl)

    new_is : new ≡ state_of d.history (d.writes ++ w ∷ []) (length d.writes + 1)
    new_is = sym (state_now after (d.writes ++ w ∷ []) [] (append-nil (d.writes ++ w ∷ []))) ∙ ap (state_of d.history (d.writes ++ w ∷ [])) long

    cookie_is : cookie ≡ cookie_text (cookie_at d.sid d.history (last_csn (start d.sid) (take (length d.writes + 1) (d.writes ++ w ∷ []))))
    cookie_is =
        ap (λ csn. cookie_text (cookie_at d.sid d.history csn))
        (sym (last_csn-push (start d.sid) d.writes w)
        ∙ sym (csn_now after (d.writes ++ w ∷ []) [] (append-nil (d.writes ++ w ∷ [])))
        ∙ ap (λ n. last_csn (start d.sid) (take n (d.writes ++ w ∷ []))) long)
