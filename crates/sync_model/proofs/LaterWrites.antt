-- The messages of later writes by their places: which write each is of, and what it is about.
use Rattle.std.proofs.Common.{◌≡◌, ℕ, zero, suc, ◌+◌, ◌≤◌, Bool, true, false, cond, List, [], ◌∷◌, ◌++◌, Option, Some, None, refl, ap, sym, ◌∙◌, inl, inr, arith, subst, append_assoc, append-nil, ◌<◌, length}
use Rattle.std.specs.Prelude.{◌⊎◌, map, filter, All, filter_map}
use Rattle.std.specs.List.{cons_option}
use Rattle.std.proofs.lemmas.List.{length-append}
use Rattle.std.proofs.lemmas.List.Elements.{All-head, All-tail}
use Rattle.dn_names.specs.Writing.{name_text}
use Rattle.dn_names.proofs.KeyTexts.{not_empty}
use Rattle.entry_tree.specs.State.{entry_at}
use Rattle.entry_tree.specs.Touched.{identities, joined, change_at, is_change, touched}
use Rattle.entry_tree.specs.declared.entry.Entry.{Entry}
use Rattle.entry_tree.specs.declared.touched.EntryChange.{EntryChange}
use Rattle.sync_model.specs.Incremental.{sent_entry, about}
use Rattle.sync_model.specs.Message.{CookieText, SyncMessage}
use Rattle.sync_model.specs.Message.SyncMessage.{AddOrModify, Delete}
use Rattle.sync_model.specs.Stream.{SyncOperation, notified, notified_all, group, later}
use Rattle.sync_model.proofs.Gather.{Each}
use Rattle.sync_model.proofs.Groups.{heads, tails}
use Rattle.sync_model.proofs.Later.{IsStep, NotifiedOne, notified_one}
use Rattle.sync_model.proofs.Taking.{IsOwn}

-- ---- later writes from the first of them on

-- what later writes report is what the first of them reports, and then what the others report
pub later-first : (more : ℕ) (operation : SyncOperation) (number : ℕ) → later operation number (suc more) ≡ group operation number ++ later operation (number + 1) more
later-first zero operation number =
    let same : number + 0 ≡ number = omega arith in
    ap (group operation) same ∙ sym (append-nil (group operation number))
later-first (suc more) operation number =
    let same : number + suc more ≡ number + 1 + more = omega arith in
    (λ i. later-first more operation number i ++ group operation (same i))
    ∙ append_assoc (group operation number) (later operation (number + 1) more) (group operation (number + 1 + more))

-- ---- what each message of a write is

-- what is reported of one identity is one message: its entry where it has one then, or that it is gone where it had one before
pub notified_kind : (Q : SyncMessage → Type 0) (cookie : Option CookieText) (uuid : ℕ) (was now : Option Entry) (m : SyncMessage) → notified cookie uuid was now ≡ m ∷ []
    → ((adds : Bool) (e : Entry) → now ≡ Some e → Q (AddOrModify adds e cookie)) → ((e : Entry) → was ≡ Some e → Q (Delete uuid (name_text e.dn) cookie)) → Q m
notified_kind Q cookie uuid None None m is puts gone = let never : ⊥ = cc in absurd never
notified_kind Q cookie uuid (Some was) None m is puts gone = let same : Delete uuid (name_text was.dn) cookie ≡ m = cc in subst Q same (gone was refl)
notified_kind Q cookie uuid None (Some now) m is puts gone = let same : AddOrModify true now cookie ≡ m = cc in subst Q same (puts true now refl)
notified_kind Q cookie uuid (Some was) (Some now) m is puts gone = let same : AddOrModify false now cookie ≡ m = cc in subst Q same (puts false now refl)

-- a touch has what its identity had before, and what it has then
pub record IsFound (old new : List Entry) (entry_change : EntryChange) : Type 0 where
  pub was : entry_change.before ≡ entry_at old entry_change.uuid
  pub now : entry_change.after ≡ entry_at new entry_change.uuid

-- each of the touches between two lists of entries has what both have of its identity
pub each-found : (old new : List Entry) → Each (IsFound old new) (touched old new)
each-found old new = go (joined (identities old) (identities new))
  where
    go : (uuids : List ℕ) → Each (IsFound old new) (filter is_change (map (change_at old new) uuids))
    go [] = tt
    go (uuid ∷ uuids) = step (is_change (change_at old new uuid)) (go uuids)
      where
        step : (b : Bool) → Each (IsFound old new) (filter is_change (map (change_at old new) uuids))
            → Each (IsFound old new) (cond b (change_at old new uuid ∷ filter is_change (map (change_at old new) uuids)) (filter is_change (map (change_at old new) uuids)))
        step true rest = (record { was = refl; now = refl }, rest)
        step false rest = rest

-- ---- places

-- before the end of the first of two lists
abbrev IsIn : {X : Type 0} → List X → List X → X → Type 0
IsIn {X} earlier xs x = (more : List X) × (xs ≡ earlier ++ x ∷ more)

-- or in the second
pub record IsAfter {X : Type 0} (earlier rest xs ys : List X) (x : X) : Type 0 where
  pub over : List X
  pub prefix : earlier ≡ xs ++ over
  pub place : over ++ x ∷ rest ≡ ys

place_of : {X : Type 0} (earlier rest xs ys : List X) (x : X) → earlier ++ x ∷ rest ≡ xs ++ ys → IsIn earlier xs x ⊎ IsAfter earlier rest xs ys x
place_of earlier rest [] ys x same = inr (record { over = earlier; prefix = refl; place = same })
place_of [] rest (y ∷ xs) ys x same = inl (xs, ap (λ z. z ∷ xs) (sym (heads x y rest (xs ++ ys) same)))
place_of (z ∷ earlier) rest (y ∷ xs) ys x same =
    under (heads z y (earlier ++ x ∷ rest) (xs ++ ys) same) (place_of earlier rest xs ys x (tails z y (earlier ++ x ∷ rest) (xs ++ ys) same))
  where
    under : z ≡ y → IsIn earlier xs x ⊎ IsAfter earlier rest xs ys x → IsIn (z ∷ earlier) (y ∷ xs) x ⊎ IsAfter (z ∷ earlier) rest (y ∷ xs) ys x
    under first (inl is) = inl (is.0, λ i. sym first i ∷ is.1 i)
    under first (inr is) = inr (record { over = is.over; prefix = (λ i. first i ∷ is.prefix i); place = is.place })

-- a place below the length of the first of two lists is in that one
pub place_in : {X : Type 0} (earlier rest xs ys : List X) (x : X) → earlier ++ x ∷ rest ≡ xs ++ ys → length earlier < length xs → IsIn earlier xs x
place_in earlier rest xs ys x same low = by (place_of earlier rest xs ys x same)
  where
    by : IsIn earlier xs x ⊎ IsAfter earlier rest xs ys x → IsIn earlier xs x
    by (inl is) = is
    by (inr is) = absurd (omega (arith, low, ap length is.prefix, length-append xs is.over))

-- a place not below the length of the first of two lists is in the second
pub place_after : {X : Type 0} (earlier rest xs ys : List X) (x : X) → earlier ++ x ∷ rest ≡ xs ++ ys → length xs ≤ length earlier → IsAfter earlier rest xs ys x
place_after earlier rest xs ys x same high = by (place_of earlier rest xs ys x same)
  where
    by : IsIn earlier xs x ⊎ IsAfter earlier rest xs ys x → IsAfter earlier rest xs ys x
    by (inl is) = absurd (omega (arith, high, ap length is.1, length-append earlier (x ∷ is.0)))
    by (inr is) = is

-- what holds of an entry that is sent
pub each_entry : (P : Entry → Type 0) (ms : List SyncMessage) → All P (filter_map sent_entry ms) → Each (λ m. (e : Entry) → sent_entry m ≡ Some e → P e) ms
each_entry P [] all = tt
each_entry P (m ∷ ms) all = (λ e is. first (sent_entry m) all e is, each_entry P ms (others (sent_entry m) all))
  where
    first : (found : Option Entry) → All P (cons_option found (filter_map sent_entry ms)) → (e : Entry) → found ≡ Some e → P e
    first None all e is = let never : ⊥ = cc in absurd never
    first (Some x) all e is = let same : x ≡ e = cc in subst P same (All-head P x (filter_map sent_entry ms) all)

    others : (found : Option Entry) → All P (cons_option found (filter_map sent_entry ms)) → All P (filter_map sent_entry ms)
    others None all = all
    others (Some x) all = All-tail P x (filter_map sent_entry ms) all

-- ---- later writes

-- what holds of what is reported of each touch holds of what a write reports
pub all_notified : (Q : SyncMessage → Type 0) (R : EntryChange → Type 0) (entry_changes : List EntryChange) (cookie : CookieText)
    → ((text : Option CookieText) (t : EntryChange) (one : NotifiedOne text t) → IsStep t → R t → Q one.message) → Each IsStep entry_changes → Each R entry_changes → Each Q (notified_all cookie entry_changes)
all_notified Q R [] cookie h steps each = tt
all_notified Q R (t ∷ []) cookie h steps each =
    let one = notified_one (Some cookie) t steps.0 in
    subst (Each Q) (sym one.is) (h (Some cookie) t one steps.0 each.0, tt)
all_notified Q R (t ∷ next ∷ entry_changes) cookie h steps each =
    let one = notified_one None t steps.0 in
    subst (λ ms. Each Q (ms ++ notified_all cookie (next ∷ entry_changes))) (sym one.is)
    (h None t one steps.0 each.0, all_notified Q R (next ∷ entry_changes) cookie h steps.1 each.1)

-- each message of a touch is about its identity
pub about_touch : (text : Option CookieText) (t : EntryChange) (one : NotifiedOne text t) → IsStep t → about one.message ≡ t.uuid ∷ []
about_touch text t one step =
    notified_kind (λ m. about m ≡ t.uuid ∷ []) text t.uuid t.before t.after one.message one.is
    (λ adds e is. ap (λ u. u ∷ []) (own t.after e is step.own)) (λ e is. refl)
  where
    own : (now : Option Entry) (e : Entry) → now ≡ Some e → IsOwn t.uuid now → e.uuid ≡ t.uuid
    own None e is own' = let never : ⊥ = cc in absurd never
    own (Some x) e is own' = let same : x ≡ e = cc in ap (λ (y : Entry). y.uuid) (sym same) ∙ own'

-- a place among what later writes report is among what one of them reports
pub record IsOfWrite (operation : SyncOperation) (from count : ℕ) (earlier : List SyncMessage) (m : SyncMessage) : Type 0 where
  pub passed : ℕ
  pub upto : passed < count
  pub prefix : List SyncMessage
  pub place : earlier ≡ later operation from passed ++ prefix
  pub rest : List SyncMessage
  pub notified : prefix ++ m ∷ rest ≡ group operation (from + passed)

-- each message that later writes report is one of those of one of these writes
pub of_write : (count : ℕ) (operation : SyncOperation) (from : ℕ) (earlier rest : List SyncMessage) (m : SyncMessage) → earlier ++ m ∷ rest ≡ later operation from count → IsOfWrite operation from count earlier m
of_write zero operation from earlier rest m same = absurd (not_empty earlier rest m same)
of_write (suc count) operation from earlier rest m same =
    by (λ more is. of_write count operation from earlier more m is) (place_of earlier rest (later operation from count) (group operation (from + count)) m same)
  where
    by : ((more : List SyncMessage) → earlier ++ m ∷ more ≡ later operation from count → IsOfWrite operation from count earlier m)
        → IsIn earlier (later operation from count) m ⊎ IsAfter earlier rest (later operation from count) (group operation (from + count)) m → IsOfWrite operation from (suc count) earlier m
    by before (inl is) =
        let own = before is.0 (sym is.1) in
        record { passed = own.passed; upto = omega (arith, own.upto); prefix = own.prefix; place = own.place; rest = own.rest; notified = own.notified }
    by before (inr is) = record { passed = count; upto = omega arith; prefix = is.over; place = is.prefix; rest = rest; notified = is.place }
