-- What is decided of entries that can be sent can be sent, and the identities are in range.
use Rattle.std.proofs.Common.{◌≡◌, ◌+◌, ◌-◌, ℕ, zero, suc, Bool, true, false, cond, List, [], ◌∷◌, Option, Some, None, refl, ap, sym, ◌∙◌, subst}
use Rattle.std.specs.Prelude.{◌||◌, not, All, flat_map, is_some}
use Rattle.std.proofs.lemmas.List.Elements.{All-head, All-tail}
use Rattle.csn_cookie.proofs.SizeLemmas.{IsText}
use Rattle.entry_tree.specs.Bytes.{is_one_found}
use Rattle.entry_tree.specs.History.{differing_over}
use Rattle.entry_tree.specs.State.{entry_at, is_identified}
use Rattle.entry_tree.specs.Touched.{identities}
use Rattle.entry_tree.specs.declared.entry.Entry.{Entry}
use Rattle.entry_tree.specs.declared.touched.EntryChange.{EntryChange}
use Rattle.entry_tree.proofs.Changing.{own_uuid}
use Rattle.entry_tree.proofs.Taking.{among_identities}
use Rattle.sync_model.specs.Message.{CookieText}
use Rattle.sync_model.specs.Stream.{SyncOperation, Start, among, content_after, is_delete_phase, is_sent, walk, decided, decide}
use Rattle.sync_model.specs.Stream.Start.{InitialContent, DeletePhase, PresentPhase}
use Rattle.sync_model.proofs.Gather.{Each, EachD, eachd-append}
use Rattle.sync_model.proofs.Incremental.{each_among}
use Rattle.sync_model.proofs.Later.{NotifiedOne}
use Rattle.sync_model.proofs.LaterWrites.{notified_kind, IsFound}
use Rattle.sync_model.proofs.Steps.{differing, among-differing, over_none, among-over_more}
use Rattle.sync_wire.specs.CanBeSent.{CanBeSent}
use Rattle.sync_wire.specs.Law.{IsIdentity}
use Rattle.sync_wire.proofs.OfSearch.{IsOfSearch}

-- ---- what is found can be sent

-- an entry that is found among those that can be sent can be sent
pub found_sent : (entries : List Entry) (u : ℕ) (e : Entry) → entry_at entries u ≡ Some e → All CanBeSent entries → CanBeSent e
found_sent [] u e is all = let never : ⊥ = cc in absurd never
found_sent (x ∷ entries) u e is all = by (found_sent entries u e) (is_identified u x) is
  where
    by : (entry_at entries u ≡ Some e → All CanBeSent entries → CanBeSent e) → (b : Bool) → cond b (Some x) (entry_at entries u) ≡ Some e → CanBeSent e
    by later true is = let same : x ≡ e = cc in subst CanBeSent same (All-head CanBeSent x entries all)
    by later false is = later is (All-tail CanBeSent x entries all)

in_range : (entries : List Entry) (u : ℕ) → All CanBeSent entries → is_some (entry_at entries u) ≡ true → IsIdentity u
in_range entries u all there = by (entry_at entries u) refl there
  where
    by : (found : Option Entry) → entry_at entries u ≡ found → is_some found ≡ true → IsIdentity u
    by None is there = let never : ⊥ = cc in absurd never
    by (Some e) is there = subst IsIdentity (own_uuid entries u e is) (found_sent entries u e is all).identity

-- ---- the identities of a walk

differing_range : (old new : List Entry) (u : ℕ) → All CanBeSent old → All CanBeSent new → among u (differing old new) ≡ true → IsIdentity u
differing_range old new u before after there = by (entry_at old u) refl (entry_at new u) refl (sym (among-differing old new u) ∙ there)
  where
    by : (x : Option Entry) → entry_at old u ≡ x → (y : Option Entry) → entry_at new u ≡ y → not (is_one_found x y) ≡ true → IsIdentity u
    by (Some e) is y is' differs = in_range old u before (ap is_some is)
    by None is (Some e) is' differs = in_range new u after (ap is_some is')
    by None is None is' differs = let never : ⊥ = cc in absurd never

over_range : (steps : ℕ) (states : ℕ → List Entry) (from u : ℕ) → ((n : ℕ) → All CanBeSent (states n)) → among u (differing_over states from steps) ≡ true → IsIdentity u
over_range zero states from u all there = let none : among u [] ≡ true = sym (ap (among u) (over_none states from)) ∙ there in let never : ⊥ = cc in absurd never
over_range (suc steps) states from u all there =
    by (over_range steps states from u all) (among u (differing_over states from steps)) refl (sym (among-over_more states from steps u) ∙ there)
  where
    last : Bool
    last = among u (differing (states (from + steps)) (states (from + steps + 1)))

    by : (among u (differing_over states from steps) ≡ true → IsIdentity u) → (b : Bool) → among u (differing_over states from steps) ≡ b → (b || last) ≡ true → IsIdentity u
    by earlier true is either = earlier is
    by earlier false is either = differing_range (states (from + steps)) (states (from + steps + 1)) u (all (from + steps)) (all (from + steps + 1)) either

-- all identities that a refresh walks are in range where all entries can be sent
pub walk_range : (operation : SyncOperation) (start : Start) (accepted : ℕ) → ((n : ℕ) → All CanBeSent (operation.states n)) → Each IsIdentity (walk operation start accepted)
walk_range operation InitialContent accepted all =
    each_among IsIdentity (identities (operation.states accepted)) (λ u there. in_range (operation.states accepted) u (all accepted) (sym (among_identities (operation.states accepted) u) ∙ there))
walk_range operation (DeletePhase number) accepted all =
    each_among IsIdentity (differing_over operation.states number (accepted - number)) (λ u there. over_range (accepted - number) operation.states number u all there)
walk_range operation (PresentPhase number) accepted all =
    each_among IsIdentity (identities (operation.states accepted)) (λ u there. in_range (operation.states accepted) u (all accepted) (sym (among_identities (operation.states accepted) u) ∙ there))

-- ---- what is decided

one_decided : (deletes sent : Bool) (u : ℕ) (found : Option Entry) → IsIdentity u → ((e : Entry) → found ≡ Some e → CanBeSent e) → EachD CanBeSent IsIdentity (decided deletes sent u found)
one_decided deletes true u (Some e) range can = (can e refl, tt)
one_decided deletes false u (Some e) range can = (range, tt)
one_decided true sent u None range can = (range, tt)
one_decided false sent u None range can = tt

-- what is decided of a content that can be sent can be sent, with identities in range
pub each_decided : (us : List ℕ) (operation : SyncOperation) (start : Start) (mark : ℕ) → All CanBeSent (content_after operation mark) → Each IsIdentity us
    → EachD CanBeSent IsIdentity (flat_map (decide operation start mark) us)
each_decided [] operation start mark all range = tt
each_decided (u ∷ us) operation start mark all range =
    eachd-append CanBeSent IsIdentity (decide operation start mark u) (flat_map (decide operation start mark) us)
    (one_decided (is_delete_phase start) (is_sent operation start mark u) u (entry_at (content_after operation mark) u) range.0 (λ e is. found_sent (content_after operation mark) u e is all))
    (each_decided us operation start mark all range.1)

-- what is reported of a touch between entries that can be sent is a message of a search
pub notified_sent : (old new : List Entry) (cookie : Option CookieText) (entry_change : EntryChange) (one : NotifiedOne cookie entry_change) → All CanBeSent old → All CanBeSent new → IsText cookie → IsFound old new entry_change → IsOfSearch one.message
notified_sent old new cookie entry_change one before after text found =
    notified_kind IsOfSearch cookie entry_change.uuid entry_change.before entry_change.after one.message one.is
    (λ adds e is. (found_sent new entry_change.uuid e (sym found.now ∙ is) after, text))
    (λ e is.
    let at : entry_at old entry_change.uuid ≡ Some e = sym found.was ∙ is in
    let can : CanBeSent e = found_sent old entry_change.uuid e at before in
    (subst IsIdentity (own_uuid old entry_change.uuid e at) can.identity, (e.dn, can.name, refl), text))
