-- The messages of a search by their places: what each is handed out as.
use Rattle.std.proofs.Common.{◌≡◌, ℕ, ◌<◌, Bool, true, false, cond, List, [], ◌∷◌, ◌++◌, length, Some, refl, ap, sym, ◌∙◌, inl, inr, subst, append-nil}
use Rattle.std.specs.Prelude.{◌⊎◌, pos, All, filter_map}
use Rattle.ldap_constants.specs.declared.result_codes.TheConstants.{SUCCESS}
use Rattle.entry_tree.specs.declared.entry.Entry.{Entry}
use Rattle.sync_model.specs.Incremental.{sent_entry}
use Rattle.sync_model.specs.Message.{SyncMessage}
use Rattle.sync_model.specs.Stream.{SyncOperation, Start, RefreshPiece, last_mark, end_of, refresh, later, stream}
use Rattle.sync_model.proofs.Gather.{Each, each_weaker}
use Rattle.sync_model.proofs.Groups.{each_one}
use Rattle.sync_model.proofs.LaterWrites.{each_entry, place_in}
use Rattle.sync_model.proofs.NextMessages.{HasNext, Next, some_next}
use Rattle.sync_wire.specs.Sending as wire
use Rattle.sync_provider.specs.HandingOut.{turn_of_message}
use Rattle.sync_provider.specs.HandingOut.HandOut.{Hands, Closes}
use Rattle.sync_provider.proofs.Growing.{GoesOn, stream_goes}
use Rattle.sync_provider.proofs.Kept.{hands}
use Rattle.sync_provider.proofs.RefreshTaken.{late, last_deletes, part, last, follows, midst_goes}

abbrev IsHands : SyncMessage → Type 0
IsHands m = turn_of_message 1 m ≡ Hands (wire.sent 1 m)

-- ---- the next message of a search

-- it is handed out, and more may follow; or it is the end of a search that ends with its refresh
pub record IsHanded (persists : Bool) (m : SyncMessage) (rest : List SyncMessage) : Type 0 where
  pub turn : turn_of_message 1 m ≡ Hands (wire.sent 1 m)
  pub more : persists ≡ false → HasNext rest

-- or it is the last of a search that ends with its refresh
pub record IsClosing (persists : Bool) (m : SyncMessage) (rest : List SyncMessage) : Type 0 where
  pub turn : turn_of_message 1 m ≡ Closes (pos SUCCESS) (wire.sent 1 m)
  pub none : rest ≡ []
  pub ends : persists ≡ false

module _ (operation : SyncOperation) (start : Start) (opened : ℕ) (pieces : List RefreshPiece) (count : ℕ) where
  abbrev Messages : List SyncMessage
  Messages = stream operation start opened pieces count

  abbrev Part : List SyncMessage
  Part = part operation start opened pieces

  abbrev Last : SyncMessage
  Last = last operation start opened pieces

  -- of a search that goes on
  lasting : operation.persists ≡ true → Each IsHands Messages
  lasting goes = each_weaker GoesOn IsHands Messages (hands 1) (stream_goes operation start opened pieces count goes)

  closes : (deletes : Bool) (m : SyncMessage) → operation.persists ≡ false → m ≡ end_of operation.persists deletes (operation.cookies (last_mark opened pieces)) → turn_of_message 1 m ≡ Closes (pos SUCCESS) (wire.sent 1 m)
  closes deletes m ends is =
      subst (λ x. turn_of_message 1 x ≡ Closes (pos SUCCESS) (wire.sent 1 x)) (ap (λ b. end_of b deletes (operation.cookies (last_mark opened pieces))) (sym ends) ∙ sym is) refl

  -- of one that ends
  ending : operation.persists ≡ false → (earlier rest : List SyncMessage) (m : SyncMessage) → Next Part earlier Last m rest → IsHanded operation.persists m rest ⊎ IsClosing operation.persists m rest
  ending ends earlier rest m (inl is) =
      inl (record {
        turn = hands 1 m (midst_goes operation start opened pieces earlier rest m is);
        more = λ ends. subst HasNext (sym is.left) (some_next is.more Last);
      })
  ending ends earlier rest m (inr is) = inr (record { turn = closes (last_deletes operation start opened pieces (late operation start opened pieces)) m ends is.message; none = is.none; ends = ends })

  -- each message of a search is handed out, or is the end of one that ends with its refresh
  pub stream_turn : (earlier rest : List SyncMessage) (m : SyncMessage) → earlier ++ m ∷ rest ≡ Messages → IsHanded operation.persists m rest ⊎ IsClosing operation.persists m rest
  stream_turn earlier rest m whole = by operation.persists refl
    where
      none : operation.persists ≡ false → Messages ≡ refresh operation start opened pieces
      none ends = ap (λ b. refresh operation start opened pieces ++ cond b (later operation (last_mark opened pieces) count) []) ends ∙ append-nil (refresh operation start opened pieces)

      by : (persists : Bool) → operation.persists ≡ persists → IsHanded operation.persists m rest ⊎ IsClosing operation.persists m rest
      by true is = inl (record {
        turn = each_one IsHands earlier rest m (subst (Each IsHands) (sym whole) (lasting is));
        more = λ ends. let bad : true ≡ false = sym is ∙ ends in let never : ⊥ = cc in absurd never;
      })
      by false is = ending is earlier rest m (follows operation start opened pieces earlier rest m (whole ∙ none is))

  -- what holds of each entry that the refresh sends holds of one that this message sends
  pub refresh_sends : (P : Entry → Type 0) (earlier rest : List SyncMessage) (m : SyncMessage) → earlier ++ m ∷ rest ≡ Messages → length earlier < length (refresh operation start opened pieces)
      → All P (filter_map sent_entry (refresh operation start opened pieces)) → (e : Entry) → sent_entry m ≡ Some e → P e
  refresh_sends P earlier rest m whole low all e is =
      let inside = place_in earlier rest (refresh operation start opened pieces) (cond operation.persists (later operation (last_mark opened pieces) count) []) m whole low in
      each_one (λ x. (y : Entry) → sent_entry x ≡ Some y → P y) earlier inside.0 m (subst (Each (λ x. (y : Entry) → sent_entry x ≡ Some y → P y)) inside.1 (each_entry P (refresh operation start opened pieces) all)) e is
