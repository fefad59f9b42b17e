-- What a hand-out does at a consumer's port, by what it answers.
use Rattle.std.proofs.Common.{◌≡◌, ◌⊎◌, ℕ, ◌+◌, ◌-◌, ◌≤◌, Bool, true, false, cond, ℤ, pos, List, [], ◌∷◌, ◌++◌, map, take, drop, length, Option, Some, None, inl, inr, refl, sym, ap, ◌∙◌, subst, arith, append_assoc}
use Rattle.std.proofs.lemmas.List.{map-append, take-append-drop}
use Rattle.ldap_constants.specs.declared.result_codes.TheConstants.{BUSY}
use Rattle.ldap_messages.specs.Whole.{HasSpelling, MessageValue, message_octets, message_value}
use Rattle.ldap_messages.specs.declared.message.Message.{Message}
use Rattle.sync_model.specs.Message.{SyncMessage}
use Rattle.sync_model.specs.Stream.{SyncOperation, RefreshPiece, last_mark}
use Rattle.sync_model.proofs.Gather.{Each}
use Rattle.sync_model.proofs.Groups.{each_one}
use Rattle.sync_slices.specs.Slices.{all_pieces}
use Rattle.sync_provider.specs.Opened.{sliced_of}
use Rattle.sync_provider.proofs.Growing.{GoesOn, stream_goes}
use Rattle.sync_provider.proofs.Kept.{hands}
use Rattle.sync_model.specs.Message.SyncMessage.{AddOrModify, Delete, Present, IdSet, NewCookie, RefreshDelete, RefreshPresent, Done, Ignored}
use Rattle.sync_wire.specs.Sending.{sent}
use Rattle.directory_writes.specs.Directory.{DirectoryState}
use Rattle.sync_provider.specs.HandingOut.{HandOut, turn_of, turn_of_message, turn_of_pending}
use Rattle.sync_provider.specs.HandingOut.HandOut.{Hands, Closes, Waits, Unknown}
use Rattle.sync_provider.specs.Ports.{PortState, FollowedSearch, HandOutReplies, IsReplied, after_turn_in, closing_of, handed_in, ended_in, pending_in, stream_in, turn_in}
use Rattle.sync_provider.specs.Search.{busy_end}
use Rattle.sync_provider.specs.declared.handed.Handed.{Handed}
use Rattle.sync_provider.specs.declared.handed.Handed.TheVariants as handed
use Rattle.sync_provider.specs.declared.journal_note.ClosedSearch.{ClosedSearch}
use Rattle.sync_drill.specs.Delivered.{delivered, encoded, handed_by, handed_of, opened_operation, search_id, stream_at, EndedSearch}
use Rattle.sync_drill.specs.Going.{HasGoneOn}
use Rattle.sync_drill.specs.Handing.{EndsBusy, IsDone, IsHanding, MayOpen, count_of}
use Rattle.sync_drill.proofs.Going.{goes-twice, later-goes, stays}
use Rattle.sync_drill.proofs.SearchesGo.{ended-goes, handed-goes}
use Rattle.sync_drill.proofs.Handings.{ended_so, followed_now, handing-handed, handing-later, may_open-ended}
use Rattle.sync_drill.proofs.Streams.{far_taken, far_whole}

-- ---- the message of a turn

same_message : (one other : MessageValue) → Hands one ≡ Hands other → one ≡ other
same_message one other is = cc

same_end : (one other : ℤ) (value message : MessageValue) → Closes one value ≡ Closes other message → value ≡ message
same_end one other value message is = cc

hands_it : (id : ℕ) (m : SyncMessage) (value : MessageValue) → Hands value ≡ turn_of_message id m → value ≡ sent id m
hands_it id (AddOrModify adds entry cookie) value is = same_message value (sent id (AddOrModify adds entry cookie)) is
hands_it id (Delete uuid name cookie) value is = same_message value (sent id (Delete uuid name cookie)) is
hands_it id (Present uuid cookie) value is = same_message value (sent id (Present uuid cookie)) is
hands_it id (IdSet deletes uuids cookie) value is = same_message value (sent id (IdSet deletes uuids cookie)) is
hands_it id (NewCookie cookie) value is = same_message value (sent id (NewCookie cookie)) is
hands_it id (RefreshDelete done cookie) value is = same_message value (sent id (RefreshDelete done cookie)) is
hands_it id (RefreshPresent done cookie) value is = same_message value (sent id (RefreshPresent done cookie)) is
hands_it id (Done code control) value is = absurd (apart is)
  where
    apart : Hands value ≡ Closes code (sent id (Done code control)) → ⊥
    apart e = cc
hands_it id Ignored value is = same_message value (sent id Ignored) is

goes : (code : ℤ) (value message : MessageValue) → Closes code value ≡ Hands message → ⊥
goes code value message is = cc

closes_it : (id : ℕ) (m : SyncMessage) (code : ℤ) (value : MessageValue) → Closes code value ≡ turn_of_message id m → value ≡ sent id m
closes_it id (AddOrModify adds entry cookie) code value is = absurd (goes code value (sent id (AddOrModify adds entry cookie)) is)
closes_it id (Delete uuid name cookie) code value is = absurd (goes code value (sent id (Delete uuid name cookie)) is)
closes_it id (Present uuid cookie) code value is = absurd (goes code value (sent id (Present uuid cookie)) is)
closes_it id (IdSet deletes uuids cookie) code value is = absurd (goes code value (sent id (IdSet deletes uuids cookie)) is)
closes_it id (NewCookie cookie) code value is = absurd (goes code value (sent id (NewCookie cookie)) is)
closes_it id (RefreshDelete done cookie) code value is = absurd (goes code value (sent id (RefreshDelete done cookie)) is)
closes_it id (RefreshPresent done cookie) code value is = absurd (goes code value (sent id (RefreshPresent done cookie)) is)
closes_it id (Done found control) code value is = same_end code found value (sent id (Done found control)) is
closes_it id Ignored code value is = absurd (goes code value (sent id Ignored) is)

-- the message of its Stream that comes next, where no write was too much
record IsNext (d : DirectoryState) (f : FollowedSearch) (value : MessageValue) : Type 0 where
  pub in_time : f.over ≡ false
  pub first : SyncMessage
  pub rest : List SyncMessage
  pub left : drop f.handed (stream_in d f) ≡ first ∷ rest
  pub is : value ≡ sent f.opened.id first

-- the end with the code busy, where a write was too much
record IsBusy (f : FollowedSearch) (value : MessageValue) : Type 0 where
  pub late : f.over ≡ true
  pub is : value ≡ sent f.opened.id busy_end

module _ (d : DirectoryState) (f : FollowedSearch) where
  abbrev left : List SyncMessage
  left = drop f.handed (stream_in d f)

  -- the turn, by whether a write was too much and by what is left
  turn_by : (b : Bool) → f.over ≡ b → turn_in d (Some f) ≡ turn_of_pending f.opened.id (cond b (busy_end ∷ []) left)
  turn_by b is = ap (λ over. turn_of_pending f.opened.id (cond over (busy_end ∷ []) left)) is

  turn_left : (messages : List SyncMessage) → f.over ≡ false → left ≡ messages → turn_in d (Some f) ≡ turn_of_pending f.opened.id messages
  turn_left messages off is = turn_by false off ∙ ap (turn_of_pending f.opened.id) is

  next_of : (value : MessageValue) → Hands value ≡ turn_in d (Some f) → IsNext d f value
  next_of value turn = by f.over refl left refl
    where
      late : Hands value ≡ Closes (pos BUSY) (sent f.opened.id busy_end) → ⊥
      late e = cc

      none : Hands value ≡ Waits → ⊥
      none e = cc

      by : (b : Bool) → f.over ≡ b → (messages : List SyncMessage) → left ≡ messages → IsNext d f value
      by true on messages is = absurd (late (turn ∙ turn_by true on))
      by false off [] is = absurd (none (turn ∙ turn_left [] off is))
      by false off (first ∷ rest) is = record {
        in_time = off;
        first = first;
        rest = rest;
        left = is;
        is = hands_it f.opened.id first value (turn ∙ turn_left (first ∷ rest) off is);
      }

  end_next : (code : ℤ) (value : MessageValue) → Closes code value ≡ turn_in d (Some f) → IsNext d f value ⊎ IsBusy f value
  end_next code value turn = by f.over refl left refl
    where
      none : Closes code value ≡ Waits → ⊥
      none e = cc

      by : (b : Bool) → f.over ≡ b → (messages : List SyncMessage) → left ≡ messages → IsNext d f value ⊎ IsBusy f value
      by true on messages is = inr (record { late = on; is = closes_it f.opened.id busy_end code value (turn ∙ turn_by true on) })
      by false off [] is = absurd (none (turn ∙ turn_left [] off is))
      by false off (first ∷ rest) is =
          inl
          (record {
            in_time = off;
            first = first;
            rest = rest;
            left = is;
            is = closes_it f.opened.id first code value (turn ∙ turn_left (first ∷ rest) off is);
          })

  -- where nothing is pending all was handed out
  none_left : Waits ≡ turn_in d (Some f) → (f.over ≡ false) × (left ≡ [])
  none_left turn = by f.over refl left refl
    where
      late : Waits ≡ Closes (pos BUSY) (sent f.opened.id busy_end) → ⊥
      late e = cc

      some : (m : SyncMessage) → Waits ≡ turn_of_message f.opened.id m → ⊥
      some (AddOrModify adds entry cookie) e = cc
      some (Delete uuid name cookie) e = cc
      some (Present uuid cookie) e = cc
      some (IdSet deletes uuids cookie) e = cc
      some (NewCookie cookie) e = cc
      some (RefreshDelete done cookie) e = cc
      some (RefreshPresent done cookie) e = cc
      some (Done code control) e = cc
      some Ignored e = cc

      by : (b : Bool) → f.over ≡ b → (messages : List SyncMessage) → left ≡ messages → (f.over ≡ false) × (left ≡ [])
      by true on messages is = absurd (late (turn ∙ turn_by true on))
      by false off [] is = (off, is)
      by false off (first ∷ rest) is = absurd (some first (turn ∙ turn_left (first ∷ rest) off is))

  -- a search that goes on after its refresh sends no end of its own
  not_yet : f.opened.persists ≡ true → (code : ℤ) (value : MessageValue) → IsNext d f value → Closes code value ≡ turn_in d (Some f) → ⊥
  not_yet goes code value next turn = bad (turn ∙ turn_left (next.first ∷ next.rest) next.in_time next.left ∙ hands f.opened.id next.first (each_one GoesOn earlier next.rest next.first (subst (Each GoesOn) (sym whole) all)))
    where
      operation : SyncOperation
      operation = opened_operation d f.opened

      pieces : List RefreshPiece
      pieces = all_pieces (sliced_of d f.opened) f.marks (length d.writes)

      all : Each GoesOn (stream_in d f)
      all = stream_goes operation f.opened.start f.opened.accepted pieces (length d.writes - last_mark f.opened.accepted pieces) goes

      earlier : List SyncMessage
      earlier = take f.handed (stream_in d f)

      whole : earlier ++ next.first ∷ next.rest ≡ stream_in d f
      whole = ap (λ rest. earlier ++ rest) (sym next.left) ∙ take-append-drop f.handed (stream_in d f)

      bad : Closes code value ≡ Hands (sent f.opened.id next.first) → ⊥
      bad e = cc

-- what is sent is of the grammar of messages
sent_spelled : (id : ℕ) (m : SyncMessage) → id ≤ 2147483647 → HasSpelling (sent id m)
sent_spelled id (AddOrModify adds entry cookie) small = (small, tt)
sent_spelled id (Delete uuid name cookie) small = (small, tt)
sent_spelled id (Present uuid cookie) small = (small, tt)
sent_spelled id (IdSet deletes uuids cookie) small = (small, tt)
sent_spelled id (NewCookie cookie) small = (small, tt)
sent_spelled id (RefreshDelete done cookie) small = (small, tt)
sent_spelled id (RefreshPresent done cookie) small = (small, tt)
sent_spelled id (Done code control) small = (small, tt)
sent_spelled id Ignored small = (small, tt)

-- ---- what becomes of the port

turn_goes : (p : PortState) (search : ℕ) (f : Option FollowedSearch) (turn : Option HandOut) (new : PortState)
    → new ≡ after_turn_in p search f turn → HasGoneOn p new
turn_goes p search f None new is = subst (HasGoneOn p) (sym is) (stays p)
turn_goes p search None (Some turn) new is = subst (HasGoneOn p) (sym is) (stays p)
turn_goes p search (Some f) (Some (Hands message)) new is = subst (HasGoneOn p) (sym is) (handed-goes p search f)
turn_goes p search (Some f) (Some (Closes code message)) new is =
    subst (HasGoneOn p) (sym is) (ended-goes p search (closing_of search f))
turn_goes p search (Some f) (Some Waits) new is = subst (HasGoneOn p) (sym is) (stays p)
turn_goes p search (Some f) (Some Unknown) new is = subst (HasGoneOn p) (sym is) (stays p)

-- whatever was handed out
pub handed_out-goes : (search : ℕ) (old new : PortState) (result : Handed) → IsReplied old (λ p. HandOutReplies p search result new)
    → HasGoneOn old new
handed_out-goes search old new result replied =
    goes-twice old replied.place new (later-goes old replied.place replied.later)
    (turn_goes replied.place search (replied.place.followed search) (turn_of result) new replied.replies.state)

not_unknown : (message : MessageValue) → Unknown ≡ Hands message → ⊥
not_unknown message e = cc

known_message : (id : ℕ) (m : SyncMessage) → Unknown ≡ turn_of_message id m → ⊥
known_message id (AddOrModify adds entry cookie) is = not_unknown (sent id (AddOrModify adds entry cookie)) is
known_message id (Delete uuid name cookie) is = not_unknown (sent id (Delete uuid name cookie)) is
known_message id (Present uuid cookie) is = not_unknown (sent id (Present uuid cookie)) is
known_message id (IdSet deletes uuids cookie) is = not_unknown (sent id (IdSet deletes uuids cookie)) is
known_message id (NewCookie cookie) is = not_unknown (sent id (NewCookie cookie)) is
known_message id (RefreshDelete done cookie) is = not_unknown (sent id (RefreshDelete done cookie)) is
known_message id (RefreshPresent done cookie) is = not_unknown (sent id (RefreshPresent done cookie)) is
known_message id (Done code control) is = apart is
  where
    apart : Unknown ≡ Closes code (sent id (Done code control)) → ⊥
    apart e = cc
known_message id Ignored is = not_unknown (sent id Ignored) is

-- the turn of a search that is open
known_turn : (id : ℕ) (messages : List SyncMessage) → Unknown ≡ turn_of_pending id messages → ⊥
known_turn id [] is = apart is
  where
    apart : Unknown ≡ Waits → ⊥
    apart e = cc
known_turn id (m ∷ messages) is = known_message id m is

module _ (consumer search : ℕ) (old new : PortState) (items : List (List ℕ)) (h : IsHanding consumer search old items) where
  abbrev octets : Message → List ℕ
  octets message = message_octets (message_value message)

  -- a message, after which the search goes on
  pub handing-message : (message : Message) → IsReplied old (λ p. HandOutReplies p search (handed.Message message) new)
      → IsHanding consumer search new (items ++ octets message ∷ [])
  handing-message message replied =
      let p : PortState = replied.place in
      let now : IsHanding consumer search p items = handing-later consumer search old p items replied.later h in
      let f : FollowedSearch = followed_now consumer search p items now in
      let next : IsNext p.directory f (message_value message) =
      next_of p.directory f (message_value message) (replied.replies.turn ∙ ap (turn_in p.directory) now.follows) in
      let state : new ≡ handed_in p search f =
      replied.replies.state ∙ ap (λ found. after_turn_in p search found (Some (Hands (message_value message)))) now.follows in
      let same : encoded (search_id, next.first) ≡ octets message =
      ap message_octets (ap (λ id. sent id next.first) (sym now.asked.id) ∙ sym next.is) in
      subst (λ item. IsHanding consumer search new (items ++ item ∷ [])) same
      (subst (λ q. IsHanding consumer search q (items ++ encoded (search_id, next.first) ∷ [])) (sym state)
      (handing-handed consumer search p items now next.first next.rest next.left))

  small_id : (p : PortState) (now : IsHanding consumer search p items) → now.opening.id ≤ 2147483647
  small_id p now = subst (λ n. n ≤ 2147483647) (sym now.asked.id) (omega arith)

  -- a message that is handed out has an encoding
  pub message_spelled : (message : Message) → IsReplied old (λ p. HandOutReplies p search (handed.Message message) new)
      → HasSpelling (message_value message)
  message_spelled message replied =
      let p : PortState = replied.place in
      let now : IsHanding consumer search p items = handing-later consumer search old p items replied.later h in
      let f : FollowedSearch = followed_now consumer search p items now in
      let next : IsNext p.directory f (message_value message) =
      next_of p.directory f (message_value message) (replied.replies.turn ∙ ap (turn_in p.directory) now.follows) in
      subst HasSpelling (sym next.is) (sent_spelled f.opened.id next.first (small_id p now))

  -- so has the end of the search
  pub end_spelled : (code : ℕ) (message : Message) → IsReplied old (λ p. HandOutReplies p search (handed.Ended code message) new)
      → HasSpelling (message_value message)
  end_spelled code message replied =
      by (end_next p.directory f (pos code) (message_value message) (replied.replies.turn ∙ ap (turn_in p.directory) now.follows))
    where
      p : PortState
      p = replied.place

      now : IsHanding consumer search p items
      now = handing-later consumer search old p items replied.later h

      f : FollowedSearch
      f = followed_now consumer search p items now

      by : IsNext p.directory f (message_value message) ⊎ IsBusy f (message_value message) → HasSpelling (message_value message)
      by (inl next) = subst HasSpelling (sym next.is) (sent_spelled f.opened.id next.first (small_id p now))
      by (inr busy) = subst HasSpelling (sym busy.is) (sent_spelled f.opened.id busy_end (small_id p now))

  -- no call finds its search gone
  pub never_unknown : IsReplied old (λ p. HandOutReplies p search handed.NoSuchSearch new) → ⊥
  never_unknown replied =
      let p : PortState = replied.place in
      let now : IsHanding consumer search p items = handing-later consumer search old p items replied.later h in
      let f : FollowedSearch = followed_now consumer search p items now in
      known_turn f.opened.id (pending_in p.directory f) (replied.replies.turn ∙ ap (turn_in p.directory) now.follows)

  -- nothing is pending
  pub done-waiting : IsReplied old (λ p. HandOutReplies p search handed.Nothing new) → IsDone consumer search new items
  done-waiting replied =
      let p : PortState = replied.place in
      let now : IsHanding consumer search p items = handing-later consumer search old p items replied.later h in
      let f : FollowedSearch = followed_now consumer search p items now in
      let all : (f.over ≡ false) × (drop f.handed (stream_in p.directory f) ≡ []) =
      none_left p.directory f (replied.replies.turn ∙ ap (turn_in p.directory) now.follows) in
      let state : new ≡ p = replied.replies.state ∙ ap (λ found. after_turn_in p search found (Some Waits)) now.follows in
      subst (λ q. IsDone consumer search q items) (sym state)
      (record { handing = now; fits = all.0; whole = far_whole p.directory now.opening now.marks now.handed now.far all.1 })

  -- the end of the search comes where a write was too much for it
  pub may_open-closed : (code : ℕ) (message : Message) → IsReplied old (λ p. HandOutReplies p search (handed.Ended code message) new)
      → MayOpen consumer new (items ++ octets message ∷ [])
  may_open-closed code message replied = by which
    where
      p : PortState
      p = replied.place

      now : IsHanding consumer search p items
      now = handing-later consumer search old p items replied.later h

      f : FollowedSearch
      f = followed_now consumer search p items now

      end : ClosedSearch
      end = closing_of search f

      stream : List SyncMessage
      stream = stream_at p.directory now.opening now.marks

      turn : Closes (pos code) (message_value message) ≡ turn_in p.directory (Some f)
      turn = replied.replies.turn ∙ ap (turn_in p.directory) now.follows

      which : IsNext p.directory f (message_value message) ⊎ IsBusy f (message_value message)
      which = end_next p.directory f (pos code) (message_value message) turn

      state : new ≡ ended_in p search end
      state =
          replied.replies.state
          ∙ ap (λ found. after_turn_in p search found (Some (Closes (pos code) (message_value message)))) now.follows

      numbered : List SyncMessage → List (ℕ × SyncMessage)
      numbered = map (λ m. (search_id, m))

      late_over : f.over ≡ true → end.over ≡ Some f.handed
      late_over on = ap (λ b. cond {A = Option ℕ} b (Some f.handed) None) on

      ended : EndedSearch
      ended = ended_so consumer search p items now end

      -- what it handed out, and the end
      given : (busy : IsBusy f (message_value message)) → items ++ octets message ∷ [] ≡ map encoded (delivered p.directory now.ended ++ handed_by p.directory ended)
      given busy =
          let all : handed_of end.over end.handed stream ≡ now.handed ++ busy_end ∷ [] =
          ap (λ over. handed_of over end.handed stream) (late_over busy.late)
          ∙ (let one : f.handed + 1 - f.handed ≡ 1 = omega arith in ap (λ n. take f.handed stream ++ take n (busy_end ∷ [])) one)
          ∙ ap (λ messages. messages ++ busy_end ∷ []) (far_taken p.directory now.opening now.marks now.handed now.far) in
          ap (λ item. items ++ item ∷ []) (ap message_octets (busy.is ∙ ap (λ id. sent id busy_end) now.asked.id))
          ∙ ap (λ before. before ++ encoded (search_id, busy_end) ∷ []) now.offered_is
          ∙ sym (map-append encoded (delivered p.directory now.ended ++ numbered now.handed) ((search_id, busy_end) ∷ []))
          ∙ ap (map encoded)
          (append_assoc (delivered p.directory now.ended) (numbered now.handed) ((search_id, busy_end) ∷ [])
          ∙ ap (λ messages. delivered p.directory now.ended ++ messages)
          (sym (map-append (λ one. (search_id, one)) now.handed (busy_end ∷ []))
          ∙ ap numbered (sym all)
          ∙ ap (λ id. map (λ one. (id, one)) (handed_of end.over end.handed stream)) (sym now.asked.id)))

      ends : (busy : IsBusy f (message_value message)) → EndsBusy consumer p.directory ended
      ends busy = record {
        ended = record { number = now.its_number; handed = now.handed; far = now.far; counted = ap (λ over. count_of over end.handed) (sym (late_over busy.late)) };
        asked = now.asked;
        before = f.handed;
        over = late_over busy.late;
        handed = refl;
      }

      by : IsNext p.directory f (message_value message) ⊎ IsBusy f (message_value message) → MayOpen consumer new (items ++ octets message ∷ [])
      by (inr busy) =
          subst (λ q. MayOpen consumer q (items ++ octets message ∷ [])) (sym state)
          (may_open-ended consumer search p items now end (items ++ octets message ∷ []) refl (ends busy) (given busy))
      by (inl next) = absurd (not_yet p.directory f now.asked.goes_on (pos code) (message_value message) next turn)
