-- What a copy is that asked for a search without a cookie and took messages of it, up to all of them.
use Rattle.std.proofs.Common.{◌≡◌, ◌+◌, ℕ, true, false, cond, List, [], ◌∷◌, ◌++◌, None, refl, ap, sym, ◌∙◌, inl, inr, subst, append_assoc, append-nil}
use Rattle.std.specs.Prelude.{◌⊎◌, All, pos}
use Rattle.std.specs.List.{AllZip}
use Rattle.ldap_constants.specs.declared.result_codes.TheConstants.{BUSY}
use Rattle.csn_cookie.specs.Cookie.{cookie_text}
use Rattle.csn_cookie.specs.declared.cookie.Cookie as csns
use Rattle.entry_tree.specs.State.{ascends}
use Rattle.entry_tree.specs.declared.entry.Entry.{Entry}
use Rattle.ldap_messages.specs.declared.message.Message.{Message}
use Rattle.sync_model.specs.Copy.{Copy, Answer, asked}
use Rattle.sync_model.specs.Copy as model
use Rattle.sync_model.specs.Copy.Fault.{StageFull}
use Rattle.sync_model.specs.Law.{Ascending, IsCut, IsWithinLimits, MayBegin}
use Rattle.sync_model.specs.Message.{SyncMessage}
use Rattle.sync_model.specs.Stream.{SyncOperation, Start, RefreshPiece, content_after, last_mark, refresh, later, stream}
use Rattle.sync_model.specs.Within.{taken_within}
use Rattle.sync_model.proofs.Refresh.{ascends-content}
use Rattle.sync_wire.specs.CanBeSent.{CanBeSent}
use Rattle.sync_consumer.specs.Taking.{taken_of}
use Rattle.sync_provider.specs.Search.{busy_end}
use Rattle.sync_provider.proofs.Coming.{TakesOne, StagesOne, StoresOne, FillsOne, IsOver, one_comes}
use Rattle.sync_provider.proofs.Past.{none_left, group_filled}
use Rattle.sync_provider.proofs.RefreshTaken.{refresh_some, none_met}
use Rattle.sync_provider.proofs.Whereabouts.{AtWhole, InGroup, IsPast, IsWhere, HasSession, where_session}
use Rattle.sync_drill.specs.Delivered.{IsReadFrom, WasTaken, WereTaken, encoded, with_search, after_message, copy_after}
use Rattle.sync_drill.proofs.SentTaken.{read_is, takes_sent, never_taken, busy_is_of_search, busy_over}

-- the second is read from the encoding of the first
abbrev pub IsReadOf : SyncMessage → Message → Type 0
IsReadOf m message = IsReadFrom (encoded (1, m)) message

-- a copy without a search has its entries in ascending order of identity
pub record IsAtRest (copy : Copy) : Type 0 where
  pub none : copy.session ≡ None
  pub rises : ascends copy.held ≡ true

not_none : (m : SyncMessage) (rest more : List SyncMessage) → [] ≡ (m ∷ rest) ++ more → ⊥
not_none m rest more same = cc

-- a message that is taken by the search that runs, or by a new one where none does
abbrev pub Fits : Copy → Message → Type 0
Fits copy message = WasTaken (taken_of (with_search copy.session copy) message).1

module _ (operation : SyncOperation) (ascending : Ascending operation) (within : (number : ℕ) → IsWithinLimits (operation.states number)) (sent : (number : ℕ) → All CanBeSent (operation.states number))
    (texts : (number : ℕ) → (cookie : csns.Cookie) × (operation.cookies number ≡ cookie_text cookie)) (start : Start) (opened : ℕ) (pieces : List RefreshPiece) (cut : IsCut operation start opened pieces) (count : ℕ)
    (persists : operation.persists ≡ true) where
  -- the number of writes at the last piece
  abbrev last : ℕ
  last = last_mark opened pieces

  -- where a copy is in them that took the first and not yet the second
  pub record Reaches (held : Copy) (taken ahead : List SyncMessage) : Type 0 where
    pub entries : List Entry
    pub rises : ascends entries ≡ true
    pub place : IsWhere operation start opened pieces count entries held taken ahead

  -- ---- one message

  module _ (held : Copy) (taken ahead : List SyncMessage) (m : SyncMessage) (message : Message) (at : Reaches held taken (m ∷ ahead)) (is : IsReadOf m message) (fits : Fits held message) where
    next : TakesOne operation ascending within sent texts start opened pieces cut count at.entries held taken m ahead
    next = one_comes operation ascending within sent texts start opened pieces cut count at.entries held taken ahead m at.rises at.place

    runs : HasSession operation.persists held
    runs = where_session operation start opened pieces count at.entries held taken (m ∷ ahead) at.place

    same : after_message held message ≡ (taken_within 1 held m).0
    same =
        ap (λ session. (taken_of (with_search session held) message).0) runs.runs
        ∙ takes_sent held runs.session m message runs.runs runs.id next.can (read_is m next.can message is)

    stored : (s : StoresOne operation ascending within sent texts start opened pieces cut count at.entries ahead (taken_within 1 held m))
        → IsPast operation last count (content_after operation s.stored.number) (taken_within 1 held m).0 ahead ⊎ IsOver operation ascending within sent texts start opened pieces cut count ahead (taken_within 1 held m).0
        → Reaches (taken_within 1 held m).0 (taken ++ m ∷ []) ahead
    stored s (inl past) = record { entries = content_after operation s.stored.number; rises = ascends-content operation ascending s.stored.number; place = inr past }
    stored s (inr over) =
        let bad : true ≡ false = sym persists ∙ over.ends in
        let never : ⊥ = cc in
        absurd never

    -- it did not fill the stage, since it was taken
    filled : FillsOne operation ascending within sent texts start opened pieces cut count at.entries held taken m → ⊥
    filled full =
        never_taken held runs.session m message StageFull runs.runs runs.id next.can (read_is m next.can message is) full.refused
        (subst (λ session. WasTaken (taken_of (with_search session held) message).1) runs.runs fits)

    came : StagesOne operation ascending within sent texts start opened pieces cut count at.entries held (taken ++ m ∷ []) ahead (taken_within 1 held m)
        ⊎ (StoresOne operation ascending within sent texts start opened pieces cut count at.entries ahead (taken_within 1 held m)
        ⊎ FillsOne operation ascending within sent texts start opened pieces cut count at.entries held taken m)
        → Reaches (taken_within 1 held m).0 (taken ++ m ∷ []) ahead
    came (inl staged) = record { entries = at.entries; rises = at.rises; place = staged.place }
    came (inr (inl s)) = stored s s.then
    came (inr (inr full)) = absurd (filled full)

    one_taken : Reaches (after_message held message) (taken ++ m ∷ []) ahead
    one_taken = subst (λ copy. Reaches copy (taken ++ m ∷ []) ahead) (sym same) (came next.comes)

  -- ---- some messages

  -- what a copy is that took the first of these messages
  pub some_taken : (now rest taken : List SyncMessage) (messages : List Message) (held : Copy) → AllZip IsReadOf now messages → WereTaken held messages → Reaches held taken (now ++ rest)
      → Reaches (copy_after held messages) (taken ++ now) rest
  some_taken [] rest taken [] held each fit at = subst (λ ms. Reaches held ms rest) (sym (append-nil taken)) at
  some_taken [] rest taken (message ∷ messages) held each fit at = absurd each
  some_taken (m ∷ now) rest taken [] held each fit at = absurd each
  some_taken (m ∷ now) rest taken (message ∷ messages) held each fit at =
      subst (λ ms. Reaches (copy_after (after_message held message) messages) ms rest) (append_assoc taken (m ∷ []) now)
      (some_taken now rest (taken ++ m ∷ []) messages (after_message held message) each.1 fit.1 (one_taken held taken (now ++ rest) m message at each.0 fit.0))

  -- a copy that has just asked
  pub begins : (copy : Copy) → MayBegin operation start opened copy.held → ascends copy.held ≡ true → Reaches (asked 1 true copy) [] (stream operation start opened pieces count)
  begins copy may rises = record {
    entries = copy.held;
    rises = rises;
    place = inl (record {
      begins = may;
      rest = refresh operation start opened pieces;
      some = refresh_some operation start opened pieces;
      whole = refl;
      beyond = refl;
      copy = λ i. asked 1 (sym persists i) copy;
      met = none_met operation.persists copy.held;
    });
  }

  -- its entries
  entries_are : (held : Copy) (taken ahead : List SyncMessage) (at : Reaches held taken ahead) → held.held ≡ at.entries
  entries_are held taken ahead at = by at.place
    where
      past : AtWhole operation last count at.entries held ahead ⊎ InGroup operation last count at.entries held ahead → held.held ≡ at.entries
      past (inl whole) = ap (λ (c : Copy). c.held) whole.copy
      past (inr group) = ap (λ (c : Copy). c.held) group.copy

      by : IsWhere operation start opened pieces count at.entries held taken ahead → held.held ≡ at.entries
      by (inl is) = ap (λ (c : Copy). c.held) is.copy
      by (inr is) = past is.1

  -- where all were taken, it has what is selected after all the writes
  pub all_held : (held : Copy) (taken : List SyncMessage) → Reaches held taken [] → held.held ≡ content_after operation (last + count)
  all_held held taken at = entries_are held taken [] at ∙ by at.place
    where
      past : AtWhole operation last count at.entries held [] ⊎ InGroup operation last count at.entries held [] → at.entries ≡ content_after operation (last + count)
      past (inl whole) =
          whole.content
          ∙ none_left operation ascending within sent texts last count whole.more whole.number (sym whole.beyond)
          ∙ ap (content_after operation) whole.sum
      past (inr group) = absurd (group_filled operation ascending within sent texts last count at.entries held group)

      by : IsWhere operation start opened pieces count at.entries held taken [] → at.entries ≡ content_after operation (last + count)
      by (inl is) =
          let later' = cond operation.persists (later operation last count) [] in
          absurd (not_none is.some.next is.some.later later' (is.beyond ∙ ap (λ ms. ms ++ later') is.some.same))
      by (inr is) = past is.1

  -- ---- the end

  -- the end with the code busy is taken anywhere, and leaves the entries
  pub busy_taken : (held : Copy) (taken ahead : List SyncMessage) (message : Message) → Reaches held taken ahead → IsReadOf busy_end message → IsAtRest (after_message held message)
  busy_taken held taken ahead message at is = record {
    none = ap (λ (c : Copy). c.session) same;
    rises = ap (λ (c : Copy). ascends c.held) same ∙ ap ascends (entries_are held taken ahead at) ∙ at.rises;
  }
    where
      runs : HasSession operation.persists held
      runs = where_session operation start opened pieces count at.entries held taken ahead at.place

      same : after_message held message ≡ (model.over held (pos BUSY)).0
      same =
          ap (λ session. (taken_of (with_search session held) message).0) runs.runs
          ∙ takes_sent held runs.session busy_end message runs.runs runs.id busy_is_of_search (read_is busy_end busy_is_of_search message is)
          ∙ ap (λ (o : Copy × Answer). o.0) (busy_over held runs.session runs.runs runs.id (runs.mode ∙ persists))
