-- Where a copy stands in the messages of its search, and that another cookie leaves it there.
use Rattle.std.proofs.Common.{refl, ◌≡◌, ℕ, Bool, Option, Some, List, [], ap, sym, inl, inr}
use Rattle.std.specs.Prelude.{◌⊎◌, ◌+◌, ◌≤◌, true, cond, ◌∷◌, ◌++◌}
use Rattle.csn_cookie.specs.Csn.{start}
use Rattle.entry_tree.specs.Touched.{touched}
use Rattle.entry_tree.specs.declared.entry.Entry.{Entry}
use Rattle.entry_tree.specs.declared.touched.EntryChange.{EntryChange}
use Rattle.sync_model.specs.Copy.{Copy, SyncSession, taken}
use Rattle.sync_model.specs.Law.{MayBegin, settled}
use Rattle.sync_model.specs.Message.{SyncMessage}
use Rattle.sync_model.specs.Stream.{SyncOperation, Start, RefreshPiece, content_after, last_mark, refresh, notified_all, later}
use Rattle.sync_model.proofs.Later.{stepping, staged_all, session_on}
use Rattle.sync_model.proofs.NextMessages.{HasNext}
use Rattle.sync_model.proofs.Taking.{session_in}
use Rattle.sync_provider.proofs.RefreshTaken.{RefreshStage, staged_over, nothing_staged, in_refresh, MeetNoLimit}

-- in the refresh, which these pieces make: these messages of it were taken and met no limit, and some are to come, before
-- those of later writes; the entries are still those of before, and no message is needed of the cookie, which may have
-- changed since
pub record InRefresh (operation : SyncOperation) (start : Start) (opened : ℕ) (pieces : List RefreshPiece) (count : ℕ) (entries : List Entry) (held : Copy) (taken ahead : List SyncMessage) : Type 0 where
  pub begins : MayBegin operation start opened entries
  pub rest : List SyncMessage
  pub some : HasNext rest
  pub whole : taken ++ rest ≡ refresh operation start opened pieces
  pub beyond : ahead ≡ rest ++ cond operation.persists (later operation (last_mark opened pieces) count) []
  pub copy : held ≡ in_refresh operation.persists entries held.cookie taken
  pub met : MeetNoLimit operation.persists entries taken

-- after it: all messages of some writes were taken, and the entries are those after them
pub record AtWhole (operation : SyncOperation) (opened count : ℕ) (entries : List Entry) (held : Copy) (ahead : List SyncMessage) : Type 0 where
  pub number : ℕ
  pub more : ℕ
  pub from : opened ≤ number
  pub sum : number + more ≡ opened + count
  pub content : entries ≡ content_after operation number
  pub beyond : ahead ≡ later operation number more
  pub ended : Bool
  pub copy : held ≡ settled 1 true ended entries held.cookie

-- or some messages of one write more, but not the last of them
pub record InGroup (operation : SyncOperation) (opened count : ℕ) (entries : List Entry) (held : Copy) (ahead : List SyncMessage) : Type 0 where
  pub number : ℕ
  pub more : ℕ
  pub from : opened ≤ number
  pub sum : number + 1 + more ≡ opened + count
  pub content : entries ≡ content_after operation number
  pub before : List EntryChange
  pub entry_change : EntryChange
  pub after : List EntryChange
  pub at : touched (content_after operation number) (content_after operation (number + 1)) ≡ before ++ entry_change ∷ after
  pub beyond : ahead ≡ notified_all (operation.cookies (number + 1)) (entry_change ∷ after) ++ later operation (number + 1) more
  pub ended : Bool
  pub copy : held ≡ stepping 1 ended entries held.cookie (staged_all [] before)

-- the search goes on after its refresh
abbrev pub IsPast : SyncOperation → ℕ → ℕ → List Entry → Copy → List SyncMessage → Type 0
IsPast operation opened count entries held ahead =
    (operation.persists ≡ true) × (AtWhole operation opened count entries held ahead ⊎ InGroup operation opened count entries held ahead)

-- in the refresh, or after it, by how many writes came after its last piece
abbrev pub IsWhere : SyncOperation → Start → ℕ → List RefreshPiece → ℕ → List Entry → Copy → List SyncMessage → List SyncMessage → Type 0
IsWhere operation start opened pieces count entries held taken ahead =
    InRefresh operation start opened pieces count entries held taken ahead ⊎ IsPast operation (last_mark opened pieces) count entries held ahead

-- the search goes on with another cookie
abbrev other_cookie : Copy → Option (List ℕ) → Copy
other_cookie copy cookie = record copy { cookie = cookie }

refresh_with : (operation : SyncOperation) (start : Start) (opened : ℕ) (pieces : List RefreshPiece) (count : ℕ) (entries : List Entry) (held : Copy) (taken ahead : List SyncMessage) (cookie : Option (List ℕ))
    → InRefresh operation start opened pieces count entries held taken ahead → InRefresh operation start opened pieces count entries (other_cookie held cookie) taken ahead
refresh_with operation start opened pieces count entries held taken ahead cookie is = record {
  begins = is.begins;
  rest = is.rest;
  some = is.some;
  whole = is.whole;
  beyond = is.beyond;
  copy = λ i. record (is.copy i) { cookie = cookie };
  met = is.met;
}

whole_with : (operation : SyncOperation) (opened count : ℕ) (entries : List Entry) (held : Copy) (ahead : List SyncMessage) (cookie : Option (List ℕ)) → AtWhole operation opened count entries held ahead
    → AtWhole operation opened count entries (other_cookie held cookie) ahead
whole_with operation opened count entries held ahead cookie is = record {
  number = is.number;
  more = is.more;
  from = is.from;
  sum = is.sum;
  content = is.content;
  beyond = is.beyond;
  ended = is.ended;
  copy = λ i. record (is.copy i) { cookie = cookie };
}

group_with : (operation : SyncOperation) (opened count : ℕ) (entries : List Entry) (held : Copy) (ahead : List SyncMessage) (cookie : Option (List ℕ)) → InGroup operation opened count entries held ahead
    → InGroup operation opened count entries (other_cookie held cookie) ahead
group_with operation opened count entries held ahead cookie is = record {
  number = is.number;
  more = is.more;
  from = is.from;
  sum = is.sum;
  content = is.content;
  before = is.before;
  entry_change = is.entry_change;
  after = is.after;
  at = is.at;
  beyond = is.beyond;
  ended = is.ended;
  copy = λ i. record (is.copy i) { cookie = cookie };
}

-- another cookie leaves a copy where it stands
pub place_with : (operation : SyncOperation) (start : Start) (opened : ℕ) (pieces : List RefreshPiece) (count : ℕ) (entries : List Entry) (held : Copy) (taken ahead : List SyncMessage) (cookie : Option (List ℕ))
    → IsWhere operation start opened pieces count entries held taken ahead → IsWhere operation start opened pieces count entries (other_cookie held cookie) taken ahead
place_with operation start opened pieces count entries held taken ahead cookie (inl is) = inl (refresh_with operation start opened pieces count entries held taken ahead cookie is)
place_with operation start opened pieces count entries held taken ahead cookie (inr is) = inr (is.0, past is.1)
  where
    past : AtWhole operation (last_mark opened pieces) count entries held ahead ⊎ InGroup operation (last_mark opened pieces) count entries held ahead
        → AtWhole operation (last_mark opened pieces) count entries (other_cookie held cookie) ahead ⊎ InGroup operation (last_mark opened pieces) count entries (other_cookie held cookie) ahead
    past (inl at) = inl (whole_with operation (last_mark opened pieces) count entries held ahead cookie at)
    past (inr at) = inr (group_with operation (last_mark opened pieces) count entries held ahead cookie at)

-- ---- a search runs wherever it goes on

-- a search with the message ID 1 runs, which goes on after its refresh or ends with it
pub record HasSession (persists : Bool) (held : Copy) : Type 0 where
  pub session : SyncSession
  pub runs : held.session ≡ Some session
  pub id : session.id ≡ 1
  pub mode : session.persists ≡ persists

-- wherever a copy stands in the messages of a search, that search runs
pub where_session : (operation : SyncOperation) (start : Start) (opened : ℕ) (pieces : List RefreshPiece) (count : ℕ) (entries : List Entry) (held : Copy) (taken ahead : List SyncMessage)
    → IsWhere operation start opened pieces count entries held taken ahead → HasSession operation.persists held
where_session operation start opened pieces count entries held taken ahead (inl is) =
    record { session = session_in 1 operation.persists now.ended now.named now.stage; runs = ap (λ (c : Copy). c.session) is.copy; id = refl; mode = refl }
  where
    now : RefreshStage
    now = staged_over entries nothing_staged taken
where_session operation start opened pieces count entries held taken ahead (inr is) = by is.1
  where
    by : AtWhole operation (last_mark opened pieces) count entries held ahead ⊎ InGroup operation (last_mark opened pieces) count entries held ahead → HasSession operation.persists held
    by (inl at) = record { session = session_on 1 at.ended []; runs = ap (λ (c : Copy). c.session) at.copy; id = refl; mode = sym is.0 }
    by (inr at) = record { session = session_on 1 at.ended (staged_all [] at.before); runs = ap (λ (c : Copy). c.session) at.copy; id = refl; mode = sym is.0 }
