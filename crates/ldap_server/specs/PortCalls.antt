-- What a session asks of its port, each question with its reply.
use Rattle.std.specs.Prelude.{◌≡◌, ℕ, Bool, List, [], ◌∷◌}
use Rattle.dn_names.specs.Names.{TypeAndValue}
use Rattle.entry_tree.specs.declared.op.Op.{Op}
use Rattle.sync_provider.specs.Ports.{PortState, IsReplied, WriteReplies, SearchReplies, CompareReplies, AcceptReplies, HandOutReplies, DropReplies}
use Rattle.sync_provider.specs.declared.handed.Handed.{Handed}
use Rattle.sync_provider.specs.declared.searches.Accepted.{Accepted}
use Rattle.sync_provider.specs.declared.searches.SyncSearch.{SyncSearch}
use Rattle.sync_provider.specs.declared.searching.PlainSearch.{PlainSearch}
use Rattle.sync_provider.specs.declared.searching.SearchReply.{SearchReply}
use Rattle.sync_provider.specs.declared.writing.Reply.{Reply}

pub data PortCall : Type 0 where
  Wrote : Op → (now : ℕ) → Reply → PortCall
  Searched : PlainSearch → SearchReply → PortCall
  Compared : List (List TypeAndValue) → (name value : List ℕ) → (code : ℕ) → PortCall
  Asked : SyncSearch → Accepted → PortCall
  HandedOut : (search : ℕ) → Handed → PortCall
  Dropped : (search : ℕ) → (was_open : Bool) → PortCall

-- the reply that a question has at this state of the port, and the state after it
abbrev pub Replies : PortCall → PortState → PortState → Type 0
Replies (Wrote op now reply) p new = WriteReplies p op now reply new
Replies (Searched ask reply) p new = SearchReplies p ask reply new
Replies (Compared dn name value code) p new = CompareReplies p dn name value code new
Replies (Asked ask reply) p new = AcceptReplies p ask reply new
Replies (HandedOut search reply) p new = HandOutReplies p search reply new
Replies (Dropped search was_open) p new = DropReplies p search was_open new

-- one after the other, with what other ports do between them
abbrev pub Exchanged : PortState → List PortCall → PortState → Type 0
Exchanged old [] new = new ≡ old
Exchanged old (one ∷ more) new =
    (between : PortState) × IsReplied old (λ p. Replies one p between) × Exchanged between more new
