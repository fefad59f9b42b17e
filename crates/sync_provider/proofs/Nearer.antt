-- What a search has pending once its first message is handed out.
use Rattle.std.proofs.Common.{◌≡◌, Bool, true, false, List, [], ◌∷◌, length, ap, sym, ◌∙◌, refl}
use Rattle.ldap_messages.specs.Whole.{MessageValue}
use Rattle.sync_model.specs.Message.{SyncMessage}
use Rattle.sync_model.proofs.Groups.{heads}
use Rattle.directory_writes.specs.Directory.{DirectoryState}
use Rattle.sync_provider.specs.HandingOut.{turn_of_message}
use Rattle.sync_provider.specs.HandingOut.HandOut.{Hands}
use Rattle.sync_provider.specs.Search.{SearchState, busy_end, pending, advanced}
use Rattle.sync_provider.proofs.Advanced.{advanced_is}
use Rattle.sync_provider.proofs.SearchNotified.{pending_over}

-- a search that goes on after its first message is not over, and has the others pending
pub others_pending : (d : DirectoryState) (s : SearchState) (first : SyncMessage) (rest : List SyncMessage) (whole : MessageValue) → pending d s ≡ first ∷ rest → turn_of_message s.id first ≡ Hands whole
    → pending d (advanced d s) ≡ rest
others_pending d s first rest whole waits hands = by s.over refl
  where
    ends : turn_of_message s.id busy_end ≡ Hands whole → ⊥
    ends e = cc

    by : (over : Bool) → s.over ≡ over → pending d (advanced d s) ≡ rest
    by true on = absurd (ends (ap (turn_of_message s.id) (heads busy_end first [] rest (sym (pending_over d s on) ∙ waits)) ∙ hands))
    by false off = (advanced_is d s rest first off waits).same

-- a search that goes on after its first message has one less pending
pub one_less : (d : DirectoryState) (s : SearchState) (first : SyncMessage) (rest : List SyncMessage) (whole : MessageValue) → pending d s ≡ first ∷ rest → turn_of_message s.id first ≡ Hands whole
    → length (pending d (advanced d s)) ≡ length rest
one_less d s first rest whole waits hands = ap length (others_pending d s first rest whole waits hands)
