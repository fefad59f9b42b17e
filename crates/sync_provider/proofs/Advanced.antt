-- A search that handed out its first message has the rest pending.
use Rattle.std.proofs.Common.{false, List, [], ◌∷◌, ◌++◌, length, refl, ap, sym, ◌∙◌, append_assoc}
use Rattle.std.specs.Prelude.{◌≡◌, ℕ, Some}
use Rattle.sync_model.specs.Message.{SyncMessage}
use Rattle.sync_model.specs.Message.SyncMessage.{AddOrModify, Delete, Present, IdSet, NewCookie, RefreshDelete, RefreshPresent, Done, Ignored}
use Rattle.sync_slices.proofs.HandingOut.{pending_then}
use Rattle.directory_writes.specs.Directory.{DirectoryState}
use Rattle.sync_provider.specs.HandingOut.{HandOut, turn_of_message, search_at}
use Rattle.sync_provider.specs.HandingOut.HandOut.{Hands, Closes, Waits, Unknown}
use Rattle.sync_provider.specs.Machine.{ProviderState}
use Rattle.sync_provider.specs.Search.{SearchState, sliced, pending, advanced}
use Rattle.sync_provider.proofs.Places.{positive}
use Rattle.sync_provider.proofs.SearchNotified.{pending_open}

-- ---- the messages before and after

-- the first message may stand at the end of those before it
pub moved : (prefix rest messages : List SyncMessage) (first : SyncMessage) → messages ≡ first ∷ rest → (prefix ++ first ∷ []) ++ rest ≡ prefix ++ messages
moved prefix rest messages first same = append_assoc prefix (first ∷ []) rest ∙ ap (λ ms. prefix ++ ms) (sym same)

-- the first that is pending follows those that were taken or are in the link
pub place_of : (taken link messages rest : List SyncMessage) (first : SyncMessage) (all : List SyncMessage) → messages ≡ first ∷ rest → taken ++ (link ++ messages) ≡ all
    → (taken ++ link) ++ first ∷ rest ≡ all
place_of taken link messages rest first all same whole = append_assoc taken link (first ∷ rest) ∙ ap (λ ms. taken ++ (link ++ ms)) (sym same) ∙ whole

-- ---- a search that handed out its first message

-- the search without the first message that was pending on this directory
pub record IsAdvanced (d : DirectoryState) (s after : SearchState) (rest : List SyncMessage) : Type 0 where
  pub id : after.id ≡ s.id
  pub spec : after.spec ≡ s.spec
  pub persists : after.persists ≡ s.persists
  pub over : after.over ≡ s.over
  pub same : pending d after ≡ rest

-- a search that is not over has all but the first message pending after its turn
pub advanced_is : (d : DirectoryState) (s : SearchState) (rest : List SyncMessage) (first : SyncMessage) → s.over ≡ false → pending d s ≡ first ∷ rest → IsAdvanced d s (advanced d s) rest
advanced_is d s rest first open' some = record {
  id = refl;
  spec = refl;
  persists = refl;
  over = refl;
  same =
      pending_open d (advanced d s) open'
      ∙ pending_then (sliced d s) (length d.writes) s.progress (positive d s) first rest (sym (pending_open d s open') ∙ some);
}

-- searches by their numbers
abbrev pub Searches : Type 0
Searches = List (ℕ × SearchState)

-- ---- how much is pending

-- nothing is handed out where nothing is pending
abbrev pub IsIdle : HandOut → Type 0
IsIdle (Hands whole) = ⊥
IsIdle (Closes code whole) = ⊥
IsIdle Waits = Unit {0}
IsIdle Unknown = Unit {0}

-- a message is handed out, or closes its search
pub never_idle : (id : ℕ) (m : SyncMessage) → IsIdle (turn_of_message id m) → ⊥
never_idle id (AddOrModify adds entry cookie) idle = idle
never_idle id (Delete uuid name cookie) idle = idle
never_idle id (Present uuid cookie) idle = idle
never_idle id (IdSet deletes uuids cookie) idle = idle
never_idle id (NewCookie cookie) idle = idle
never_idle id (RefreshDelete done cookie) idle = idle
never_idle id (RefreshPresent done cookie) idle = idle
never_idle id (Done code control) idle = idle
never_idle id Ignored idle = idle

-- each search that is open was open before
abbrev pub OpensNone : ProviderState → ProviderState → Type 0
OpensNone p q = (at : ℕ) (s : SearchState) → search_at q.searches at ≡ Some s → (was : SearchState) × (search_at p.searches at ≡ Some was)

-- the provider with these searches
abbrev pub with_searches : ProviderState → Searches → ProviderState
with_searches p searches = record p { searches = searches }
