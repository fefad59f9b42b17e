-- A consumer's search as it is opened.
use Rattle.std.proofs.Common.{◌≡◌, ℕ, List, refl, sym, ap, subst}
use Rattle.directory_writes.specs.Directory.{DirectoryState}
use Rattle.sync_provider.specs.Accepting.{persists_of_read, start_of_read}
use Rattle.sync_provider.specs.Opened.{opening_of_ask}
use Rattle.sync_provider.specs.Ports.{AcceptReplies, IsReplied, PortState, accepted_in}
use Rattle.sync_provider.specs.declared.searches.Accepted.{Accepted}
use Rattle.sync_provider.specs.declared.searches.Accepted.TheVariants as accepted
use Rattle.sync_provider.specs.declared.searches.SyncSearch.{SyncSearch}
use Rattle.sync_drill.specs.Going.{HasGoneOn}
use Rattle.sync_drill.specs.Handing.{IsAsked, IsHanding, IsOpening, MayOpen}
use Rattle.sync_drill.proofs.Going.{goes-twice, later-goes, stays}
use Rattle.sync_drill.proofs.SearchesGo.{opened-goes}
use Rattle.sync_drill.proofs.Handings.{handing-opened, may_open-later}

opening_asked : (consumer : ℕ) (d : DirectoryState) (ask : SyncSearch) (number : ℕ) → IsAsked consumer ask
    → IsOpening consumer (opening_of_ask d ask number)
opening_asked consumer d ask number asked = record {
  id = asked.id;
  spec = asked.spec;
  start = ap (start_of_read d) asked.control;
  goes_on = ap persists_of_read asked.control;
}

module _ (old new : PortState) (ask : SyncSearch) where
  -- the port goes on, whatever is answered
  pub accepted-goes : (result : Accepted) → IsReplied old (λ p. AcceptReplies p ask result new) → HasGoneOn old new
  accepted-goes result replied =
      goes-twice old place new (later-goes old place replied.later) (goes result replied.replies.state)
    where
      place : PortState
      place = replied.place

      goes : (reply : Accepted) → new ≡ accepted_in place ask reply → HasGoneOn place new
      goes (accepted.Opened number writes) is =
          subst (HasGoneOn place) (sym is) (opened-goes place (opening_of_ask place.directory ask number))
      goes (accepted.Refused code) is = subst (HasGoneOn place) (sym is) (stays place)
      goes accepted.NoMemory is = subst (HasGoneOn place) (sym is) (stays place)

  -- its messages are handed out from then on
  pub accepted-handing : (consumer search writes : ℕ) (items : List (List ℕ)) → MayOpen consumer old items → IsAsked consumer ask
      → IsReplied old (λ p. AcceptReplies p ask (accepted.Opened search writes) new) → IsHanding consumer search new items
  accepted-handing consumer search writes items may asked replied =
      subst (λ q. IsHanding consumer search q items) (sym replied.replies.state)
      (handing-opened consumer replied.place items (opening_of_ask replied.place.directory ask search)
      (opening_asked consumer replied.place.directory ask search asked) refl
      (may_open-later consumer old replied.place items replied.later may))
