-- A consumer's search as it is dropped.
use Rattle.std.proofs.Common.{◌≡◌, ℕ, Bool, List, Option, Some, None, sym, ap, ◌∙◌, subst}
use Rattle.sync_provider.specs.Ports.{DropReplies, FollowedSearch, IsReplied, PortState, dropped_in, end_of, ended_in}
use Rattle.sync_drill.specs.Going.{HasGoneOn}
use Rattle.sync_drill.specs.Handing.{IsHanding, IsResting}
use Rattle.sync_drill.proofs.Going.{goes-twice, later-goes, stays}
use Rattle.sync_drill.proofs.Handings.{followed_now, handing-later, resting-dropped}
use Rattle.sync_drill.proofs.SearchesGo.{ended-goes}

-- the port goes on, whether it had the search or not
pub dropped-goes : (search : ℕ) (old new : PortState) (result : Bool) → IsReplied old (λ p. DropReplies p search result new) → HasGoneOn old new
dropped-goes search old new result replied =
    goes-twice old place new (later-goes old place replied.later) (goes (place.followed search) replied.replies.state)
  where
    place : PortState
    place = replied.place

    goes : (f : Option FollowedSearch) → new ≡ dropped_in place search f → HasGoneOn place new
    goes None is = subst (HasGoneOn place) (sym is) (stays place)
    goes (Some f) is = subst (HasGoneOn place) (sym is) (ended-goes place search (end_of search f))

-- all that it handed out was offered
pub dropped-resting : (consumer search : ℕ) (old new : PortState) (items : List (List ℕ)) (result : Bool) → IsHanding consumer search old items
    → IsReplied old (λ p. DropReplies p search result new) → IsResting new items
dropped-resting consumer search old new items result h replied =
    let p : PortState = replied.place in
    let now : IsHanding consumer search p items = handing-later consumer search old p items replied.later h in
    let f : FollowedSearch = followed_now consumer search p items now in
    let state : new ≡ ended_in p search (end_of search f) = replied.replies.state ∙ ap (dropped_in p search) now.follows in
    subst (λ q. IsResting q items) (sym state) (resting-dropped consumer search p items now)
