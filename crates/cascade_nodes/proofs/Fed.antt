-- What the search of a consumer has pending at its provider, and after one of its messages was handed out.
use Rattle.std.proofs.Common.{refl, ◌≡◌, ◌≢◌, ℕ, ◌+◌, ◌≤◌, Bool, true, false, Option, Some, None, List, [], ◌∷◌, ◌++◌, length, ◌<◌, cond, ap, sym, ◌∙◌, inl, inr, arith, subst, zero, suc}
use Rattle.std.specs.Prelude.{◌⊎◌, ◌&&◌, not, find, is_some}
use Rattle.entry_tree.specs.Selection.{Search}
use Rattle.sync_model.specs.Law.{is_nil}
use Rattle.sync_model.specs.Message.{SyncMessage}
use Rattle.sync_model.specs.Stream.{Start, among}
use Rattle.sync_model.proofs.NextMessages.{HasNext}
use Rattle.sync_model.proofs.Pigeons.{pigeons}
use Rattle.sync_wire.specs.Sending as wire
use Rattle.directory_writes.specs.Directory.{DirectoryState, with_log_limit}
use Rattle.directory_writes.proofs.Distinct.{AreDistinct, closed-same, distinct-closed, distinct-put_on}
use Rattle.directory_writes.proofs.Keyed.{put_on, put_on-same}
use Rattle.sync_provider.specs.Accepting.{is_free, numbers_from, free_number}
use Rattle.sync_provider.specs.HandingOut.{search_at, HandOut, turn_of_message, turn_of_pending, turn_of_found, turn_at, handed_on, after_turn}
use Rattle.sync_provider.specs.HandingOut as handing
use Rattle.sync_provider.specs.HandingOut.HandOut.{Hands}
use Rattle.sync_provider.specs.Machine.{ProviderState}
use Rattle.sync_provider.specs.Search.{SearchState, pending, advanced}
use Rattle.sync_provider.proofs.Advanced.{Searches, IsAdvanced, advanced_is}
use Rattle.sync_provider.proofs.Settled.{advanced_left}
use Rattle.sync_provider.proofs.Kept.{turn_other}
use Rattle.sync_provider.proofs.Streams.{StandsAt, advanced_has, limited_stands}
use Rattle.sync_provider.proofs.Walking.{handed_of}
use Rattle.cascade_nodes.specs.Opening.{message_id}
use Rattle.cascade_nodes.specs.declared.node.ConsumerNode.{ConsumerNode}

-- the search waits for later writes
abbrev pub waits : (persists cut : Bool) → Bool
waits persists cut = persists && not cut

-- one whose messages were cut off waits for none
pub cut_waits : (persists : Bool) → waits persists true ≡ false
cut_waits true = refl
cut_waits false = refl

-- how far a search is: where it begins, how many writes there were at its acceptance, how many came after the last of its
-- pieces, and the messages that were handed out
pub record SoFar : Type 0 where
  pub start : Start
  pub opened : ℕ
  pub later : ℕ
  pub handed : List SyncMessage

-- the search of this number, with this specification and in this mode, which is so far, has these messages pending on this
-- directory, of which there are some unless it waits for later writes. While identities of its walk are left, no write came
-- after the last of its pieces, which has them
pub record IsPending (d : DirectoryState) (searches : List (ℕ × SearchState)) (selection : Search) (mode cut : Bool) (far : SoFar) (at : ℕ) (messages : List SyncMessage) : Type 0 where
  pub search : SearchState
  pub found : search_at searches at ≡ Some search
  pub id : search.id ≡ message_id
  pub spec : search.spec ≡ selection
  pub persists : search.persists ≡ mode
  pub start : search.start ≡ far.start
  pub accepted : search.accepted ≡ far.opened
  pub over : search.over ≡ cut
  pub same : pending d search ≡ messages
  pub stands : StandsAt d search far.handed
  pub walks : is_nil search.progress.left ≡ false → far.later ≡ 0
  pub some : waits mode cut ≡ false → HasNext messages

-- what the search that a consumer is fed by has pending, which is nothing after its end
abbrev pub HasPending : DirectoryState → List (ℕ × SearchState) → Search → (mode cut : Bool) → SoFar → Option ℕ → List SyncMessage → Type 0
HasPending d searches selection mode cut far None messages = (messages ≡ []) × (waits mode cut ≡ false)
HasPending d searches selection mode cut far (Some at) messages = IsPending d searches selection mode cut far at messages

-- no search of the consumer is open or runs, and nothing is in its link
pub record IsAtRest (f : ConsumerNode) : Type 0 where
  pub search : f.search ≡ None
  pub session : f.consumer.copy.session ≡ None
  pub link : f.link ≡ []

-- two consumers have no search in common
abbrev pub AreApart : ConsumerNode → ConsumerNode → Type 0
AreApart f g = (at : ℕ) → f.search ≡ Some at → g.search ≡ Some at → ⊥

-- each open search is that of the consumer, or one of some few others
pub record HasRoom (p : ProviderState) (f : ConsumerNode) : Type 0 where
  pub others : List ℕ
  pub few : length others ≤ 16
  pub each : (at : ℕ) (s : SearchState) → search_at p.searches at ≡ Some s → (f.search ≡ Some at) ⊎ (among at others ≡ true)

-- ---- the searches after the turn

-- the own one has the rest pending or is over, the others are as before
pub record IsAfter (d : DirectoryState) (searches later : Searches) (spec : Search) (mode cut : Bool) (far : SoFar) (at : ℕ) (own : Option ℕ) (rest : List SyncMessage) : Type 0 where
  pub has : HasPending d later spec mode cut far own rest
  pub only : (k : ℕ) → own ≡ Some k → k ≡ at
  pub elsewhere : (k : ℕ) → k ≢ at → search_at later k ≡ search_at searches k
  pub here : (s : SearchState) → search_at later at ≡ Some s → own ≡ Some at
  pub apart : AreDistinct later

-- the turn of an open search is that of its first message
pub turn_is : (d : DirectoryState) (searches : Searches) (at : ℕ) (s : SearchState) (first : SyncMessage) (rest : List SyncMessage) → search_at searches at ≡ Some s → pending d s ≡ first ∷ rest → s.id ≡ message_id
    → turn_at d searches at ≡ turn_of_message message_id first
turn_is d searches at s first rest found some id =
    ap (turn_of_found d) found ∙ ap (turn_of_pending s.id) some ∙ ap (λ n. turn_of_message n first) id

-- one message more was handed out
abbrev pub one_further : SoFar → SyncMessage → SoFar
one_further far message = record far { handed = far.handed ++ message ∷ [] }

-- after a message was handed out the rest is pending, and the other searches are as before
pub handed_out : (d : DirectoryState) (searches : Searches) (spec : Search) (mode : Bool) (far : SoFar) (at : ℕ) (messages rest : List SyncMessage) (first : SyncMessage) (has : IsPending d searches spec mode false far at messages)
    → messages ≡ first ∷ rest → turn_at d searches at ≡ Hands (wire.sent message_id first) → (waits mode false ≡ false → HasNext rest) → AreDistinct searches
    → IsAfter d searches (after_turn d searches at (turn_at d searches at)) spec mode false (one_further far first) at (Some at) rest
handed_out d searches spec mode far at messages rest first has some is more apart = record {
  has = record {
    search = advanced d has.search;
    found = ap (λ es. search_at es at) later ∙ put_on-same searches at (advanced d has.search) has.search has.found;
    id = now.id ∙ has.id;
    spec = now.spec ∙ has.spec;
    persists = now.persists ∙ has.persists;
    start = has.start;
    accepted = has.accepted;
    over = now.over ∙ has.over;
    same = now.same;
    stands = inl (has.over, advanced_has d has.search far.handed first rest has.over (has.same ∙ some) (handed_of d has.search far.handed has.over has.stands));
    walks = λ left. has.walks (advanced_left d has.search left);
    some = more;
  };
  only = λ k mine. let same : k ≡ at = cc in same;
  elsewhere = λ k far'. turn_other d searches at k (turn_at d searches at) far';
  here = λ s found. refl;
  apart = subst AreDistinct (sym later) (distinct-put_on searches at (advanced d has.search) apart);
}
  where
    later : after_turn d searches at (turn_at d searches at) ≡ put_on searches at (advanced d has.search)
    later = ap (after_turn d searches at) is ∙ ap (handed_on d searches at) has.found

    now : IsAdvanced d has.search (advanced d has.search) rest
    now = advanced_is d has.search rest first has.over (has.same ∙ some)

-- after the last message the search is closed, and the other searches are as before
pub closed_then : (d : DirectoryState) (searches : Searches) (spec : Search) (mode cut : Bool) (far : SoFar) (at : ℕ) (turn : HandOut) (rest : List SyncMessage) → turn_at d searches at ≡ turn → after_turn d searches at turn ≡ handing.closed searches at → rest ≡ []
    → waits mode cut ≡ false → AreDistinct searches → IsAfter d searches (after_turn d searches at (turn_at d searches at)) spec mode cut far at None rest
closed_then d searches spec mode cut far at turn rest is goes none ends apart = record {
  has = (none, ends);
  only = λ k mine. let never : ⊥ = cc in absurd never;
  elsewhere = λ k far'. turn_other d searches at k (turn_at d searches at) far';
  here = λ s found. let bad : None ≡ Some s = sym (closed-same searches at apart) ∙ ap (λ es. search_at es at) (sym later) ∙ found in let never : ⊥ = cc in absurd never;
  apart = subst AreDistinct (sym later) (distinct-closed searches at apart);
}
  where
    later : after_turn d searches at (turn_at d searches at) ≡ handing.closed searches at
    later = ap (after_turn d searches at) is ∙ goes

-- a search that has nothing pending, and waits for nothing, is over
pub own_over : (searches : Searches) (own : Option ℕ) (p : ProviderState) (f : ConsumerNode) (mode cut : Bool) (far : SoFar) (messages : List SyncMessage) → messages ≡ [] → waits mode cut ≡ false
    → HasPending p.directory p.searches f.consumer.spec mode cut far own messages → own ≡ None
own_over searches None p f mode cut far messages none ends has = refl
own_over searches (Some at) p f mode cut far messages none ends has = let some = (has.some ends).same in let bad : [] ≡ (has.some ends).next ∷ (has.some ends).later = sym none ∙ some in let never : ⊥ = cc in absurd never

-- what the search of this number was is there still
abbrev Stays : Searches → Searches → ℕ → Type 0
Stays searches later at = (s : SearchState) → search_at searches at ≡ Some s → search_at later at ≡ Some s

-- so it is of a consumer that has one
abbrev pub OwnStays : Searches → Searches → Option ℕ → Type 0
OwnStays searches later own = (at : ℕ) → own ≡ Some at → Stays searches later at

-- what is pending of a search that is there still is pending still
pub pending-other : (d : DirectoryState) (searches later : Searches) (spec : Search) (mode cut : Bool) (far : SoFar) (own : Option ℕ) (messages : List SyncMessage) → OwnStays searches later own
    → HasPending d searches spec mode cut far own messages → HasPending d later spec mode cut far own messages
pending-other d searches later spec mode cut far None messages stays has = has
pending-other d searches later spec mode cut far (Some at) messages stays has = record {
  search = has.search;
  found = stays at refl has.search has.found;
  id = has.id;
  spec = has.spec;
  persists = has.persists;
  start = has.start;
  accepted = has.accepted;
  over = has.over;
  same = has.same;
  stands = has.stands;
  walks = has.walks;
  some = has.some;
}

-- with another limit of the log the same is pending
pub pending-limited : (d : DirectoryState) (limit : ℕ) (searches : Searches) (spec : Search) (mode cut : Bool) (far : SoFar) (own : Option ℕ) (messages : List SyncMessage)
    → HasPending d searches spec mode cut far own messages → HasPending (with_log_limit d limit) searches spec mode cut far own messages
pending-limited d limit searches spec mode cut far None messages has = has
pending-limited d limit searches spec mode cut far (Some at) messages has = record {
  search = has.search;
  found = has.found;
  id = has.id;
  spec = has.spec;
  persists = has.persists;
  start = has.start;
  accepted = has.accepted;
  over = has.over;
  same = has.same;
  stands = limited_stands d limit has.search far.handed has.stands;
  walks = has.walks;
  some = has.some;
}

-- the search of a consumer that is fed is open
pub own_search : (d : DirectoryState) (searches : Searches) (spec : Search) (mode cut : Bool) (far : SoFar) (own : Option ℕ) (at : ℕ) (messages : List SyncMessage) → own ≡ Some at → HasPending d searches spec mode cut far own messages
    → (s : SearchState) × (search_at searches at ≡ Some s)
own_search d searches spec mode cut far None at messages is has = let never : ⊥ = cc in absurd never
own_search d searches spec mode cut far (Some k) at messages is has = let same : k ≡ at = cc in (has.search, ap (search_at searches) (sym same) ∙ has.found)

-- ---- no number is free

none_passes : (count first : ℕ) (test : ℕ → Bool) → find test (numbers_from first count) ≡ None → (k : ℕ) → k < count → test (first + k) ≡ false
none_passes zero first test none k low = absurd (omega (arith, low))
none_passes (suc count) first test none k low = by (none_passes count (first + 1) test) (test first) refl none k low
  where
    by : (find test (numbers_from (first + 1) count) ≡ None → (j : ℕ) → j < count → test (first + 1 + j) ≡ false) → (b : Bool) → test first ≡ b
        → cond b (Some first) (find test (numbers_from (first + 1) count)) ≡ None → (j : ℕ) → j < suc count → test (first + j) ≡ false
    by rest true hit none j low = let never : ⊥ = cc in absurd never
    by rest false miss none zero low = let same : first + 0 ≡ first = omega arith in ap test same ∙ miss
    by rest false miss none (suc j) low = let same : first + suc j ≡ first + 1 + j = omega arith in ap test same ∙ rest none j (omega (arith, low))

taken_by : (found : Option SearchState) → not (is_some found) ≡ false → (s : SearchState) × (found ≡ Some s)
taken_by None h = let never : ⊥ = cc in absurd never
taken_by (Some s) h = (s, refl)

-- where the consumer has no search, a number is free
pub number_free : (p : ProviderState) (f : ConsumerNode) → f.search ≡ None → HasRoom p f → (n : ℕ) × (free_number p.searches ≡ Some n)
number_free p f rest room = by (free_number p.searches) refl
  where
    other : (at : ℕ) (s : SearchState) → (f.search ≡ Some at) ⊎ (among at room.others ≡ true) → among at room.others ≡ true
    other at s (inl mine) = let bad : None ≡ Some at = sym rest ∙ mine in let never : ⊥ = cc in absurd never
    other at s (inr there) = there

    by : (found : Option ℕ) → free_number p.searches ≡ found → (n : ℕ) × (free_number p.searches ≡ Some n)
    by (Some n) is = (n, is)
    by None is =
        let full : 64 ≤ length room.others =
        pigeons 64 1 room.others
        (λ k low. let open' = taken_by (search_at p.searches (1 + k)) (none_passes 64 1 (is_free p.searches) is k low) in other (1 + k) open'.0 (room.each (1 + k) open'.0 open'.1)) in
        let never : ⊥ = omega (arith, full, room.few) in
        absurd never
