-- A message that goes into the link is the next of those that the consumer is fed.
use Rattle.std.proofs.Common.{◌≡◌, ◌+◌, ◌<◌, ◌≤◌, ℕ, Bool, true, false, cond, Option, Some, None, List, [], ◌∷◌, ◌++◌, length, map, take, refl, ap, sym, ◌∙◌, inl, inr, arith, append_assoc, length-take, subst}
use Rattle.std.specs.Prelude.{◌⊎◌, pos, option_map}
use Rattle.std.proofs.lemmas.Bool.{true≢false}
use Rattle.std.proofs.lemmas.List.{map-append, same_from_push}
use Rattle.std.proofs.lemmas.Slice.Eq.{bytes_eq-Decides}
use Rattle.ldap_constants.specs.declared.result_codes.TheConstants.{SUCCESS, BUSY}
use Rattle.directory_writes.proofs.Csns.{upto_low}
use Rattle.dn_names.specs.Names.{TypeAndValue}
use Rattle.entry_tree.specs.History.{touched_over}
use Rattle.entry_tree.specs.declared.entry.Entry.{Entry}
use Rattle.entry_tree.specs.declared.op.Write.{Write}
use Rattle.sync_model.specs.Incremental.{number_of, sent_entry}
use Rattle.sync_model.specs.Law.{is_nil}
use Rattle.sync_model.specs.Message.{SyncMessage}
use Rattle.sync_model.specs.Stream.{SyncOperation, last_mark, among}
use Rattle.sync_model.proofs.Histories.{ascends-state_of}
use Rattle.sync_model.proofs.Incremental.{refresh_sent}
use Rattle.sync_model.proofs.Groups.{heads, tails}
use Rattle.sync_wire.specs.Sending as wire
use Rattle.sync_provider.specs.HandingOut.{turn_of_message, turn_of_pending, turn_of_found, turn_at, after_turn}
use Rattle.sync_provider.specs.HandingOut.HandOut.{Hands, Closes}
use Rattle.sync_provider.specs.Machine.{ProviderState}
use Rattle.sync_provider.specs.Search.{busy_end}
use Rattle.sync_provider.proofs.Advanced.{Searches, moved, place_of, with_searches}
use Rattle.sync_provider.proofs.SearchNotified.{pending_over}
use Rattle.sync_provider.proofs.StreamTurns.{IsHanded, IsClosing, stream_turn, refresh_sends}
use Rattle.cascade_nodes.specs.declared.node.ConsumerNode.{ConsumerNode}
use Rattle.cascade_nodes.proofs.Fed.{waits, cut_waits, SoFar, IsPending, HasPending, IsAtRest, IsAfter, one_further, turn_is, handed_out, closed_then}
use Rattle.cascade_exchange.proofs.Owns.{owns-changed}
use Rattle.cascade_world.specs.Exchange.{Agreement, agreement_of, Sending, Sends, Rests, Overflows, turn_of, handed, linked, fits, sends, sending_by, sending, name_of}
use Rattle.cascade_laws.specs.Headline.{ReportedOpening, Known, with_sent, known_after, BeginsFrom, session_over, refresh_over, stream_over, sent_octets, Follows, ReportsChange, IsNextOf}
use Rattle.cascade_world.specs.Opening.{message_id}
use Rattle.cascade_world.specs.Origins.{Lineage}
use Rattle.cascade_world.specs.ReportLines.{ReportLine as reported}
use Rattle.cascade_laws.proofs.Composing.{promises-still}
use Rattle.cascade_laws.proofs.Feeding.{IsSource, Feeds, far_of, GoesOn, IsGoing, IsFed, KeepsPromises, IsKept}
use Rattle.cascade_laws.proofs.FedCutting.{source-searches}
use Rattle.cascade_laws.proofs.Sharing.{others-changed}
use Rattle.cascade_laws.proofs.Streams.{stream_reports}

abbrev Name : Type 0
Name = List (List TypeAndValue)

-- ---- the message is in the link then

-- a `sent` line of a consumer adds the message to those of its latest opening
pub own_sent : (name message : List ℕ) (known : Known) → known_after name known (reported.Sent name message) ≡ record known { opening = option_map (with_sent message) known.opening }
own_sent name message known = ap (λ same. cond same (record known { opening = option_map (with_sent message) known.opening }) known) ((bytes_eq-Decides name name).1 refl)

-- what the provider has of it then
abbrev far_then : (number : ℕ) (p : ProviderState) (f : ConsumerNode) (opening : ReportedOpening) (entries : List Entry) → GoesOn number p f opening entries → SyncMessage → SoFar
far_then number p f opening entries goes first = one_further (far_of goes.session.start opening goes.session.count (goes.session.taken ++ goes.session.linked)) first

sent_goes : (number : ℕ) (p : ProviderState) (searches : Searches) (f : ConsumerNode) (own : Option ℕ) (opening : ReportedOpening) (entries : List Entry) (first : SyncMessage) (rest : List SyncMessage)
    (goes : GoesOn number p f opening entries) → goes.session.pending ≡ first ∷ rest
    → HasPending p.directory searches f.consumer.spec opening.persists goes.session.cut (far_then number p f opening entries goes first) own rest
    → GoesOn number (with_searches p searches) (linked f own (sent_octets first)) (with_sent (sent_octets first) opening) entries
sent_goes number p searches f own opening entries first rest goes some has = record {
  session = record {
    start = goes.session.start;
    from = goes.session.from;
    pieces = goes.session.pieces;
    sliced = goes.session.sliced;
    count = goes.session.count;
    upto = goes.session.upto;
    taken = goes.session.taken;
    ahead = goes.session.ahead;
    whole = goes.session.whole;
    cut = goes.session.cut;
    late = goes.session.late;
    linked = goes.session.linked ++ first ∷ [];
    pending = rest;
    left = subst (λ ms. Feeds opening.persists goes.session.cut ms goes.session.ahead) (sym (moved goes.session.linked rest goes.session.pending first some)) goes.session.left;
    reported =
        ap (λ ms. ms ++ sent_octets first ∷ []) goes.session.reported
        ∙ sym (map-append sent_octets (goes.session.taken ++ goes.session.linked) (first ∷ []))
        ∙ ap (map sent_octets) (append_assoc goes.session.taken goes.session.linked (first ∷ []));
  };
  link = ap (λ link. link ++ sent_octets first ∷ []) goes.link ∙ sym (map-append sent_octets goes.session.linked (first ∷ []));
  search =
      subst (λ ms. HasPending p.directory searches f.consumer.spec opening.persists goes.session.cut (far_of goes.session.start opening goes.session.count ms) own rest)
      (append_assoc goes.session.taken goes.session.linked (first ∷ [])) has;
  place = goes.place;
}

-- ---- what is reported of it

prefix_within : (number : ℕ) (writes : List Write) (text : Option (List ℕ)) (found : Option ℕ) (a : ℕ) → BeginsFrom number writes text found → found ≡ Some a → a ≤ length writes
prefix_within number writes None None a from is = let never : ⊥ = cc in absurd never
prefix_within number writes None (Some n) a from is = absurd from
prefix_within number writes (Some text) None a from is = let never : ⊥ = cc in absurd never
prefix_within number writes (Some text) (Some n) a from is = let same : n ≡ a = cc in omega (arith, same, from.counted, upto_low writes from.serves.cookie.csn)

module _ (lin : Lineage) (number : ℕ) (suffix : Name) (p : ProviderState) (f : ConsumerNode) (opening : ReportedOpening) (entries : List Entry) (goes : GoesOn number p f opening entries) (first : SyncMessage) (rest : List SyncMessage)
    (some : goes.session.pending ≡ first ∷ rest) where
  abbrev writes : List Write
  writes = p.directory.writes

  abbrev operation : SyncOperation
  operation = session_over number f.consumer.spec writes opening

  abbrev Stream : List SyncMessage
  Stream = stream_over number f.consumer.spec writes opening goes.session.start goes.session.pieces goes.session.count

  abbrev before : List SyncMessage
  before = goes.session.taken ++ goes.session.linked

  abbrev last : ℕ
  last = last_mark opening.writes goes.session.pieces

  abbrev far : SoFar
  far = far_of goes.session.start opening goes.session.count before

  -- in its place in the Stream, or the end with busy
  in_place : (cut : Bool) → goes.session.cut ≡ cut → Feeds opening.persists cut (goes.session.linked ++ goes.session.pending) goes.session.ahead
      → HasPending p.directory p.searches f.consumer.spec opening.persists cut far f.search goes.session.pending → Follows opening (length writes) Stream before first
  in_place false is left has = inl (rest, place_of goes.session.taken goes.session.linked goes.session.pending rest first Stream some (ap (λ ms. goes.session.taken ++ ms) left ∙ goes.session.whole))
  in_place true is left has = inr (left.left, whole, last_is, goes.session.late is, amid opening.persists refl)
    where
      only : (own : Option ℕ) → HasPending p.directory p.searches f.consumer.spec opening.persists true far own goes.session.pending → goes.session.pending ≡ busy_end ∷ []
      only None has' = let bad : [] ≡ first ∷ rest = sym has'.0 ∙ some in let never : ⊥ = cc in absurd never
      only (Some at) has' = sym has'.same ∙ pending_over p.directory has'.search has'.over

      one : goes.session.pending ≡ busy_end ∷ []
      one = only f.search has

      last_is : first ≡ busy_end
      last_is = heads first busy_end rest [] (sym some ∙ one)

      prefixes : goes.session.linked ≡ left.prefix
      prefixes = (same_from_push goes.session.linked left.prefix busy_end busy_end (ap (λ ms. goes.session.linked ++ ms) (sym one) ∙ left.is)).0

      whole : before ++ left.left ≡ Stream
      whole = append_assoc goes.session.taken goes.session.linked left.left ∙ ap (λ ms. goes.session.taken ++ (ms ++ left.left)) prefixes ∙ ap (λ ms. goes.session.taken ++ ms) left.split ∙ goes.session.whole

      amid : (persists : Bool) → opening.persists ≡ persists → (opening.persists ≡ true) ⊎ (is_nil left.left ≡ false)
      amid true goes' = inl goes'
      amid false ends = inr (ap is_nil (left.some ends).same)

  place : Follows opening (length writes) Stream before first
  place = in_place goes.session.cut refl goes.session.left goes.search

  -- an entry that a refresh from a cookie sends was touched since
  entry_changes : length before < length (refresh_over number f.consumer.spec writes opening goes.session.start goes.session.pieces) → (a : ℕ) (entry : Entry) → number_of goes.session.start ≡ Some a → sent_entry first ≡ Some entry
      → among entry.uuid (touched_over number writes a last) ≡ true
  entry_changes low a entry from is = by place
    where
      within : a ≤ opening.writes
      within =
          omega (
            arith,
            prefix_within number (take opening.writes writes) opening.cookie (number_of goes.session.start) a goes.session.from from,
            length-take opening.writes writes,
          )

      by : Follows opening (length writes) Stream before first → among entry.uuid (touched_over number writes a last) ≡ true
      by (inl next) =
          refresh_sends operation goes.session.start opening.writes goes.session.pieces goes.session.count (λ (e : Entry). among e.uuid (touched_over number writes a last) ≡ true) before next.0 first next.1 low
          (refresh_sent operation (λ n. ascends-state_of number writes n) goes.session.start a opening.writes goes.session.pieces from within goes.session.sliced) entry is
      by (inr end) = let bad : None ≡ Some entry = ap sent_entry (sym end.2) ∙ is in let never : ⊥ = cc in absurd never

  abbrev Reports : ℕ → Type 0
  Reports most = ReportsChange operation (refresh_over number f.consumer.spec writes opening goes.session.start goes.session.pieces) last most before first

  changes : length (refresh_over number f.consumer.spec writes opening goes.session.start goes.session.pieces) ≤ length before → (first ≡ busy_end) ⊎ Reports (length writes)
  changes high = by place
    where
      by : Follows opening (length writes) Stream before first → (first ≡ busy_end) ⊎ Reports (length writes)
      by (inl next) = inr (up (stream_reports operation goes.session.start opening.writes goes.session.pieces goes.session.count before next.0 first next.1 high))
        where
          up : Reports (last + goes.session.count) → Reports (length writes)
          up is = record {
            number = is.number;
            from = is.from;
            upto = omega (arith, is.upto, goes.session.upto);
            prefix = is.prefix;
            place = is.place;
            rest = is.rest;
            reported = is.reported;
            uuid = is.uuid;
            named = is.named;
            changed = is.changed;
          }
      by (inr end) = inl end.2

  next_is : IsNextOf number f.consumer.spec writes opening (sent_octets first)
  next_is = record {
    start = goes.session.start;
    begins = goes.session.from;
    pieces = goes.session.pieces;
    cut = goes.session.sliced;
    count = goes.session.count;
    upto = omega (arith, goes.session.upto);
    earlier = before;
    before = goes.session.reported;
    message = first;
    spelled = refl;
    place = place;
    entry_changes = entry_changes;
    changes = changes;
  }

  -- ---- what a consumer is sent

  -- the message went into the link, and the search goes on
  pub record IsLinked (known : Known) (after : Agreement) (message : List ℕ) : Type 0 where
    pub kept : IsKept number suffix (agreement_of p f lin) after (reported.Sent f.name message ∷ []) known
    pub now : GoesOn number after.provider after.consumer_node (with_sent message opening) entries

  module _ (known : Known) (latest : known.opening ≡ Some opening) (held : known.entries ≡ entries) (source : IsSource number suffix p) (fed : IsFed number p f known) where
    linked_is : (later : Searches) (at : ℕ) (own : Option ℕ) → f.search ≡ Some at → IsAfter p.directory p.searches later f.consumer.spec opening.persists goes.session.cut (one_further far first) at own rest
        → IsLinked known (agreement_of (with_searches p later) (linked f own (sent_octets first)) lin) (sent_octets first)
    linked_is later at own is now = record {
      kept = record {
        source = source-searches number suffix p later now.apart source;
        fed = subst (IsFed number (with_searches p later) (linked f own (sent_octets first))) (sym (own_sent f.name (sent_octets first) known)) (record {
          held = fed.held;
          ascending = fed.ascending;
          cookie = fed.cookie;
          promised = fed.promised;
          below = fed.below;
          state = inr (record {
            opening = with_sent (sent_octets first) opening;
            latest = ap (option_map (with_sent (sent_octets first))) latest;
            goes = subst (GoesOn number (with_searches p later) (linked f own (sent_octets first)) (with_sent (sent_octets first) opening)) (sym held) goes';
          });
        });
        right = ((refl, record { opening = opening; latest = latest; next = next_is }), tt);
        same = refl;
        others = others-changed lin number p later f (linked f own (sent_octets first)) at is now.elsewhere now.only;
        owns = owns-changed lin p later f (linked f own (sent_octets first)) at is now.elsewhere now.here;
        elsewhere = subst (KeepsPromises number f.consumer.spec known) (sym (own_sent f.name (sent_octets first) known)) (promises-still number f.consumer.spec known);
      };
      now = goes';
    }
      where
        goes' : GoesOn number (with_searches p later) (linked f own (sent_octets first)) (with_sent (sent_octets first) opening) entries
        goes' = sent_goes number p later f own opening entries first rest goes some now.has

    abbrev pub IsSentOut : Sending → Type 0
    IsSentOut (Sends after message) = IsLinked known after message
    IsSentOut Rests = ⊥
    IsSentOut Overflows = Unit {0}

    -- a message is sent where the link has room for it
    sends_kept : (at : ℕ) (own : Option ℕ) → f.search ≡ Some at → IsAfter p.directory p.searches (after_turn p.directory p.searches at (turn_at p.directory p.searches at)) f.consumer.spec opening.persists goes.session.cut (one_further far first) at own rest
        → IsSentOut (sends (agreement_of p f lin) own (sent_octets first))
    sends_kept at own is now = by (fits f (sent_octets first))
      where
        after : Option ℕ → Agreement
        after ours = agreement_of (handed p ours) (linked f own (sent_octets first)) lin

        by : (room : Bool) → IsSentOut (cond room (Sends (after f.search) (sent_octets first)) Overflows)
        by true = subst (λ ours. IsLinked known (after ours) (sent_octets first)) (sym is) (linked_is (after_turn p.directory p.searches at (turn_at p.directory p.searches at)) at own is now)
        by false = tt

    goes_out : (at : ℕ) → f.search ≡ Some at → turn_at p.directory p.searches at ≡ Hands (wire.sent message_id first)
        → IsAfter p.directory p.searches (after_turn p.directory p.searches at (turn_at p.directory p.searches at)) f.consumer.spec opening.persists goes.session.cut (one_further far first) at (Some at) rest → IsSentOut (sending_by (agreement_of p f lin) (turn_at p.directory p.searches at))
    goes_out at is turn now =
        subst (λ t. IsSentOut (sending_by (agreement_of p f lin) t)) (sym turn)
        (subst (λ own. IsSentOut (sends (agreement_of p f lin) own (sent_octets first))) (sym is) (sends_kept at (Some at) is now))

    comes_last : (at : ℕ) (code : ℕ) → f.search ≡ Some at → turn_at p.directory p.searches at ≡ Closes (pos code) (wire.sent message_id first)
        → IsAfter p.directory p.searches (after_turn p.directory p.searches at (turn_at p.directory p.searches at)) f.consumer.spec opening.persists goes.session.cut (one_further far first) at None rest → IsSentOut (sending_by (agreement_of p f lin) (turn_at p.directory p.searches at))
    comes_last at code is turn now = subst (λ t. IsSentOut (sending_by (agreement_of p f lin) t)) (sym turn) (sends_kept at None is now)

    abbrev After : Option ℕ → ℕ → Bool → Type 0
    After own at cut = IsAfter p.directory p.searches (after_turn p.directory p.searches at (turn_at p.directory p.searches at)) f.consumer.spec opening.persists cut (one_further far first) at own rest

    cut_is : (own : Option ℕ) (at : ℕ) (cut : Bool) → goes.session.cut ≡ cut → After own at cut → After own at goes.session.cut
    cut_is own at cut same now = subst (After own at) (sym same) now

    turn_now : (at : ℕ) → f.search ≡ Some at → (cut : Bool) → goes.session.cut ≡ cut → Feeds opening.persists cut (goes.session.linked ++ goes.session.pending) goes.session.ahead → IsPending p.directory p.searches f.consumer.spec opening.persists cut far at goes.session.pending
        → IsSentOut (sending_by (agreement_of p f lin) (turn_at p.directory p.searches at))
    turn_now at is false open' left has = by (stream_turn operation goes.session.start opening.writes goes.session.pieces goes.session.count before rest first whole)
      where
        whole : before ++ first ∷ rest ≡ Stream
        whole = place_of goes.session.taken goes.session.linked goes.session.pending rest first Stream some (ap (λ ms. goes.session.taken ++ ms) left ∙ goes.session.whole)

        turn : turn_at p.directory p.searches at ≡ turn_of_message message_id first
        turn = turn_is p.directory p.searches at has.search first rest has.found (has.same ∙ some) has.id

        no_wait : (b : Bool) → waits b false ≡ false → b ≡ false
        no_wait true bad = absurd (true≢false bad)
        no_wait false good = refl

        by : IsHanded operation.persists first rest ⊎ IsClosing operation.persists first rest → IsSentOut (sending_by (agreement_of p f lin) (turn_at p.directory p.searches at))
        by (inl hands) =
            let now = turn ∙ hands.turn in
            goes_out at is now
            (cut_is (Some at) at false open' (handed_out p.directory p.searches f.consumer.spec opening.persists far at goes.session.pending rest first has some now (λ w. hands.more (no_wait opening.persists w)) source.apart))
        by (inr closes) =
            let now = turn ∙ closes.turn in
            comes_last at 0 is now
            (cut_is None at false open' (closed_then p.directory p.searches f.consumer.spec opening.persists false (one_further far first) at (Closes (pos SUCCESS) (wire.sent message_id first)) rest now refl closes.none
            (ap (λ b. waits b false) closes.ends) source.apart))
    turn_now at is true closed' left has =
        comes_last at BUSY is now
        (cut_is None at true closed' (closed_then p.directory p.searches f.consumer.spec opening.persists true (one_further far first) at (Closes (pos BUSY) (wire.sent message_id first)) rest now refl none (cut_waits opening.persists) source.apart))
      where
        one : goes.session.pending ≡ busy_end ∷ []
        one = sym has.same ∙ pending_over p.directory has.search has.over

        last_is : first ≡ busy_end
        last_is = heads first busy_end rest [] (sym some ∙ one)

        none : rest ≡ []
        none = tails first busy_end rest [] (sym some ∙ one)

        now : turn_at p.directory p.searches at ≡ Closes (pos BUSY) (wire.sent message_id first)
        now =
            turn_is p.directory p.searches at has.search first rest has.found (has.same ∙ some) has.id
            ∙ ap (turn_of_message message_id) last_is
            ∙ ap (λ m. Closes (pos BUSY) (wire.sent message_id m)) (sym last_is)

    -- what is handed out next goes into the link, and the consumer is fed as before
    pub pending_kept : (at : ℕ) → f.search ≡ Some at → IsPending p.directory p.searches f.consumer.spec opening.persists goes.session.cut far at goes.session.pending → IsSentOut (sending_by (agreement_of p f lin) (turn_at p.directory p.searches at))
    pending_kept at is has = turn_now at is goes.session.cut refl goes.session.left has

-- what a consumer whose search goes on is sent
abbrev pub GoingSent : ℕ → Name → Agreement → Known → ReportedOpening → Sending → Type 0
GoingSent number suffix pair known opening (Sends after message) =
    IsKept number suffix pair after (reported.Sent (name_of pair) message ∷ []) known × GoesOn number after.provider after.consumer_node (with_sent message opening) known.entries
GoingSent number suffix pair known opening Rests = Unit {0}
GoingSent number suffix pair known opening Overflows = Unit {0}

-- so it is of a search that goes on
pub going_sent : (lin : Lineage) (number : ℕ) (suffix : Name) (p : ProviderState) (f : ConsumerNode) (known : Known) (opening : ReportedOpening) → known.opening ≡ Some opening → IsSource number suffix p → IsFed number p f known
    → GoesOn number p f opening known.entries → GoingSent number suffix (agreement_of p f lin) known opening (sending (agreement_of p f lin))
going_sent lin number suffix p f known opening latest source fed goes = by f.search refl goes.search
  where
    Good : Sending → Type 0
    Good s = GoingSent number suffix (agreement_of p f lin) known opening s

    far : SoFar
    far = far_of goes.session.start opening goes.session.count (goes.session.taken ++ goes.session.linked)

    some_sent : (at : ℕ) → f.search ≡ Some at → IsPending p.directory p.searches f.consumer.spec opening.persists goes.session.cut far at goes.session.pending → (first : SyncMessage) (rest : List SyncMessage) → goes.session.pending ≡ first ∷ rest
        → Good (sending_by (agreement_of p f lin) (turn_at p.directory p.searches at))
    some_sent at is has first rest some = both (sending_by (agreement_of p f lin) (turn_at p.directory p.searches at)) (pending_kept lin number suffix p f opening known.entries goes first rest some known latest refl source fed at is has)
      where
        both : (s : Sending) → IsSentOut lin number suffix p f opening known.entries goes first rest some known latest refl source fed s → Good s
        both (Sends after message) is' = (is'.kept, is'.now)
        both Rests is' = absurd is'
        both Overflows is' = tt

    none_sent : (at : ℕ) → IsPending p.directory p.searches f.consumer.spec opening.persists goes.session.cut far at goes.session.pending → goes.session.pending ≡ [] → Good (sending_by (agreement_of p f lin) (turn_at p.directory p.searches at))
    none_sent at has none =
        subst (λ t. Good (sending_by (agreement_of p f lin) t)) (sym (ap (turn_of_found p.directory) has.found ∙ ap (turn_of_pending has.search.id) (has.same ∙ none))) tt

    by : (own : Option ℕ) → f.search ≡ own → HasPending p.directory p.searches f.consumer.spec opening.persists goes.session.cut far own goes.session.pending → Good (sending_by (agreement_of p f lin) (turn_of p own))
    by None is has = tt
    by (Some at) is has = pend goes.session.pending refl
      where
        pend : (messages : List SyncMessage) → goes.session.pending ≡ messages → Good (sending_by (agreement_of p f lin) (turn_at p.directory p.searches at))
        pend [] none = none_sent at has none
        pend (first ∷ rest) some = some_sent at is has first rest some

-- what any consumer is sent
abbrev pub SendingKept : ℕ → Name → Agreement → Known → Sending → Type 0
SendingKept number suffix pair known (Sends after message) = IsKept number suffix pair after (reported.Sent (name_of pair) message ∷ []) known
SendingKept number suffix pair known Rests = Unit {0}
SendingKept number suffix pair known Overflows = Unit {0}

-- and of any consumer, with a search or without one
pub sending_kept : (number : ℕ) (suffix : Name) (pair : Agreement) (known : Known) → IsSource number suffix pair.provider → IsFed number pair.provider pair.consumer_node known
    → SendingKept number suffix pair known (sending pair)
sending_kept number suffix pair known source fed = by fed.state
  where
    kept : (opening : ReportedOpening) (s : Sending) → GoingSent number suffix pair known opening s → SendingKept number suffix pair known s
    kept opening (Sends after message) is = is.0
    kept opening Rests is = tt
    kept opening Overflows is = tt

    by : IsAtRest pair.consumer_node ⊎ IsGoing number pair.provider pair.consumer_node known → SendingKept number suffix pair known (sending pair)
    by (inl rest) = subst (λ own. SendingKept number suffix pair known (sending_by pair (turn_of pair.provider own))) (sym rest.search) tt
    by (inr going) = kept going.opening (sending pair) (going_sent pair.lineage number suffix pair.provider pair.consumer_node known going.opening going.latest source fed going.goes)
