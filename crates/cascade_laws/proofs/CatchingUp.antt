-- A consumer that is brought up to its provider holds what it wants of all the provider's writes.
use Rattle.std.proofs.Common.{◌≡◌, ◌<◌, ◌≤◌, ℕ, zero, suc, Bool, true, false, cond, Option, Some, None, List, [], ◌∷◌, ◌++◌, length, map, refl, ap, sym, ◌∙◌, inl, inr, arith, subst}
use Rattle.std.specs.Prelude.{◌⊎◌, ◌&&◌, Ok, Err, is_some, option_map}
use Rattle.std.proofs.Math.Seq.{take-length}
use Rattle.std.proofs.lemmas.Bool.{false≢true}
use Rattle.std.proofs.lemmas.List.Sums.{fold-append}
use Rattle.std.proofs.lemmas.List.{nil_from_length}
use Rattle.std.proofs.lemmas.Option.{none-some}
use Rattle.ldap_messages.specs.Whole.{message_octets}
use Rattle.csn_cookie.specs.Csn.{start}
use Rattle.directory_writes.specs.Directory.{entries_after}
use Rattle.directory_writes.proofs.Promised.{content_at}
use Rattle.dn_names.specs.Names.{TypeAndValue}
use Rattle.entry_tree.specs.Selection.{select}
use Rattle.entry_tree.specs.declared.entry.Entry.{Entry}
use Rattle.entry_tree.specs.declared.op.Write.{Write}
use Rattle.sync_model.specs.Copy.{Copy}
use Rattle.sync_model.specs.Law.{IsContentWithin}
use Rattle.sync_model.specs.Message.{SyncMessage}
use Rattle.sync_model.specs.Stream.{SyncOperation, content_after, last_mark, later}
use Rattle.sync_model.proofs.Histories.{ascends-state_of}
use Rattle.sync_consumer.specs.Taking.{is_persisting}
use Rattle.sync_provider.specs.HandingOut.{HandOut, turn_of_pending, turn_of_found, search_at}
use Rattle.sync_provider.specs.HandingOut.HandOut.{Hands, Closes, Waits, Unknown}
use Rattle.sync_provider.specs.Machine.{ProviderState}
use Rattle.sync_provider.specs.Search.{SearchState, busy_end, pending}
use Rattle.sync_provider.proofs.Advanced.{IsIdle, never_idle}
use Rattle.sync_provider.proofs.Whereabouts.{InRefresh, AtWhole, InGroup}
use Rattle.cascade_nodes.specs.declared.node.ConsumerNode.{ConsumerNode}
use Rattle.cascade_nodes.proofs.Fed.{SoFar, HasRoom, HasPending, IsAtRest}
use Rattle.cascade_world.specs.Exchange.{Agreement, agreement_of, ExchangeOutcome, after_lines, and_then, copy_of, name_of, Sending, Sends, Rests, Overflows, turn_of, handed, linked, fits, sending_by, sending, taking, taken_as, taken_from, taken_before, taken_some, pending_count, left_to_send, ran_before, ran_some, runs, drains, follows_on, opens_anew, refreshes, catches_up, settled_reported}
use Rattle.cascade_laws.specs.Headline.{ReportedOpening, Known, with_sent, known_after, session_over, sent_octets}
use Rattle.cascade_world.specs.Reception.{Came, received}
use Rattle.cascade_world.specs.Reception.{Came as came}
use Rattle.cascade_world.specs.Origins.{Lineage}
use Rattle.cascade_world.specs.ReportLines.{ReportLine}
use Rattle.cascade_world.specs.ReportLines.{ReportLine as reported}
use Rattle.cascade_laws.proofs.Composing.{IsKeptIn, known_by_lines, kept-still, kept-reported, kept-then, kept-lines}
use Rattle.cascade_laws.proofs.Feeding.{IsSource, Feeds, far_of, GoesOn, IsGoing, IsFed, Frame, IsKept}
use Rattle.cascade_laws.proofs.FedOpening.{OpenedIn, opens_anew_opens}
use Rattle.cascade_laws.proofs.FedSending.{own_sent, GoingSent, going_sent}
use Rattle.cascade_laws.proofs.FedTaking.{IsTaken, GoingTaken, going_taken, cookies_are_texts}
use Rattle.sync_provider.proofs.Past as past
use Rattle.cascade_exchange.proofs.Pending.{Left, LeavesLess, leaves_less}
use Rattle.cascade_exchange.proofs.Owns.{room_after}

abbrev Name : Type 0
Name = List (List TypeAndValue)

-- what is wanted of all the writes
abbrev pub all_content : ℕ → ProviderState → ConsumerNode → List Entry
all_content number p f = select f.consumer.spec (entries_after number p.directory.writes)

content_of_all : (number : ℕ) (p : ProviderState) (f : ConsumerNode) → content_at number f.consumer.spec p.directory.writes (length p.directory.writes) ≡ all_content number p f
content_of_all number p f = ap (λ (ws : List Write). select f.consumer.spec (entries_after number ws)) (take-length p.directory.writes)

-- ---- nothing is in the link, and nothing is pending

pub record IsDrained (pair : Agreement) : Type 0 where
  pub link : pair.consumer_node.link ≡ []
  pub none : Left pair ≡ 0

map_none : (link : List SyncMessage) → map sent_octets link ≡ [] → link ≡ []
map_none [] same = refl
map_none (m ∷ link) same = let never : ⊥ = cc in absurd never

-- the messages that are pending are counted
pending_counted : (lin : Lineage) (p : ProviderState) (f : ConsumerNode) (mode cut : Bool) (far : SoFar) (own : Option ℕ) (messages : List SyncMessage) → HasPending p.directory p.searches f.consumer.spec mode cut far own messages
    → left_to_send (agreement_of p f lin) own ≡ length messages
pending_counted lin p f mode cut far None messages has = ap length (sym has.0)
pending_counted lin p f mode cut far (Some at) messages has = ap (pending_count p.directory) has.found ∙ ap length has.same

module _ (lin : Lineage) (number : ℕ) (p : ProviderState) (f : ConsumerNode) (opening : ReportedOpening) (entries : List Entry) (goes : GoesOn number p f opening entries) (drained : IsDrained (agreement_of p f lin)) where
  no_link : goes.session.linked ≡ []
  no_link = map_none goes.session.linked (sym goes.link ∙ drained.link)

  no_pending : goes.session.pending ≡ []
  no_pending =
      nil_from_length goes.session.pending
      (sym (pending_counted lin p f opening.persists goes.session.cut (far_of goes.session.start opening goes.session.count (goes.session.taken ++ goes.session.linked)) f.search goes.session.pending goes.search) ∙ drained.none)

  nothing_left : goes.session.linked ++ goes.session.pending ≡ []
  nothing_left = (λ i. no_link i ++ no_pending i)

  -- all of the Stream was taken
  pub all_taken : (goes.session.cut ≡ false) × (goes.session.ahead ≡ [])
  all_taken = by goes.session.cut refl (subst (λ ms. Feeds opening.persists goes.session.cut ms goes.session.ahead) nothing_left goes.session.left)
    where
      filled : (prefix : List SyncMessage) → [] ≡ prefix ++ busy_end ∷ [] → ⊥
      filled [] same = cc
      filled (m ∷ prefix) same = cc

      by : (cut : Bool) → goes.session.cut ≡ cut → Feeds opening.persists cut [] goes.session.ahead → (goes.session.cut ≡ false) × (goes.session.ahead ≡ [])
      by false is left = (is, sym left)
      by true is left = absurd (filled left.prefix left.is)

-- ---- a consumer whose search goes on, and has nothing left, is up to its provider

module _ (lin : Lineage) (number : ℕ) (suffix : Name) (p : ProviderState) (f : ConsumerNode) (opening : ReportedOpening) (entries : List Entry) (source : IsSource number suffix p) (goes : GoesOn number p f opening entries)
    (drained : IsDrained (agreement_of p f lin)) where
  abbrev writes : List Write
  writes = p.directory.writes

  abbrev operation : SyncOperation
  operation = session_over number f.consumer.spec writes opening

  none_ahead : goes.session.ahead ≡ []
  none_ahead = (all_taken lin number p f opening entries goes drained).1

  -- the number of writes at the last piece
  abbrev last : ℕ
  last = last_mark opening.writes goes.session.pieces

  in_refresh : InRefresh operation goes.session.start opening.writes goes.session.pieces goes.session.count entries f.consumer.copy goes.session.taken goes.session.ahead → ⊥
  in_refresh is = let bad : [] ≡ is.some.next ∷ (is.some.later ++ cond operation.persists (later operation last goes.session.count) []) =
      sym none_ahead ∙ is.beyond ∙ ap (λ ms. ms ++ cond operation.persists (later operation last goes.session.count) []) is.some.same in
      let never : ⊥ = cc in
      never

  whole_is : AtWhole operation last goes.session.count entries f.consumer.copy goes.session.ahead → entries ≡ all_content number p f
  whole_is is =
      is.content
      ∙ past.none_left operation (λ n. ascends-state_of number writes n) (λ n. (source.good n).within)
      (λ n. (source.good n).sent) (cookies_are_texts number f.consumer.spec writes opening) last goes.session.count is.more is.number (sym is.beyond ∙ none_ahead)
      ∙ ap (content_after operation) (is.sum ∙ goes.session.upto)
      ∙ content_of_all number p f

  group_is : InGroup operation last goes.session.count entries f.consumer.copy goes.session.ahead → ⊥
  group_is is =
      past.group_filled operation (λ n. ascends-state_of number writes n) (λ n. (source.good n).within)
      (λ n. (source.good n).sent) (cookies_are_texts number f.consumer.spec writes opening) last goes.session.count entries f.consumer.copy
      (subst (InGroup operation last goes.session.count entries f.consumer.copy) none_ahead is)

  -- its entries are what it wants of all of the provider's writes
  pub up_to_date : entries ≡ all_content number p f
  up_to_date = by goes.place
    where
      by_past : AtWhole operation last goes.session.count entries f.consumer.copy goes.session.ahead ⊎ InGroup operation last goes.session.count entries f.consumer.copy goes.session.ahead → entries ≡ all_content number p f
      by_past (inl is) = whole_is is
      by_past (inr is) = absurd (group_is is)

      by : InRefresh operation goes.session.start opening.writes goes.session.pieces goes.session.count entries f.consumer.copy goes.session.taken goes.session.ahead
          ⊎ ((operation.persists ≡ true) × (AtWhole operation last goes.session.count entries f.consumer.copy goes.session.ahead ⊎ InGroup operation last goes.session.count entries f.consumer.copy goes.session.ahead))
          → entries ≡ all_content number p f
      by (inl is) = absurd (in_refresh is)
      by (inr is) = by_past is.1

-- ---- what runs, and what of it is drained

abbrev pub DrainedIn : ExchangeOutcome → Type 0
DrainedIn (Ok next) = IsDrained next.0
DrainedIn (Err cause) = Unit {0}

drained_lines : (lines : List ReportLine) (outcome : ExchangeOutcome) → DrainedIn outcome → DrainedIn (after_lines lines outcome)
drained_lines lines (Ok next) drained = drained
drained_lines lines (Err cause) drained = tt

idle_turn : (pair : Agreement) (turn : HandOut) → sending_by pair turn ≡ Rests → IsIdle turn
idle_turn pair (Hands whole) is = by (fits pair.consumer_node (message_octets whole)) is
  where
    by : (room : Bool) → cond room (Sends (agreement_of (handed pair.provider pair.consumer_node.search) (linked pair.consumer_node pair.consumer_node.search (message_octets whole)) pair.lineage) (message_octets whole)) Overflows ≡ Rests → ⊥
    by true is = cc
    by false is = cc
idle_turn pair (Closes code whole) is = by (fits pair.consumer_node (message_octets whole)) is
  where
    by : (room : Bool) → cond room (Sends (agreement_of (handed pair.provider pair.consumer_node.search) (linked pair.consumer_node None (message_octets whole)) pair.lineage) (message_octets whole)) Overflows ≡ Rests → ⊥
    by true is = cc
    by false is = cc
idle_turn pair Waits is = tt
idle_turn pair Unknown is = tt

rests_none : (pair : Agreement) → sending pair ≡ Rests → Left pair ≡ 0
rests_none pair is = by pair.consumer_node.search refl
  where
    waiting : (s : SearchState) (messages : List SyncMessage) → IsIdle (turn_of_pending s.id messages) → length messages ≡ 0
    waiting s [] idle = refl
    waiting s (m ∷ messages) idle = absurd (never_idle s.id m idle)

    found : (s : Option SearchState) → IsIdle (turn_of_found pair.provider.directory s) → pending_count pair.provider.directory s ≡ 0
    found None idle = refl
    found (Some s) idle = waiting s (pending pair.provider.directory s) idle

    by : (own : Option ℕ) → pair.consumer_node.search ≡ own → left_to_send pair own ≡ 0
    by None at = refl
    by (Some number) at = found (search_at pair.provider.searches number) (idle_turn pair (turn_of pair.provider (Some number)) (ap (λ o. sending_by pair (turn_of pair.provider o)) (sym at) ∙ is))

abbrev LinksOne : Agreement → Sending → Type 0
LinksOne pair (Sends after message) = after.consumer_node.link ≡ pair.consumer_node.link ++ message ∷ []
LinksOne pair Rests = Unit {0}
LinksOne pair Overflows = Unit {0}

links_one : (pair : Agreement) (turn : HandOut) → LinksOne pair (sending_by pair turn)
links_one pair (Hands whole) = by (fits pair.consumer_node (message_octets whole))
  where
    by : (room : Bool) → LinksOne pair (cond room (Sends (agreement_of (handed pair.provider pair.consumer_node.search) (linked pair.consumer_node pair.consumer_node.search (message_octets whole)) pair.lineage) (message_octets whole)) Overflows)
    by true = refl
    by false = tt
links_one pair (Closes code whole) = by (fits pair.consumer_node (message_octets whole))
  where
    by : (room : Bool) → LinksOne pair (cond room (Sends (agreement_of (handed pair.provider pair.consumer_node.search) (linked pair.consumer_node None (message_octets whole)) pair.lineage) (message_octets whole)) Overflows)
    by true = refl
    by false = tt
links_one pair Waits = tt
links_one pair Unknown = tt

-- a taking leaves the rest of the link, or nothing, and no more pending
record IsShorter (pair : Agreement) (rest : List (List ℕ)) (after : Agreement) : Type 0 where
  link : length after.consumer_node.link ≤ length rest
  left : Left after ≤ Left pair

as_shorter : (pair : Agreement) (rest : List (List ℕ)) (copy : Copy) (found : Came) → IsShorter pair rest (taken_as pair rest copy found).0
as_shorter pair rest copy came.Staged = record { link = omega arith; left = omega arith }
as_shorter pair rest copy (came.Stored commit) = record { link = omega arith; left = omega arith }
as_shorter pair rest copy came.Copied = record { link = omega arith; left = omega arith }
as_shorter pair rest copy (came.Over code) = record { link = omega arith; left = omega arith }
as_shorter pair rest copy (came.Refused fault) = record { link = omega arith; left = omega arith }

took_some : (count : ℕ) (idle : List ReportLine) (pair : Agreement) → length pair.consumer_node.link ≤ count → ((taken_some count idle pair).0.consumer_node.link ≡ []) × (Left (taken_some count idle pair).0 ≤ Left pair)
took_some zero idle pair few = (nil_from_length pair.consumer_node.link (omega (arith, few)), omega arith)
took_some (suc count) idle pair few = by (λ next. took_some count idle next) pair.consumer_node.link refl
  where
    Took : Agreement × List ReportLine → Type 0
    Took taken = (taken.0.consumer_node.link ≡ []) × (Left taken.0 ≤ Left pair)

    by : ((next : Agreement) → length next.consumer_node.link ≤ count → ((taken_some count idle next).0.consumer_node.link ≡ []) × (Left (taken_some count idle next).0 ≤ Left next)) → (link : List (List ℕ)) → pair.consumer_node.link ≡ link
        → Took (taken_before (λ after. taken_some count idle after) pair idle (taken_from pair pair.consumer_node.link))
    by more [] is = subst (λ l. Took (taken_before (λ after. taken_some count idle after) pair idle (taken_from pair l))) (sym is) (is, omega arith)
    by more (message ∷ rest) is =
        let first = as_shorter pair rest (received (copy_of pair.consumer_node) message).0 (received (copy_of pair.consumer_node) message).1 in
        let next = (taken_as pair rest (received (copy_of pair.consumer_node) message).0 (received (copy_of pair.consumer_node) message).1).0 in
        let short : length rest ≤ count = omega (arith, few, ap (λ (l : List (List ℕ)). length l) is) in
        let then = more next (omega (arith, first.link, short)) in
        subst (λ l. Took (taken_before (λ after. taken_some count idle after) pair idle (taken_from pair l))) (sym is) (then.0, omega (arith, then.1, first.left))

ran_drained : (count : ℕ) (pair : Agreement) → pair.consumer_node.link ≡ [] → Left pair ≤ count → DrainedIn (ran_some count pair)
ran_drained zero pair link few = record { link = link; none = omega (arith, few) }
ran_drained (suc count) pair link few = by (λ next. ran_drained count next) (sending pair) refl (leaves_less pair) (links_one pair (turn_of pair.provider pair.consumer_node.search))
  where
    by : ((next : Agreement) → next.consumer_node.link ≡ [] → Left next ≤ count → DrainedIn (ran_some count next)) → (s : Sending) → sending pair ≡ s → LeavesLess (Left pair) (sending pair) → LinksOne pair (sending pair)
        → DrainedIn (ran_before (λ after. ran_some count after) pair s)
    by more Rests is less one = record { link = link; none = rests_none pair is }
    by more Overflows is less one = tt
    by more (Sends after message) is less one =
        let fewer : Left after < Left pair = subst (LeavesLess (Left pair)) is less in
        let long : after.consumer_node.link ≡ message ∷ [] = subst (LinksOne pair) is one ∙ ap (λ l. l ++ message ∷ []) link in
        let took = took_some 1 [] after (omega (arith, ap (λ (l : List (List ℕ)). length l) long)) in
        drained_lines (reported.Sent (name_of pair) message ∷ (taken_some 1 [] after).1) (ran_some count (taken_some 1 [] after).0)
        (more (taken_some 1 [] after).0 took.0 (omega (arith, took.1, fewer, few)))

-- what is left after the link and the search were drained
pub drains_drained : (pair : Agreement) → DrainedIn (and_then (drains pair) runs)
drains_drained pair =
    let took = took_some (length pair.consumer_node.link) [] pair (omega arith) in
    let after = (taken_some (length pair.consumer_node.link) [] pair).0 in
    drained_lines (taken_some (length pair.consumer_node.link) [] pair).1 (runs after) (ran_drained (Left after) after took.0 (omega arith))

-- ---- a search that was opened after all writes runs to its end

pub record Catches (number : ℕ) (p : ProviderState) (f : ConsumerNode) (known : Known) : Type 0 where
  pub opening : ReportedOpening
  pub latest : known.opening ≡ Some opening
  pub all : opening.writes ≡ length p.directory.writes
  pub state : GoesOn number p f opening known.entries ⊎ (IsAtRest f × (known.entries ≡ all_content number p f))

abbrev CatchesIn : ℕ → Name → Agreement → Known → ExchangeOutcome → Type 0
CatchesIn number suffix pair known (Ok next) = IsKept number suffix pair next.0 next.1 known × Catches number next.0.provider next.0.consumer_node (known_by_lines pair.consumer_node.name known next.1)
CatchesIn number suffix pair known (Err cause) = Unit {0}

-- the writes are the same
same_writes : (number : ℕ) (suffix : Name) (pair after : Agreement) (lines : List ReportLine) (known : Known) → IsKept number suffix pair after lines known → after.provider.directory.writes ≡ pair.provider.directory.writes
same_writes number suffix pair after lines known kept = ap (λ (frame : Frame). frame.writes) kept.same

same_spec : (number : ℕ) (suffix : Name) (pair after : Agreement) (lines : List ReportLine) (known : Known) → IsKept number suffix pair after lines known → after.consumer_node.consumer.spec ≡ pair.consumer_node.consumer.spec
same_spec number suffix pair after lines known kept = ap (λ (frame : Frame). frame.spec) kept.same

-- one message is sent
catches_sent : (number : ℕ) (suffix : Name) (pair : Agreement) (known : Known) → IsSource number suffix pair.provider → IsFed number pair.provider pair.consumer_node known → (is : Catches number pair.provider pair.consumer_node known)
    → (after : Agreement) (message : List ℕ) → sending pair ≡ Sends after message
    → IsKept number suffix pair after (reported.Sent (name_of pair) message ∷ []) known × Catches number after.provider after.consumer_node (known_after pair.consumer_node.name known (reported.Sent (name_of pair) message))
catches_sent number suffix pair known source fed is after message sends' = by is.state
  where
    by : GoesOn number pair.provider pair.consumer_node is.opening known.entries ⊎ (IsAtRest pair.consumer_node × (known.entries ≡ all_content number pair.provider pair.consumer_node))
        → IsKept number suffix pair after (reported.Sent (name_of pair) message ∷ []) known × Catches number after.provider after.consumer_node (known_after pair.consumer_node.name known (reported.Sent (name_of pair) message))
    by (inl goes) =
        let sent = subst (GoingSent number suffix pair known is.opening) sends' (going_sent pair.lineage number suffix pair.provider pair.consumer_node known is.opening is.latest source fed goes) in
        let same = own_sent pair.consumer_node.name message known in (
          sent.0,
          record {
            opening = with_sent message is.opening;
            latest = ap (λ (k : Known). k.opening) same ∙ ap (option_map (with_sent message)) is.latest;
            all = is.all ∙ ap (λ (ws : List Write). length ws) (sym (same_writes number suffix pair after (reported.Sent (name_of pair) message ∷ []) known sent.0));
            state = inl (subst (λ (k : Known). GoesOn number after.provider after.consumer_node (with_sent message is.opening) k.entries) (sym same) sent.1);
          },
        )
    by (inr rest) =
        let none : sending pair ≡ Rests = ap (λ own. sending_by pair (turn_of pair.provider own)) rest.0.search in
        let bad : Rests ≡ Sends after message = sym none ∙ sends' in
        let never : ⊥ = cc in
        absurd never

-- and one is taken
catches_taken : (number : ℕ) (suffix : Name) (pair : Agreement) (known : Known) → IsSource number suffix pair.provider → IsFed number pair.provider pair.consumer_node known → Catches number pair.provider pair.consumer_node known
    → (after : Agreement) (line : ReportLine) → taking pair ≡ Some (after, line)
    → IsKept number suffix pair after (line ∷ []) known × Catches number after.provider after.consumer_node (known_after pair.consumer_node.name known line)
catches_taken number suffix pair known source fed is after line takes' = by is.state
  where
    writes : List Write
    writes = pair.provider.directory.writes

    by : GoesOn number pair.provider pair.consumer_node is.opening known.entries ⊎ (IsAtRest pair.consumer_node × (known.entries ≡ all_content number pair.provider pair.consumer_node))
        → IsKept number suffix pair after (line ∷ []) known × Catches number after.provider after.consumer_node (known_after pair.consumer_node.name known line)
    by (inl goes) = (
      taken.kept,
      record {
        opening = is.opening;
        latest = taken.still ∙ is.latest;
        all = is.all ∙ ap (λ (ws : List Write). length ws) (sym (same_writes number suffix pair after (line ∷ []) known taken.kept));
        state = now taken.then;
      },
    )
      where
        taken : IsTaken pair.lineage number suffix pair.provider pair.consumer_node known is.opening is.latest source fed goes after line
        taken = subst (GoingTaken pair.lineage number suffix pair.provider pair.consumer_node known is.opening is.latest source fed goes) takes' (going_taken pair.lineage number suffix pair.provider pair.consumer_node known is.opening is.latest source fed goes)

        there : all_content number after.provider after.consumer_node ≡ all_content number pair.provider pair.consumer_node
        there = λ i. select (same_spec number suffix pair after (line ∷ []) known taken.kept i) (entries_after number (same_writes number suffix pair after (line ∷ []) known taken.kept i))

        -- no write came since the opening, so that what is held is the content after all writes
        content : (is.opening.writes < length writes) ⊎ IsContentWithin (session_over number pair.consumer_node.consumer.spec writes is.opening) is.opening.writes (length writes) (known_after pair.consumer_node.name known line).entries
            → (known_after pair.consumer_node.name known line).entries ≡ all_content number after.provider after.consumer_node
        content (inl since) = absurd (omega (arith, since, is.all))
        content (inr within) =
            let all : within.number ≡ length writes = omega (arith, within.from, within.upto, is.all) in
            within.same ∙ ap (content_at number pair.consumer_node.consumer.spec writes) all ∙ content_of_all number pair.provider pair.consumer_node ∙ sym there

        now : GoesOn number after.provider after.consumer_node is.opening (known_after pair.consumer_node.name known line).entries
            ⊎ (IsAtRest after.consumer_node × ((is.opening.writes < length writes) ⊎ IsContentWithin (session_over number pair.consumer_node.consumer.spec writes is.opening) is.opening.writes (length writes) (known_after pair.consumer_node.name known line).entries))
            → GoesOn number after.provider after.consumer_node is.opening (known_after pair.consumer_node.name known line).entries
            ⊎ (IsAtRest after.consumer_node × ((known_after pair.consumer_node.name known line).entries ≡ all_content number after.provider after.consumer_node))
        now (inl goes') = inl goes'
        now (inr rest) = inr (rest.0, content rest.1)
    by (inr rest) =
        let none : taking pair ≡ None = ap (taken_from pair) rest.0.link in
        absurd (none-some (after, line) (sym none ∙ takes'))

-- what was reported of more lines
known_on : (number : ℕ) (p : ProviderState) (f : ConsumerNode) (name other : List ℕ) (known : Known) (lines more : List ReportLine) → other ≡ name
    → Catches number p f (known_by_lines other (known_by_lines name known lines) more) → Catches number p f (known_by_lines name known (lines ++ more))
known_on number p f name other known lines more same catches =
    subst (Catches number p f) (ap (λ n. known_by_lines n (known_by_lines name known lines) more) same ∙ sym (fold-append (known_after name) known lines more)) catches

catches_on : (number : ℕ) (suffix : Name) (one two : Agreement) (lines : List ReportLine) (known : Known) (outcome : ExchangeOutcome) → IsKept number suffix one two lines known
    → CatchesIn number suffix two (known_by_lines one.consumer_node.name known lines) outcome → CatchesIn number suffix one known (after_lines lines outcome)
catches_on number suffix one two lines known (Err cause) first then = tt
catches_on number suffix one two lines known (Ok next) first then = (
  kept-then number suffix one two next.0 lines next.1 known first then.0,
  known_on number next.0.provider next.0.consumer_node one.consumer_node.name two.consumer_node.name known lines next.1 (ap (λ (frame : Frame). frame.name) first.same) then.1,
)

-- one is taken, if there is one
took_one : (number : ℕ) (suffix : Name) (pair : Agreement) (known : Known) → IsSource number suffix pair.provider → IsFed number pair.provider pair.consumer_node known → Catches number pair.provider pair.consumer_node known
    → CatchesIn number suffix pair known (Ok (taken_some 1 [] pair))
took_one number suffix pair known source fed is = by (taking pair) refl
  where
    by : (found : Option (Agreement × ReportLine)) → taking pair ≡ found → CatchesIn number suffix pair known (Ok (taken_before (λ after. taken_some 0 [] after) pair [] found))
    by None none = (kept-still number suffix pair known source fed, is)
    by (Some first) some = catches_taken number suffix pair known source fed is first.0 first.1 some

ran_catches : (count : ℕ) (number : ℕ) (suffix : Name) (pair : Agreement) (known : Known) → IsSource number suffix pair.provider → IsFed number pair.provider pair.consumer_node known → Catches number pair.provider pair.consumer_node known
    → CatchesIn number suffix pair known (ran_some count pair)
ran_catches zero number suffix pair known source fed is = (kept-still number suffix pair known source fed, is)
ran_catches (suc count) number suffix pair known source fed is = by (ran_catches count number suffix) (sending pair) refl
  where
    by : ((next : Agreement) (k : Known) → IsSource number suffix next.provider → IsFed number next.provider next.consumer_node k → Catches number next.provider next.consumer_node k → CatchesIn number suffix next k (ran_some count next))
        → (s : Sending) → sending pair ≡ s → CatchesIn number suffix pair known (ran_before (λ after. ran_some count after) pair s)
    by more Rests rests = (kept-still number suffix pair known source fed, is)
    by more Overflows over = tt
    by more (Sends after message) sends' =
        let line = reported.Sent (name_of pair) message ∷ [] in
        let taken = taken_some 1 [] after in
        let sent = catches_sent number suffix pair known source fed is after message sends' in
        let one = took_one number suffix after (known_after pair.consumer_node.name known (reported.Sent (name_of pair) message)) sent.0.source sent.0.fed sent.1 in
        let both = catches_on number suffix pair after line known (Ok taken) sent.0 one in
        catches_on number suffix pair taken.0 (line ++ taken.1) known (ran_some count taken.0) both.0
        (more taken.0 (known_by_lines pair.consumer_node.name known (line ++ taken.1)) both.0.source both.0.fed both.1)

-- ---- a consumer that was brought up

abbrev pub UpIn : ℕ → Name → Agreement → Known → ExchangeOutcome → Type 0
UpIn number suffix pair known (Ok next) =
    IsKept number suffix pair next.0 next.1 known × ((known_by_lines pair.consumer_node.name known next.1).entries ≡ all_content number next.0.provider next.0.consumer_node)
UpIn number suffix pair known (Err cause) = Unit {0}

caught_up : (lin : Lineage) (number : ℕ) (suffix : Name) (p : ProviderState) (f : ConsumerNode) (known : Known) → IsSource number suffix p → IsDrained (agreement_of p f lin) → Catches number p f known → known.entries ≡ all_content number p f
caught_up lin number suffix p f known source drained is = by is.state
  where
    by : GoesOn number p f is.opening known.entries ⊎ (IsAtRest f × (known.entries ≡ all_content number p f)) → known.entries ≡ all_content number p f
    by (inl goes) = up_to_date lin number suffix p f is.opening known.entries source goes drained
    by (inr rest) = rest.1

up_of : (number : ℕ) (suffix : Name) (pair : Agreement) (known : Known) (outcome : ExchangeOutcome) → CatchesIn number suffix pair known outcome → DrainedIn outcome → UpIn number suffix pair known outcome
up_of number suffix pair known (Ok next) is drained =
    (is.0, caught_up next.0.lineage number suffix next.0.provider next.0.consumer_node (known_by_lines pair.consumer_node.name known next.1) is.0.source drained is.1)
up_of number suffix pair known (Err cause) is drained = tt

-- a new search is opened, and runs
up_again : (number : ℕ) (suffix : Name) (pair : Agreement) (known : Known) → IsSource number suffix pair.provider → IsFed number pair.provider pair.consumer_node known → HasRoom pair.provider pair.consumer_node
    → UpIn number suffix pair known (refreshes pair)
up_again number suffix pair known source fed room = by (opens_anew pair) (opens_anew_opens number suffix pair known source fed room)
  where
    by : (outcome : ExchangeOutcome) → OpenedIn number suffix pair known false outcome → UpIn number suffix pair known (and_then outcome runs)
    by (Err cause) opened = tt
    by (Ok next) opened =
        let k = known_by_lines pair.consumer_node.name known next.1 in
        let catches : Catches number next.0.provider next.0.consumer_node k =
        record { opening = opened.1.opening; latest = opened.1.latest; all = opened.1.all; state = inl opened.1.goes } in
        let ran = ran_catches (Left next.0) number suffix next.0 k opened.0.source opened.0.fed catches in
        up_of number suffix pair known (after_lines next.1 (runs next.0)) (catches_on number suffix pair next.0 next.1 known (runs next.0) opened.0 ran)
        (drained_lines next.1 (runs next.0) (ran_drained (Left next.0) next.0 opened.1.link (omega arith)))

-- or the search that is open is followed
up_already : (number : ℕ) (suffix : Name) (pair : Agreement) (known : Known) → IsSource number suffix pair.provider → IsFed number pair.provider pair.consumer_node known → IsDrained pair → follows_on pair ≡ true
    → UpIn number suffix pair known (Ok (pair, []))
up_already number suffix pair known source fed drained follows = (kept-still number suffix pair known source fed, by fed.state)
  where
    by : IsAtRest pair.consumer_node ⊎ IsGoing number pair.provider pair.consumer_node known → known.entries ≡ all_content number pair.provider pair.consumer_node
    by (inl rest) = absurd (false≢true (ap (λ own. is_some own && is_persisting (copy_of pair.consumer_node).session) (sym rest.search) ∙ follows))
    by (inr going) = up_to_date pair.lineage number suffix pair.provider pair.consumer_node going.opening known.entries source going.goes drained

-- so it is after a new search where none goes on, which is sent and taken to its end
pub catches_up_ups : (number : ℕ) (suffix : Name) (pair : Agreement) (known : Known) → IsSource number suffix pair.provider → IsFed number pair.provider pair.consumer_node known → HasRoom pair.provider pair.consumer_node
    → IsDrained pair → UpIn number suffix pair known (catches_up pair)
catches_up_ups number suffix pair known source fed room drained = by (follows_on pair) refl
  where
    by : (follows : Bool) → follows_on pair ≡ follows → UpIn number suffix pair known (cond follows (Ok (pair, [])) (refreshes pair))
    by true is = up_already number suffix pair known source fed drained is
    by false is = up_again number suffix pair known source fed room

-- the line at the end
pub settled_up : (number : ℕ) (suffix : Name) (pair : Agreement) (known : Known) → IsSource number suffix pair.provider → IsFed number pair.provider pair.consumer_node known
    → known.entries ≡ all_content number pair.provider pair.consumer_node → IsKeptIn number suffix pair known (settled_reported pair)
settled_up number suffix pair known source fed up =
    kept-reported number suffix pair pair (reported.Settled (name_of pair) (length pair.provider.directory.writes)) known (λ name k. refl)
    (refl, record { all = refl; exactly = up }) (kept-still number suffix pair known source fed)

settled_from : (number : ℕ) (suffix : Name) (pair : Agreement) (known : Known) (outcome : ExchangeOutcome) → UpIn number suffix pair known outcome → IsKeptIn number suffix pair known (and_then outcome settled_reported)
settled_from number suffix pair known (Err cause) up = tt
settled_from number suffix pair known (Ok next) up =
    kept-lines number suffix pair next.0 next.1 known (settled_reported next.0) up.0
    (settled_up number suffix next.0 (known_by_lines pair.consumer_node.name known next.1) up.0.source up.0.fed up.1)

-- all of a settling, after what drains
pub settles_from : (number : ℕ) (suffix : Name) (pair : Agreement) (known : Known) (outcome : ExchangeOutcome) → IsKeptIn number suffix pair known outcome → DrainedIn outcome → HasRoom pair.provider pair.consumer_node
    → IsKeptIn number suffix pair known (and_then (and_then outcome catches_up) settled_reported)
settles_from number suffix pair known (Err cause) kept drained room = tt
settles_from number suffix pair known (Ok next) kept drained room =
    settled_from number suffix pair known (after_lines next.1 (catches_up next.0))
    (up_on (catches_up next.0) (catches_up_ups number suffix next.0 (known_by_lines pair.consumer_node.name known next.1) kept.source kept.fed (room_after pair next.0 kept.owns room) drained))
  where
    up_on : (o : ExchangeOutcome) → UpIn number suffix next.0 (known_by_lines pair.consumer_node.name known next.1) o → UpIn number suffix pair known (after_lines next.1 o)
    up_on (Err cause) up = tt
    up_on (Ok last) up = (
      kept-then number suffix pair next.0 last.0 next.1 last.1 known kept up.0,
      ap (λ (k : Known). k.entries)
          (fold-append (known_after pair.consumer_node.name) known next.1 last.1
          ∙ ap (λ n. known_by_lines n (known_by_lines pair.consumer_node.name known next.1) last.1) (sym (ap (λ (frame : Frame). frame.name) kept.same)))
          ∙ up.1,
    )
