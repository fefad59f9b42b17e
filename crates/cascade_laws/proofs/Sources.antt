-- A provider without writes is a source, a new consumer is fed by it, and a write and a commit keep both.
use Rattle.std.proofs.Common.{◌≡◌, ◌+◌, ◌<◌, ◌≤◌, ℕ, zero, suc, Bool, true, false, cond, List, [], ◌∷◌, ◌++◌, length, take, Option, Some, None, refl, ap, sym, ◌∙◌, inl, inr, arith, append_assoc, append-nil, subst}
use Rattle.std.specs.Prelude.{◌⊎◌, Result, Ok, Err, IfSome, option_map, is_none, nat_lt, nat_le}
use Rattle.std.specs.Option.{option_or}
use Rattle.std.proofs.Math.Seq.{take-length}
use Rattle.std.proofs.lemmas.Bool.{and_parts, le-ltb, ltb-true, true≢false}
use Rattle.std.proofs.lemmas.List.{length-append}
use Rattle.ldap_constants.specs.declared.result_codes.TheConstants.{ADMIN_LIMIT_EXCEEDED}
use Rattle.csn_cookie.specs.Csn.{IsCsn, start, is_before}
use Rattle.csn_cookie.specs.CsnMaker.{greatest_count}
use Rattle.dn_names.specs.Names.{TypeAndValue, is_at_or_below}
use Rattle.dn_names.proofs.KeyTexts.{not_empty}
use Rattle.directory_writes.specs.Formed.{IsWellFormed}
use Rattle.directory_laws.specs.Accepted.{IsAcceptedFromClient, WereAccepted}
use Rattle.directory_laws.proofs.Histories.{WereAccepted-push, sent-state_of}
use Rattle.directory_laws.proofs.ReadWrites.{gives-change}
use Rattle.directory_laws.proofs.Csns.{IsCsn-start, IsCsn-next_csn}
use Rattle.directory_laws.proofs.States.{IsWithinLimits-state_of}
use Rattle.directory_writes.specs.Commits as commits
use Rattle.directory_writes.specs.Directory.{DirectoryState, entries_after, entries_of, last_csn, has_room, judged, judged_at, csn_of_next_write, with_write, with_log_limit, most_writes, most_writes_weight}
use Rattle.directory_writes.specs.Weights.{kept_weight, op_weight}
use Rattle.directory_writes.specs.declared.commit.DirectoryCommitFault.{DirectoryCommitFault}
use Rattle.directory_writes.specs.declared.commit.DirectoryCommitFault.TheVariants as cause
use Rattle.directory_writes.proofs.Commits.{commit_open}
use Rattle.directory_writes.proofs.Judged.{IsJudged, judged_is}
use Rattle.directory_writes.proofs.Csns.{rises-none, rises-push, next_rises}
use Rattle.directory_writes.proofs.Csns.{last_csn-push}
use Rattle.directory_writes.proofs.Writes.{entries_after-push}
use Rattle.directory_writes.proofs.Distinct.{changed-was, distinct-changed}
use Rattle.directory_writes.proofs.Promised.{IsPromised, prefix-push, prefixes-push, promised-push}
use Rattle.entry_tree.specs.Codes.{code_of}
use Rattle.entry_tree.specs.Effects.{committed, effect}
use Rattle.entry_tree.specs.History.{identity, state_of}
use Rattle.entry_tree.specs.Reading.{read_change}
use Rattle.entry_tree.specs.Sound.{is_sound_op}
use Rattle.entry_tree.specs.State.{most_entries, most_weight, total_weight, same_named}
use Rattle.entry_tree.specs.declared.entry.Entry.{Entry}
use Rattle.entry_tree.specs.declared.op.Op.{Op}
use Rattle.entry_tree.specs.declared.op.Op.TheVariants.{Commit}
use Rattle.entry_tree.specs.declared.op.Write.{Write}
use Rattle.sync_consumer.specs.Taking.{ConsumerState}
use Rattle.sync_model.specs.Incremental.{number_of}
use Rattle.sync_model.specs.Law.{IsCut, IsWithinLimits, is_nil}
use Rattle.sync_model.specs.Message.{SyncMessage}
use Rattle.sync_model.specs.Stream.{SyncOperation, last_mark, refresh, group, later}
use Rattle.sync_model.proofs.NextMessages.{HasNext, prefix_some, none_later}
use Rattle.sync_model.proofs.Refresh.{marks-last}
use Rattle.sync_wire.proofs.Servable.{CanBeServed}
use Rattle.sync_provider.specs.Committing.{fault_of, commit_refusal}
use Rattle.sync_provider.specs.Machine.{ProviderState, each_search_notified, after_judged, judged_by, after_commit, log_limited, queue_limited}
use Rattle.sync_provider.specs.HandingOut.{search_at}
use Rattle.sync_provider.specs.Queueing.{group_of, overflowed, search_notified}
use Rattle.sync_provider.specs.Search.{SearchState, session_of, busy_end, pending}
use Rattle.sync_provider.specs.declared.provider.Kind.{Kind}
use Rattle.sync_provider.specs.declared.provider.Kind.TheVariants.{Root, Replica}
use Rattle.sync_provider.specs.declared.writing.CommitFault.{CommitFault}
use Rattle.sync_provider.specs.declared.writing.CommitFault.TheVariants as fault
use Rattle.sync_provider.proofs.Commits.{or_none, unopposed}
use Rattle.sync_provider.proofs.Settled.{notified_over, notified_open, left_then, settled_pending, stream_more}
use Rattle.sync_provider.proofs.Growing.{search_notified_at}
use Rattle.sync_provider.proofs.SearchNotified.{pending_over, IsSame, progress_then, search_notified_same}
use Rattle.sync_provider.proofs.Longer.{new, cut_same, stream_same, place_longer, place_grows}
use Rattle.sync_provider.proofs.Streams.{HasHanded, StandsAt, search_notified_at_place}
use Rattle.sync_provider.proofs.Walking.{SendsRefresh, over_left, handed_of, walking_refresh, walking_some}
use Rattle.sync_provider.proofs.Whereabouts.{InRefresh, AtWhole, InGroup, IsWhere}
use Rattle.cascade_nodes.specs.declared.node.ConsumerNode.{ConsumerNode}
use Rattle.cascade_nodes.proofs.Fed.{waits, SoFar, IsPending, HasPending, IsAtRest, pending-limited}
use Rattle.cascade_world.specs.Cookies.{held_cookie}
use Rattle.cascade_world.specs.Directory.{logged_directory, wrote_read}
use Rattle.cascade_laws.specs.Headline.{ReportedOpening, Known, BeginsFrom, stream_over}
use Rattle.cascade_laws.proofs.Feeding.{IsSource, IsCutShort, Feeds, far_of, GoesOn, IsGoing, IsFed, RestIsFed, RestsAreFed, FreshIsSource, KeepsAll, WritesAreKept, LimitsAreKept, QueuesAreKept, IsCommitted, CommitIs, CommitsAreKept}

abbrev Name : Type 0
Name = List (List TypeAndValue)

-- a consumer at rest without entries and cookie is fed by any provider
pub rest_is_fed : RestIsFed
rest_is_fed number p f search link session held cookie below = record {
  held = held;
  ascending = refl;
  cookie = cookie;
  promised = subst (λ c. IsPromised number f.consumer.spec p.directory.writes [] (held_cookie c)) (sym cookie) tt;
  below = below;
  state = inl (record { search = search; session = session; link = link });
}

-- one that is at rest may be fed by any
pub rests_are_fed : RestsAreFed
rests_are_fed number other p q f g known fed rest same promised below = record {
  held = ap (λ (c : ConsumerState). c.copy.held) same ∙ fed.held;
  ascending = fed.ascending;
  cookie = ap (λ (c : ConsumerState). c.copy.cookie) same ∙ fed.cookie;
  promised =
      subst (λ (c : ConsumerState). IsPromised other c.spec q.directory.writes known.entries (held_cookie c.copy.cookie)) (sym same)
      (subst (λ text. IsPromised other f.consumer.spec q.directory.writes known.entries (held_cookie text)) (sym fed.cookie) promised);
  below = ap (λ (c : ConsumerState). is_at_or_below c.spec.base q.directory.suffix) same ∙ below;
  state = inl rest;
}

-- a provider without writes and searches is a source
pub fresh_is_source : FreshIsSource
fresh_is_source number suffix kind first small = record {
  first = first;
  small = small;
  directory = refl;
  rises = rises-none number;
  ranged = λ count. none_ranged count;
  good = λ count. none_good count;
  accepted = λ root. none_accepted;
  few = omega arith;
  apart = tt;
}
  where
    none_accepted : WereAccepted suffix number []
    none_accepted n other low = absurd (omega (arith, low))

    none_ranged : (count : ℕ) → IsCsn (last_csn (start number) (take count []))
    none_ranged zero = IsCsn-start number (omega (arith, small))
    none_ranged (suc count) = IsCsn-start number (omega (arith, small))

    none_good : (count : ℕ) → CanBeServed (state_of number [] count)
    none_good count = record { sent = sent-state_of suffix number [] count none_accepted; within = IsWithinLimits-state_of suffix number [] none_accepted (omega arith) count }

-- a write that is accepted next: its CSN is in range and above the others, and what it leaves can be served; at a root
-- nothing rejected it
pub record IsNext (number : ℕ) (suffix : Name) (kind : Kind) (writes : List Write) (w : Write) : Type 0 where
  pub ranged : IsCsn w.csn
  pub good : CanBeServed (entries_after number (writes ++ w ∷ []))
  pub accepted : kind ≡ Root → IsAcceptedFromClient suffix (state_of number writes (length writes)) w
  pub later : is_before (last_csn (start number) writes) w.csn ≡ true
  pub room : length writes < 1000000

-- a provider after one more write
abbrev written_once : ProviderState → Write → ProviderState
written_once p w = record p { directory = with_write p.directory w; searches = each_search_notified p.queue_limit p.directory w p.searches }

-- what a source keeps with one more write
source-push : (number : ℕ) (suffix : Name) (p : ProviderState) (w : Write) → IsSource number suffix p → IsNext number suffix p.kind p.directory.writes w → IsSource number suffix (written_once p w)
source-push number suffix p w source next = record {
  first = source.first;
  small = source.small;
  directory = λ i. record (source.directory i) { writes = p.directory.writes ++ w ∷ []; log = (with_write p.directory w).log };
  rises = rises-push number p.directory.writes w next.later source.rises;
  ranged = prefixes-push (λ writes. IsCsn (last_csn (start number) writes)) p.directory.writes w source.ranged (subst IsCsn (sym (last_csn-push (start number) p.directory.writes w)) next.ranged);
  good = prefixes-push (λ writes. CanBeServed (entries_after number writes)) p.directory.writes w source.good next.good;
  accepted = λ root. WereAccepted-push suffix number p.directory.writes w (source.accepted root) (next.accepted root);
  few = omega (arith, length-append p.directory.writes (w ∷ []), next.room);
  apart = distinct-changed (search_notified p.queue_limit p.directory w) p.searches source.apart;
}

-- ---- a search that goes on

-- what is cut short of some messages is so of more
cut_longer : (persists : Bool) (messages ahead more : List SyncMessage) → IsCutShort persists messages ahead → IsCutShort persists messages (ahead ++ more)
cut_longer persists messages ahead more cut = record {
  prefix = cut.prefix;
  left = cut.left ++ more;
  split = sym (append_assoc cut.prefix cut.left more) ∙ ap (λ ms. ms ++ more) cut.split;
  is = cut.is;
  some = λ ends. prefix_some cut.left more (cut.some ends);
}

feeds_longer : (persists cut : Bool) (messages ahead more : List SyncMessage) → cut ≡ true → Feeds persists cut messages ahead → Feeds persists cut messages (ahead ++ more)
feeds_longer persists cut messages ahead more on feeds =
    subst (λ c. Feeds persists c messages (ahead ++ more)) (sym on) (cut_longer persists messages ahead more (subst (λ c. Feeds persists c messages ahead) on feeds))

module _ (number : ℕ) (suffix : Name) (p : ProviderState) (w : Write) (source : IsSource number suffix p) (g : ConsumerNode) (opening : ReportedOpening) (entries : List Entry) (goes : GoesOn number p g opening entries) where
  abbrev writes : List Write
  writes = p.directory.writes

  abbrev after : ProviderState
  after = written_once p w

  abbrev longer : SyncOperation
  longer = new number opening.persists g.consumer.spec writes w

  -- the number of writes at the last piece
  abbrev last : ℕ
  last = last_mark opening.writes goes.session.pieces

  grown : length (writes ++ w ∷ []) ≡ length writes + 1
  grown = length-append writes (w ∷ [])

  opened_low : opening.writes ≤ last
  opened_low = marks-last goes.session.pieces opening.writes goes.session.sliced.rises

  opened_within : opening.writes ≤ length writes
  opened_within = omega (arith, opened_low, goes.session.upto)

  within : last + goes.session.count ≤ length writes
  within = omega (arith, goes.session.upto)

  from_now : BeginsFrom number (take opening.writes (writes ++ w ∷ [])) opening.cookie (number_of goes.session.start)
  from_now = subst (λ ws. BeginsFrom number ws opening.cookie (number_of goes.session.start)) (sym (prefix-push writes w opening.writes opened_within)) goes.session.from

  sliced_now : IsCut longer goes.session.start opening.writes goes.session.pieces
  sliced_now = cut_same number opening.persists g.consumer.spec writes w goes.session.start opening.writes goes.session.pieces opened_within goes.session.sliced

  whole_now : goes.session.taken ++ goes.session.ahead ≡ stream_over number g.consumer.spec (writes ++ w ∷ []) opening goes.session.start goes.session.pieces goes.session.count
  whole_now =
      goes.session.whole
      ∙ sym (stream_same number opening.persists g.consumer.spec writes w goes.session.start opening.writes goes.session.pieces goes.session.count opened_within goes.session.sliced.rises within)

  place_now : IsWhere longer goes.session.start opening.writes goes.session.pieces goes.session.count entries g.consumer.copy goes.session.taken goes.session.ahead
  place_now =
      place_longer number opening.persists g.consumer.spec writes w goes.session.start opening.writes goes.session.pieces goes.session.sliced.rises goes.session.count within entries g.consumer.copy goes.session.taken goes.session.ahead goes.place

  late_now : (cut : Bool) → cut ≡ true → opening.writes < length (writes ++ w ∷ [])
  late_now cut on = omega (arith, opened_within, grown)

  -- ---- with the same pieces

  -- what the write sends
  abbrev next : List SyncMessage
  next = cond opening.persists (group longer (last + goes.session.count)) []

  abbrev handed : List SyncMessage
  handed = goes.session.taken ++ goes.session.linked

  abbrev far : SoFar
  far = far_of goes.session.start opening (suc goes.session.count) handed

  goes_further : (cut : Bool) (pending' : List SyncMessage) → Feeds opening.persists cut (goes.session.linked ++ pending') (goes.session.ahead ++ next)
      → HasPending after.directory after.searches g.consumer.spec opening.persists cut far g.search pending' → GoesOn number after g opening entries
  goes_further cut pending' left search = record {
    session = record {
      start = goes.session.start;
      from = from_now;
      pieces = goes.session.pieces;
      sliced = sliced_now;
      count = suc goes.session.count;
      upto = omega (arith, goes.session.upto, grown);
      taken = goes.session.taken;
      ahead = goes.session.ahead ++ next;
      whole =
          sym (append_assoc goes.session.taken goes.session.ahead next)
          ∙ ap (λ ms. ms ++ next) whole_now
          ∙ sym (stream_more longer goes.session.start opening.writes goes.session.pieces goes.session.count);
      cut = cut;
      late = late_now cut;
      linked = goes.session.linked;
      pending = pending';
      left = left;
      reported = goes.session.reported;
    };
    link = goes.link;
    search = search;
    place = place_grows longer goes.session.start opening.writes goes.session.pieces goes.session.count entries g.consumer.copy goes.session.taken goes.session.ahead place_now;
  }

  -- a search that is over at the provider, whose last messages are in the link
  closed_goes : g.search ≡ None
      → HasPending p.directory p.searches g.consumer.spec opening.persists goes.session.cut (far_of goes.session.start opening goes.session.count handed) None goes.session.pending → GoesOn number after g opening entries
  closed_goes own has =
      goes_further goes.session.cut goes.session.pending (by opening.persists goes.session.cut refl has.1)
      (subst (λ o. HasPending after.directory after.searches g.consumer.spec opening.persists goes.session.cut far o goes.session.pending) (sym own) has)
    where
      by : (persists cut : Bool) → goes.session.cut ≡ cut → waits persists cut ≡ false
          → Feeds opening.persists goes.session.cut (goes.session.linked ++ goes.session.pending) (goes.session.ahead ++ cond persists (group longer (last + goes.session.count)) [])
      by false cut is ends = subst (Feeds opening.persists goes.session.cut (goes.session.linked ++ goes.session.pending)) (sym (append-nil goes.session.ahead)) goes.session.left
      by true true is ends =
          feeds_longer opening.persists goes.session.cut (goes.session.linked ++ goes.session.pending) goes.session.ahead (group longer (last + goes.session.count)) is goes.session.left
      by true false is bad = absurd (true≢false bad)

  -- ---- a search that is open

  module _ (at : ℕ) (own : g.search ≡ Some at)
      (has : IsPending p.directory p.searches g.consumer.spec opening.persists goes.session.cut (far_of goes.session.start opening goes.session.count handed) at goes.session.pending) where
    abbrev now : SearchState
    now = search_notified p.queue_limit p.directory w has.search

    is_same : IsSame has.search now
    is_same = search_notified_same p.queue_limit p.directory w has.search

    stands : StandsAt after.directory now handed
    stands = search_notified_at_place p.queue_limit p.directory w has.search handed has.stands

    found_now : search_at after.searches at ≡ Some now
    found_now = search_notified_at p.queue_limit p.directory w p.searches at has.search has.found

    sids : p.directory.sid ≡ number
    sids = ap (λ (d : DirectoryState). d.sid) source.directory

    histories : p.directory.history ≡ number
    histories = ap (λ (d : DirectoryState). d.history) source.directory

    -- as the directory has it
    longer_is : session_of now.persists p.directory.sid p.directory.history now.spec (writes ++ w ∷ []) ≡ longer
    longer_is = λ i. session_of ((is_same.persists ∙ has.persists) i) (sids i) (histories i) ((is_same.spec ∙ has.spec) i) (writes ++ w ∷ [])

    group_is : group_of p.directory has.search w ≡ group longer (length writes)
    group_is = λ i. group (session_of (has.persists i) (sids i) (histories i) (has.spec i) (writes ++ w ∷ [])) (length writes)

    sent_is : cond has.search.persists (group_of p.directory has.search w) [] ≡ next
    sent_is = λ i. cond (has.persists i) ((group_is ∙ ap (group longer) (sym goes.session.upto)) i) []

    -- it is one with these messages pending
    open_now : (cut : Bool) (then : SoFar) (pending' : List SyncMessage) → now.start ≡ then.start → now.accepted ≡ then.opened → now.over ≡ cut → pending after.directory now ≡ pending' → StandsAt after.directory now then.handed
        → (is_nil now.progress.left ≡ false → then.later ≡ 0) → (waits opening.persists cut ≡ false → HasNext pending')
        → HasPending after.directory after.searches g.consumer.spec opening.persists cut then g.search pending'
    open_now cut then pending' starts accepted over same stands' walks some =
        subst (λ o. HasPending after.directory after.searches g.consumer.spec opening.persists cut then o pending') (sym own) (record {
          search = now;
          found = found_now;
          id = is_same.id ∙ has.id;
          spec = is_same.spec ∙ has.spec;
          persists = is_same.persists ∙ has.persists;
          start = starts;
          accepted = accepted;
          over = over;
          same = same;
          stands = stands';
          walks = walks;
          some = some;
        })

    -- with the same pieces nothing is left of its walk
    open_further : (cut : Bool) (pending' : List SyncMessage) → now.over ≡ cut → pending after.directory now ≡ pending' → now.progress.left ≡ [] → (waits opening.persists cut ≡ false → HasNext pending')
        → Feeds opening.persists cut (goes.session.linked ++ pending') (goes.session.ahead ++ next) → GoesOn number after g opening entries
    open_further cut pending' over same none some left =
        goes_further cut pending' left
        (open_now cut far pending' (is_same.start ∙ has.start) (is_same.accepted ∙ has.accepted) over same stands (λ left'. absurd (true≢false (sym (ap is_nil none) ∙ left'))) some)

    -- a write was too much for it before
    module _ (on : has.search.over ≡ true) where
      still : now ≡ has.search
      still = notified_over p.queue_limit p.directory w has.search on

      over_goes : GoesOn number after g opening entries
      over_goes =
          open_further goes.session.cut goes.session.pending (ap (λ (s : SearchState). s.over) still ∙ has.over)
          (ap (pending after.directory) still ∙ pending_over after.directory has.search on ∙ sym (pending_over p.directory has.search on) ∙ has.same)
          (ap (λ (s : SearchState). s.progress.left) still ∙ over_left p.directory has.search handed on has.stands) has.some
          (feeds_longer opening.persists goes.session.cut (goes.session.linked ++ goes.session.pending) goes.session.ahead next (sym has.over ∙ on) goes.session.left)

    -- or none was
    module _ (off : has.search.over ≡ false) where
      left_is : goes.session.linked ++ goes.session.pending ≡ goes.session.ahead
      left_is = subst (λ c. Feeds opening.persists c (goes.session.linked ++ goes.session.pending) goes.session.ahead) (sym has.over ∙ off) goes.session.left

      more_left : goes.session.linked ++ (goes.session.pending ++ next) ≡ goes.session.ahead ++ next
      more_left = sym (append_assoc goes.session.linked goes.session.pending next) ∙ ap (λ ms. ms ++ next) left_is

      some_pending : opening.persists ≡ false → HasNext goes.session.pending
      some_pending ends = has.some (ap (λ b. waits b goes.session.cut) ends)

      -- this one is too much
      full_goes : now ≡ overflowed has.search → GoesOn number after g opening entries
      full_goes full =
          open_further true (busy_end ∷ []) (ap (λ (s : SearchState). s.over) full) (ap (pending after.directory) full) (ap (λ (s : SearchState). s.progress.left) full)
          (λ none. record { next = busy_end; later = []; same = refl })
          (record { prefix = goes.session.linked; left = goes.session.pending ++ next; split = more_left; is = refl; some = λ ends. prefix_some goes.session.pending next (some_pending ends) })

      -- or what it sends or changes is kept
      module _ (kept : now ≡ record has.search { progress = progress_then p.queue_limit p.directory w has.search }) where
        off_now : now.over ≡ false
        off_now = ap (λ (s : SearchState). s.over) kept ∙ off

        left_now : now.progress.left ≡ has.search.progress.left
        left_now = ap (λ (s : SearchState). s.progress.left) kept ∙ left_then p.queue_limit p.directory w has.search

        -- ---- nothing of its walk is left to decide

        pending_now : has.search.progress.left ≡ [] → pending after.directory now ≡ goes.session.pending ++ next
        pending_now none =
            ap (pending after.directory) kept
            ∙ settled_pending p.queue_limit p.directory w has.search off none
            ∙ (λ i. has.same i ++ sent_is i)

        settled_some : waits opening.persists false ≡ false → HasNext (goes.session.pending ++ next)
        settled_some none = by opening.persists refl
          where
            by : (persists : Bool) → opening.persists ≡ persists → HasNext (goes.session.pending ++ next)
            by true mode = absurd (true≢false (sym (ap (λ b. waits b false) mode) ∙ none))
            by false mode = prefix_some goes.session.pending next (some_pending mode)

        settled_goes : has.search.progress.left ≡ [] → GoesOn number after g opening entries
        settled_goes none = open_further false (goes.session.pending ++ next) off_now (pending_now none) (left_now ∙ none) settled_some more_left

        -- ---- or identities are, and the last piece comes after this write

        module _ (some : is_nil has.search.progress.left ≡ false) where
          some_left : is_nil now.progress.left ≡ false
          some_left = ap is_nil left_now ∙ some

          has_now : HasHanded after.directory now handed
          has_now = handed_of after.directory now handed off_now stands

          abbrev coming : List SyncMessage
          coming = pending after.directory now

          sends : SendsRefresh longer goes.session.start opening.writes (length (writes ++ w ∷ [])) (handed ++ coming)
          sends =
              subst (λ n. SendsRefresh longer goes.session.start n (length (writes ++ w ∷ [])) (handed ++ coming)) (is_same.accepted ∙ has.accepted)
              (subst (λ s. SendsRefresh longer s now.accepted (length (writes ++ w ∷ [])) (handed ++ coming)) (is_same.start ∙ has.start)
              (subst (λ (o : SyncOperation). SendsRefresh o now.start now.accepted (length (writes ++ w ∷ [])) (handed ++ coming)) longer_is
              (walking_refresh after.directory now handed off_now has_now some_left)))

          abbrev refreshed : List SyncMessage
          refreshed = refresh longer goes.session.start opening.writes sends.pieces

          refreshed_is : goes.session.taken ++ (goes.session.linked ++ coming) ≡ refreshed
          refreshed_is = sym (append_assoc goes.session.taken goes.session.linked coming) ∙ sends.whole

          coming_some : HasNext coming
          coming_some = walking_some after.directory now handed off_now has_now some_left

          left_some : HasNext (goes.session.linked ++ coming)
          left_some = by goes.session.linked
            where
              by : (linked : List SyncMessage) → HasNext (linked ++ coming)
              by [] = coming_some
              by (m ∷ linked) = record { next = m; later = linked ++ coming; same = refl }

          -- no write came after its last piece, so that the copy is in the refresh
          none_since : goes.session.count ≡ 0
          none_since = has.walks some

          was_some : HasNext goes.session.pending
          was_some = subst HasNext has.same (walking_some p.directory has.search handed off (handed_of p.directory has.search handed off has.stands) some)

          whole_none : AtWhole longer last goes.session.count entries g.consumer.copy goes.session.ahead → ⊥
          whole_none at =
              let none : at.more ≡ 0 = omega (arith, at.from, at.sum, none_since) in
              not_empty goes.session.linked was_some.later was_some.next
              (ap (λ ms. goes.session.linked ++ ms) (sym was_some.same) ∙ left_is ∙ at.beyond ∙ ap (later longer at.number) none)

          group_none : InGroup longer last goes.session.count entries g.consumer.copy goes.session.ahead → ⊥
          group_none at = omega (arith, at.from, at.sum, none_since)

          in_refresh : InRefresh longer goes.session.start opening.writes sends.pieces 0 entries g.consumer.copy goes.session.taken (goes.session.linked ++ coming)
          in_refresh = by place_now
            where
              past : AtWhole longer last goes.session.count entries g.consumer.copy goes.session.ahead ⊎ InGroup longer last goes.session.count entries g.consumer.copy goes.session.ahead → ⊥
              past (inl at) = whole_none at
              past (inr at) = group_none at

              by : IsWhere longer goes.session.start opening.writes goes.session.pieces goes.session.count entries g.consumer.copy goes.session.taken goes.session.ahead
                  → InRefresh longer goes.session.start opening.writes sends.pieces 0 entries g.consumer.copy goes.session.taken (goes.session.linked ++ coming)
              by (inl is) = record {
                begins = is.begins;
                rest = goes.session.linked ++ coming;
                some = left_some;
                whole = refreshed_is;
                beyond = sym (append-nil (goes.session.linked ++ coming)) ∙ ap (λ ms. (goes.session.linked ++ coming) ++ ms) (sym (none_later opening.persists));
                copy = is.copy;
                met = is.met;
              }
              by (inr is) = absurd (past is.1)

          walking_goes : GoesOn number after g opening entries
          walking_goes = record {
            session = record {
              start = goes.session.start;
              from = from_now;
              pieces = sends.pieces;
              sliced = sends.cut;
              count = 0;
              upto = omega (arith, sends.last);
              taken = goes.session.taken;
              ahead = goes.session.linked ++ coming;
              whole = refreshed_is ∙ sym (append-nil refreshed) ∙ ap (λ ms. refreshed ++ ms) (sym (none_later opening.persists));
              cut = false;
              late = late_now false;
              linked = goes.session.linked;
              pending = coming;
              left = refl;
              reported = goes.session.reported;
            };
            link = goes.link;
            search =
                open_now false (far_of goes.session.start opening 0 handed) coming (is_same.start ∙ has.start) (is_same.accepted ∙ has.accepted) off_now refl stands (λ left. refl)
                (λ none. coming_some);
            place = inl in_refresh;
          }

        kept_goes : GoesOn number after g opening entries
        kept_goes = by has.search.progress.left refl
          where
            by : (us : List ℕ) → has.search.progress.left ≡ us → GoesOn number after g opening entries
            by [] none = settled_goes none
            by (u ∷ us) is = walking_goes (ap is_nil is)

    open_goes : GoesOn number after g opening entries
    open_goes = by has.search.over refl
      where
        noted : has.search.over ≡ false → (now ≡ overflowed has.search) ⊎ (now ≡ record has.search { progress = progress_then p.queue_limit p.directory w has.search }) → GoesOn number after g opening entries
        noted off (inl full) = full_goes off full
        noted off (inr kept) = kept_goes off kept

        by : (over : Bool) → has.search.over ≡ over → GoesOn number after g opening entries
        by true on = over_goes on
        by false off = noted off (notified_open p.queue_limit p.directory w has.search off)

  -- the search goes on after the write
  pub going-push : GoesOn number after g opening entries
  going-push = by g.search refl goes.search
    where
      by : (own : Option ℕ) → g.search ≡ own → HasPending p.directory p.searches g.consumer.spec opening.persists goes.session.cut (far_of goes.session.start opening goes.session.count handed) own goes.session.pending
          → GoesOn number after g opening entries
      by None own has = closed_goes own has
      by (Some at) own has = open_goes at own has

fed-push : (number : ℕ) (suffix : Name) (p : ProviderState) (w : Write) → IsSource number suffix p → (g : ConsumerNode) (known : Known) → IsFed number p g known → IsFed number (written_once p w) g known
fed-push number suffix p w source g known fed = record {
  held = fed.held;
  ascending = fed.ascending;
  cookie = fed.cookie;
  promised = promised-push number g.consumer.spec p.directory.writes w known.entries (held_cookie g.consumer.copy.cookie) fed.promised;
  below = fed.below;
  state = by fed.state;
}
  where
    by : IsAtRest g ⊎ IsGoing number p g known → IsAtRest g ⊎ IsGoing number (written_once p w) g known
    by (inl rest) = inl rest
    by (inr going) = inr (record { opening = going.opening; latest = going.latest; goes = going-push number suffix p w source g going.opening known.entries going.goes })

-- ---- what is written

room_of : (d : DirectoryState) (op : Op) (now : ℕ) (w : Write) → judged d op now ≡ Ok w → length d.writes < 1000000
room_of d op now w = by (has_room d.writes op) refl
  where
    by : (b : Bool) → has_room d.writes op ≡ b → cond b (judged_at d op (csn_of_next_write d now)) (Err ADMIN_LIMIT_EXCEEDED) ≡ Ok w → length d.writes < 1000000
    by true room is =
        ltb-true (length d.writes) most_writes (and_parts (nat_lt (length d.writes) most_writes) (nat_le (kept_weight d.writes + op_weight op) most_writes_weight) room).0
    by false full is = let never : ⊥ = cc in absurd never

-- the CSN of a write that was judged good is in range
judged_ranged : (number : ℕ) (suffix : Name) (p : ProviderState) (op : Op) (now : ℕ) (w : Write) → IsSource number suffix p → judged p.directory op now ≡ Ok w
    → IsJudged (logged_directory number suffix p.directory.writes p.directory.log) op now w × IsCsn w.csn
judged_ranged number suffix p op now w source is =
    (good, subst (λ drawn. IfSome drawn IsCsn) good.next (IsCsn-next_csn now (last_csn (start number) writes) in_range))
  where
    writes : List Write
    writes = p.directory.writes

    good : IsJudged (logged_directory number suffix writes p.directory.log) op now w
    good = judged_is (logged_directory number suffix writes p.directory.log) op now w (ap (λ d. judged d op now) (sym source.directory) ∙ is)

    in_range : IsCsn (last_csn (start number) writes)
    in_range = subst (λ prefix. IsCsn (last_csn (start number) prefix)) (take-length writes) (source.ranged (length writes))

judged_next : (number : ℕ) (suffix : Name) (p : ProviderState) (op : Op) (now : ℕ) (w : Write) → IsSource number suffix p → judged p.directory op now ≡ Ok w
    → CanBeServed (entries_after number (p.directory.writes ++ w ∷ []))
    → (p.kind ≡ Root → IsAcceptedFromClient suffix (state_of number p.directory.writes (length p.directory.writes)) w) → IsNext number suffix p.kind p.directory.writes w
judged_next number suffix p op now w source is good accepted =
    let judged' = judged_ranged number suffix p op now w source is in
    record {
      ranged = judged'.1;
      good = good;
      accepted = accepted;
      later = next_rises now (last_csn (start number) p.directory.writes) w.csn judged'.0.next;
      room = room_of p.directory op now w is;
    }

-- a client's write to a root
asked_next : (number : ℕ) (suffix : Name) (p : ProviderState) (op : Op) (now : ℕ) (w : Write) → IsSource number suffix p → p.kind ≡ Root
    → IsWellFormed op → is_sound_op op ≡ true → judged p.directory op now ≡ Ok w → IsNext number suffix p.kind p.directory.writes w
asked_next number suffix p op now w source root formed sound is =
    judged_next number suffix p op now w source is
    (subst CanBeServed whole
    (record {
      sent = sent-state_of suffix number (writes ++ w ∷ []) (length (writes ++ w ∷ [])) were;
      within = IsWithinLimits-state_of suffix number (writes ++ w ∷ []) were (omega (arith, length-append writes (w ∷ []), source.few)) (length (writes ++ w ∷ []));
    }))
    (λ kind. accepted)
  where
    writes : List Write
    writes = p.directory.writes

    judged' : IsJudged (logged_directory number suffix writes p.directory.log) op now w × IsCsn w.csn
    judged' = judged_ranged number suffix p op now w source is

    accepted : IsAcceptedFromClient suffix (state_of number writes (length writes)) w
    accepted = record {
      formed = subst IsWellFormed (sym judged'.0.same) formed;
      sound = ap is_sound_op judged'.0.same ∙ sound;
      is_csn = judged'.1;
      free =
          ap (λ (prefix : List Write). code_of suffix (entries_after number prefix) w.op) (take-length writes)
          ∙ ap (code_of suffix (entries_after number writes)) judged'.0.same
          ∙ judged'.0.unopposed;
    }

    were : WereAccepted suffix number (writes ++ w ∷ [])
    were = WereAccepted-push suffix number writes w (source.accepted root) accepted

    whole : state_of number (writes ++ w ∷ []) (length (writes ++ w ∷ [])) ≡ entries_after number (writes ++ w ∷ [])
    whole = ap (entries_after number) (take-length (writes ++ w ∷ []))

-- a change that is refused changes nothing
pub still_kept : (number : ℕ) (suffix : Name) (p : ProviderState) → IsSource number suffix p → KeepsAll number suffix p p
still_kept number suffix p source =
    record { source = source; fed = λ g known fed. fed; opens = λ at s found. (s, found); kind = refl; later = []; grown = sym (append-nil p.directory.writes) }

-- one that is accepted is reported to all
written_kept : (number : ℕ) (suffix : Name) (p : ProviderState) (w : Write) → IsSource number suffix p → IsNext number suffix p.kind p.directory.writes w → KeepsAll number suffix p (written_once p w)
written_kept number suffix p w source next = record {
  source = source-push number suffix p w source next;
  fed = λ g known fed. fed-push number suffix p w source g known fed;
  opens = λ at s found. changed-was (search_notified p.queue_limit p.directory w) p.searches at s found;
  kind = refl;
  later = w ∷ [];
  grown = refl;
}

-- a write of a client leaves a source, by which its consumers are fed
pub writes_are_kept : WritesAreKept
writes_are_kept number suffix p now change source = by_read (read_change change) refl
  where
    by_judged : (op : Op) → read_change change ≡ Ok op → p.kind ≡ Root → (outcome : Result Write ℕ) → judged p.directory op now ≡ outcome → KeepsAll number suffix p (after_judged p outcome)
    by_judged op read root (Err code) is = still_kept number suffix p source
    by_judged op read root (Ok w) is =
        let askable = gives-change change op read in
        written_kept number suffix p w source (asked_next number suffix p op now w source root askable.0 askable.1 is)

    by_kind : (op : Op) → read_change change ≡ Ok op → (kind : Kind) → p.kind ≡ kind → KeepsAll number suffix p (after_judged p (judged_by kind p.directory op now))
    by_kind op read Root is = by_judged op read is (judged p.directory op now) refl
    by_kind op read Replica is = still_kept number suffix p source

    by_read : (read : Result Op ℕ) → read_change change ≡ read → KeepsAll number suffix p (wrote_read p now read)
    by_read (Err code) is = still_kept number suffix p source
    by_read (Ok op) is = by_kind op is p.kind refl

-- ---- commits

-- none, or a limit
abbrev IsLimit : Option CommitFault → Type 0
IsLimit None = Unit {0}
IsLimit (Some (fault.LimitReached limit)) = Unit {0}
IsLimit (Some (fault.DuplicateName one other)) = ⊥
IsLimit (Some fault.NoMemory) = ⊥
IsLimit (Some fault.NotAReplica) = ⊥

log_limits : (full heavy spent : Bool)
    → IsLimit (option_map fault_of (cond full (Some (cause.LimitReached most_writes)) (cond heavy (Some (cause.LimitReached most_writes_weight)) (cond spent (Some (cause.LimitReached greatest_count)) None))))
log_limits true heavy spent = tt
log_limits false true spent = tt
log_limits false false true = tt
log_limits false false false = tt

abbrev doubled : ℕ × ℕ → DirectoryCommitFault
doubled pair = cause.DuplicateName pair.0 pair.1

within_none : (entries : List Entry) → IsWithinLimits entries → commits.held_refusal entries ≡ None
within_none entries within =
    ap (λ b. cond b (Some (cause.LimitReached most_entries)) (cond (nat_lt most_weight (total_weight entries)) (Some (cause.LimitReached most_weight)) (option_map doubled (same_named entries))))
    (le-ltb most_entries (length entries) within.few)
    ∙ ap (λ b. cond b (Some (cause.LimitReached most_weight)) (option_map doubled (same_named entries))) (le-ltb most_weight (total_weight entries) within.light)
    ∙ ap (option_map doubled) within.unique_names

module _ (number : ℕ) (suffix : Name) (p : ProviderState) (puts : List Entry) (drops : List ℕ) (now : ℕ) (source : IsSource number suffix p) (good : CanBeServed (committed (entries_of p.directory) puts drops)) where
  history_is : p.directory.history ≡ number
  history_is = ap (λ (d : DirectoryState). d.history) source.directory

  after_is : (w : Write) → w.op ≡ Commit puts drops → entries_after number (p.directory.writes ++ w ∷ []) ≡ committed (entries_of p.directory) puts drops
  after_is w op =
      entries_after-push number p.directory.writes w
      ∙ ap (λ o. effect (entries_after number p.directory.writes) o (identity number (length p.directory.writes + 1)) w.csn) op
      ∙ ap (λ n. committed (entries_after n p.directory.writes) puts drops) (sym history_is)

  -- one write more
  committed_once : p.kind ≡ Replica → (w : Write) → judged p.directory (Commit puts drops) now ≡ Ok w → IsCommitted number suffix p (written_once p w) puts drops now
  committed_once replica w is = record {
    keeps =
        written_kept number suffix p w source
        (judged_next number suffix p (Commit puts drops) now w source is (subst CanBeServed (sym (after_is w good'.same)) good)
        (λ root. absurd (apart (sym replica ∙ root))));
    csn = w.csn;
    drawn = good'.next;
    one = ap (λ o. p.directory.writes ++ record { csn = w.csn; op = o } ∷ []) good'.same;
    entries = ap (λ n. entries_after n (p.directory.writes ++ w ∷ [])) history_is ∙ after_is w good'.same;
  }
    where
      good' : IsJudged (logged_directory number suffix p.directory.writes p.directory.log) (Commit puts drops) now w
      good' = (judged_ranged number suffix p (Commit puts drops) now w source is).0

      apart : Replica ≡ Root → ⊥
      apart same = cc

  -- nothing rejects what can be served but a limit
  held_none : commits.held_refusal (committed (entries_of p.directory) puts drops) ≡ None
  held_none = within_none (committed (entries_of p.directory) puts drops) good.within

  abbrev log_refusal : Option DirectoryCommitFault
  log_refusal = commits.log_refusal p.directory (op_weight (Commit puts drops)) now

  refusal_is : p.kind ≡ Replica → commit_refusal p.kind p.directory puts drops now ≡ option_map fault_of log_refusal
  refusal_is replica =
      ap (λ kind. commit_refusal kind p.directory puts drops now) replica
      ∙ ap (λ held. option_map fault_of (option_or log_refusal held)) held_none
      ∙ ap (option_map fault_of) (or_none log_refusal)

  -- a commit of a replica is made, or refused for a limit alone
  pub commit_is : p.kind ≡ Replica → CommitIs number suffix p puts drops now (commit_refusal p.kind p.directory puts drops now)
  commit_is replica = by (commit_refusal p.kind p.directory puts drops now) refl (subst IsLimit (sym (refusal_is replica)) (log_limits (nat_le most_writes (length p.directory.writes)) (nat_lt most_writes_weight (kept_weight p.directory.writes + op_weight (Commit puts drops))) (is_none (csn_of_next_write p.directory now))))
    where
      opened : commit_refusal p.kind p.directory puts drops now ≡ None → IsCommitted number suffix p (after_judged p (judged p.directory (Commit puts drops) now)) puts drops now
      opened is =
          let free = commit_open p.directory puts drops now (unopposed p.kind p.directory puts drops now is) in
          subst (λ outcome. IsCommitted number suffix p (after_judged p outcome) puts drops now) (sym free.judged) (committed_once replica free.write free.judged)

      by : (refusal : Option CommitFault) → commit_refusal p.kind p.directory puts drops now ≡ refusal → IsLimit refusal → CommitIs number suffix p puts drops now refusal
      by None is limit = subst (λ r. IsCommitted number suffix p (after_commit p (Commit puts drops) now r) puts drops now) (sym is) (opened is)
      by (Some (fault.LimitReached n)) is limit = tt
      by (Some (fault.DuplicateName one other)) is limit = limit
      by (Some fault.NoMemory) is limit = limit
      by (Some fault.NotAReplica) is limit = limit

-- a commit leaves a source, by which its consumers are fed
pub commits_are_kept : CommitsAreKept
commits_are_kept number suffix p puts drops now source replica good = commit_is number suffix p puts drops now source good replica

-- ---- limits

-- another limit of the log
going-logged : (number : ℕ) (p : ProviderState) (limit : ℕ) (g : ConsumerNode) (opening : ReportedOpening) (entries : List Entry) → GoesOn number p g opening entries → GoesOn number (log_limited p limit) g opening entries
going-logged number p limit g opening entries goes = record {
  session = goes.session;
  link = goes.link;
  search =
      pending-limited p.directory limit p.searches g.consumer.spec opening.persists goes.session.cut (far_of goes.session.start opening goes.session.count (goes.session.taken ++ goes.session.linked)) g.search goes.session.pending
      goes.search;
  place = goes.place;
}

-- or of queues
going-queued : (number : ℕ) (p : ProviderState) (limit : ℕ) (g : ConsumerNode) (opening : ReportedOpening) (entries : List Entry) → GoesOn number p g opening entries → GoesOn number (queue_limited p limit) g opening entries
going-queued number p limit g opening entries goes = record { session = goes.session; link = goes.link; search = goes.search; place = goes.place }

fed-limited : (number : ℕ) (p q : ProviderState) (g : ConsumerNode) (known : Known) → q.directory.writes ≡ p.directory.writes → q.directory.suffix ≡ p.directory.suffix
    → ((opening : ReportedOpening) → GoesOn number p g opening known.entries → GoesOn number q g opening known.entries)
    → IsFed number p g known → IsFed number q g known
fed-limited number p q g known writes suffix goes fed = record {
  held = fed.held;
  ascending = fed.ascending;
  cookie = fed.cookie;
  promised = subst (λ ws. IsPromised number g.consumer.spec ws known.entries (held_cookie g.consumer.copy.cookie)) (sym writes) fed.promised;
  below = ap (is_at_or_below g.consumer.spec.base) suffix ∙ fed.below;
  state = by fed.state;
}
  where
    by : IsAtRest g ⊎ IsGoing number p g known → IsAtRest g ⊎ IsGoing number q g known
    by (inl rest) = inl rest
    by (inr going) = inr (record { opening = going.opening; latest = going.latest; goes = goes going.opening going.goes })

-- so does another limit of the session log
pub limits_are_kept : LimitsAreKept
limits_are_kept number suffix p limit source = record {
  source = record {
    first = source.first;
    small = source.small;
    directory = λ i. record (source.directory i) { log = (with_log_limit p.directory limit).log };
    rises = source.rises;
    ranged = source.ranged;
    good = source.good;
    accepted = source.accepted;
    few = source.few;
    apart = source.apart;
  };
  fed = λ g known fed. fed-limited number p (log_limited p limit) g known refl refl (λ opening. going-logged number p limit g opening known.entries) fed;
  opens = λ at s found. (s, found);
  kind = refl;
  later = [];
  grown = sym (append-nil p.directory.writes);
}

-- and another limit of queues
pub queues_are_kept : QueuesAreKept
queues_are_kept number suffix p limit source = record {
  source = record {
    first = source.first;
    small = source.small;
    directory = source.directory;
    rises = source.rises;
    ranged = source.ranged;
    good = source.good;
    accepted = source.accepted;
    few = source.few;
    apart = source.apart;
  };
  fed = λ g known fed. fed-limited number p (queue_limited p limit) g known refl refl (λ opening. going-queued number p limit g opening known.entries) fed;
  opens = λ at s found. (s, found);
  kind = refl;
  later = [];
  grown = sym (append-nil p.directory.writes);
}
