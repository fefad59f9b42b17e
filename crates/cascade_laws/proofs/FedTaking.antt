-- A message that is taken from the link is the next of those that the consumer is fed, and the last one of a refresh or of
-- a later write brings the content after some of the writes into effect; or it fills the stage and is refused.
use Rattle.std.proofs.Common.{◌≡◌, ◌≢◌, ◌+◌, ◌<◌, ◌≤◌, ℕ, Bool, true, false, cond, Option, Some, None, List, [], ◌∷◌, ◌++◌, length, map, take, refl, ap, sym, ◌∙◌, inl, inr, arith, append_assoc, subst}
use Rattle.std.specs.Prelude.{◌⊎◌, ◌||◌, ◌==◌, not, pos, codes, All}
use Rattle.std.specs.Ordering.{int_eq}
use Rattle.std.proofs.lemmas.Bool.{false≢true}
use Rattle.std.proofs.lemmas.Slice.Eq.{bytes_eq-Decides}
use Rattle.ldap_constants.specs.declared.result_codes.TheConstants.{SUCCESS, BUSY}
use Rattle.csn_cookie.specs.Cookie.{cookie_text, cookie_of_text}
use Rattle.csn_cookie.specs.Csn.{start}
use Rattle.csn_cookie.specs.declared.cookie.Cookie.{Cookie}
use Rattle.csn_cookie.proofs.CookieLemmas.{cookie_of_text-cookie_text, cookie_of_text-spelled}
use Rattle.csn_cookie.proofs.OrderLemmas.{is_upto-itself}
use Rattle.directory_writes.specs.Directory.{cookie_at, entries_after, last_csn, csns}
use Rattle.directory_writes.proofs.Csns.{upto_csn}
use Rattle.directory_writes.proofs.LastCsns.{prefix_upto}
use Rattle.directory_writes.proofs.Promised.{IsPromised, content_at}
use Rattle.dn_names.specs.Names.{TypeAndValue}
use Rattle.entry_tree.specs.History.{state_of}
use Rattle.entry_tree.specs.Selection.{is_selected, select, Search}
use Rattle.entry_tree.specs.State.{ascends}
use Rattle.entry_tree.specs.declared.entry.Entry.{Entry}
use Rattle.entry_tree.specs.declared.op.Write.{Write}
use Rattle.entry_tree.proofs.Directory.{ascends_filter}
use Rattle.sync_model.specs.Copy.{Copy, SyncSession, Answer, refused, taken, taken_by, taken_in, taken_done, over}
use Rattle.sync_model.specs.Copy.Fault.{OutOfPlace, StageFull}
use Rattle.sync_model.specs.Copy.Answer.{Staged, Stored, Over, Refused}
use Rattle.sync_model.specs.Law.{Ascending, IsContentWithin, IsWithinLimits}
use Rattle.sync_model.specs.Message.{SyncMessage}
use Rattle.sync_model.specs.Message.SyncMessage.{AddOrModify, Delete, Present, IdSet, NewCookie, RefreshDelete, RefreshPresent, Done, Ignored}
use Rattle.sync_model.specs.Stream.{SyncOperation, content_after, last_mark}
use Rattle.sync_model.specs.Within.{puts_entry, limit_fault, refused_by, taken_within}
use Rattle.sync_model.proofs.Histories.{ascends-state_of}
use Rattle.sync_model.proofs.Groups.{heads, tails}
use Rattle.sync_model.proofs.NextMessages.{HasNext}
use Rattle.sync_model.proofs.Refresh.{marks-last}
use Rattle.sync_model.proofs.WithoutCookie.{Agrees}
use Rattle.sync_wire.specs.CanBeSent.{CanBeSent}
use Rattle.sync_wire.proofs.OfSearch.{IsOfSearch}
use Rattle.sync_provider.specs.Machine.{ProviderState}
use Rattle.sync_provider.specs.Search.{busy_end, cookie_after}
use Rattle.sync_provider.proofs.Coming.{StagesOne, IsOver, StoresOne, FillsOne, TakesOne, one_comes}
use Rattle.sync_provider.proofs.Whereabouts.{IsPast, IsWhere, HasSession, where_session}
use Rattle.cascade_nodes.specs.declared.node.ConsumerNode.{ConsumerNode}
use Rattle.cascade_nodes.proofs.Fed.{waits, cut_waits, HasPending, IsAtRest, own_over}
use Rattle.cascade_exchange.proofs.Owns.{owns-still}
use Rattle.cascade_world.specs.Cookies.{held_cookie}
use Rattle.cascade_world.specs.Exchange.{Agreement, agreement_of, copy_of, with_copy, given_up, number_of_cookie, stored_number, storing, taken_as, taken_from, taking}
use Rattle.cascade_laws.specs.Headline.{ReportedOpening, Known, known_after, NamesPrefix, session_over, stream_over, sent_octets}
use Rattle.cascade_world.specs.Reception.{Came, came_of, received, ends_without_cookie}
use Rattle.cascade_exchange.proofs.EndsWithoutCookie.{ending_answer}
use Rattle.cascade_world.specs.Origins.{Lineage}
use Rattle.cascade_world.specs.ReportLines.{Storing, ReportLine}
use Rattle.cascade_world.specs.ReportLines.{ReportLine as reported}
use Rattle.cascade_laws.proofs.Carried.{received_sent}
use Rattle.cascade_laws.proofs.Composing.{promises-still, kept-reported}
use Rattle.cascade_laws.proofs.FedCutting.{emptied_rests, given_up_kept}
use Rattle.cascade_laws.proofs.Feeding.{IsSource, Feeds, far_of, GoesOn, IsGoing, IsFed, IsRightOf, IsFaultAfter, KeepsPromises, IsKept, frame_of}
use Rattle.cascade_laws.proofs.Sharing.{others-none}

abbrev Name : Type 0
Name = List (List TypeAndValue)

-- ---- the cookie of a content

abbrev cookie_of_number : ℕ → List Write → ℕ → Cookie
cookie_of_number number writes count = cookie_at number number (last_csn (start number) (take count writes))

-- each cookie of a search is the text of one
pub cookies_are_texts : (number : ℕ) (spec : Search) (writes : List Write) (opening : ReportedOpening) (count : ℕ) → (cookie : Cookie) × ((session_over number spec writes opening).cookies count ≡ cookie_text cookie)
cookies_are_texts number spec writes opening count = (cookie_of_number number writes count, refl)

-- it is read again
cookie_read : (number : ℕ) (suffix : Name) (p : ProviderState) (count : ℕ) → IsSource number suffix p
    → held_cookie (Some (cookie_after number number p.directory.writes count)) ≡ Some (cookie_of_number number p.directory.writes count)
cookie_read number suffix p count source =
    cookie_of_text-cookie_text (cookie_of_number number p.directory.writes count)
    (record {
      rid = omega arith;
      sid = omega (arith, source.small);
      csn = source.ranged count;
      history = omega (arith, source.small);
    })

-- and its CSN reports how many writes led to the content
pub cookie_numbers : (number : ℕ) (suffix : Name) (p : ProviderState) (count : ℕ) → IsSource number suffix p → count ≤ length p.directory.writes
    → stored_number p.directory (Some (cookie_after number number p.directory.writes count)) ≡ count
cookie_numbers number suffix p count source within =
    ap (number_of_cookie (csns p.directory.writes)) (cookie_read number suffix p count source)
    ∙ upto_csn number p.directory.writes source.rises count within

-- it can be served, and names that prefix of the writes
cookie_names : (number : ℕ) (suffix : Name) (p : ProviderState) (count : ℕ) → IsSource number suffix p → count ≤ length p.directory.writes
    → NamesPrefix (cookie_after number number p.directory.writes count) number p.directory.writes count
cookie_names number suffix p count source within =
    let read : cookie_of_text (cookie_after number number p.directory.writes count) ≡ Some (cookie_of_number number p.directory.writes count) = cookie_read number suffix p count source in
    let spelled = cookie_of_text-spelled (cookie_after number number p.directory.writes count) (cookie_of_number number p.directory.writes count) read in
    record {
      serves = record {
        cookie = cookie_of_number number p.directory.writes count;
        good = spelled.0;
        spells = spelled.1;
        own = refl;
        not_greater = prefix_upto (start number) p.directory.writes source.rises count;
      };
      counted = sym (upto_csn number p.directory.writes source.rises count within);
    }

own_stored : (name : List ℕ) (known : Known) (stored : Storing) → known_after name known (reported.Stored name stored) ≡ record known { entries = stored.entries; cookie = stored.commit.cookie }
own_stored name known stored =
    ap (λ same. cond same (record known { entries = stored.entries; cookie = stored.commit.cookie }) known) ((bytes_eq-Decides name name).1 refl)

-- ---- what is left after the first message

-- where no message is in the link or to come, there is none in either
pub none_left : (link messages : List SyncMessage) → link ++ messages ≡ [] → (link ≡ []) × (messages ≡ [])
none_left [] messages same = (refl, same)
none_left (m ∷ link) messages same = let never : ⊥ = cc in absurd never

-- nor is there where some are left
none_short : (prefix left : List SyncMessage) → HasNext left → prefix ++ left ≡ [] → ⊥
none_short [] left some none = let bad : some.next ∷ some.later ≡ [] = sym some.same ∙ none in cc
none_short (m ∷ prefix) left some none = cc

-- the first message is the next of the Stream, or the end with busy
record IsFirst (persists cut : Bool) (ahead : List SyncMessage) (m : SyncMessage) (more : List SyncMessage) : Type 0 where
  beyond : List SyncMessage
  next : ahead ≡ m ∷ beyond
  left : Feeds persists cut more beyond

record IsBusy (cut : Bool) (m : SyncMessage) (more : List SyncMessage) : Type 0 where
  over_is : cut ≡ true
  message : m ≡ busy_end
  none : more ≡ []

first_left : (persists cut : Bool) (ahead : List SyncMessage) (m : SyncMessage) (more : List SyncMessage) → Feeds persists cut (m ∷ more) ahead → IsFirst persists cut ahead m more ⊎ IsBusy cut m more
first_left persists false ahead m more left = inl (record { beyond = more; next = sym left; left = refl })
first_left persists true ahead m more left = by left.prefix left.left left.some left.is left.split
  where
    by : (prefix dropped : List SyncMessage) → (persists ≡ false → HasNext dropped) → m ∷ more ≡ prefix ++ busy_end ∷ [] → prefix ++ dropped ≡ ahead → IsFirst persists true ahead m more ⊎ IsBusy true m more
    by [] dropped some one all = inr (record { over_is = refl; message = heads m busy_end more [] one; none = tails m busy_end more [] one })
    by (x ∷ prefix) dropped some one all =
        inl (record {
          beyond = prefix ++ dropped;
          next = sym all ∙ ap (λ y. y ∷ (prefix ++ dropped)) (sym (heads m x more (prefix ++ busy_end ∷ []) one));
          left = record { prefix = prefix; left = dropped; split = refl; is = tails m x more (prefix ++ busy_end ∷ []) one; some = some };
        })

-- the end with busy ends a search
taken_over : (held : Copy) (session : SyncSession) → held.session ≡ Some session → session.id ≡ 1
    → taken_within 1 held busy_end ≡ (record { held = held.held; cookie = held.cookie; session = None }, Over (pos BUSY))
taken_over held session runs id = ap (λ (o : Copy × Answer). refused_by (limit_fault false o.0 o.1) held o) here
  where
    by : (persists : Bool) → cond (persists || not (int_eq (pos BUSY) (pos SUCCESS))) (over held (pos BUSY)) (taken_done held session None) ≡ over held (pos BUSY)
    by true = refl
    by false = refl

    here : taken 1 held busy_end ≡ over held (pos BUSY)
    here =
        ap (λ found. taken_by found 1 held busy_end) runs
        ∙ ap (λ k. cond (1 == k) (taken_in held session busy_end) (refused held OutOfPlace)) id
        ∙ by session.persists

-- a message that puts an entry ends no refresh
puts_no_end : (m : SyncMessage) → puts_entry m ≡ true → ends_without_cookie m ≡ false
puts_no_end (AddOrModify adds entry cookie) puts = refl
puts_no_end (Delete uuid name cookie) puts = absurd (false≢true puts)
puts_no_end (Present uuid cookie) puts = absurd (false≢true puts)
puts_no_end (IdSet deletes uuids cookie) puts = absurd (false≢true puts)
puts_no_end (NewCookie cookie) puts = absurd (false≢true puts)
puts_no_end (RefreshDelete done cookie) puts = absurd (false≢true puts)
puts_no_end (RefreshPresent done cookie) puts = absurd (false≢true puts)
puts_no_end (Done code control) puts = absurd (false≢true puts)
puts_no_end Ignored puts = absurd (false≢true puts)

-- ---- what a consumer is reported

abbrev pub TakingKept : ℕ → Name → Agreement → Known → Option (Agreement × ReportLine) → Type 0
TakingKept number suffix pair known None = Unit {0}
TakingKept number suffix pair known (Some next) = IsKept number suffix pair next.0 (next.1 ∷ []) known

module _ (lin : Lineage) (number : ℕ) (suffix : Name) (p : ProviderState) (f : ConsumerNode) (known : Known) (opening : ReportedOpening) (latest : known.opening ≡ Some opening) (source : IsSource number suffix p)
    (fed : IsFed number p f known) (goes : GoesOn number p f opening known.entries) where
  abbrev writes : List Write
  writes = p.directory.writes

  abbrev operation : SyncOperation
  operation = session_over number f.consumer.spec writes opening

  ascending : Ascending operation
  ascending count = ascends-state_of number writes count

  within : (count : ℕ) → IsWithinLimits (operation.states count)
  within count = (source.good count).within

  sent : (count : ℕ) → All CanBeSent (operation.states count)
  sent count = (source.good count).sent

  texts : (count : ℕ) → (cookie : Cookie) × (operation.cookies count ≡ cookie_text cookie)
  texts = cookies_are_texts number f.consumer.spec writes opening

  abbrev held : Copy
  held = copy_of f

  -- the number of writes at the last piece
  abbrev last : ℕ
  last = last_mark opening.writes goes.session.pieces

  opened_low : opening.writes ≤ last
  opened_low = marks-last goes.session.pieces opening.writes goes.session.sliced.rises

  -- what a taking leaves: the search goes on; or the consumer is at rest, and what it holds is the content after some writes
  -- not before the opening, or writes came since then
  pub record IsTaken (after : Agreement) (line : ReportLine) : Type 0 where
    pub kept : IsKept number suffix (agreement_of p f lin) after (line ∷ []) known
    pub then : GoesOn number after.provider after.consumer_node opening (known_after f.name known line).entries
        ⊎ (IsAtRest after.consumer_node × ((opening.writes < length writes) ⊎ IsContentWithin operation opening.writes (length writes) (known_after f.name known line).entries))
    pub still : (known_after f.name known line).opening ≡ known.opening

  module _ (m : SyncMessage) (rest : List SyncMessage) (first : goes.session.linked ≡ m ∷ rest) where
    abbrev outcome : Copy × Answer
    outcome = taken_within 1 held m

    abbrev left : List (List ℕ)
    left = map sent_octets rest

    abbrev after : Copy → ConsumerNode
    after copy = record (with_copy f copy) { link = left }

    remains : Feeds opening.persists goes.session.cut (m ∷ (rest ++ goes.session.pending)) goes.session.ahead
    remains = subst (λ ms. Feeds opening.persists goes.session.cut (ms ++ goes.session.pending) goes.session.ahead) first goes.session.left

    has_session : HasSession opening.persists held
    has_session = where_session operation goes.session.start opening.writes goes.session.pieces goes.session.count known.entries held goes.session.taken goes.session.ahead goes.place

    -- the bytes are decoded as the message
    decoded_is : IsOfSearch m → ends_without_cookie m ≡ false → received held (sent_octets m) ≡ (outcome.0, came_of outcome.1)
    decoded_is can cookied = received_sent held has_session.session m has_session.runs has_session.id can cookied

    -- what comes of it reports whether it ends a refresh without a cookie
    agrees : (a : Answer) → outcome.1 ≡ a → Agrees (ends_without_cookie m) a
    agrees a is = subst (Agrees (ends_without_cookie m)) is (ending_answer 1 held m)

    abbrev Is : Copy → Came → Type 0
    Is copy came = IsTaken (taken_as (agreement_of p f lin) left copy came).0 (taken_as (agreement_of p f lin) left copy came).1

    -- ---- the next message of the Stream

    module _ (is : IsFirst opening.persists goes.session.cut goes.session.ahead m (rest ++ goes.session.pending)) where
      more_taken : (goes.session.taken ++ m ∷ []) ++ is.beyond ≡ stream_over number f.consumer.spec writes opening goes.session.start goes.session.pieces goes.session.count
      more_taken = append_assoc goes.session.taken (m ∷ []) is.beyond ∙ ap (λ ms. goes.session.taken ++ ms) (sym is.next) ∙ goes.session.whole

      handed_still : goes.session.taken ++ goes.session.linked ≡ (goes.session.taken ++ m ∷ []) ++ rest
      handed_still = ap (λ ms. goes.session.taken ++ ms) first ∙ sym (append_assoc goes.session.taken (m ∷ []) rest)

      -- the search goes on from there
      goes_now : (copy : Copy) (entries : List Entry) → IsWhere operation goes.session.start opening.writes goes.session.pieces goes.session.count entries copy (goes.session.taken ++ m ∷ []) is.beyond
          → GoesOn number p (after copy) opening entries
      goes_now copy entries place = record {
        session = record {
          start = goes.session.start;
          from = goes.session.from;
          pieces = goes.session.pieces;
          sliced = goes.session.sliced;
          count = goes.session.count;
          upto = goes.session.upto;
          taken = goes.session.taken ++ m ∷ [];
          ahead = is.beyond;
          whole = more_taken;
          cut = goes.session.cut;
          late = goes.session.late;
          linked = rest;
          pending = goes.session.pending;
          left = is.left;
          reported = goes.session.reported ∙ ap (map sent_octets) handed_still;
        };
        link = refl;
        search =
            subst (λ ms. HasPending p.directory p.searches f.consumer.spec opening.persists goes.session.cut (far_of goes.session.start opening goes.session.count ms) f.search goes.session.pending) handed_still
            goes.search;
        place = place;
      }

      -- what may come of it
      abbrev Stages : Type 0
      Stages = StagesOne operation ascending within sent texts goes.session.start opening.writes goes.session.pieces goes.session.sliced goes.session.count known.entries held (goes.session.taken ++ m ∷ []) is.beyond outcome

      abbrev Stores : Type 0
      Stores = StoresOne operation ascending within sent texts goes.session.start opening.writes goes.session.pieces goes.session.sliced goes.session.count known.entries is.beyond outcome

      abbrev Ends : Type 0
      Ends = IsOver operation ascending within sent texts goes.session.start opening.writes goes.session.pieces goes.session.sliced goes.session.count is.beyond outcome.0

      abbrev Fills : Type 0
      Fills = FillsOne operation ascending within sent texts goes.session.start opening.writes goes.session.pieces goes.session.sliced goes.session.count known.entries held goes.session.taken m

      takes : TakesOne operation ascending within sent texts goes.session.start opening.writes goes.session.pieces goes.session.sliced goes.session.count known.entries held goes.session.taken m is.beyond
      takes =
          one_comes operation ascending within sent texts goes.session.start opening.writes goes.session.pieces goes.session.sliced goes.session.count known.entries held goes.session.taken is.beyond m fed.ascending
          (subst (IsWhere operation goes.session.start opening.writes goes.session.pieces goes.session.count known.entries held goes.session.taken) is.next goes.place)

      staged_is : Stages → Is outcome.0 (came_of outcome.1)
      staged_is now =
          subst (λ a. Is outcome.0 (came_of a)) (sym now.answer) (record {
            kept = kept-reported number suffix (agreement_of p f lin) (agreement_of p (after outcome.0) lin) (reported.Taken f.name) known (λ name k. refl) tt (record {
              source = source;
              fed = record {
                held = now.same;
                ascending = fed.ascending;
                cookie = now.cookie ∙ fed.cookie;
                promised = subst (λ c. IsPromised number f.consumer.spec writes known.entries (held_cookie c)) (sym now.cookie) fed.promised;
                below = fed.below;
                state = inr (record { opening = opening; latest = latest; goes = goes_now outcome.0 known.entries now.place });
              };
              right = tt;
              same = refl;
              others = others-none lin number p f (after outcome.0) refl;
              owns = owns-still lin p f (after outcome.0) (λ at mine. mine);
              elsewhere = promises-still number f.consumer.spec known;
            });
            then = inl (goes_now outcome.0 known.entries now.place);
            still = refl;
          })

      -- ---- the stage is full

      module _ (full : Fills) where
        -- a write came since the opening
        since : opening.writes < length writes
        since = let later : last ≢ opening.writes = full.later in omega (arith, opened_low, later, goes.session.upto)

        fault : IsFaultAfter (frame_of (agreement_of p f lin)) known (codes "StageFull")
        fault = record {
          opening = opening;
          latest = latest;
          full = record {
            named = refl;
            since = since;
            earlier = goes.session.taken;
            message = m;
            rest = rest;
            sent = goes.session.reported ∙ ap (λ ms. map sent_octets (goes.session.taken ++ ms)) first;
            fills = full.fills opening.cookie;
          };
        }

        given : Is (record held { session = None }) (came_of (Refused StageFull))
        given = record {
          kept =
              kept-reported number suffix (agreement_of p f lin) (given_up (agreement_of p f lin) held) (reported.Faulted f.name (codes "StageFull")) known (λ name k. refl) (refl, fault)
              (given_up_kept lin number suffix p f known source fed);
          then = inr (emptied_rests f, inl since);
          still = refl;
        }

        filled_is : Is outcome.0 (came_of outcome.1)
        filled_is = subst (λ (o : Copy × Answer). Is o.0 (came_of o.1)) (sym full.refused) given

      -- ---- a content is stored

      module _ (now : Stores) where
        abbrev content : List Entry
        content = content_at number f.consumer.spec writes now.stored.number

        abbrev n : ℕ
        n = stored_number p.directory outcome.0.cookie

        abbrev stored : Storing
        stored = storing (agreement_of p f lin) outcome.0 now.stored.commit

        abbrev line : ReportLine
        line = reported.Stored f.name stored

        abbrev then_known : Known
        then_known = record known { entries = outcome.0.held; cookie = now.stored.commit.cookie }

        low : now.stored.number ≤ length writes
        low = omega (arith, now.stored.upto, goes.session.upto)

        right_number : n ≡ now.stored.number
        right_number = ap (stored_number p.directory) now.stored.cookie ∙ cookie_numbers number suffix p now.stored.number source low

        -- its cookie is that of the content
        text_is : now.stored.commit.cookie ≡ Some (cookie_after number number writes n)
        text_is = now.stored.text ∙ ap (λ k. Some (cookie_after number number writes k)) (sym right_number)

        right_entries : IsRightOf number (frame_of (agreement_of p f lin)) known stored
        right_entries = record {
          prefix = omega (arith, right_number, low);
          opening = opening;
          latest = latest;
          no_shorter = omega (arith, right_number, now.stored.from, opened_low);
          exactly = now.stored.held ∙ ap (λ k. select f.consumer.spec (entries_after number (take k writes))) (sym right_number);
          cookie = text_is;
          names = cookie_names number suffix p n source (omega (arith, right_number, low));
          staged = now.stored.staged ∙ sym now.stored.held;
          wanted = refl;
          from = refl;
        }

        -- and promises nothing of what another history has
        promises_elsewhere : KeepsPromises number f.consumer.spec known then_known
        promises_elsewhere other later least most far promised =
            subst (λ c. IsPromised other f.consumer.spec later outcome.0.held (held_cookie c)) (sym now.stored.text)
            (subst (IsPromised other f.consumer.spec later outcome.0.held) (sym (cookie_read number suffix p now.stored.number source)) (λ own. absurd (far (sym own))))

        content_ascends : ascends content ≡ true
        content_ascends = ascends_filter (is_selected f.consumer.spec) (state_of number writes now.stored.number) (ascends-state_of number writes now.stored.number)

        -- the new cookie promises what is held
        promised_now : IsPromised number f.consumer.spec writes outcome.0.held (held_cookie outcome.0.cookie)
        promised_now =
            subst (λ es. IsPromised number f.consumer.spec writes es (held_cookie outcome.0.cookie)) (sym now.stored.held)
            (subst (λ c. IsPromised number f.consumer.spec writes content (held_cookie c)) (sym now.stored.cookie)
            (subst (IsPromised number f.consumer.spec writes content) (sym (cookie_read number suffix p now.stored.number source))
            (λ own. record { count = now.stored.number; within = low; not_below = is_upto-itself (last_csn (start number) (take now.stored.number writes)); same = refl })))

        no_more : Ends → goes.session.cut ≡ false
        no_more over = by goes.session.cut refl is.left
          where
            by : (cut : Bool) → goes.session.cut ≡ cut → Feeds opening.persists cut (rest ++ goes.session.pending) is.beyond → goes.session.cut ≡ false
            by false here left' = here
            by true here left' = absurd (none_short left'.prefix left'.left (left'.some over.ends) (left'.split ∙ over.none))

        rests : Ends → IsAtRest (after outcome.0)
        rests over = record {
          search =
              own_over p.searches f.search p f opening.persists goes.session.cut (far_of goes.session.start opening goes.session.count (goes.session.taken ++ goes.session.linked)) goes.session.pending none.1
              (ap (λ b. waits b goes.session.cut) over.ends) goes.search;
          session = over.session;
          link = ap (map sent_octets) none.0;
        }
          where
            none : (rest ≡ []) × (goes.session.pending ≡ [])
            none = none_left rest goes.session.pending (subst (λ cut. Feeds opening.persists cut (rest ++ goes.session.pending) is.beyond) (no_more over) is.left ∙ over.none)

        -- the content after some writes is held then
        content_held : IsContentWithin operation opening.writes (length writes) outcome.0.held
        content_held = record { number = now.stored.number; from = omega (arith, opened_low, now.stored.from); upto = low; same = now.stored.held }

        abbrev GoesThen : List Entry → Type 0
        GoesThen entries = GoesOn number p (after outcome.0) opening entries ⊎ (IsAtRest (after outcome.0) × ((opening.writes < length writes) ⊎ IsContentWithin operation opening.writes (length writes) entries))

        state_now : IsPast operation last goes.session.count (content_after operation now.stored.number) outcome.0 is.beyond ⊎ Ends → GoesThen outcome.0.held
        state_now (inl past) = inl (subst (GoesOn number p (after outcome.0) opening) (sym now.stored.held) (goes_now outcome.0 content (inr past)))
        state_now (inr over) = inr (rests over, inr content_held)

        fed_now : GoesThen outcome.0.held → IsFed number p (after outcome.0) then_known
        fed_now state = record {
          held = refl;
          ascending = ap ascends now.stored.held ∙ content_ascends;
          cookie = now.stored.cookie ∙ sym now.stored.text;
          promised = promised_now;
          below = fed.below;
          state = by state;
        }
          where
            by : GoesThen outcome.0.held → IsAtRest (after outcome.0) ⊎ IsGoing number p (after outcome.0) then_known
            by (inl going) = inr (record { opening = opening; latest = latest; goes = going })
            by (inr rest') = inl rest'.0

        stored_is : Is outcome.0 (came_of outcome.1)
        stored_is = subst (λ a. Is outcome.0 (came_of a)) (sym now.stored.answer) (record {
          kept = record {
            source = source;
            fed = subst (IsFed number p (after outcome.0)) (sym known_is) (fed_now (state_now now.then));
            right = ((refl, right_entries), tt);
            same = refl;
            others = others-none lin number p f (after outcome.0) refl;
            owns = owns-still lin p f (after outcome.0) (λ at mine. mine);
            elsewhere = subst (KeepsPromises number f.consumer.spec known) (sym known_is) promises_elsewhere;
          };
          then = subst (λ (k : Known). GoesThen k.entries) (sym known_is) (state_now now.then);
          still = ap (λ (k : Known). k.opening) known_is;
        })
          where
            known_is : known_after f.name known line ≡ then_known
            known_is = own_stored f.name known stored

      first_is : IsTaken (taken_as (agreement_of p f lin) left (received held (sent_octets m)).0 (received held (sent_octets m)).1).0 (taken_as (agreement_of p f lin) left (received held (sent_octets m)).0 (received held (sent_octets m)).1).1
      first_is = subst (λ (h : Copy × Came). Is h.0 h.1) (sym (decoded_is takes.can (cookied takes.comes))) (by takes.comes)
        where
          cookied : Stages ⊎ (Stores ⊎ Fills) → ends_without_cookie m ≡ false
          cookied (inl now) = agrees Staged now.answer
          cookied (inr (inl now)) = agrees (Stored now.stored.commit) now.stored.answer
          cookied (inr (inr full)) = puts_no_end m (full.fills opening.cookie).puts

          by : Stages ⊎ (Stores ⊎ Fills) → Is outcome.0 (came_of outcome.1)
          by (inl now) = staged_is now
          by (inr (inl now)) = stored_is now
          by (inr (inr full)) = filled_is full

    -- ---- the end with busy

    module _ (is : IsBusy goes.session.cut m (rest ++ goes.session.pending)) where
      abbrev ended : Copy
      ended = record { held = held.held; cookie = held.cookie; session = None }

      outcome_is : outcome ≡ (ended, Over (pos BUSY))
      outcome_is = ap (taken_within 1 held) is.message ∙ taken_over held has_session.session has_session.runs has_session.id

      rests_now : IsAtRest (after ended)
      rests_now = record {
        search =
            own_over p.searches f.search p f opening.persists goes.session.cut (far_of goes.session.start opening goes.session.count (goes.session.taken ++ goes.session.linked)) goes.session.pending none.1
            (ap (waits opening.persists) is.over_is ∙ cut_waits opening.persists) goes.search;
        session = refl;
        link = ap (map sent_octets) none.0;
      }
        where
          none : (rest ≡ []) × (goes.session.pending ≡ [])
          none = none_left rest goes.session.pending is.none

      ended_is : Is ended (came_of (Over (pos BUSY)))
      ended_is = record {
        kept = kept-reported number suffix (agreement_of p f lin) (agreement_of p (after ended) lin) (reported.Ended f.name (pos BUSY)) known (λ name k. refl) refl (record {
          source = source;
          fed = record {
            held = fed.held;
            ascending = fed.ascending;
            cookie = fed.cookie;
            promised = fed.promised;
            below = fed.below;
            state = inl rests_now;
          };
          right = tt;
          same = refl;
          others = others-none lin number p f (after ended) refl;
          owns = owns-still lin p f (after ended) (λ at mine. mine);
          elsewhere = promises-still number f.consumer.spec known;
        });
        then = inr (rests_now, inl (goes.session.late is.over_is));
        still = refl;
      }

      busy_is : IsTaken (taken_as (agreement_of p f lin) left (received held (sent_octets m)).0 (received held (sent_octets m)).1).0 (taken_as (agreement_of p f lin) left (received held (sent_octets m)).0 (received held (sent_octets m)).1).1
      busy_is =
          subst (λ (h : Copy × Came). Is h.0 h.1) (sym (decoded_is (subst IsOfSearch (sym is.message) (inr (refl, refl))) (ap ends_without_cookie is.message)))
          (subst (λ (o : Copy × Answer). Is o.0 (came_of o.1)) (sym outcome_is) ended_is)

    -- the first message of the link is taken, and the consumer is fed as before
    pub one_taken : IsTaken (taken_as (agreement_of p f lin) left (received held (sent_octets m)).0 (received held (sent_octets m)).1).0 (taken_as (agreement_of p f lin) left (received held (sent_octets m)).0 (received held (sent_octets m)).1).1
    one_taken = by (first_left opening.persists goes.session.cut goes.session.ahead m (rest ++ goes.session.pending) remains)
      where
        by : IsFirst opening.persists goes.session.cut goes.session.ahead m (rest ++ goes.session.pending) ⊎ IsBusy goes.session.cut m (rest ++ goes.session.pending)
            → IsTaken (taken_as (agreement_of p f lin) left (received held (sent_octets m)).0 (received held (sent_octets m)).1).0 (taken_as (agreement_of p f lin) left (received held (sent_octets m)).0 (received held (sent_octets m)).1).1
        by (inl is) = first_is is
        by (inr is) = busy_is is

-- what a consumer whose search goes on takes
abbrev pub GoingTaken : (lin : Lineage) (number : ℕ) (suffix : Name) (p : ProviderState) (f : ConsumerNode) (known : Known) (opening : ReportedOpening) → known.opening ≡ Some opening → IsSource number suffix p → IsFed number p f known
    → GoesOn number p f opening known.entries → Option (Agreement × ReportLine) → Type 0
GoingTaken lin number suffix p f known opening latest source fed goes None = f.link ≡ []
GoingTaken lin number suffix p f known opening latest source fed goes (Some next) = IsTaken lin number suffix p f known opening latest source fed goes next.0 next.1

-- so it is of a search that goes on
pub going_taken : (lin : Lineage) (number : ℕ) (suffix : Name) (p : ProviderState) (f : ConsumerNode) (known : Known) (opening : ReportedOpening) (latest : known.opening ≡ Some opening) (source : IsSource number suffix p)
    (fed : IsFed number p f known) (goes : GoesOn number p f opening known.entries) → GoingTaken lin number suffix p f known opening latest source fed goes (taking (agreement_of p f lin))
going_taken lin number suffix p f known opening latest source fed goes = by goes.session.linked refl
  where
    Good : List (List ℕ) → Type 0
    Good link = GoingTaken lin number suffix p f known opening latest source fed goes (taken_from (agreement_of p f lin) link)

    by : (linked : List SyncMessage) → goes.session.linked ≡ linked → Good f.link
    by [] none = subst Good (sym (goes.link ∙ ap (map sent_octets) none)) (goes.link ∙ ap (map sent_octets) none)
    by (m ∷ rest) some = subst Good (sym (goes.link ∙ ap (map sent_octets) some)) (one_taken lin number suffix p f known opening latest source fed goes m rest some)

-- and of any consumer, with a message in its link or without one
pub taking_kept : (number : ℕ) (suffix : Name) (pair : Agreement) (known : Known) → IsSource number suffix pair.provider → IsFed number pair.provider pair.consumer_node known
    → TakingKept number suffix pair known (taking pair)
taking_kept number suffix pair known source fed = by fed.state
  where
    going : (is : IsGoing number pair.provider pair.consumer_node known) (next : Option (Agreement × ReportLine))
        → GoingTaken pair.lineage number suffix pair.provider pair.consumer_node known is.opening is.latest source fed is.goes next → TakingKept number suffix pair known next
    going is None taken = tt
    going is (Some next) taken = taken.kept

    by : IsAtRest pair.consumer_node ⊎ IsGoing number pair.provider pair.consumer_node known → TakingKept number suffix pair known (taking pair)
    by (inl rest) = subst (λ link. TakingKept number suffix pair known (taken_from pair link)) (sym rest.link) tt
    by (inr is) = going is (taking pair) (going_taken pair.lineage number suffix pair.provider pair.consumer_node known is.opening is.latest source fed is.goes)
