-- A search that is opened feeds a consumer, and one that is refused leaves it at rest.
use Rattle.std.proofs.Common.{◌≡◌, ℕ, Bool, true, false, cond, eq-eqb, Option, Some, None, List, [], ◌∷◌, ◌++◌, length, take, refl, ap, sym, ◌∙◌, inl, inr, arith, append-nil, subst}
use Rattle.std.specs.Prelude.{◌⊎◌, ◌&&◌, ◌==◌, Ok, Err}
use Rattle.std.specs.BTreeMap.{insert_entry}
use Rattle.std.specs.Ordering.{nat_cmp}
use Rattle.std.proofs.Math.Seq.{take-length}
use Rattle.std.proofs.lemmas.Bool.{false≢true}
use Rattle.std.proofs.lemmas.List.Sums.{fold-append}
use Rattle.std.proofs.lemmas.Slice.Eq.{bytes_eq-Decides}
use Rattle.ldap_constants.specs.declared.result_codes.TheConstants.{E_SYNC_REFRESH_REQUIRED}
use Rattle.directory_writes.specs.Directory.{DirectoryState}
use Rattle.directory_writes.proofs.Keyed.{opened-same}
use Rattle.directory_writes.proofs.Distinct.{distinct-opened}
use Rattle.directory_writes.proofs.Promised.{IsPromised}
use Rattle.dn_names.specs.Names.{TypeAndValue, is_at_or_below}
use Rattle.entry_tree.specs.Selection.{Search}
use Rattle.entry_tree.specs.declared.entry.Entry.{Entry}
use Rattle.entry_tree.specs.declared.op.Write.{Write}
use Rattle.sync_messages.specs.declared.request.Mode.{Mode}
use Rattle.sync_messages.specs.declared.request.Mode.TheVariants.{RefreshOnly}
use Rattle.sync_messages.specs.declared.request.SyncRequest.{SyncRequest}
use Rattle.sync_model.specs.Incremental.{number_of}
use Rattle.sync_model.specs.Law.{MayBegin}
use Rattle.sync_model.specs.Message.{SyncMessage}
use Rattle.sync_model.specs.Stream.{SyncOperation, Start, RefreshPiece, refresh}
use Rattle.sync_model.proofs.NextMessages.{HasNext, prefix_some, none_later}
use Rattle.sync_wire.specs.Requesting.{persists}
use Rattle.sync_provider.specs.Accepting.{free_number}
use Rattle.sync_provider.specs.HandingOut.{search_at}
use Rattle.sync_provider.specs.Machine.{ProviderState}
use Rattle.sync_provider.specs.Search.{SearchState, session_of, opening, pending}
use Rattle.sync_provider.specs.declared.searches.Accepted.{Accepted}
use Rattle.sync_provider.specs.declared.searches.Accepted.TheVariants as accepted
use Rattle.sync_provider.proofs.Kept.{IsFree, request_free}
use Rattle.sync_provider.proofs.Places.{opening_place}
use Rattle.sync_provider.proofs.RefreshTaken.{refresh_some, none_met}
use Rattle.sync_provider.proofs.Streams.{HasHanded}
use Rattle.sync_provider.proofs.Walking.{SendsRefresh, opened_refresh}
use Rattle.sync_provider.proofs.Whereabouts.{where_session}
use Rattle.cascade_nodes.specs.declared.node.ConsumerNode.{ConsumerNode}
use Rattle.cascade_nodes.proofs.Fed.{HasRoom, IsAtRest, number_free}
use Rattle.cascade_exchange.proofs.Owns.{room_after, owns-still, owns-opened}
use Rattle.cascade_world.specs.Cookies.{held_cookie}
use Rattle.cascade_world.specs.Exchange.{Agreement, ExchangeOutcome, agreement_of, copy_of, with_copy, name_of, is_busy, given_up, after_lines, and_then, idle, asking, request_from, start_of, answer_of, is_required, refused_copy, opened_by, opened_idle, opens, asked_again, opens_anew}
use Rattle.cascade_laws.specs.Headline.{ReportedOpening, Known, known_after, IsServedCookie, IsUnserved, BeginsFrom, session_over, stream_over}
use Rattle.cascade_world.specs.Opening.{message_id, answer_to_request, with_opened}
use Rattle.cascade_world.specs.Origins.{Lineage}
use Rattle.cascade_world.specs.ReportLines.{ReportLine}
use Rattle.cascade_world.specs.ReportLines.{ReportLine as reported}
use Rattle.cascade_laws.proofs.Composing.{IsKeptIn, Keeps, known_by_lines, promises-still, kept-still, kept-then, kept-lines}
use Rattle.cascade_laws.proofs.Feeding.{IsSource, GoesOn, IsFed, Frame, KeepsPromises, IsKept}
use Rattle.cascade_laws.proofs.FedCutting.{source-searches, cut_kept, idle_rests}
use Rattle.cascade_laws.proofs.Refusing.{IsOver, refused_over}
use Rattle.cascade_laws.proofs.Served.{Says, answer_says, start_from, start_begins}
use Rattle.cascade_laws.proofs.Sharing.{others-none, others-opened}

abbrev Name : Type 0
Name = List (List TypeAndValue)

-- the number of a search that is accepted is free, and the count is that of the writes
pub opened_free : (p : ProviderState) (spec : Search) (request : SyncRequest) (number count : ℕ) → answer_to_request p spec (Ok request) ≡ accepted.Opened number count
    → IsFree p.directory p.searches number count
opened_free p spec request number count = request_free p.directory p.searches request number count (is_at_or_below spec.base p.directory.suffix)

-- ---- what is pending then

sids_of : (number : ℕ) (suffix : Name) (p : ProviderState) → IsSource number suffix p → p.directory.sid ≡ number
sids_of number suffix p source = ap (λ (d : DirectoryState). d.sid) source.directory

histories_of : (number : ℕ) (suffix : Name) (p : ProviderState) → IsSource number suffix p → p.directory.history ≡ number
histories_of number suffix p source = ap (λ (d : DirectoryState). d.history) source.directory

-- ---- a search that is opened

abbrev with_search : ConsumerNode → Bool → ℕ → ConsumerNode
with_search f persists at = record (with_copy f (asking persists (copy_of f))) { search = Some at }

abbrev opening_of : Known → Bool → ℕ → ReportedOpening
opening_of known persists count = record { writes = count; persists = persists; cookie = known.cookie; sent = [] }

module _ (lin : Lineage) (number : ℕ) (suffix : Name) (p : ProviderState) (f : ConsumerNode) (known : Known) (persists : Bool) (at count : ℕ) (source : IsSource number suffix p) (fed : IsFed number p f known) (rest : IsAtRest f)
    (counted : count ≡ length p.directory.writes) where
  abbrev writes : List Write
  writes = p.directory.writes

  abbrev start : Start
  start = start_of (agreement_of p f lin)

  abbrev opened : ReportedOpening
  opened = opening_of known persists count

  abbrev operation : SyncOperation
  operation = session_over number f.consumer.spec writes opened

  abbrev after : ProviderState
  after = with_opened p at f.consumer.spec start persists

  all_taken : take count writes ≡ writes
  all_taken = ap (λ n. take n writes) counted ∙ take-length writes

  begins : MayBegin operation start count known.entries
  begins =
      subst (λ n. MayBegin operation start n known.entries) (sym counted)
      (start_begins p.directory number (sids_of number suffix p source) (histories_of number suffix p source) source.rises persists f.consumer.spec known.entries fed.ascending f.consumer.copy.cookie fed.promised)

  from : BeginsFrom number (take count writes) known.cookie (number_of start)
  from =
      subst (λ ws. BeginsFrom number ws known.cookie (number_of start)) (sym all_taken)
      (subst (λ text. BeginsFrom number writes text (number_of start)) fed.cookie
      (start_from p.directory number (sids_of number suffix p source) (histories_of number suffix p source) f.consumer.copy.cookie))

  -- the session as the directory has it
  abbrev own_session : SyncOperation
  own_session = session_of persists p.directory.sid p.directory.history f.consumer.spec writes

  own_is : own_session ≡ operation
  own_is = λ i. session_of persists (sids_of number suffix p source i) (histories_of number suffix p source i) f.consumer.spec writes

  -- the search as it is opened, of which nothing was handed out
  abbrev first_search : SearchState
  first_search = opening p.directory message_id f.consumer.spec start persists

  first_has : HasHanded p.directory first_search []
  first_has = record {
    placed = record { handed = []; handed_later = []; place = opening_place p.directory message_id f.consumer.spec start persists };
    all = refl;
  }

  -- its refresh is pending, in pieces of which no write comes before the last
  sends : SendsRefresh operation start count (length writes) (pending p.directory first_search)
  sends =
      subst (λ n. SendsRefresh operation start n (length writes) (pending p.directory first_search)) (sym counted)
      (subst (λ (o : SyncOperation). SendsRefresh o start (length writes) (length writes) (pending p.directory first_search)) own_is
      (opened_refresh p.directory first_search [] refl first_has refl))

  abbrev pieces : List RefreshPiece
  pieces = sends.pieces

  abbrev ahead : List SyncMessage
  ahead = stream_over number f.consumer.spec writes opened start pieces 0

  pending_is : pending p.directory first_search ≡ ahead
  pending_is =
      sends.whole
      ∙ sym (append-nil (refresh operation start count pieces))
      ∙ ap (λ ms. refresh operation start count pieces ++ ms) (sym (none_later persists))

  ahead_some : HasNext ahead
  ahead_some = prefix_some (refresh operation start count pieces) (cond persists [] []) (refresh_some operation start count pieces)

  opened_goes : GoesOn number after (with_search f persists at) opened known.entries
  opened_goes = record {
    session = record {
      start = start;
      from = from;
      pieces = pieces;
      sliced = sends.cut;
      count = 0;
      upto = omega (arith, sends.last);
      taken = [];
      ahead = ahead;
      whole = refl;
      cut = false;
      late = λ bad. absurd (false≢true bad);
      linked = [];
      pending = ahead;
      left = refl;
      reported = refl;
    };
    link = rest.link;
    search = record {
      search = first_search;
      found = opened-same p.searches at first_search;
      id = refl;
      spec = refl;
      persists = refl;
      start = refl;
      accepted = sym counted;
      over = refl;
      same = pending_is;
      stands = inl (refl, first_has);
      walks = λ left. refl;
      some = λ waits. ahead_some;
    };
    place = inl (record {
      begins = begins;
      rest = refresh operation start count pieces;
      some = refresh_some operation start count pieces;
      whole = refl;
      beyond = refl;
      copy = λ i. asking persists (record f.consumer.copy { held = fed.held i });
      met = none_met persists known.entries;
    });
  }

  own_opening : known_after f.name known (reported.Opened f.name persists count) ≡ record known { opening = Some opened }
  own_opening = ap (λ same. cond same (record known { opening = Some opened }) known) ((bytes_eq-Decides f.name f.name).1 refl)

  -- the consumer is fed by it from the provider's writes on, and its line is right
  pub opened_kept : search_at p.searches at ≡ None → IsServedCookie f.consumer.reload number writes known.cookie
      → IsKept number suffix (agreement_of p f lin) (agreement_of after (with_search f persists at) lin) (reported.Opened f.name persists count ∷ []) known
  opened_kept free served = record {
    source = source-searches number suffix p (insert_entry nat_cmp p.searches at first_search) (distinct-opened p.searches at first_search free source.apart) source;
    fed =
        subst (IsFed number after (with_search f persists at)) (sym own_opening)
        (record {
          held = fed.held;
          ascending = fed.ascending;
          cookie = fed.cookie;
          promised = fed.promised;
          below = fed.below;
          state = inr (record { opening = opened; latest = refl; goes = opened_goes });
        });
    right = ((refl, (counted, served)), tt);
    same = refl;
    others = others-opened lin number p f (with_search f persists at) at first_search free refl;
    owns = owns-opened lin p f (with_search f persists at) at first_search rest.search refl;
    elsewhere = subst (KeepsPromises number f.consumer.spec known) (sym own_opening) (promises-still number f.consumer.spec known);
  }

-- ---- a search that is refused

abbrev with_refusal : ConsumerNode → Bool → ℕ → ConsumerNode
with_refusal f persists code = with_copy f (refused_copy (asking persists (copy_of f)) code)

own_refusal : (name : List ℕ) (known : Known) (persists : Bool) (code : ℕ) → known_after name known (reported.Refused name persists code) ≡ cond (code == E_SYNC_REFRESH_REQUIRED) (record known { cookie = None }) known
own_refusal name known persists code = ap (λ same. cond (same && code == E_SYNC_REFRESH_REQUIRED) (record known { cookie = None }) known) ((bytes_eq-Decides name name).1 refl)

-- a search that is refused for the cookie leaves the consumer at rest, without one
refused_kept : (lin : Lineage) (number : ℕ) (suffix : Name) (p : ProviderState) (f : ConsumerNode) (known : Known) (persists : Bool) (code : ℕ) → IsSource number suffix p → IsFed number p f known
    → IsAtRest f → code ≡ E_SYNC_REFRESH_REQUIRED → IsUnserved f.consumer.reload number p.directory.writes known.cookie
    → IsKept number suffix (agreement_of p f lin) (agreement_of p (with_refusal f persists code) lin) (reported.Refused f.name persists code ∷ []) known
refused_kept lin number suffix p f known persists code source fed rest required unserved = record {
  source = source;
  fed =
      subst (IsFed number p (with_refusal f persists code)) (sym refusal_is)
      (record {
        held = now.held ∙ fed.held;
        ascending = fed.ascending;
        cookie = none;
        promised = subst (λ c. IsPromised number f.consumer.spec p.directory.writes known.entries (held_cookie c)) (sym none) tt;
        below = fed.below;
        state = inl (record { search = rest.search; session = now.session; link = rest.link });
      });
  right = ((refl, required, unserved), tt);
  same = refl;
  others = others-none lin number p f (with_refusal f persists code) refl;
  owns = owns-still lin p f (with_refusal f persists code) (λ at mine. mine);
  elsewhere = subst (KeepsPromises number f.consumer.spec known) (sym refusal_is) (λ other writes least most far promised. tt);
}
  where
    now : IsOver f.consumer.copy (code == E_SYNC_REFRESH_REQUIRED) (refused_copy (asking persists (copy_of f)) code)
    now = refused_over persists f.consumer.copy code

    lost : (code == E_SYNC_REFRESH_REQUIRED) ≡ true
    lost = eq-eqb code E_SYNC_REFRESH_REQUIRED required

    refusal_is : known_after f.name known (reported.Refused f.name persists code) ≡ record known { cookie = None }
    refusal_is = own_refusal f.name known persists code ∙ ap (λ b. cond b (record known { cookie = None }) known) lost

    none : (refused_copy (asking persists (copy_of f)) code).cookie ≡ None
    none = now.cookie ∙ ap (λ b. cond b None f.consumer.copy.cookie) lost

-- ---- a consumer at rest asks

-- a search of this mode is open then, which was opened after all writes
pub record IsOpened (number : ℕ) (p : ProviderState) (f : ConsumerNode) (known : Known) (persists : Bool) : Type 0 where
  pub opening : ReportedOpening
  pub latest : known.opening ≡ Some opening
  pub all : opening.writes ≡ length p.directory.writes
  pub mode : opening.persists ≡ persists
  pub goes : GoesOn number p f opening known.entries
  pub link : f.link ≡ []

-- or the consumer is at rest, and holds no cookie
pub record IsRefused (f : ConsumerNode) : Type 0 where
  pub rest : IsAtRest f
  pub cookie : f.consumer.copy.cookie ≡ None

-- what comes of asking
pub record IsAsked (number : ℕ) (suffix : Name) (pair next : Agreement) (lines : List ReportLine) (known : Known) (persists : Bool) : Type 0 where
  pub kept : IsKept number suffix pair next lines known
  pub state : IsOpened number next.provider next.consumer_node (known_by_lines pair.consumer_node.name known lines) persists ⊎ IsRefused next.consumer_node

abbrev pub AskedIn : ℕ → Name → Agreement → Known → Bool → ExchangeOutcome → Type 0
AskedIn number suffix pair known persists (Ok next) = IsAsked number suffix pair next.0 next.1 known persists
AskedIn number suffix pair known persists (Err cause) = ⊥

-- and of asking for a search that can't be refused
abbrev pub OpenedIn : ℕ → Name → Agreement → Known → Bool → ExchangeOutcome → Type 0
OpenedIn number suffix pair known persists (Ok next) =
    IsKept number suffix pair next.0 next.1 known × IsOpened number next.0.provider next.0.consumer_node (known_by_lines pair.consumer_node.name known next.1) persists
OpenedIn number suffix pair known persists (Err cause) = ⊥

-- a search that goes on without a message in the link is open
open_search : (number : ℕ) (p : ProviderState) (f : ConsumerNode) (opening : ReportedOpening) (entries : List Entry) → GoesOn number p f opening entries → IsAtRest f → ⊥
open_search number p f opening entries goes rest = let is = where_session (session_over number f.consumer.spec p.directory.writes opening) goes.session.start opening.writes goes.session.pieces goes.session.count entries f.consumer.copy goes.session.taken goes.session.ahead goes.place in
    let bad : None ≡ Some is.session = sym rest.session ∙ is.runs in
    let never : ⊥ = cc in
    never

module _ (lin : Lineage) (number : ℕ) (suffix : Name) (mode : Mode) (p : ProviderState) (f : ConsumerNode) (known : Known) (source : IsSource number suffix p) (fed : IsFed number p f known) (rest : IsAtRest f)
    (room : HasRoom p f) where
  abbrev text : Option (List ℕ)
  text = known.cookie

  free_one : (n : ℕ) × (free_number p.searches ≡ Some n)
  free_one = number_free p f rest.search room

  says : Says number p.directory.writes f.consumer.reload (answer_of mode (agreement_of p f lin)) text
  says = subst (Says number p.directory.writes f.consumer.reload (answer_of mode (agreement_of p f lin))) fed.cookie
      (answer_says p.directory number (sids_of number suffix p source) (histories_of number suffix p source) p f.consumer.spec mode f.consumer.copy.cookie f.consumer.reload free_one.0 refl fed.below free_one.1)

  -- a search that is accepted is open then
  opened_now : (at count : ℕ) → answer_of mode (agreement_of p f lin) ≡ accepted.Opened at count
      → IsOpened number (with_opened p at f.consumer.spec (start_of (agreement_of p f lin)) (persists mode)) (with_search f (persists mode) at) (known_after f.name known (reported.Opened f.name (persists mode) count)) (persists mode)
  opened_now at count is =
      let free = opened_free p f.consumer.spec (request_from mode (agreement_of p f lin)) at count is in
      let same = own_opening lin number suffix p f known (persists mode) at count source fed rest free.counted in
      record {
        opening = opening_of known (persists mode) count;
        latest = ap (λ (k : Known). k.opening) same;
        all = free.counted;
        mode = refl;
        goes =
            subst (λ (k : Known). GoesOn number (with_opened p at f.consumer.spec (start_of (agreement_of p f lin)) (persists mode)) (with_search f (persists mode) at) (opening_of known (persists mode) count) k.entries)
            (sym same) (opened_goes lin number suffix p f known (persists mode) at count source fed rest free.counted);
        link = rest.link;
      }

  -- its search is opened or refused, and what is kept is kept in both cases
  pub rest_opens : AskedIn number suffix (agreement_of p f lin) known (persists mode) (opened_idle mode (agreement_of p f lin))
  rest_opens = by (answer_of mode (agreement_of p f lin)) refl
    where
      by : (answer : Accepted) → answer_of mode (agreement_of p f lin) ≡ answer → AskedIn number suffix (agreement_of p f lin) known (persists mode) (opened_by mode (agreement_of p f lin) answer)
      by (accepted.Opened at count) is =
          let free = opened_free p f.consumer.spec (request_from mode (agreement_of p f lin)) at count is in
          record {
            kept =
                opened_kept lin number suffix p f known (persists mode) at count source fed rest free.counted free.free
                (subst (λ a. Says number p.directory.writes f.consumer.reload a text) is says);
            state = inl (opened_now at count is);
          }
      by (accepted.Refused code) is =
          let why = subst (λ a. Says number p.directory.writes f.consumer.reload a text) is says in
          let now = refused_over (persists mode) f.consumer.copy code in
          record {
            kept = refused_kept lin number suffix p f known (persists mode) code source fed rest why.0 why.1;
            state = inr (record {
              rest = record { search = rest.search; session = now.session; link = rest.link };
              cookie = now.cookie ∙ ap (λ b. cond b None f.consumer.copy.cookie) (eq-eqb code E_SYNC_REFRESH_REQUIRED why.0);
            });
          }
      by accepted.NoMemory is = absurd (subst (λ a. Says number p.directory.writes f.consumer.reload a text) is says)

  -- without a cookie nothing is in the way
  pub opens_without_cookie : f.consumer.copy.cookie ≡ None → OpenedIn number suffix (agreement_of p f lin) known (persists mode) (opened_idle mode (agreement_of p f lin))
  opens_without_cookie none = by (answer_of mode (agreement_of p f lin)) refl
    where
      by : (answer : Accepted) → answer_of mode (agreement_of p f lin) ≡ answer → OpenedIn number suffix (agreement_of p f lin) known (persists mode) (opened_by mode (agreement_of p f lin) answer)
      by (accepted.Opened at count) is =
          let free = opened_free p f.consumer.spec (request_from mode (agreement_of p f lin)) at count is in (
            opened_kept lin number suffix p f known (persists mode) at count source fed rest free.counted free.free
                (subst (λ a. Says number p.directory.writes f.consumer.reload a text) is says),
            opened_now at count is,
          )
      by (accepted.Refused code) is =
          let why = subst (λ a. Says number p.directory.writes f.consumer.reload a text) is says in
          absurd (subst (IsUnserved f.consumer.reload number p.directory.writes) (sym fed.cookie ∙ none) why.1)
      by accepted.NoMemory is = absurd (subst (λ a. Says number p.directory.writes f.consumer.reload a text) is says)

-- ---- a search that is refused is asked for again, without a cookie

kept_opened : (number : ℕ) (suffix : Name) (one two : Agreement) (lines : List ReportLine) (known : Known) (mode : Bool) (outcome : ExchangeOutcome) → IsKept number suffix one two lines known
    → OpenedIn number suffix two (known_by_lines one.consumer_node.name known lines) mode outcome → OpenedIn number suffix one known mode (after_lines lines outcome)
kept_opened number suffix one two lines known mode (Err cause) first then = then
kept_opened number suffix one two lines known mode (Ok next) first then = (
  kept-then number suffix one two next.0 lines next.1 known first then.0,
  subst (λ k. IsOpened number next.0.provider next.0.consumer_node k mode)
      (ap (λ n. known_by_lines n (known_by_lines one.consumer_node.name known lines) next.1) (ap (λ (frame : Frame). frame.name) first.same) ∙ sym (fold-append (known_after one.consumer_node.name) known lines next.1)) then.1,
)

rest_again : (lin : Lineage) (number : ℕ) (suffix : Name) (p : ProviderState) (f : ConsumerNode) (known : Known) → IsSource number suffix p → IsFed number p f known → IsAtRest f → HasRoom p f
    → OpenedIn number suffix (agreement_of p f lin) known false (asked_again (agreement_of p f lin))
rest_again lin number suffix p f known source fed rest room = by (answer_of RefreshOnly (agreement_of p f lin)) refl (rest_opens lin number suffix RefreshOnly p f known source fed rest room)
  where
    pair : Agreement
    pair = agreement_of p f lin

    Opened' : ExchangeOutcome → Type 0
    Opened' outcome = OpenedIn number suffix pair known false outcome

    second : (code : ℕ) → IsAsked number suffix pair (agreement_of p (with_refusal f false code) lin) (reported.Refused f.name false code ∷ []) known false
        → Opened' (after_lines (reported.Refused f.name false code ∷ []) (opened_idle RefreshOnly (agreement_of p (with_refusal f false code) lin)))
    second code asked =
        kept_opened number suffix pair (agreement_of p (with_refusal f false code) lin) (reported.Refused f.name false code ∷ []) known false (opened_idle RefreshOnly (agreement_of p (with_refusal f false code) lin)) asked.kept
        (opens_without_cookie lin number suffix RefreshOnly p (with_refusal f false code) (known_after f.name known (reported.Refused f.name false code)) asked.kept.source asked.kept.fed over'.rest
        (room_after pair (agreement_of p (with_refusal f false code) lin) asked.kept.owns room) over'.cookie)
      where
        not_open : IsOpened number p (with_refusal f false code) (known_after f.name known (reported.Refused f.name false code)) false → ⊥
        not_open opened' = open_search number p (with_refusal f false code) opened'.opening _ opened'.goes (record { search = rest.search; session = (refused_over false f.consumer.copy code).session; link = rest.link })

        refused' : IsOpened number p (with_refusal f false code) (known_after f.name known (reported.Refused f.name false code)) false ⊎ IsRefused (with_refusal f false code) → IsRefused (with_refusal f false code)
        refused' (inl opened') = absurd (not_open opened')
        refused' (inr is) = is

        over' : IsRefused (with_refusal f false code)
        over' = refused' asked.state

    by : (answer : Accepted) → answer_of RefreshOnly pair ≡ answer → AskedIn number suffix pair known false (opened_by RefreshOnly pair (answer_of RefreshOnly pair))
        → Opened' (cond (is_required (answer_of RefreshOnly pair)) (and_then (opened_by RefreshOnly pair (answer_of RefreshOnly pair)) (opened_idle RefreshOnly)) (opened_by RefreshOnly pair (answer_of RefreshOnly pair)))
    by (accepted.Opened at count) is asked =
        subst (λ a. Opened' (cond (is_required a) (and_then (opened_by RefreshOnly pair a) (opened_idle RefreshOnly)) (opened_by RefreshOnly pair a))) (sym is)
        (now.kept, opened_now lin number suffix RefreshOnly p f known source fed rest room at count is)
      where
        now : AskedIn number suffix pair known false (opened_by RefreshOnly pair (accepted.Opened at count))
        now = subst (λ a. AskedIn number suffix pair known false (opened_by RefreshOnly pair a)) is asked
    by (accepted.Refused code) is asked =
        subst (λ a. Opened' (cond (is_required a) (and_then (opened_by RefreshOnly pair a) (opened_idle RefreshOnly)) (opened_by RefreshOnly pair a))) (sym is)
        (subst (λ b. Opened' (cond b (and_then (opened_by RefreshOnly pair (accepted.Refused code)) (opened_idle RefreshOnly)) (opened_by RefreshOnly pair (accepted.Refused code)))) (sym required) (second code now))
      where
        now : AskedIn number suffix pair known false (opened_by RefreshOnly pair (accepted.Refused code))
        now = subst (λ a. AskedIn number suffix pair known false (opened_by RefreshOnly pair a)) is asked

        required : (code == E_SYNC_REFRESH_REQUIRED) ≡ true
        required = eq-eqb code E_SYNC_REFRESH_REQUIRED now.kept.right.0.1
    by accepted.NoMemory is asked =
        let now = subst (λ a. Says number p.directory.writes f.consumer.reload a known.cookie) is
        (says lin number suffix RefreshOnly p f known source fed rest room) in
        absurd now

-- ---- a consumer that is busy is cut before it asks

-- the consumer is at rest then
idle_then : (number : ℕ) (suffix : Name) (asks : Agreement → ExchangeOutcome) (Good : Agreement → Known → ExchangeOutcome → Type 0) (pair : Agreement) (known : Known)
    → ((lines : List ReportLine) (two : Agreement) (outcome : ExchangeOutcome) → IsKept number suffix pair two lines known → Good two (known_by_lines pair.consumer_node.name known lines) outcome → Good pair known (after_lines lines outcome))
    → ((lin : Lineage) (p : ProviderState) (f : ConsumerNode) (k : Known) → IsSource number suffix p → IsFed number p f k → IsAtRest f → HasRoom p f → Good (agreement_of p f lin) k (asks (agreement_of p f lin)))
    → IsSource number suffix pair.provider → IsFed number pair.provider pair.consumer_node known → HasRoom pair.provider pair.consumer_node
    → Good pair known (and_then (idle pair) asks)
idle_then number suffix asks Good pair known joins rests source fed room = by (is_busy pair.consumer_node) refl
  where
    after : Agreement
    after = given_up pair (copy_of pair.consumer_node)

    cut_off : ExchangeOutcome
    cut_off = Ok (after, reported.Cut (name_of pair) ∷ [])

    nothing : ExchangeOutcome
    nothing = Ok (pair, reported.Nothing (name_of pair) ∷ [])

    none : ExchangeOutcome
    none = Ok (pair, [])

    cut : IsKept number suffix pair after (reported.Cut (name_of pair) ∷ []) known
    cut = cut_kept number suffix pair known source fed

    by : (busy : Bool) → is_busy pair.consumer_node ≡ busy → Good pair known (and_then (cond busy (cond (is_busy pair.consumer_node) cut_off nothing) none) asks)
    by true is =
        subst (λ b. Good pair known (and_then (cond b cut_off nothing) asks)) (sym is)
        (joins (reported.Cut (name_of pair) ∷ []) after (asks after) cut
        (rests after.lineage after.provider after.consumer_node known cut.source cut.fed (record { search = refl; session = refl; link = refl }) (room_after pair after cut.owns room)))
    by false is =
        joins [] pair (asks pair) (kept-still number suffix pair known source fed)
        (rests pair.lineage pair.provider pair.consumer_node known source fed (idle_rests pair.consumer_node is) room)

asked_kept : (number : ℕ) (suffix : Name) (pair : Agreement) (known : Known) (mode : Bool) (outcome : ExchangeOutcome) → AskedIn number suffix pair known mode outcome → IsKeptIn number suffix pair known outcome
asked_kept number suffix pair known mode (Ok next) asked = asked.kept
asked_kept number suffix pair known mode (Err cause) asked = tt

-- an opening keeps what each part keeps
pub opens_keeps : (mode : Mode) (number : ℕ) (suffix : Name) → Keeps number suffix (opens mode)
opens_keeps mode number suffix pair known source fed room =
    idle_then number suffix (opened_idle mode) (IsKeptIn number suffix) pair known
    (λ lines two outcome first then. kept-lines number suffix pair two lines known outcome first then)
    (λ lin p f k source' fed' rest room'. asked_kept number suffix (agreement_of p f lin) k (persists mode) (opened_idle mode (agreement_of p f lin)) (rest_opens lin number suffix mode p f k source' fed' rest room'))
    source fed room

-- a search that ends with its refresh is open then
pub opens_anew_opens : (number : ℕ) (suffix : Name) (pair : Agreement) (known : Known) → IsSource number suffix pair.provider → IsFed number pair.provider pair.consumer_node known → HasRoom pair.provider pair.consumer_node
    → OpenedIn number suffix pair known false (opens_anew pair)
opens_anew_opens number suffix pair known source fed room =
    idle_then number suffix asked_again (λ one k outcome. OpenedIn number suffix one k false outcome) pair known
    (λ lines two outcome first then. kept_opened number suffix pair two lines known false outcome first then)
    (λ lin p f k source' fed' rest room'. rest_again lin number suffix p f k source' fed' rest room')
    source fed room
