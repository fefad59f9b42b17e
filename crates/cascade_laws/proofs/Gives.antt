-- What the parts of an event report of a consumer: which lines, and in which order.
use Rattle.std.proofs.Common.{◌≡◌, ℕ, zero, suc, Bool, true, false, cond, eq-eqb, Option, Some, None, List, [], ◌∷◌, ◌++◌, length, refl, ap, sym, ◌∙◌, inl, inr, arith, append_assoc, subst}
use Rattle.std.specs.Prelude.{◌⊎◌, ◌==◌, Ok, Err, All}
use Rattle.std.proofs.lemmas.Bool.{cases_Bool}
use Rattle.std.proofs.lemmas.List.Elements.{All-nil, All-cons}
use Rattle.ldap_constants.specs.declared.result_codes.TheConstants.{E_SYNC_REFRESH_REQUIRED}
use Rattle.dn_names.specs.Names.{is_at_or_below}
use Rattle.entry_tree.specs.Selection.{Search}
use Rattle.sync_messages.specs.declared.request.Mode.{Mode}
use Rattle.sync_messages.specs.declared.request.Mode.TheVariants.{RefreshOnly}
use Rattle.sync_messages.specs.declared.request.SyncRequest.{SyncRequest}
use Rattle.sync_model.specs.Copy.{Copy}
use Rattle.sync_wire.specs.Requesting.{persists}
use Rattle.directory_writes.specs.Directory.{DirectoryState}
use Rattle.sync_provider.specs.Accepting.{free_number, refused_or_opened, numbered, request_code}
use Rattle.sync_provider.specs.HandingOut.{HandOut}
use Rattle.sync_provider.specs.HandingOut.HandOut.{Hands, Closes, Waits, Unknown}
use Rattle.sync_provider.specs.declared.searches.Accepted.{Accepted}
use Rattle.sync_provider.specs.declared.searches.Accepted.TheVariants as accepted
use Rattle.cascade_world.specs.Cookies.{is_later}
use Rattle.cascade_world.specs.Exchange.{Agreement, ExchangeOutcome, fits, after_lines, and_then, name_of, copy_of, Sending, turn_of, sends, sending_by, sending, sent_before, sent, taken_as, taken_from, taking, taken_before, taken_some, takes, is_busy, cut, idle, request_from, answer_of, is_required, opened_by, opened_idle, opens, asked_again, opens_anew, left_to_send, ran_before, ran_some, runs, drains, follows_on, refreshes, catches_up, settled_reported, settles, loses_cookie, sets_cookie, with_spec, respecs}
use Rattle.cascade_world.specs.Exchange.Sending.{Sends, Rests, Overflows}
use Rattle.cascade_world.specs.Reception.{Came, received}
use Rattle.cascade_world.specs.Reception.{Came as came}
use Rattle.cascade_world.specs.ReportLines.{ReportLine}
use Rattle.cascade_world.specs.ReportLines.{ReportLine as reported}
use Rattle.cascade_laws.specs.Reports.{IsAnswer, IsSending, IsTaking, IsAtMost, AreUpTo, ArePassed, IsOpening}

-- a part that is done leaves the consumer's name, and reports such lines
abbrev pub PartGives : List ℕ → (List ReportLine → Type 0) → ExchangeOutcome → Type 0
PartGives name P (Ok next) = (next.0.consumer_node.name ≡ name) × P next.1
PartGives name P (Err cause) = Unit {0}

-- what a part gives to each consumer
abbrev pub GivesAll : (List ℕ → List ReportLine → Type 0) → (Agreement → ExchangeOutcome) → Type 0
GivesAll P part = (name : List ℕ) (pair : Agreement) → pair.consumer_node.name ≡ name → PartGives name (P name) (part pair)

-- ---- one part after another

gives_lines : (name : List ℕ) (Q R : List ReportLine → Type 0) (lines : List ReportLine) (outcome : ExchangeOutcome) → ((more : List ReportLine) → Q more → R (lines ++ more)) → PartGives name Q outcome → PartGives name R (after_lines lines outcome)
gives_lines name Q R lines (Ok next) joins h = (h.0, joins next.1 h.1)
gives_lines name Q R lines (Err cause) joins h = tt

gives_then : (name : List ℕ) (P Q R : List ReportLine → Type 0) (first : ExchangeOutcome) (next : Agreement → ExchangeOutcome) → ((lines more : List ReportLine) → P lines → Q more → R (lines ++ more)) → PartGives name P first
    → ((after : Agreement) → after.consumer_node.name ≡ name → PartGives name Q (next after)) → PartGives name R (and_then first next)
gives_then name P Q R (Ok after) next joins h k = gives_lines name Q R after.1 (next after.0) (λ more. joins after.1 more h.1) (k after.0 h.0)
gives_then name P Q R (Err cause) next joins h k = tt

gives_if : (name : List ℕ) (P : List ReportLine → Type 0) (b : Bool) (one other : ExchangeOutcome) → PartGives name P one → PartGives name P other → PartGives name P (cond b one other)
gives_if name P true one other h k = h
gives_if name P false one other h k = k

-- ---- sending

up_to_none : (name : List ℕ) (Is : ReportLine → Type 0) → AreUpTo 0 name Is []
up_to_none name Is = inl (refl, All-nil Is)

up_to_idle : (count : ℕ) (name : List ℕ) (Is : ReportLine → Type 0) (node : List ℕ) → node ≡ name → AreUpTo (suc count) name Is (reported.Nothing node ∷ [])
up_to_idle count name Is node same = inr ([], ap (λ n. reported.Nothing n ∷ []) same, omega arith, All-nil Is)

up_to_more : (count : ℕ) (name : List ℕ) (Is : ReportLine → Type 0) (line : ReportLine) (lines : List ReportLine) → Is line → AreUpTo count name Is lines → AreUpTo (suc count) name Is (line ∷ lines)
up_to_more count name Is line lines is (inl all) = inl (ap suc all.0, All-cons Is line lines is all.1)
up_to_more count name Is line lines is (inr few) = inr (line ∷ few.0, ap (λ ls. line ∷ ls) few.1, omega (arith, few.2), All-cons Is line few.0 is few.3)

-- a message that was sent stands at the end of the link
record IsNext (pair after : Agreement) (message : List ℕ) : Type 0 where
  name : after.consumer_node.name ≡ pair.consumer_node.name
  link : after.consumer_node.link ≡ pair.consumer_node.link ++ message ∷ []

abbrev NextIn : Agreement → Sending → Type 0
NextIn pair (Sends after message) = IsNext pair after message
NextIn pair Rests = Unit {0}
NextIn pair Overflows = Unit {0}

sends_next : (pair : Agreement) (search : Option ℕ) (message : List ℕ) → NextIn pair (sends pair search message)
sends_next pair search message =
    elim (cases_Bool (fits pair.consumer_node message)) [
      | inl room ↦ rw room record { name = refl; link = refl }
      | inr full ↦ rw full tt
    ]

sending_by_next : (pair : Agreement) (turn : HandOut) → NextIn pair (sending_by pair turn)
sending_by_next pair (Hands whole) = sends_next pair pair.consumer_node.search _
sending_by_next pair (Closes code whole) = sends_next pair None _
sending_by_next pair Waits = tt
sending_by_next pair Unknown = tt

sending_next : (pair : Agreement) → NextIn pair (sending pair)
sending_next pair = sending_by_next pair (turn_of pair.provider pair.consumer_node.search)

-- a `send` of n messages gives n `sent` lines at most, and one `nothing` where there were fewer
pub sent_gives : (count : ℕ) → GivesAll (λ name. AreUpTo count name (IsSending name)) (sent count)
sent_gives zero name pair same = (same, up_to_none name (IsSending name))
sent_gives (suc count) name pair same = by (sent_gives count) (sending pair) (sending_next pair)
  where
    by : GivesAll (λ n. AreUpTo count n (IsSending n)) (sent count) → (found : Sending) → NextIn pair found → PartGives name (AreUpTo (suc count) name (IsSending name)) (sent_before (λ after. sent count after) pair found)
    by gives (Sends after message) next =
        gives_lines name (AreUpTo count name (IsSending name)) (AreUpTo (suc count) name (IsSending name)) (reported.Sent (name_of pair) message ∷ []) (sent count after)
        (λ more. up_to_more count name (IsSending name) (reported.Sent (name_of pair) message) more same) (gives name after (next.name ∙ same))
    by gives Rests next = (same, up_to_idle count name (IsSending name) (name_of pair) same)
    by gives Overflows next = tt

-- ---- taking

-- one message that was taken
abbrev IsTakenOne : List ℕ → Agreement × ReportLine → Type 0
IsTakenOne name first = (first.0.consumer_node.name ≡ name) × IsTaking name first.1

taken_as_one : (name : List ℕ) (pair : Agreement) (rest : List (List ℕ)) (copy : Copy) (found : Came) → pair.consumer_node.name ≡ name → IsTakenOne name (taken_as pair rest copy found)
taken_as_one name pair rest copy came.Staged same = (same, same)
taken_as_one name pair rest copy came.Copied same = (same, same)
taken_as_one name pair rest copy (came.Stored commit) same = (same, same)
taken_as_one name pair rest copy (came.Over code) same = (same, same)
taken_as_one name pair rest copy (came.Refused fault) same = (same, same)

abbrev TakenIn : List ℕ → Option (Agreement × ReportLine) → Type 0
TakenIn name None = Unit {0}
TakenIn name (Some first) = IsTakenOne name first

taken_from_one : (name : List ℕ) (pair : Agreement) (link : List (List ℕ)) → pair.consumer_node.name ≡ name → TakenIn name (taken_from pair link)
taken_from_one name pair [] same = tt
taken_from_one name pair (message ∷ rest) same = taken_as_one name pair rest (received (copy_of pair.consumer_node) message).0 (received (copy_of pair.consumer_node) message).1 same

-- up to n, and then what is reported where the link is empty
abbrev TakenSome : List ℕ → (List ReportLine → Type 0) → Agreement × List ReportLine → Type 0
TakenSome name P taken = (taken.0.consumer_node.name ≡ name) × P taken.1

taken_up_to : (count : ℕ) (name : List ℕ) (pair : Agreement) → pair.consumer_node.name ≡ name → TakenSome name (AreUpTo count name (IsTaking name)) (taken_some count (reported.Nothing name ∷ []) pair)
taken_up_to zero name pair same = (same, up_to_none name (IsTaking name))
taken_up_to (suc count) name pair same = by (taken_up_to count name) (taking pair) (taken_from_one name pair pair.consumer_node.link same)
  where
    by : ((after : Agreement) → after.consumer_node.name ≡ name → TakenSome name (AreUpTo count name (IsTaking name)) (taken_some count (reported.Nothing name ∷ []) after)) → (found : Option (Agreement × ReportLine)) → TakenIn name found
        → TakenSome name (AreUpTo (suc count) name (IsTaking name)) (taken_before (λ after. taken_some count (reported.Nothing name ∷ []) after) pair (reported.Nothing name ∷ []) found)
    by more None one = (same, up_to_idle count name (IsTaking name) name refl)
    by more (Some first) one =
        let later = more first.0 one.0 in
        (later.0, up_to_more count name (IsTaking name) first.1 (taken_some count (reported.Nothing name ∷ []) first.0).1 one.1 later.1)

-- a `take` of n messages likewise
pub takes_gives : (count : ℕ) → GivesAll (λ name. AreUpTo count name (IsTaking name)) (takes count)
takes_gives count name pair same =
    subst (λ n. TakenSome name (AreUpTo count name (IsTaking name)) (taken_some count (reported.Nothing n ∷ []) pair)) (sym same) (taken_up_to count name pair same)

-- nothing is reported then
taken_all : (count : ℕ) (name : List ℕ) (pair : Agreement) → pair.consumer_node.name ≡ name → TakenSome name (All (IsTaking name)) (taken_some count [] pair)
taken_all zero name pair same = (same, All-nil (IsTaking name))
taken_all (suc count) name pair same = by (taken_all count name) (taking pair) (taken_from_one name pair pair.consumer_node.link same)
  where
    by : ((after : Agreement) → after.consumer_node.name ≡ name → TakenSome name (All (IsTaking name)) (taken_some count [] after)) → (found : Option (Agreement × ReportLine)) → TakenIn name found → TakenSome name (All (IsTaking name)) (taken_before (λ after. taken_some count [] after) pair [] found)
    by more None one = (same, All-nil (IsTaking name))
    by more (Some first) one =
        let later = more first.0 one.0 in
        (later.0, All-cons (IsTaking name) first.1 (taken_some count [] first.0).1 one.1 later.1)

-- where the link has a message, one is taken
abbrev OnlyOne : List ℕ → List ReportLine → Type 0
OnlyOne name lines = (line : ReportLine) × IsTaking name line × (lines ≡ line ∷ [])

one_taken : (name : List ℕ) (pair : Agreement) (message : List ℕ) (rest : List (List ℕ)) → pair.consumer_node.name ≡ name → pair.consumer_node.link ≡ message ∷ rest → TakenSome name (OnlyOne name) (taken_some 1 [] pair)
one_taken name pair message rest same is =
    let first = taken_as pair rest (received (copy_of pair.consumer_node) message).0 (received (copy_of pair.consumer_node) message).1 in
    let one = taken_as_one name pair rest (received (copy_of pair.consumer_node) message).0 (received (copy_of pair.consumer_node) message).1 same in
    subst (λ link. TakenSome name (OnlyOne name) (taken_before (λ after. taken_some 0 [] after) pair [] (taken_from pair link))) (sym is)
    (one.0, (first.1, one.1, refl))

last_taken : (name : List ℕ) (pair : Agreement) (message : List ℕ) (earlier : List (List ℕ)) → pair.consumer_node.name ≡ name → pair.consumer_node.link ≡ earlier ++ message ∷ [] → TakenSome name (OnlyOne name) (taken_some 1 [] pair)
last_taken name pair message [] same is = one_taken name pair message [] same is
last_taken name pair message (first ∷ earlier) same is = one_taken name pair first (earlier ++ message ∷ []) same is

-- ---- cutting

abbrev pub IsCutting : List ℕ → List ReportLine → Type 0
IsCutting name lines = (lines ≡ reported.Cut name ∷ []) ⊎ (lines ≡ reported.Nothing name ∷ [])

-- a `cut` gives one line, `cut` or `nothing`
pub cut_gives : GivesAll IsCutting cut
cut_gives name pair same =
    elim (cases_Bool (is_busy pair.consumer_node)) [
      | inl busy ↦ rw busy (same, inl (ap (λ n. reported.Cut n ∷ []) same))
      | inr free ↦ rw free (same, inr (ap (λ n. reported.Nothing n ∷ []) same))
    ]

-- a consumer that may be busy gives a `cut` line or none
pub idle_gives : GivesAll (λ name. IsAtMost (reported.Cut name)) idle
idle_gives name pair same =
    elim (cases_Bool (is_busy pair.consumer_node)) [
      | inl busy ↦ rw busy (same, inr (ap (λ n. reported.Cut n ∷ []) same))
      | inr free ↦ rw free (same, inl refl)
    ]

-- ---- opening

-- an answer comes, whatever there is of memory
abbrev Comes : Accepted → Type 0
Comes (accepted.Opened number writes) = Unit {0}
Comes (accepted.Refused code) = Unit {0}
Comes accepted.NoMemory = ⊥

judged_comes : (d : DirectoryState) (number : ℕ) (code : Option ℕ) → Comes (refused_or_opened d number code)
judged_comes d number None = tt
judged_comes d number (Some code) = tt

numbered_comes : (d : DirectoryState) (request : SyncRequest) (number : Option ℕ) → Comes (numbered d request number)
numbered_comes d request None = tt
numbered_comes d request (Some number) = judged_comes d number (request_code d request)

answer_comes : (mode : Mode) (pair : Agreement) → Comes (answer_of mode pair)
answer_comes mode pair =
    elim (cases_Bool (is_at_or_below pair.consumer_node.consumer.spec.base pair.provider.directory.suffix)) [
      | inl below ↦ rw below (numbered_comes pair.provider.directory (request_from mode pair) (free_number pair.provider.searches))
      | inr outside ↦ rw outside tt
    ]

-- one answer
abbrev IsAnswered : List ℕ → List ReportLine → Type 0
IsAnswered name lines = (answer : ReportLine) × IsAnswer name answer × (lines ≡ answer ∷ [])

opened_by_gives : (mode : Mode) (answer : Accepted) → Comes answer → GivesAll IsAnswered (λ pair. opened_by mode pair answer)
opened_by_gives mode (accepted.Opened number writes) comes name pair same = (same, (reported.Opened (name_of pair) (persists mode) writes, same, refl))
opened_by_gives mode (accepted.Refused code) comes name pair same = (same, (reported.Refused (name_of pair) (persists mode) code, same, refl))
opened_by_gives mode accepted.NoMemory comes name pair same = absurd comes

idly_gives : (mode : Mode) → GivesAll IsAnswered (opened_idle mode)
idly_gives mode name pair same = opened_by_gives mode (answer_of mode pair) (answer_comes mode pair) name pair same

-- an opening gives `opened` or `refused`, before which a `cut` line may stand
pub opens_gives : (mode : Mode) → GivesAll IsOpening (opens mode)
opens_gives mode name pair same =
    gives_then name (IsAtMost (reported.Cut name)) (IsAnswered name) (IsOpening name) (idle pair) (opened_idle mode)
    (λ lines more drops one. record { cut = lines; drops = drops; answer = one.0; answers = one.1; whole = ap (λ ls. lines ++ ls) one.2 }) (idle_gives name pair same) (λ after here. idly_gives mode name after here)

-- no refusal for the cookie
abbrev pub IsFinal : ReportLine → Type 0
IsFinal (reported.Refused node persists code) = code ≡ E_SYNC_REFRESH_REQUIRED → ⊥
IsFinal _ = Unit {0}

-- an answer, or one more where the first is such a refusal
record IsAsking (name : List ℕ) (lines : List ReportLine) : Type 0 where
  first : List ReportLine
  code : ℕ
  refuses : IsAtMost (reported.Refused name false code) first
  answer : ReportLine
  answers : IsAnswer name answer
  final : first ≡ [] → IsFinal answer
  whole : lines ≡ first ++ answer ∷ []

again_gives : GivesAll IsAsking asked_again
again_gives name pair same = by (answer_of RefreshOnly pair) (answer_comes RefreshOnly pair)
  where
    twice : (code : ℕ) → PartGives name (IsAsking name) (and_then (opened_by RefreshOnly pair (accepted.Refused code)) (opened_idle RefreshOnly))
    twice code =
        gives_then name (λ lines. lines ≡ reported.Refused name false code ∷ []) (IsAnswered name) (IsAsking name) (opened_by RefreshOnly pair (accepted.Refused code)) (opened_idle RefreshOnly)
        (λ lines more is one. record {
          first = lines;
          code = code;
          refuses = inr is;
          answer = one.0;
          answers = one.1;
          final = λ none. let bad : [] ≡ reported.Refused name false code ∷ [] = sym none ∙ is in let never : ⊥ = cc in absurd never;
          whole = ap (λ ls. lines ++ ls) one.2;
        })
        (same, ap (λ n. reported.Refused n false code ∷ []) same) (λ after here. idly_gives RefreshOnly name after here)

    by_code : (code : ℕ) (required : Bool) → (code == E_SYNC_REFRESH_REQUIRED) ≡ required
        → PartGives name (IsAsking name) (cond required (and_then (opened_by RefreshOnly pair (accepted.Refused code)) (opened_idle RefreshOnly)) (opened_by RefreshOnly pair (accepted.Refused code)))
    by_code code true is = twice code
    by_code code false is = (
      same,
      record {
        first = [];
        code = 0;
        refuses = inl refl;
        answer = reported.Refused (name_of pair) false code;
        answers = same;
        final = λ none required. let bad : true ≡ false = sym (eq-eqb code E_SYNC_REFRESH_REQUIRED required) ∙ is in let never : ⊥ = cc in never;
        whole = refl;
      },
    )

    by : (answer : Accepted) → Comes answer
        → PartGives name (IsAsking name) (cond (is_required answer) (and_then (opened_by RefreshOnly pair answer) (opened_idle RefreshOnly)) (opened_by RefreshOnly pair answer))
    by (accepted.Opened number writes) comes = (
      same,
      record { first = []; code = 0; refuses = inl refl; answer = reported.Opened (name_of pair) false writes; answers = same; final = λ none. tt; whole = refl },
    )
    by (accepted.Refused code) comes = by_code code (code == E_SYNC_REFRESH_REQUIRED) refl
    by accepted.NoMemory comes = absurd comes

-- after a cut, where there is one
record IsAskingAnew (name : List ℕ) (lines : List ReportLine) : Type 0 where
  cut' : List ReportLine
  drops : IsAtMost (reported.Cut name) cut'
  asked : List ReportLine
  asks : IsAsking name asked
  whole : lines ≡ cut' ++ asked

anew_gives : GivesAll IsAskingAnew opens_anew
anew_gives name pair same =
    gives_then name (IsAtMost (reported.Cut name)) (IsAsking name) (IsAskingAnew name) (idle pair) asked_again
    (λ lines more drops asks. record { cut' = lines; drops = drops; asked = more; asks = asks; whole = refl }) (idle_gives name pair same) (λ after here. again_gives name after here)

-- ---- settling

passed_more : (name message : List ℕ) (node : List ℕ) (taken more : List ReportLine) → node ≡ name → OnlyOne name taken → ArePassed name more → ArePassed name ((reported.Sent node message ∷ taken) ++ more)
passed_more name message node taken more same one passes = subst (λ ls. ArePassed name ((reported.Sent node message ∷ ls) ++ more)) (sym one.2) (same, one.1, passes)

ran_gives : (count : ℕ) → GivesAll ArePassed (ran_some count)
ran_gives zero name pair same = (same, tt)
ran_gives (suc count) name pair same = by (ran_gives count) (sending pair) (sending_next pair)
  where
    by : GivesAll ArePassed (ran_some count) → (found : Sending) → NextIn pair found → PartGives name (ArePassed name) (ran_before (λ after. ran_some count after) pair found)
    by gives (Sends after message) next =
        let one = last_taken name after message pair.consumer_node.link (next.name ∙ same) next.link in
        gives_lines name (ArePassed name) (ArePassed name) (reported.Sent (name_of pair) message ∷ (taken_some 1 [] after).1) (ran_some count (taken_some 1 [] after).0)
        (λ more. passed_more name message (name_of pair) (taken_some 1 [] after).1 more same one.1) (gives name (taken_some 1 [] after).0 one.0)
    by gives Rests next = (same, tt)
    by gives Overflows next = tt

runs_gives : GivesAll ArePassed runs
runs_gives name pair same = ran_gives (left_to_send pair pair.consumer_node.search) name pair same

drains_gives : GivesAll (λ name. All (IsTaking name)) drains
drains_gives name pair same = taken_all (length pair.consumer_node.link) name pair same

-- a new search, of which nothing else is known
pub record HasRefreshed (name : List ℕ) (lines : List ReportLine) : Type 0 where
  pub cut' : List ReportLine
  pub drops : IsAtMost (reported.Cut name) cut'
  pub first : List ReportLine
  pub code : ℕ
  pub refuses : IsAtMost (reported.Refused name false code) first
  pub answer : ReportLine
  pub answers : IsAnswer name answer
  pub final : first ≡ [] → IsFinal answer
  pub passed : List ReportLine
  pub passes : ArePassed name passed
  pub whole : lines ≡ cut' ++ (first ++ answer ∷ passed)

refreshing : (name : List ℕ) (lines passed : List ReportLine) → IsAskingAnew name lines → ArePassed name passed → HasRefreshed name (lines ++ passed)
refreshing name lines passed is passes = record {
  cut' = is.cut';
  drops = is.drops;
  first = is.asks.first;
  code = is.asks.code;
  refuses = is.asks.refuses;
  answer = is.asks.answer;
  answers = is.asks.answers;
  final = is.asks.final;
  passed = passed;
  passes = passes;
  whole =
      ap (λ ls. ls ++ passed) is.whole ∙ append_assoc is.cut' is.asked passed
      ∙ ap (λ ls. is.cut' ++ ls) (ap (λ ls. ls ++ passed) is.asks.whole ∙ append_assoc is.asks.first (is.asks.answer ∷ []) passed);
}

abbrev pub MayRefresh : List ℕ → List ReportLine → Type 0
MayRefresh name lines = (lines ≡ []) ⊎ HasRefreshed name lines

catches_gives : GivesAll MayRefresh catches_up
catches_gives name pair same =
    gives_if name (MayRefresh name) (follows_on pair) (Ok (pair, [])) (refreshes pair) (same, inl refl)
    (gives_then name (IsAskingAnew name) (ArePassed name) (MayRefresh name) (opens_anew pair) runs (λ lines more is passes. inr (refreshing name lines more is passes)) (anew_gives name pair same)
    (λ after here. runs_gives name after here))

-- what was taken and passed on before
record IsDrained (name : List ℕ) (lines : List ReportLine) : Type 0 where
  taken : List ReportLine
  takes' : All (IsTaking name) taken
  passed : List ReportLine
  passes : ArePassed name passed
  whole : lines ≡ taken ++ passed

record IsCaughtUp (name : List ℕ) (lines : List ReportLine) : Type 0 where
  drained : List ReportLine
  drains' : IsDrained name drained
  again : List ReportLine
  refreshes' : MayRefresh name again
  whole : lines ≡ drained ++ again

-- a settling, of whose new search nothing else is known
pub record HasSettled (name : List ℕ) (lines : List ReportLine) : Type 0 where
  pub taken : List ReportLine
  pub takes' : All (IsTaking name) taken
  pub passed : List ReportLine
  pub passes : ArePassed name passed
  pub again : List ReportLine
  pub refreshes' : MayRefresh name again
  pub writes : ℕ
  pub whole : lines ≡ taken ++ (passed ++ (again ++ reported.Settled name writes ∷ []))

settling : (name : List ℕ) (lines more : List ReportLine) → IsCaughtUp name lines → (writes : ℕ) × (more ≡ reported.Settled name writes ∷ []) → HasSettled name (lines ++ more)
settling name lines more is end = record {
  taken = is.drains'.taken;
  takes' = is.drains'.takes';
  passed = is.drains'.passed;
  passes = is.drains'.passes;
  again = is.again;
  refreshes' = is.refreshes';
  writes = end.0;
  whole =
      let last = reported.Settled name end.0 ∷ [] in
      ap (λ ls. ls ++ more) (is.whole ∙ ap (λ ls. ls ++ is.again) is.drains'.whole) ∙ ap (λ ls. ((is.drains'.taken ++ is.drains'.passed) ++ is.again) ++ ls) end.1
      ∙ append_assoc (is.drains'.taken ++ is.drains'.passed) is.again last ∙ append_assoc is.drains'.taken is.drains'.passed (is.again ++ last);
}

-- a settling gives the lines of what was taken, sent and opened, and at its end the one `settled`
pub settles_gives : GivesAll HasSettled settles
settles_gives name pair same =
    gives_then name (IsCaughtUp name) (λ lines. (writes : ℕ) × (lines ≡ reported.Settled name writes ∷ [])) (HasSettled name) (and_then (and_then (drains pair) runs) catches_up) settled_reported (settling name)
    (gives_then name (IsDrained name) (MayRefresh name) (IsCaughtUp name) (and_then (drains pair) runs) catches_up
    (λ lines more is refreshes'. record { drained = lines; drains' = is; again = more; refreshes' = refreshes'; whole = refl })
    (gives_then name (All (IsTaking name)) (ArePassed name) (IsDrained name) (drains pair) runs (λ lines more takes' passes. record { taken = lines; takes' = takes'; passed = more; passes = passes; whole = refl }) (drains_gives name pair same)
    (λ after here. runs_gives name after here))
    (λ after here. catches_gives name after here))
    (λ (after : Agreement) here. (here, (length after.provider.directory.writes, ap (λ n. reported.Settled n (length after.provider.directory.writes) ∷ []) here)))

-- ---- cookies and wishes

abbrev pub IsHolding : Option (List ℕ) → List ℕ → List ReportLine → Type 0
IsHolding cookie name lines = lines ≡ reported.Holds name cookie ∷ []

-- the loss of a cookie reports that none is held
pub loses_cookie_gives : GivesAll (IsHolding None) loses_cookie
loses_cookie_gives name pair same = (same, ap (λ n. reported.Holds n None ∷ []) same)

-- a cookie that is given is reported as the one that is held
pub sets_cookie_gives : (text : List ℕ) → GivesAll (IsHolding (Some text)) (sets_cookie text)
sets_cookie_gives text name pair same =
    elim (cases_Bool (is_later (copy_of pair.consumer_node).cookie text)) [
      | inl later ↦ rw later tt
      | inr good ↦ rw good (same, ap (λ n. reported.Holds n (Some text) ∷ []) same)
    ]

abbrev pub IsRespeccing : List ℕ → List ReportLine → Type 0
IsRespeccing name lines = (cut' : List ReportLine) × IsAtMost (reported.Cut name) cut' × (lines ≡ cut' ++ reported.Holds name None ∷ [])

-- where something else is wanted, a `cut` line may come, and no cookie is held
pub respecs_gives : (search : Search) → GivesAll IsRespeccing (respecs search)
respecs_gives search name pair same =
    gives_then name (IsAtMost (reported.Cut name)) (λ lines. lines ≡ reported.Holds name None ∷ []) (IsRespeccing name) (idle pair) (with_spec search) (λ lines more drops is. (lines, drops, ap (λ ls. lines ++ ls) is)) (idle_gives name pair same)
    (λ after here. (here, ap (λ n. reported.Holds n None ∷ []) here))
