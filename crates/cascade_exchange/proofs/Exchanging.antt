-- Each part of an event leaves the consumer as its lines report.
use Rattle.std.proofs.Common.{◌≡◌, ℕ, Bool, true, false, Option, Some, None, List, [], ◌∷◌, ◌++◌, length, refl, ap, sym, subst, ◌∙◌, inl, inr}
use Rattle.std.proofs.lemmas.Bool.{cases_Bool}
use Rattle.std.proofs.lemmas.List.Sums.{fold-append}
use Rattle.std.specs.Prelude.{◌||◌, is_some}
use Rattle.std.specs.List.{fold}
use Rattle.entry_tree.specs.Selection.{Search, search_of}
use Rattle.cascade_exchange.specs.declared.exchange.Exchange.{Exchange}
use Rattle.cascade_exchange.specs.declared.exchange.Exchange.TheVariants as goes
use Rattle.sync_messages.specs.declared.request.Mode.{Mode}
use Rattle.sync_model.specs.Copy.{Copy, SyncSession}
use Rattle.sync_provider.specs.Machine.{ProviderState}
use Rattle.sync_provider.specs.declared.searches.Accepted.{Accepted}
use Rattle.sync_provider.specs.declared.searches.Accepted.TheVariants as accepted
use Rattle.cascade_exchange.specs.Exchange.{Agreement, ExchangeOutcome, part_of, name_of, copy_of, handed, linked, sends, sent, given_up, taken_as, taking, takes, is_busy, cut, idle, opened_by, opens, settles, holding, loses_cookie, sets_cookie, with_spec, respecs}
use Rattle.cascade_exchange.specs.Reception.{Came, received}
use Rattle.cascade_exchange.specs.Reception.{Came as came}
use Rattle.cascade_report.specs.ReportLines.{ReportLine}
use Rattle.cascade_report.specs.ReportLines.{ReportLine as reported}
use Rattle.cascade_exchange.proofs.EachPart.{LeavesIn, LeavesTaking, AnyMode, SmallSteps, sent_leaves, taking_leaves, takes_leave, cut_leaves, idle_leaves, opens_leave, settles_leave, sets_cookie_leaves}
use Rattle.cascade_exchange.specs.Trace.{seen_of, took, dropped, after_own, name_in}
use Rattle.cascade_exchange.proofs.Others.{directory_stays, kind_stays}

-- lines of the consumer of this name
abbrev pub EachOwn : List ℕ → List ReportLine → Type 0
EachOwn name [] = Unit {0}
EachOwn name (line ∷ lines) = (name_in line ≡ name) × EachOwn name lines

-- what each part keeps: who the consumer is and what it wants, but where it is given another specification, and the
-- provider's writes and where they are from; its link and its copy are what its lines make of them
pub record Alters (wants : Search → Search) (before after : Agreement) (lines : List ReportLine) : Type 0 where
  pub name : after.consumer_node.name ≡ before.consumer_node.name
  pub source : after.consumer_node.source ≡ before.consumer_node.source
  pub spec : after.consumer_node.consumer.spec ≡ wants before.consumer_node.consumer.spec
  pub reload : after.consumer_node.consumer.reload ≡ before.consumer_node.consumer.reload
  pub directory : after.provider.directory ≡ before.provider.directory
  pub kind : after.provider.kind ≡ before.provider.kind
  pub lineage : after.lineage ≡ before.lineage
  pub own : EachOwn before.consumer_node.name lines
  pub traced : seen_of after.consumer_node ≡ fold after_own (seen_of before.consumer_node) lines

-- the same is wanted
abbrev pub as_before : Search → Search
as_before search = search

-- what a part leaves of a consumer and its provider
abbrev pub Keeps : Agreement → Agreement → List ReportLine → Type 0
Keeps before after lines = Alters as_before before after lines

own-append : (name : List ℕ) (ls ms : List ReportLine) → EachOwn name ls → EachOwn name ms → EachOwn name (ls ++ ms)
own-append name [] ms h k = k
own-append name (l ∷ ls) ms h k = (h.0, own-append name ls ms h.1 k)

-- what does nothing keeps everything
pub keeps_nothing : (pair : Agreement) → Keeps pair pair []
keeps_nothing pair = record { name = refl; source = refl; spec = refl; reload = refl; directory = refl; kind = refl; lineage = refl; own = tt; traced = refl }

-- what keeps all, and then what alters what is wanted, together alter that
pub keeps_both : {wants : Search → Search} {a b c : Agreement} {ls ms : List ReportLine} → Keeps a b ls → Alters wants b c ms → Alters wants a c (ls ++ ms)
keeps_both {wants} {a} {b} {c} {ls} {ms} first second = record {
  name = second.name ∙ first.name;
  source = second.source ∙ first.source;
  spec = second.spec ∙ ap wants first.spec;
  reload = second.reload ∙ first.reload;
  directory = second.directory ∙ first.directory;
  kind = second.kind ∙ first.kind;
  lineage = second.lineage ∙ first.lineage;
  own = own-append a.consumer_node.name ls ms first.own (subst (λ n. EachOwn n ms) first.name second.own);
  traced = second.traced ∙ ap (λ s. fold after_own s ms) first.traced ∙ sym (fold-append after_own (seen_of a.consumer_node) ls ms);
}

-- a line that reports of nothing that happened
keeps_quiet : (pair : Agreement) (line : ReportLine) → name_in line ≡ pair.consumer_node.name → seen_of pair.consumer_node ≡ after_own (seen_of pair.consumer_node) line → Keeps pair pair (line ∷ [])
keeps_quiet pair line own quiet = record { name = refl; source = refl; spec = refl; reload = refl; directory = refl; kind = refl; lineage = refl; own = (own, tt); traced = quiet }

-- ---- the small steps

-- a part that changes what the consumer wants, and leaves the rest of them
abbrev pub AltersIn : (Search → Search) → Agreement → ExchangeOutcome → Type 0
AltersIn wants pair outcome = LeavesIn (Alters wants) pair outcome

abbrev pub KeepsIn : Agreement → ExchangeOutcome → Type 0
KeepsIn pair outcome = AltersIn as_before pair outcome

handed_directory : (p : ProviderState) (search : Option ℕ) → (handed p search).directory ≡ p.directory
handed_directory p None = refl
handed_directory p (Some number) = refl

handed_kind : (p : ProviderState) (search : Option ℕ) → (handed p search).kind ≡ p.kind
handed_kind p None = refl
handed_kind p (Some number) = refl

sends_keeps : (pair : Agreement) (search : Option ℕ) (message : List ℕ)
    → Keeps pair (record pair { provider = handed pair.provider pair.consumer_node.search; consumer_node = linked pair.consumer_node search message }) (reported.Sent (name_of pair) message ∷ [])
sends_keeps pair search message = record {
  name = refl;
  source = refl;
  spec = refl;
  reload = refl;
  directory = handed_directory pair.provider pair.consumer_node.search;
  kind = handed_kind pair.provider pair.consumer_node.search;
  lineage = refl;
  own = (refl, tt);
  traced = refl;
}

-- a search that is given up leaves a closed pair, whose line reports what became of the copy
given_up_keeps : (pair : Agreement) (copy : Copy) (line : ReportLine) → name_in line ≡ pair.consumer_node.name → seen_of (given_up pair copy).consumer_node ≡ after_own (seen_of pair.consumer_node) line
    → Keeps pair (given_up pair copy) (line ∷ [])
given_up_keeps pair copy line named traced = record {
  name = refl;
  source = refl;
  spec = refl;
  reload = refl;
  directory = directory_stays pair.provider pair.consumer_node.search;
  kind = kind_stays pair.provider pair.consumer_node.search;
  lineage = refl;
  own = (named, tt);
  traced = traced;
}

took_is : (before : Copy) (link : List (List ℕ)) (message : List ℕ) (rest : List (List ℕ)) → link ≡ message ∷ rest → took before link ≡ record { link = rest; copy = (received before message).0 }
took_is before link message rest e = ap (took before) e

taken_as_keeps : (pair : Agreement) (message : List ℕ) (rest : List (List ℕ)) (found : Came) → pair.consumer_node.link ≡ message ∷ rest
    → Keeps pair (taken_as pair rest (received (copy_of pair.consumer_node) message).0 found).0 ((taken_as pair rest (received (copy_of pair.consumer_node) message).0 found).1 ∷ [])
taken_as_keeps pair message rest came.Staged e = record { name = refl; source = refl; spec = refl; reload = refl; directory = refl; kind = refl; lineage = refl; own = (refl, tt); traced = sym (took_is (copy_of pair.consumer_node) pair.consumer_node.link message rest e) }
taken_as_keeps pair message rest came.Copied e = record { name = refl; source = refl; spec = refl; reload = refl; directory = refl; kind = refl; lineage = refl; own = (refl, tt); traced = sym (took_is (copy_of pair.consumer_node) pair.consumer_node.link message rest e) }
taken_as_keeps pair message rest (came.Stored commit) e = record { name = refl; source = refl; spec = refl; reload = refl; directory = refl; kind = refl; lineage = refl; own = (refl, tt); traced = sym (took_is (copy_of pair.consumer_node) pair.consumer_node.link message rest e) }
taken_as_keeps pair message rest (came.Over code) e = record { name = refl; source = refl; spec = refl; reload = refl; directory = refl; kind = refl; lineage = refl; own = (refl, tt); traced = sym (took_is (copy_of pair.consumer_node) pair.consumer_node.link message rest e) }
taken_as_keeps pair message rest (came.Refused fault) e =
    let copy = (received (copy_of pair.consumer_node) message).0 in
    given_up_keeps pair copy (reported.Faulted (name_of pair) fault) refl (ap dropped (sym (took_is (copy_of pair.consumer_node) pair.consumer_node.link message rest e)))

cuts_keep : (pair : Agreement) → Keeps pair (given_up pair (copy_of pair.consumer_node)) (reported.Cut (name_of pair) ∷ [])
cuts_keep pair = given_up_keeps pair (copy_of pair.consumer_node) (reported.Cut (name_of pair)) refl refl

opened_by_keeps : (mode : Mode) (pair : Agreement) (answer : Accepted) → KeepsIn pair (opened_by mode pair answer)
opened_by_keeps mode pair (accepted.Opened number writes) = record { name = refl; source = refl; spec = refl; reload = refl; directory = refl; kind = refl; lineage = refl; own = (refl, tt); traced = refl }
opened_by_keeps mode pair (accepted.Refused code) = record { name = refl; source = refl; spec = refl; reload = refl; directory = refl; kind = refl; lineage = refl; own = (refl, tt); traced = refl }
opened_by_keeps mode pair accepted.NoMemory = keeps_nothing pair

steps_keep : SmallSteps (Alters as_before) AnyMode
steps_keep = record {
  still = keeps_nothing;
  through = λ one two three lines more first second. keeps_both first second;
  sends = sends_keeps;
  takes = λ pair message rest is. taken_as_keeps pair message rest (received (copy_of pair.consumer_node) message).1 is;
  nothing = λ name pair named. keeps_quiet pair (reported.Nothing name) (sym named) refl;
  cuts = cuts_keep;
  opens = λ mode asked pair answer. opened_by_keeps mode pair answer;
  settled = λ pair. keeps_quiet pair (reported.Settled (name_of pair) (length pair.provider.directory.writes)) refl refl;
}

-- ---- each part

-- sending messages keeps what each part keeps
pub sent_keeps : (count : ℕ) (pair : Agreement) → KeepsIn pair (sent count pair)
sent_keeps count pair = sent_leaves (Alters as_before) AnyMode steps_keep count pair

-- taking a message keeps what each part keeps
abbrev pub KeepsTaking : Agreement → Option (Agreement × ReportLine) → Type 0
KeepsTaking pair found = LeavesTaking (Alters as_before) pair found

-- one message that is taken keeps what each part keeps
pub taking_keeps : (pair : Agreement) → KeepsTaking pair (taking pair)
taking_keeps pair = taking_leaves (Alters as_before) AnyMode steps_keep pair

-- taking messages keeps what each part keeps
pub takes_keeps : (count : ℕ) (pair : Agreement) → KeepsIn pair (takes count pair)
takes_keeps count pair = takes_leave (Alters as_before) AnyMode steps_keep count pair

-- a cut keeps what each part keeps
pub cut_keeps : (pair : Agreement) → KeepsIn pair (cut pair)
cut_keeps pair = cut_leaves (Alters as_before) AnyMode steps_keep pair

-- a cut of a busy consumer keeps what each part keeps
pub idle_keeps : (pair : Agreement) → KeepsIn pair (idle pair)
idle_keeps pair = idle_leaves (Alters as_before) AnyMode steps_keep pair

-- an opening keeps what each part keeps
pub opens_keeps : (mode : Mode) (pair : Agreement) → KeepsIn pair (opens mode pair)
opens_keeps mode pair = opens_leave (Alters as_before) AnyMode steps_keep mode tt pair

-- a settling keeps what each part keeps
pub settles_keeps : (pair : Agreement) → KeepsIn pair (settles pair)
settles_keeps pair = settles_leave (Alters as_before) AnyMode steps_keep tt pair

holding_keeps : (pair : Agreement) (cookie : Option (List ℕ)) → KeepsIn pair (holding pair cookie)
holding_keeps pair cookie = record { name = refl; source = refl; spec = refl; reload = refl; directory = refl; kind = refl; lineage = refl; own = (refl, tt); traced = refl }

-- a cookie that is lost keeps what each part keeps
pub loses_cookie_keeps : (pair : Agreement) → KeepsIn pair (loses_cookie pair)
loses_cookie_keeps pair = holding_keeps pair None

-- a cookie that is given keeps what each part keeps
pub sets_cookie_keeps : (text : List ℕ) (pair : Agreement) → KeepsIn pair (sets_cookie text pair)
sets_cookie_keeps text pair = sets_cookie_leaves (Alters as_before) AnyMode steps_keep text pair (holding_keeps pair (Some text))

-- ---- other wishes

no_session : (asked : Bool) (session : Option SyncSession) (rest : Bool) → ((asked || is_some session) || rest) ≡ false → session ≡ None
no_session true session rest free = let never : true ≡ false = free in cc
no_session false None rest free = refl
no_session false (Some session) rest free = let never : true ≡ false = free in cc

with_spec_alters : (search : Search) (pair : Agreement) → (copy_of pair.consumer_node).session ≡ None → AltersIn (λ s. search) pair (with_spec search pair)
with_spec_alters search pair idle' =
    let copy = copy_of pair.consumer_node in
    record {
      name = refl;
      source = refl;
      spec = refl;
      reload = refl;
      directory = refl;
      kind = refl;
      lineage = refl;
      own = (refl, tt);
      traced = ap (λ r. record { link = pair.consumer_node.link; copy = record { held = copy.held; cookie = None; session = r } }) (sym idle');
    }

-- a respec changes what the consumer wants
pub respecs_alters : (search : Search) (pair : Agreement) → AltersIn (λ s. search) pair (respecs search pair)
respecs_alters search pair =
    elim (cases_Bool (is_busy pair.consumer_node)) [
      | inl busy ↦ rw busy (keeps_both (cuts_keep pair) (with_spec_alters search (given_up pair (copy_of pair.consumer_node)) refl))
      | inr free ↦
          rw free (
          with_spec_alters search pair
          (no_session (is_some pair.consumer_node.search) (copy_of pair.consumer_node).session _ free)
          )
    ]

-- ---- all parts

-- what is wanted after it
abbrev pub wants_of : Exchange → Search → Search
wants_of (goes.Respec spec) = λ search. search_of spec
wants_of _ = as_before

-- each part keeps this
pub part_alters : (what : Exchange) (pair : Agreement) → AltersIn (wants_of what) pair (part_of what pair)
part_alters (goes.Open mode) pair = opens_keeps mode pair
part_alters (goes.Send count) pair = sent_keeps count pair
part_alters (goes.Take count) pair = takes_keeps count pair
part_alters goes.Cut pair = cut_keeps pair
part_alters goes.Settle pair = settles_keeps pair
part_alters goes.LoseCookie pair = loses_cookie_keeps pair
part_alters (goes.SetCookie text) pair = sets_cookie_keeps text pair
part_alters goes.CutIfBusy pair = idle_keeps pair
part_alters (goes.Respec spec) pair = respecs_alters (search_of spec) pair
