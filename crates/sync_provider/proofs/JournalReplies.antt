-- What the calls of a provider answer, at the place of its journal, and what they keep of it.
use Rattle.std.proofs.Common.{◌≡◌, ◌≢◌, ◌≤◌, ℕ, ◌+◌, Bool, true, false, nat_eq, List, [], ◌∷◌, ◌++◌, length, Option, Some, None, refl, ap, sym, ◌∙◌, subst, arith, eqb-true, eq-eqb}
use Rattle.std.specs.Prelude.{Result, Ok, Err, is_some, option_map, IfSome}
use Rattle.std.specs.BTreeMap.{insert_entry}
use Rattle.std.specs.Ordering.{nat_cmp, match_ordering}
use Rattle.std.specs.declared.cmp.Ordering.{Ordering}
use Rattle.std.specs.declared.cmp.Ordering.TheVariants.{Less, Equal, Greater}
use Rattle.std.proofs.lemmas.Bool.{false≢true}
use Rattle.std.proofs.lemmas.List.{length-map}
use Rattle.ldap_constants.specs.declared.result_codes.TheConstants.{OTHER}
use Rattle.entry_tree.specs.declared.entry.Entry.{Entry}
use Rattle.entry_tree.specs.declared.op.Op.{Op}
use Rattle.entry_tree.specs.declared.op.Op.TheVariants.{Commit}
use Rattle.entry_tree.specs.declared.op.Write.{Write}
use Rattle.entry_tree.specs.Selection.{Search, search_of}
use Rattle.directory_writes.specs.Directory.{judged}
use Rattle.directory_writes.proofs.Keyed.{opened-same}
use Rattle.sync_provider.specs.Accepting.{opened}
use Rattle.sync_provider.specs.Answering.{WriteLeaves, CommitLeaves, AcceptLeaves}
use Rattle.sync_provider.specs.Committing.{commit_refusal}
use Rattle.sync_provider.specs.HandingOut.{search_at}
use Rattle.sync_provider.specs.Journal.{handed_at, JournalState, IsRoomier, IsOpened, JournalledProvider, with_journal, port_state, IsJournalled, HasJournal}
use Rattle.sync_provider.specs.Law.{asked}
use Rattle.sync_provider.specs.Machine.{ProviderState, after_judged, after_commit, judged_by, log_limited}
use Rattle.sync_provider.specs.Opened.{SearchOpening, opening_of_ask, opening_of_search}
use Rattle.sync_provider.specs.Ports.{PortState, wrote_in, committed_by, opened_in, WriteReplies, CommitReplies, AcceptReplies}
use Rattle.sync_provider.specs.Queueing.{search_notified}
use Rattle.sync_provider.specs.Search.{SearchState}
use Rattle.sync_provider.specs.declared.journal_note.SearchChange.TheVariants.{Opened}
use Rattle.sync_provider.specs.declared.searches.Accepted.TheVariants as accepted
use Rattle.sync_provider.specs.declared.searches.SyncSearch.{SyncSearch}
use Rattle.sync_provider.specs.declared.writing.CommitFault.{CommitFault}
use Rattle.sync_provider.specs.declared.writing.Reply.{Reply}
use Rattle.sync_provider.proofs.Journals.{answer_is}
use Rattle.sync_provider.proofs.JournalSteps.{IsPort, write_goes, open_goes}
use Rattle.sync_provider.proofs.Overflows.{limited_match}

-- a call leaves the journal in order, and so it is answered
pub record IsAnswered (new : ProviderState) (j : JournalState) (Replies : PortState → Type 0) : Type 0 where
  pub kept : HasJournal new j
  pub replies : Replies (port_state (with_journal new j))

-- ---- writes and commits

module _ (p : ProviderState) (j : JournalState) (has : HasJournal p j) where
  abbrev v : JournalledProvider
  v = with_journal p j

  judged_kept : (outcome : Result Write ℕ) → HasJournal (after_judged p outcome) j
  judged_kept (Ok w) = record {
    journalled = (write_goes v has.journalled w).journalled;
    room =
        let many : length (after_judged p (Ok w)).searches ≡ length p.searches = length-map p.searches (λ search. (search.0, search_notified p.queue_limit p.directory w search.1)) in
        omega (arith, many, has.room);
  }
  judged_kept (Err code) = has

  judged_port : (outcome : Result Write ℕ) → port_state (with_journal (after_judged p outcome) j) ≡ wrote_in (port_state v) outcome
  judged_port (Ok w) = (write_goes v has.journalled w).port
  judged_port (Err code) = refl

  write_answered : (op : Op) (now : ℕ) (reply : Reply) (new : ProviderState) → WriteLeaves p op now reply new → IsAnswered new j (WriteReplies (port_state v) op now reply)
  write_answered op now reply new leaves = record {
    kept = by (nat_eq reply.code OTHER) refl;
    replies = record {
      code = leaves.code;
      state = λ known. ap (λ s. port_state (with_journal s j)) (leaves.state known) ∙ judged_port (judged_by p.kind p.directory op now);
      err = λ other. ap (λ s. port_state (with_journal s j)) (leaves.err other);
      number = leaves.number;
    };
  }
    where
      by : (b : Bool) → nat_eq reply.code OTHER ≡ b → HasJournal new j
      by true other = subst (λ s. HasJournal s j) (sym (leaves.err (eqb-true reply.code OTHER other))) has
      by false known =
          subst (λ s. HasJournal s j) (sym (leaves.state (λ same. false≢true (sym known ∙ eq-eqb reply.code OTHER same))))
          (judged_kept (judged_by p.kind p.directory op now))

  commit_kept : (op : Op) (now : ℕ) (refusal : Option CommitFault) → HasJournal (after_commit p op now refusal) j
  commit_kept op now None = judged_kept (judged p.directory op now)
  commit_kept op now (Some fault) = has

  commit_port : (op : Op) (now : ℕ) (refusal : Option CommitFault) → port_state (with_journal (after_commit p op now refusal) j) ≡ committed_by (port_state v) op now refusal
  commit_port op now None = judged_port (judged p.directory op now)
  commit_port op now (Some fault) = refl

  commit_answered : (puts : List Entry) (drops : List ℕ) (now : ℕ) (result : Result ℕ CommitFault) (new : ProviderState) → CommitLeaves p puts drops now result new
      → IsAnswered new j (CommitReplies (port_state v) puts drops now result)
  commit_answered puts drops now (Ok number) new leaves = record {
    kept = subst (λ s. HasJournal s j) (sym leaves.state) (commit_kept (Commit puts drops) now (commit_refusal p.kind p.directory puts drops now));
    replies = record {
      accepted = leaves.accepted;
      refused = leaves.refused;
      root = leaves.root;
      state = ap (λ s. port_state (with_journal s j)) leaves.state ∙ commit_port (Commit puts drops) now (commit_refusal p.kind p.directory puts drops now);
      err = tt;
      number = leaves.number;
      one = leaves.one;
    };
  }
  commit_answered puts drops now (Err fault) new leaves = record {
    kept = subst (λ s. HasJournal s j) (sym leaves.err) has;
    replies = record {
      accepted = leaves.accepted;
      refused = leaves.refused;
      root = leaves.root;
      state = tt;
      err = ap (λ s. port_state (with_journal s j)) leaves.err;
      number = tt;
      one = tt;
    };
  }

-- the same for the provider as it was seen
pub write_seen : (old : JournalledProvider) (p : ProviderState) (j : JournalState) → with_journal p j ≡ old → HasJournal p j
    → (op : Op) (now : ℕ) (reply : Reply) (new : ProviderState) → WriteLeaves p op now reply new → IsAnswered new j (WriteReplies (port_state old) op now reply)
write_seen old p j seen has op now reply new leaves =
    subst (λ v. IsAnswered new j (WriteReplies (port_state v) op now reply)) seen (write_answered p j has op now reply new leaves)

-- what a commit answers is due there
pub commit_seen : (old : JournalledProvider) (p : ProviderState) (j : JournalState) → with_journal p j ≡ old → HasJournal p j
    → (puts : List Entry) (drops : List ℕ) (now : ℕ) (result : Result ℕ CommitFault) (new : ProviderState) → CommitLeaves p puts drops now result new
    → IsAnswered new j (CommitReplies (port_state old) puts drops now result)
commit_seen old p j seen has puts drops now result new leaves =
    subst (λ v. IsAnswered new j (CommitReplies (port_state v) puts drops now result)) seen (commit_answered p j has puts drops now result new leaves)

-- ---- another limit of the log

-- the journal stays
pub log_limited_kept : (p : ProviderState) (j : JournalState) → HasJournal p j → (limit : ℕ) → HasJournal (log_limited p limit) j
log_limited_kept p j has limit = record {
  journalled = record {
    ordered = has.journalled.ordered;
    counted = λ n s found.
        (limited_match s p.directory limit s (record { handed = handed_at j.handed n; marks = s.progress.marks; over = s.over })
        (record {
          same = record { id = refl; spec = refl; start = refl; accepted = refl; persists = refl };
          over = refl;
          marks = refl;
          counted = has.journalled.counted n s found;
        })).counted;
    only = has.journalled.only;
  };
  room = has.room;
}

-- ---- a search is asked for

-- a search that is opened is one more
opened_length : (es : List (ℕ × SearchState)) (k : ℕ) (s : SearchState) → length (insert_entry nat_cmp es k s) ≤ length es + 1
opened_length [] k s = omega arith
opened_length (e ∷ es) k s = by (nat_cmp k e.0) (opened_length es k s)
  where
    by : (o : Ordering) → length (insert_entry nat_cmp es k s) ≤ length es + 1
        → length (match_ordering o ((k, s) ∷ e ∷ es) ((e.0, s) ∷ es) (e ∷ insert_entry nat_cmp es k s)) ≤ length (e ∷ es) + 1
    by Less rest = omega arith
    by Equal rest = omega arith
    by Greater rest = omega (arith, rest)

module _ (p : ProviderState) (ask : SyncSearch) (number count : ℕ) (new : ProviderState) (leaves : AcceptLeaves p ask (accepted.Opened number count) new) where
  opened_found : search_at new.searches number ≡ Some (asked p ask)
  opened_found = ap (λ s. search_at s.searches number) leaves.state ∙ opened-same p.searches number (asked p ask)

  -- a search that was opened is open
  pub opened_is_open : is_some (search_at new.searches number) ≡ true
  opened_is_open = ap is_some opened_found

  -- it has the specification that was asked for
  pub opened_spec : (copy : Search) → copy ≡ search_of ask.spec → IfSome (search_at new.searches number) (λ s. copy ≡ s.spec)
  opened_spec copy same = subst (λ found. IfSome found (λ s. copy ≡ s.spec)) (sym opened_found) same

module _ (old : JournalledProvider) (p : ProviderState) (j between : JournalState) (seen : with_journal p j ≡ old) (has : HasJournal p j) (roomier : IsRoomier j between) (ask : SyncSearch) where
  same : with_journal p between ≡ old
  same = (λ i. record { state = p; events = roomier.events i; handed = roomier.handed i }) ∙ seen

  roomier_kept : HasJournal p between
  roomier_kept = record {
    journalled = subst IsJournalled (sym (same ∙ sym seen)) has.journalled;
    room = omega (arith, has.room, roomier.kept);
  }

  as_before : (new : ProviderState) → new ≡ p → HasJournal new between
  as_before new is = subst (λ s. HasJournal s between) (sym is) roomier_kept

  port_before : (new : ProviderState) → new ≡ p → port_state (with_journal new between) ≡ port_state old
  port_before new is = ap (λ s. port_state (with_journal s between)) is ∙ ap port_state same

  -- out of memory nothing is opened
  pub unopened_seen : (new : ProviderState) → new ≡ p → IsAnswered new between (AcceptReplies (port_state old) ask accepted.NoMemory)
  unopened_seen new is = record { kept = as_before new is; replies = record { answer = tt; state = port_before new is } }

  -- what is refused is due there
  pub refused_seen : (code : ℕ) (new : ProviderState) → AcceptLeaves p ask (accepted.Refused code) new → IsAnswered new between (AcceptReplies (port_state old) ask (accepted.Refused code))
  refused_seen code new leaves =
      subst (λ v. IsAnswered new between (AcceptReplies (port_state v) ask (accepted.Refused code))) seen
      (record {
        kept = as_before new leaves.state;
        replies = record { answer = sym (answer_is (with_journal p j) ask has.journalled) ∙ leaves.answer; state = port_before new leaves.state ∙ sym (ap port_state seen) };
      })

  module _ (number count : ℕ) (new : ProviderState) (leaves : AcceptLeaves p ask (accepted.Opened number count) new) (opening : SearchOpening) (after : JournalState)
      (there : Some opening ≡ option_map (opening_of_search number) (search_at new.searches number)) (noted : IsOpened between count opening after) where
    abbrev asked_for : SearchOpening
    asked_for = opening_of_ask p.directory ask number

    it_is : opening ≡ asked_for
    it_is = some (there ∙ ap (option_map (opening_of_search number)) (opened_found p ask number count new leaves))
      where
        some : Some opening ≡ Some asked_for → opening ≡ asked_for
        some e = cc

    own : handed_at after.handed number ≡ 0
    own = sym (ap (λ x. handed_at after.handed x.number) it_is) ∙ noted.own

    others : (n : ℕ) → n ≢ number → handed_at after.handed n ≡ handed_at j.handed n
    others n far = noted.others n (λ is. far (is ∙ ap (λ x. x.number) it_is)) ∙ ap (λ h. handed_at h n) roomier.handed

    goes : IsPort (record { state = record p { searches = opened p.directory p.searches ask number }; events = j.events ++ record { writes = count; change = Opened asked_for } ∷ []; handed = after.handed })
        (opened_in (port_state (with_journal p j)) asked_for)
    goes = open_goes (with_journal p j) has.journalled ask number count after.handed (leaves.answer) own others

    made : with_journal new after
        ≡ record { state = record p { searches = opened p.directory p.searches ask number }; events = j.events ++ record { writes = count; change = Opened asked_for } ∷ []; handed = after.handed }
    made = λ i. record {
      state = leaves.state i;
      events = (noted.events ∙ (λ k. roomier.events k ++ record { writes = count; change = Opened (it_is k) } ∷ [])) i;
      handed = after.handed;
    }

    -- so is an opening
    pub opened_seen : length p.searches + 2 ≤ between.spare → IsAnswered new after (AcceptReplies (port_state old) ask (accepted.Opened number count))
    opened_seen room =
        subst (λ v. IsAnswered new after (AcceptReplies (port_state v) ask (accepted.Opened number count))) seen
        (record {
          kept = record {
            journalled = subst IsJournalled (sym made) goes.journalled;
            room =
                let one : length new.searches ≤ length p.searches + 1 = subst (λ s. length s.searches ≤ length p.searches + 1) (sym leaves.state) (opened_length p.searches number (asked p ask)) in
                omega (arith, one, room, noted.spare);
          };
          replies = record { answer = sym (answer_is (with_journal p j) ask has.journalled) ∙ leaves.answer; state = ap port_state made ∙ goes.port };
        })
