-- What is left after the threads, by what each step of the end left.
use Rattle.std.proofs.Common.{◌≡◌, ◌≤◌, ◌<◌, ◌+◌, ◌-◌, leb, ℕ, suc, Bool, true, false, List, [], ◌∷◌, ◌++◌, length, fold, map, refl, sym, ap, ◌∙◌, subst, arith, append-nil, append_assoc}
use Rattle.std.specs.List.{All, AllZip}
use Rattle.std.proofs.lemmas.Bool.{leb-false, leb-true}
use Rattle.std.proofs.lemmas.List.{length-map}
use Rattle.std.proofs.lemmas.List.Elements.{All-cons, All-head, All-nil, All-tail, All-weaker}
use Rattle.std.proofs.lemmas.Slice.Zip.{AllZip-long}
use Rattle.entry_tree.specs.Selection.{select}
use Rattle.entry_tree.specs.declared.op.Write.{Write}
use Rattle.directory_laws.specs.Accepted.{WereAccepted}
use Rattle.directory_writes.specs.Directory.{AreAccepted, DirectoryState, entries_of, fresh_directory, with_write}
use Rattle.directory_writes.specs.Formed.{AreFormed}
use Rattle.sync_consumer.specs.Taking.{ConsumerState}
use Rattle.sync_provider.specs.Ports.{Journal, PortState, writes_in}
use Rattle.drill_plan.specs.declared.plan.DrillPlan.{DrillPlan}
use Rattle.drill_plan.specs.Ending.{IsInRange, IsSchedule, entries_after, followed_by, history, server}
use Rattle.drill_plan.specs.Names.{suffix}
use Rattle.drill_plan.specs.Summary.{summary_of}
use Rattle.drill_plan.proofs.Summed.{printed_alike}
use Rattle.sync_drill.specs.declared.drilled.RingEnds.{RingEnds}
use Rattle.sync_drill.specs.declared.following.Following.{Following}
use Rattle.sync_drill.specs.Drilled.{EachAt, IsPlan}
use Rattle.sync_drill.specs.Followed.{HasFollowed, HaveFollowed, HaveWorked, IsDrilled, copy_of, ends_of, port_of, together}
use Rattle.sync_drill.specs.Following.{IsBroughtUp, MaySettle}
use Rattle.sync_drill.specs.Going.{HasMetThis, IsAsBefore, IsDrillPort, OthersCameIn, WasSeen}
use Rattle.sync_drill.specs.Journals.{notes_of, operations_in}
use Rattle.sync_drill.specs.Summing.{IsSummary}
use Rattle.sync_drill.proofs.ConsumerLeft.{second_all}
use Rattle.sync_drill.proofs.DrillLeft.{IsUp, each_followed, each_up, may_settle, printed, silent}
use Rattle.sync_drill.proofs.Going.{port-goes}
use Rattle.sync_drill.proofs.JournalLeft.{HasShown, all_shown, drilled, first_port, folded-history, have_home, have_ports, port_accepted, port_writes, scheduled, still_finished, writers_still}
use Rattle.sync_drill.proofs.Lists.{each_holds}
use Rattle.sync_drill.proofs.Meetings.{came-twice}
use Rattle.sync_drill.proofs.NoMore.{no_more_entries}
use Rattle.sync_drill.proofs.Notes.{between}
use Rattle.sync_drill.proofs.Requested.{schedule_accepted, schedule_few}

-- what holds of ports holds of them still after they were met
seen_keep : {P H : Type 0} (home : P → H) (state : P → PortState) (seen : PortState) (Q : P → Type 0) (xs ys : List P)
    → ((x y : P) → WasSeen home state seen x y → Q x → Q y) → All Q xs → AllZip (WasSeen home state seen) xs ys → All Q ys
seen_keep home state seen Q [] [] step all zip = All-nil Q
seen_keep home state seen Q [] (y ∷ ys) step all zip = absurd zip
seen_keep home state seen Q (x ∷ xs) [] step all zip = absurd zip
seen_keep home state seen Q (x ∷ xs) (y ∷ ys) step all zip =
    All-cons Q y ys (step x y zip.0 (All-head Q x xs all)) (seen_keep home state seen Q xs ys step (All-tail Q x xs all) zip.1)

module _ {P H : Type 0} (home : P → H) (state : P → PortState) where
  -- the steps of the end: the first writer's port after each, the other writers' ports, and the
  -- consumers and their ports
  pub record AreSteps (first met settled seen summed shown last : P) (others mids news : List P) (followings ups : List (Following P))
      (ports beside consumers : List P) : Type 0 where
    pub met_home : home met ≡ home first
    pub met_came : OthersCameIn (state first) (state met)
    pub met_seen : AllZip (WasSeen home state (state met)) others mids
    pub settled_same : IsAsBefore home state met settled
    pub settled_up : AllZip (IsBroughtUp home state (state met)) followings ups
    pub ports_are : ports ≡ map port_of ups
    pub seen_home : home seen ≡ home settled
    pub seen_came : OthersCameIn (state settled) (state seen)
    pub seen_seen : AllZip (WasSeen home state (state seen)) ports beside
    pub summed_home : home summed ≡ home seen
    pub summed_came : OthersCameIn (state seen) (state summed)
    pub shown_same : IsAsBefore home state summed shown
    pub shown_met : AllZip (HasMetThis home state (state summed)) mids news
    pub last_same : IsAsBefore home state shown last
    pub last_met : AllZip (HasMetThis home state (state shown)) beside consumers

module _ {P H : Type 0} (home : P → H) (state : P → PortState) (plan : DrillPlan) (range : IsPlan plan) (first : P) (others : List P)
    (followings : List (Following P)) (worked : HaveWorked home state plan (first ∷ others) followings) where
  abbrev one : H
  one = worked.one

  abbrev many : ℕ
  many = plan.writers + plan.consumers

  -- ---- what each step asks for

  -- the directory has ports
  pub met_shared : 0 < (state first).ports
  met_shared = omega (arith, worked.writing.0.port_is.its_ports, range.writers.0)

  -- the writers' ports are of one directory
  pub met_homes : All (λ other. home other ≡ home first) others
  met_homes = have_home home state plan many one 1 others first worked.writing.0.its_home worked.writing.1

  -- each consumer may be brought up at the first port
  pub settle_may : (met : P) → home met ≡ home first → All (MaySettle home state met) followings
  settle_may met is = may_settle home state plan.writers many one met followings (is ∙ worked.writing.0.its_home) worked.following

  -- the ports that were met have a directory
  pub others_ports : (met : PortState) (mids : List P) → AllZip (WasSeen home state met) others mids → All (λ port. 0 < (state port).ports) mids
  others_ports met mids was_seen =
      have_ports home state plan many one 1 mids (omega (arith, range.writers.0))
      (still_finished home state plan many one met 1 others mids worked.writing.1 was_seen)

  -- and it is the same
  pub others_homes : (met : PortState) (mids : List P) (port : P) → home port ≡ home first → AllZip (WasSeen home state met) others mids
      → All (λ other. home other ≡ home port) mids
  others_homes met mids port is was_seen =
      have_home home state plan many one 1 mids port (is ∙ worked.writing.0.its_home)
      (still_finished home state plan many one met 1 others mids worked.writing.1 was_seen)

  -- the consumers' ports are of the same directory, as they are after they were brought up and after they were met
  up_ports : (met : P) (place : ℕ) (ups : List (Following P)) → EachAt (λ n f. IsUp home state plan.writers many one (state met) (suc (plan.writers + n)) n f) place ups
      → All (λ port. (home port ≡ one) × (0 < (state port).ports)) (map port_of ups)
  up_ports met place [] each = All-nil (λ port. (home port ≡ one) × (0 < (state port).ports))
  up_ports met place (f ∷ ups) each =
      All-cons (λ port. (home port ≡ one) × (0 < (state port).ports)) (port_of f) (map port_of ups)
      (each.0.its_home, omega (arith, each.0.port_is.its_ports, range.writers.0)) (up_ports met (suc place) ups each.1)

  all_up : (met : P) (ups : List (Following P)) → AllZip (IsBroughtUp home state (state met)) followings ups
      → EachAt (λ n f. IsUp home state plan.writers many one (state met) (suc (plan.writers + n)) n f) 0 ups
  all_up met ups up = each_up home state plan.writers many one (state met) 0 followings ups worked.following up

  -- the first port has one still
  pub settled_shared : (met settled : P) → OthersCameIn (state first) (state met) → IsAsBefore home state met settled → 0 < (state settled).ports
  settled_shared met settled came same =
      omega (arith, ap (λ (p : PortState). p.ports) same.its_state, came.goes_on.ports, worked.writing.0.port_is.its_ports, range.writers.0)

  -- the consumers' ports are of the same
  pub ports_homes : (met settled : P) (ups : List (Following P)) (ports : List P) → home settled ≡ home first → AllZip (IsBroughtUp home state (state met)) followings ups
      → ports ≡ map port_of ups → All (λ other. home other ≡ home settled) ports
  ports_homes met settled ups ports is up are =
      subst (All (λ other. home other ≡ home settled)) (sym are)
      (All-weaker (λ port. (home port ≡ one) × (0 < (state port).ports)) (λ other. home other ≡ home settled)
      (λ port its. its.0 ∙ sym (is ∙ worked.writing.0.its_home)) (map port_of ups) (up_ports met 0 ups (all_up met ups up)))

  -- they are so still after they were met
  pub beside_homes : (met seen : P) (shown : P) (ups : List (Following P)) (ports beside : List P) → home shown ≡ home first
      → AllZip (IsBroughtUp home state (state met)) followings ups → ports ≡ map port_of ups → AllZip (WasSeen home state (state seen)) ports beside
      → All (λ other. home other ≡ home shown) beside
  beside_homes met seen shown ups ports beside is up are was_seen =
      seen_keep home state (state seen) (λ other. home other ≡ home shown) ports beside
      (λ x y one_seen its. one_seen.same.its_home ∙ its) (ports_homes met shown ups ports is up are) was_seen

  -- their directory has ports
  pub beside_ports : (met seen : P) (ups : List (Following P)) (ports beside : List P) → AllZip (IsBroughtUp home state (state met)) followings ups
      → ports ≡ map port_of ups → AllZip (WasSeen home state (state seen)) ports beside → All (λ port. 0 < (state port).ports) beside
  beside_ports met seen ups ports beside up are was_seen =
      seen_keep home state (state seen) (λ port. 0 < (state port).ports) ports beside
      (λ x y one_seen some. subst (λ (p : PortState). 0 < p.ports) (sym one_seen.same.its_state) some)
      (subst (All (λ port. 0 < (state port).ports)) (sym are)
      (All-weaker (λ port. (home port ≡ one) × (0 < (state port).ports)) (λ port. 0 < (state port).ports) (λ port its. its.1) (map port_of ups)
      (up_ports met 0 ups (all_up met ups up))))
      was_seen

  -- ---- what is left

  module _ (met settled seen summed shown last : P) (mids news : List P) (ups : List (Following P)) (ports beside consumers : List P)
      (steps : AreSteps home state first met settled seen summed shown last others mids news followings ups ports beside consumers) where
    up : EachAt (λ n f. IsUp home state plan.writers many one (state met) (suc (plan.writers + n)) n f) 0 ups
    up = all_up met ups steps.settled_up

    up_count : length ups ≡ plan.consumers
    up_count = AllZip-long (IsBroughtUp home state (state met)) followings ups steps.settled_up ∙ worked.counts.1

    -- from the meeting of the writers on the first port learns alone
    seen_on : OthersCameIn (state met) (state seen)
    seen_on = subst (λ p. OthersCameIn p (state seen)) steps.settled_same.its_state steps.seen_came

    summed_on : OthersCameIn (state met) (state summed)
    summed_on = came-twice (state met) (state seen) (state summed) seen_on steps.summed_came

    last_is : state last ≡ state summed
    last_is = steps.last_same.its_state ∙ steps.shown_same.its_state

    summed_port : IsDrillPort 1 many (state summed)
    summed_port =
        first_port home state plan many one first last (state met) (state summed) others mids news worked.writing worked.counts.0 range.writers.0 steps.met_came summed_on
        steps.met_seen steps.shown_met last_is

    still : (k : ℕ) → 1 ≤ k → k ≤ plan.writers → notes_of k (state summed).journal ≡ notes_of k (state met).journal
    still =
        writers_still home state plan many one first last (state met) (state summed) others mids news worked.writing worked.counts.0 range.writers.0 steps.met_came summed_on
        steps.met_seen steps.shown_met last_is

    was_seen : AllZip (WasSeen home state (state seen)) (map port_of ups) beside
    was_seen = subst (λ ps. AllZip (WasSeen home state (state seen)) ps beside) steps.ports_are steps.seen_seen

    were_shown : AllZip (HasShown home state (state summed)) (map port_of ups) consumers
    were_shown =
        all_shown home state (state seen) (state summed) (map port_of ups) beside consumers steps.summed_came was_seen
        (subst (λ p. AllZip (HasMetThis home state p) beside consumers) steps.shown_same.its_state steps.last_met)

    none : (k : ℕ) → plan.writers < k → k ≤ many → operations_in (notes_of k (state summed).journal) ≡ []
    none = silent home state plan.writers many one (state met) (state summed) ups consumers up were_shown (omega (arith, up_count))

    -- ---- nothing came in after the writes were counted

    module _ (text : List ℕ) (copies : List ConsumerState) (summary : IsSummary (state seen) (state summed) copies text) where
      abbrev counted : PortState
      counted = summary.first.counted

      abbrev extra : Journal
      extra = summary.first.later.goes_on.entries

      counted_on : OthersCameIn (state met) counted
      counted_on = came-twice (state met) (state seen) counted seen_on summary.first.earlier.came

      counted_port : IsDrillPort 1 many counted
      counted_port =
          port-goes 1 many (state first) counted worked.writing.0.port_is
          (came-twice (state first) (state met) counted steps.met_came counted_on).goes_on

      -- what has the same entries of a port since the first port knew this
      since : (k : ℕ) (low more : Journal) → counted.journal ≡ low ++ more → notes_of k (state summed).journal ≡ notes_of k low
          → notes_of k (counted.journal ++ extra) ≡ notes_of k counted.journal
      since k low more is same =
          let now : notes_of k (counted.journal ++ extra) ≡ notes_of k low = ap (notes_of k) (sym summary.first.later.goes_on.journal) ∙ same in
          let all : notes_of k ((low ++ more) ++ extra) ≡ notes_of k low = ap (λ journal. notes_of k (journal ++ extra)) (sym is) ∙ now in
          now ∙ sym (ap (notes_of k) is ∙ between k low more extra all)

      consumer_since : (n : ℕ) (f : Following P) (y x : P) → IsUp home state plan.writers many one (state met) (suc (plan.writers + n)) n f
          → WasSeen home state (state seen) (port_of f) y → HasShown home state (state summed) (port_of f) x
          → notes_of (suc (plan.writers + n)) (counted.journal ++ extra) ≡ notes_of (suc (plan.writers + n)) counted.journal
      consumer_since n f y x is one_seen one_shown =
          since (suc (plan.writers + n)) (state (port_of f)).journal (one_seen.begins.more ++ summary.first.earlier.came.goes_on.entries)
          (summary.first.earlier.came.goes_on.journal
          ∙ ap (λ journal. journal ++ summary.first.earlier.came.goes_on.entries) one_seen.begins.begins
          ∙ append_assoc (state (port_of f)).journal one_seen.begins.more summary.first.earlier.came.goes_on.entries)
          (subst (λ k. notes_of k (state summed).journal ≡ notes_of k (state (port_of f)).journal) is.port_is.its_number one_shown.own)

      consumers_since : (place : ℕ) (fs : List (Following P)) (ys xs : List P)
          → EachAt (λ n f. IsUp home state plan.writers many one (state met) (suc (plan.writers + n)) n f) place fs
          → AllZip (WasSeen home state (state seen)) (map port_of fs) ys → AllZip (HasShown home state (state summed)) (map port_of fs) xs
          → EachAt (λ n f. notes_of (suc (plan.writers + n)) (counted.journal ++ extra) ≡ notes_of (suc (plan.writers + n)) counted.journal) place fs
      consumers_since place [] ys xs each seen_by shown_by = tt
      consumers_since place (f ∷ fs) [] xs each seen_by shown_by = absurd seen_by
      consumers_since place (f ∷ fs) (y ∷ ys) [] each seen_by shown_by = absurd shown_by
      consumers_since place (f ∷ fs) (y ∷ ys) (x ∷ xs) each seen_by shown_by =
          (consumer_since place f y x each.0 seen_by.0 shown_by.0, consumers_since (suc place) fs ys xs each.1 seen_by.1 shown_by.1)

      no_later : (k : ℕ) → 1 ≤ k → k ≤ many → notes_of k (counted.journal ++ extra) ≡ notes_of k counted.journal
      no_later k some high = choose (leb k plan.writers) refl
        where
          choose : (b : Bool) → leb k plan.writers ≡ b → notes_of k (counted.journal ++ extra) ≡ notes_of k counted.journal
          choose true low =
              since k (state met).journal counted_on.goes_on.entries counted_on.goes_on.journal (still k some (leb-true k plan.writers low))
          choose false not_low =
              let low : plan.writers < k = leb-false k plan.writers not_low in
              let place : ℕ = k - suc plan.writers in
              let same : suc (plan.writers + (0 + place)) ≡ k = omega (arith, low) in
              let within : place < length ups = omega (arith, low, high, up_count) in
              subst (λ n. notes_of n (counted.journal ++ extra) ≡ notes_of n counted.journal) same
              (each_holds (λ n. notes_of (suc (plan.writers + n)) (counted.journal ++ extra) ≡ notes_of (suc (plan.writers + n)) counted.journal) 0 ups
              (consumers_since 0 ups beside consumers up was_seen were_shown) place within)

      nothing : extra ≡ []
      nothing =
          no_more_entries many counted.journal extra
          (second_all (λ e. (1 ≤ e.1) × (e.1 ≤ many)) counted.journal extra
          (subst (All (λ e. (1 ≤ e.1) × (e.1 ≤ many))) summary.first.later.goes_on.journal summed_port.by))
          no_later

      same_journal : (state summed).journal ≡ counted.journal
      same_journal =
          summary.first.later.goes_on.journal ∙ ap (λ more. counted.journal ++ more) nothing ∙ append-nil counted.journal

      same_directory : (state summed).directory ≡ counted.directory
      same_directory =
          summed_port.directory ∙ ap (λ journal. fold with_write (fresh_directory suffix server history) (writes_in journal)) same_journal
          ∙ sym counted_port.directory

      -- ---- all of it

      abbrev writes : List Write
      writes = writes_in (state summed).journal

      its_accepted : AreAccepted (state summed).directory.suffix (state summed).directory.history (state summed).directory.writes
      its_accepted =
          subst (λ (d : DirectoryState). AreAccepted d.suffix d.history d.writes) (sym same_directory) summary.first.earlier.accepted

      its_formed : AreFormed writes
      its_formed =
          subst AreFormed (port_writes 1 many (state summed) summed_port)
          (subst (λ (d : DirectoryState). AreFormed d.writes) (sym same_directory) summary.first.earlier.formed)

      in_range : IsInRange plan
      in_range = record { writers = range.writers.1; size = range.size.1 }

      schedule : IsSchedule plan writes
      schedule =
          scheduled home state plan many one first last (state met) (state summed) others mids news worked.writing worked.counts.0 range.writers.0 steps.met_came summed_on
          steps.met_seen steps.shown_met last_is its_accepted none

      from_clients : WereAccepted suffix history writes
      from_clients = schedule_accepted plan writes schedule (port_accepted 1 many (state summed) summed_port its_accepted) its_formed

      each : EachAt (λ n f. HasFollowed (state summed).directory (state summed).journal n (state f.port) f.copy f.ends) 0
          (together consumers (map copy_of ups) (map ends_of ups))
      each =
          each_followed home state plan.writers many one (state met) (state summed) summed_port from_clients (schedule_few plan writes in_range schedule) still none
          0 ups consumers up were_shown

      consumer_count : length consumers ≡ plan.consumers
      consumer_count =
          AllZip-long (HasShown home state (state summed)) (map port_of ups) consumers were_shown ∙ length-map ups port_of ∙ up_count

      followed : HaveFollowed state plan (state last) consumers (map copy_of ups) (map ends_of ups)
      followed = subst (λ p. HaveFollowed state plan p consumers (map copy_of ups) (map ends_of ups)) (sym last_is)
          (record {
            counts = (consumer_count, length-map ups copy_of ∙ up_count, length-map ups ends_of ∙ up_count);
            each = each;
          })

      -- what is given back is what a drill leaves
      pub is_drilled : (writers : List P) (rings : List RingEnds) → writers ≡ last ∷ news → copies ≡ map copy_of ups → rings ≡ map ends_of ups
          → IsDrilled state plan writers consumers copies rings
      is_drilled writers rings are copies_are rings_are = record {
        first = last;
        others = news;
        are = are;
        written =
            drilled home state plan many one first last (state met) (state summed) others mids news worked.writing worked.counts.0 range.writers.0 steps.met_came summed_on
            steps.met_seen steps.shown_met last_is its_accepted none;
        followed =
            subst (λ cs. HaveFollowed state plan (state last) consumers cs rings) (sym copies_are)
            (subst (λ rs. HaveFollowed state plan (state last) consumers (map copy_of ups) rs) (sym rings_are) followed);
      }

      -- ---- what is printed

      copies_each : (place : ℕ) (fs : List (Following P)) (xs : List P) → AllZip (HasShown home state (state summed)) (map port_of fs) xs
          → EachAt (λ n f. HasFollowed (state summed).directory (state summed).journal n (state f.port) f.copy f.ends) place
          (together xs (map copy_of fs) (map ends_of fs))
          → EachAt (λ n copy. copy.copy.held ≡ select (followed_by n) (entries_after writes)) place (map copy_of fs)
      copies_each place [] xs shown_by have = tt
      copies_each place (f ∷ fs) [] shown_by have = absurd shown_by
      copies_each place (f ∷ fs) (x ∷ xs) shown_by have = (have.0.entries, copies_each (suc place) fs xs shown_by.1 have.1)

      its_entries : entries_of (state summed).directory ≡ entries_after writes
      its_entries = λ i. entries_of (record (state summed).directory { history = its_history i; writes = port_writes 1 many (state summed) summed_port i })
        where
          its_history : (state summed).directory.history ≡ history
          its_history =
              ap (λ (d : DirectoryState). d.history) summed_port.directory
              ∙ folded-history (fresh_directory suffix server history) (writes_in (state summed).journal)

      -- the text depends on the plan alone
      pub is_printed : copies ≡ map copy_of ups → text ≡ summary_of plan
      is_printed copies_are =
          printed (state seen) (state summed) copies text writes plan.consumers summary
          (summary.first.earlier.is
          ∙ ap (λ (d : DirectoryState). length d.writes) (sym same_directory)
          ∙ ap length (port_writes 1 many (state summed) summed_port))
          its_entries
          (ap length copies_are ∙ length-map ups copy_of ∙ up_count)
          (subst (EachAt (λ n copy. copy.copy.held ≡ select (followed_by n) (entries_after writes)) 0) (sym copies_are)
          (copies_each 0 ups consumers were_shown each))
          ∙ printed_alike plan writes in_range schedule
