-- The journal that the first port has seen in the end.
use Rattle.std.proofs.Common.{◌≡◌, ◌≤◌, ◌<◌, ◌+◌, ℕ, zero, suc, List, [], ◌∷◌, ◌++◌, length, fold, refl, sym, ap, ◌∙◌, subst, arith, append_assoc, append-nil}
use Rattle.std.specs.List.{All, AllZip}
use Rattle.std.proofs.lemmas.List.Elements.{All-weaker}
use Rattle.std.proofs.lemmas.Slice.Zip.{AllZip-long}
use Rattle.entry_tree.specs.declared.op.Write.{Write}
use Rattle.directory_writes.specs.Directory.{AreAccepted, DirectoryState, fresh_directory, with_write}
use Rattle.sync_provider.specs.Ports.{HasMet, HasSeenAllOf, Journal, PortState, writes_in}
use Rattle.drill_plan.specs.declared.plan.DrillPlan.{DrillPlan}
use Rattle.drill_plan.specs.Ending.{IsSchedule, history, server}
use Rattle.drill_plan.specs.Names.{suffix}
use Rattle.drill_plan.specs.Schedule.{operations_by}
use Rattle.sync_drill.specs.Drilled.{EachAt, HaveDrilled, HaveWritten, done_by}
use Rattle.sync_drill.specs.Going.{HasMetThis, IsDrillPort, OthersCameIn, WasSeen}
use Rattle.sync_drill.specs.Journals.{AreWrites, OpenedNone, notes_of, operations_in, own_operations}
use Rattle.sync_drill.specs.Writers.{HasFinished}
use Rattle.sync_drill.proofs.Going.{port-goes}
use Rattle.sync_drill.proofs.Lists.{each-all, each-weaker, each-zip, each_holds}
use Rattle.sync_drill.proofs.Meetings.{begins-on, came-twice}
use Rattle.sync_drill.proofs.Notes.{between, met-own, noted_all-number}
use Rattle.sync_drill.proofs.Schedules.{are_of, numbered, same_operations, same_writes, schedule_of}

-- ---- a directory after writes

folded-writes : (d : DirectoryState) (writes : List Write) → (fold with_write d writes).writes ≡ d.writes ++ writes
folded-writes d [] = sym (append-nil d.writes)
folded-writes d (write ∷ writes) = folded-writes (with_write d write) writes ∙ append_assoc d.writes (write ∷ []) writes

-- writes leave the suffix
pub folded-suffix : (d : DirectoryState) (writes : List Write) → (fold with_write d writes).suffix ≡ d.suffix
folded-suffix d [] = refl
folded-suffix d (write ∷ writes) = folded-suffix (with_write d write) writes

-- and the history
pub folded-history : (d : DirectoryState) (writes : List Write) → (fold with_write d writes).history ≡ d.history
folded-history d [] = refl
folded-history d (write ∷ writes) = folded-history (with_write d write) writes

-- the writes of a drill's port are those of its journal
pub port_writes : (number ports : ℕ) (p : PortState) → IsDrillPort number ports p → p.directory.writes ≡ writes_in p.journal
port_writes number ports p is =
    ap (λ (d : DirectoryState). d.writes) is.directory
    ∙ folded-writes (fresh_directory suffix server history) (writes_in p.journal)

-- they were accepted
pub port_accepted : (number ports : ℕ) (p : PortState) → IsDrillPort number ports p
    → AreAccepted p.directory.suffix p.directory.history p.directory.writes → AreAccepted suffix history (writes_in p.journal)
port_accepted number ports p is accepted =
    let one : p.directory.suffix ≡ suffix =
    ap (λ (d : DirectoryState). d.suffix) is.directory ∙ folded-suffix (fresh_directory suffix server history) (writes_in p.journal) in
    let two : p.directory.history ≡ history =
    ap (λ (d : DirectoryState). d.history) is.directory ∙ folded-history (fresh_directory suffix server history) (writes_in p.journal) in
    subst (λ s. AreAccepted s history (writes_in p.journal)) one
    (subst (λ h. AreAccepted p.directory.suffix h (writes_in p.journal)) two
    (subst (AreAccepted p.directory.suffix p.directory.history) (port_writes number ports p is) accepted))

-- ---- the writers

-- the operations of a writer in a journal, without any search, and the number of its port
record HasLeft (plan : DrillPlan) (journal : Journal) (writer : ℕ) (p : PortState) : Type 0 where
  pub number : p.number ≡ suc writer
  pub no_search : AreWrites (notes_of (suc writer) journal)
  pub operations : operations_in (notes_of (suc writer) journal) ≡ done_by plan writer

written_so : (plan : DrillPlan) (journal : Journal) (writer : ℕ) (p : PortState) → HasLeft plan journal writer p
    → operations_in (notes_of p.number journal) ≡ done_by plan writer
written_so plan journal writer p left =
    ap (λ n. operations_in (notes_of n journal)) left.number ∙ left.operations

module _ {P H : Type 0} (home : P → H) (state : P → PortState) where
  -- a port that was met, and met the first one in its turn
  pub record HasShown (seen : PortState) (old new : P) : Type 0 where
    pub its_number : (state new).number ≡ (state old).number
    pub own : notes_of (state old).number seen.journal ≡ notes_of (state old).number (state old).journal
    pub begins : HasSeenAllOf seen (state old)
    pub meets : HasMet (state old) seen (state new)

  shown : (met seen : PortState) (old mid new : P) → OthersCameIn met seen → WasSeen home state met old mid
      → HasMetThis home state seen mid new → HasShown seen old new
  shown met seen old mid new came was_seen has_met =
      let same : state mid ≡ state old = was_seen.same.its_state in
      let begins : HasSeenAllOf seen (state old) = begins-on (state old) met seen was_seen.begins came.goes_on in
      let meets : HasMet (state old) seen (state new) = subst (λ p. HasMet p seen (state new)) same has_met.met in
      record {
        its_number = ap (λ (p : PortState). p.number) meets.later.is ∙ noted_all-number (state old) meets.later.entries;
        own = met-own (state old) seen (state new) begins.more begins.begins meets;
        begins = begins;
        meets = meets;
      }

  -- so has each of those that were met, and met it in its turn
  pub all_shown : (met seen : PortState) (old mid new : List P) → OthersCameIn met seen → AllZip (WasSeen home state met) old mid
      → AllZip (HasMetThis home state seen) mid new → AllZip (HasShown seen) old new
  all_shown met seen [] [] [] came was_seen has_met = tt
  all_shown met seen [] [] (z ∷ new) came was_seen has_met = absurd has_met
  all_shown met seen [] (y ∷ mid) new came was_seen has_met = absurd was_seen
  all_shown met seen (x ∷ old) [] new came was_seen has_met = absurd was_seen
  all_shown met seen (x ∷ old) (y ∷ mid) [] came was_seen has_met = absurd has_met
  all_shown met seen (x ∷ old) (y ∷ mid) (z ∷ new) came was_seen has_met =
      (shown met seen x y z came was_seen.0 has_met.0, all_shown met seen old mid new came was_seen.1 has_met.1)

module _ {P H : Type 0} (home : P → H) (state : P → PortState) (plan : DrillPlan) (many : ℕ) (one : H) where
  -- what is left of it
  left_by : (seen : PortState) (writer : ℕ) (old new : P) → HasFinished home state plan many one writer old → HasShown home state seen old new
      → HasLeft plan seen.journal writer (state new)
  left_by seen writer old new finished has_shown =
      let number : (state old).number ≡ suc writer = finished.port_is.its_number in record {
        number = has_shown.its_number ∙ number;
        no_search = subst (λ n. AreWrites (notes_of n seen.journal)) number (subst AreWrites (sym has_shown.own) finished.no_search);
        operations = ap (λ n. operations_in (notes_of n seen.journal)) (sym number)
            ∙ ap operations_in has_shown.own
            ∙ finished.written;
      }

  -- those that were met are as they were
  pub still_finished : (met : PortState) (place : ℕ) (old mid : List P) → EachAt (HasFinished home state plan many one) place old
      → AllZip (WasSeen home state met) old mid → EachAt (HasFinished home state plan many one) place mid
  still_finished met place old mid =
      each-zip (HasFinished home state plan many one) (WasSeen home state met) (HasFinished home state plan many one) place old mid
      (λ writer x y finished was_seen. record {
        its_home = was_seen.same.its_home ∙ finished.its_home;
        port_is = subst (IsDrillPort (suc writer) many) (sym was_seen.same.its_state) finished.port_is;
        no_search = subst OpenedNone (sym was_seen.same.its_state) finished.no_search;
        written = ap own_operations was_seen.same.its_state ∙ finished.written;
      })

  -- their directory has ports, and is one
  pub have_ports : (place : ℕ) (ports : List P) → 1 ≤ many → EachAt (HasFinished home state plan many one) place ports
      → All (λ port. 0 < (state port).ports) ports
  have_ports place ports some =
      each-all (HasFinished home state plan many one) (λ port. 0 < (state port).ports) place ports
      (λ writer port finished. omega (arith, some, finished.port_is.its_ports))

  -- they are of the directory of one of them
  pub have_home : (place : ℕ) (ports : List P) (port : P) → home port ≡ one → EachAt (HasFinished home state plan many one) place ports
      → All (λ other. home other ≡ home port) ports
  have_home place ports port is =
      each-all (HasFinished home state plan many one) (λ other. home other ≡ home port) place ports
      (λ writer other finished. finished.its_home ∙ sym is)

  -- ---- all of it

  module _ (first last : P) (met seen : PortState) (old mid new : List P) (finished : EachAt (HasFinished home state plan many one) 0 (first ∷ old))
      (count : length (first ∷ old) ≡ plan.writers) (some : 1 ≤ plan.writers)
      (came : OthersCameIn (state first) met) (further : OthersCameIn met seen)
      (was_seen : AllZip (WasSeen home state met) old mid) (has_met : AllZip (HasMetThis home state seen) mid new) (same : state last ≡ seen) where
    came_in : OthersCameIn (state first) seen
    came_in = came-twice (state first) met seen came further

    -- the first port is one of a drill still
    pub first_port : IsDrillPort 1 many seen
    first_port = port-goes 1 many (state first) seen finished.0.port_is came_in.goes_on

    -- the first one's
    first_left : HasLeft plan seen.journal 0 seen
    first_left = record {
      number = first_port.its_number;
      no_search =
          subst (λ n. AreWrites (notes_of n seen.journal)) first_port.its_number (subst AreWrites (sym came_in.own) finished.0.no_search);
      operations = ap (λ n. operations_in (notes_of n seen.journal)) (sym first_port.its_number)
          ∙ ap operations_in came_in.own
          ∙ finished.0.written;
    }

    all_left : EachAt (λ writer port. HasLeft plan seen.journal writer (state port)) 0 (last ∷ new)
    all_left = (
      subst (HasLeft plan seen.journal 0) (sym same) first_left,
      each-zip (HasFinished home state plan many one) (HasShown home state seen) (λ writer port. HasLeft plan seen.journal writer (state port)) 1 old new
          (left_by seen) finished.1 (all_shown home state met seen old mid new further was_seen has_met),
    )

    as_many : length (last ∷ new) ≡ plan.writers
    as_many = ap suc (AllZip-long (HasShown home state seen) old new (all_shown home state met seen old mid new further was_seen has_met)) ∙ count

    each_done : (writer : ℕ) → writer < plan.writers → operations_by writer (numbered seen.journal) ≡ done_by plan writer
    each_done writer low =
        let same_place : 0 + writer ≡ writer = omega arith in
        same_operations writer seen.journal
        (All-weaker (λ e. (1 ≤ e.1) × (e.1 ≤ many)) (λ e. 1 ≤ e.1) (λ e is. is.0) seen.journal first_port.by)
        ∙ subst (λ w. operations_in (notes_of (suc w) seen.journal) ≡ done_by plan w) same_place
        (each_holds (λ w. operations_in (notes_of (suc w) seen.journal) ≡ done_by plan w) 0 (last ∷ new)
        (each-weaker (λ w port. HasLeft plan seen.journal w (state port)) (λ w port. operations_in (notes_of (suc w) seen.journal) ≡ done_by plan w) 0 (last ∷ new)
        (λ w port left. left.operations) all_left)
        writer (omega (arith, low, as_many)))

    -- the writers added nothing since the first port met them
    shown_others : AllZip (HasShown home state seen) old new
    shown_others = all_shown home state met seen old mid new further was_seen has_met

    since_met : (writer : ℕ) (port : P) → HasFinished home state plan many one writer port → HasSeenAllOf met (state port)
        → notes_of (suc writer) seen.journal ≡ notes_of (suc writer) (state port).journal → notes_of (suc writer) seen.journal ≡ notes_of (suc writer) met.journal
    since_met writer port is begins own =
        let whole : notes_of (suc writer) (((state port).journal ++ begins.more) ++ further.goes_on.entries) ≡ notes_of (suc writer) (state port).journal =
        ap (λ journal. notes_of (suc writer) (journal ++ further.goes_on.entries)) (sym begins.begins)
        ∙ ap (notes_of (suc writer)) (sym further.goes_on.journal)
        ∙ own in
        own
        ∙ sym (ap (notes_of (suc writer)) begins.begins ∙ between (suc writer) (state port).journal begins.more further.goes_on.entries whole)

    others_still : (place : ℕ) (olds mids news : List P) → EachAt (HasFinished home state plan many one) place olds → AllZip (WasSeen home state met) olds mids
        → AllZip (HasShown home state seen) olds news → EachAt (λ writer port. notes_of (suc writer) seen.journal ≡ notes_of (suc writer) met.journal) place olds
    others_still place [] mids news each seen_by shown_by = tt
    others_still place (x ∷ olds) [] news each seen_by shown_by = absurd seen_by
    others_still place (x ∷ olds) (y ∷ mids) [] each seen_by shown_by = absurd shown_by
    others_still place (x ∷ olds) (y ∷ mids) (z ∷ news) each seen_by shown_by = (
      since_met place x each.0 seen_by.0.begins
          (subst (λ n. notes_of n seen.journal ≡ notes_of n (state x).journal) each.0.port_is.its_number shown_by.0.own),
      others_still (suc place) olds mids news each.1 seen_by.1 shown_by.1,
    )

    first_still : notes_of 1 seen.journal ≡ notes_of 1 met.journal
    first_still =
        ap (λ n. notes_of n seen.journal) (sym first_port.its_number)
        ∙ further.own
        ∙ ap (λ n. notes_of n met.journal) (sym further.goes_on.number ∙ first_port.its_number)

    -- no writer added anything since
    pub writers_still : (k : ℕ) → 1 ≤ k → k ≤ plan.writers → notes_of k seen.journal ≡ notes_of k met.journal
    writers_still zero some low = absurd (omega (arith, some))
    writers_still (suc k) some low =
        let here : 0 + k ≡ k = omega arith in
        subst (λ n. notes_of (suc n) seen.journal ≡ notes_of (suc n) met.journal) here
        (each_holds (λ n. notes_of (suc n) seen.journal ≡ notes_of (suc n) met.journal) 0 (first ∷ old)
        (first_still, others_still 1 old mid new finished.1 was_seen shown_others) k (omega (arith, low, count)))

    -- by the writes that were accepted, where the other ports wrote nothing
    module _ (accepted : AreAccepted seen.directory.suffix seen.directory.history seen.directory.writes)
        (silent : (k : ℕ) → plan.writers < k → k ≤ many → operations_in (notes_of k seen.journal) ≡ []) where
      -- the writes are a schedule of the plan
      pub scheduled : IsSchedule plan (writes_in seen.journal)
      scheduled =
          schedule_of plan (writes_in seen.journal) (port_accepted 1 many seen first_port accepted)
          (numbered seen.journal) (sym (same_writes seen.journal)) (are_of plan.writers many seen.journal first_port.by silent) some each_done

      -- so the ports leave what a drill leaves
      pub drilled : HaveDrilled state plan last new
      drilled = record {
        count = as_many;
        written = subst (λ (p : PortState). HaveWritten state plan p.journal (last ∷ new)) (sym same)
            (each-weaker (λ w port. HasLeft plan seen.journal w (state port))
            (λ w port. operations_in (notes_of (state port).number seen.journal) ≡ done_by plan w) 0 (last ∷ new)
            (λ w port left. written_so plan seen.journal w (state port) left) all_left);
        no_search = subst (λ (p : PortState). EachAt (λ w port. AreWrites (notes_of (state port).number p.journal)) 0 (last ∷ new)) (sym same)
            (each-weaker (λ w port. HasLeft plan seen.journal w (state port)) (λ w port. AreWrites (notes_of (state port).number seen.journal)) 0
            (last ∷ new) (λ w port left. subst (λ n. AreWrites (notes_of n seen.journal)) (sym left.number) left.no_search) all_left);
        schedule = subst (λ (p : PortState). IsSchedule plan (writes_in p.journal)) (sym same) scheduled;
        directory = subst (λ (p : PortState). p.directory.writes ≡ writes_in p.journal) (sym same) (port_writes 1 many seen first_port);
      }
