-- What a drill leaves of its consumers, and that what is printed is of the plan alone.
use Rattle.std.proofs.Common.{◌≡◌, ◌≤◌, ◌<◌, ◌+◌, ◌-◌, ℕ, suc, List, [], ◌∷◌, ◌++◌, length, map, sym, ap, ◌∙◌, subst, arith, append_assoc, append-nil}
use Rattle.std.specs.List.{All, AllZip}
use Rattle.entry_tree.specs.Selection.{select}
use Rattle.entry_tree.specs.declared.op.Write.{Write}
use Rattle.directory_laws.specs.Accepted.{WereAccepted}
use Rattle.directory_laws.specs.Law.{most_identities}
use Rattle.directory_writes.specs.Directory.{entries_of}
use Rattle.sync_consumer.specs.Taking.{ConsumerState}
use Rattle.sync_provider.specs.Ports.{PortState, writes_in}
use Rattle.drill_plan.specs.Ending.{entries_after, followed_by, history, whole}
use Rattle.drill_plan.specs.Names.{suffix}
use Rattle.drill_plan.specs.Plain.{plain_of_each}
use Rattle.drill_plan.specs.Summary.{consumer_line, consumer_lines, summary_after, writes_line}
use Rattle.sync_drill.specs.declared.following.Following.{Following}
use Rattle.sync_drill.specs.Drilled.{EachAt, IsFreshPort}
use Rattle.sync_drill.specs.Followed.{HasFollowed, copy_of, ends_of, port_of, together}
use Rattle.sync_drill.specs.Following.{BeginsAt, FollowingGoes, HasWorked, IsBroughtUp, IsFollowing, IsSettled, MaySettle}
use Rattle.sync_drill.specs.Going.{IsDrillPort}
use Rattle.sync_drill.specs.Journals.{notes_of, operations_in}
use Rattle.sync_drill.specs.Summing.{IsSummary, copies_text}
use Rattle.sync_drill.proofs.Begun.{fresh_is}
use Rattle.sync_drill.proofs.ConsumerLeft.{has_followed}
use Rattle.sync_drill.proofs.Going.{port-goes}
use Rattle.sync_drill.proofs.JournalLeft.{HasShown}
use Rattle.sync_drill.proofs.Lists.{each-all, each-zip, each_holds}
use Rattle.sync_drill.proofs.NoMore.{ended_no_operations}
use Rattle.sync_drill.proofs.Rings.{one-ring}

-- ---- after the threads

module _ {P H : Type 0} (home : P → H) (state : P → PortState) (writers many : ℕ) (one : H) where
  one_worked : (place : ℕ) (port : P) (begun ended : Following P) → suc (writers + place) ≤ many → home port ≡ one
      → IsFreshPort (suc (writers + place)) many (state port) → BeginsAt home state port begun → IsFollowing state place begun
      → FollowingGoes home state begun ended → HasWorked home state writers many one place ended
  one_worked place port begun ended few its_home fresh begins follows goes = record {
    places = (goes.handing.consumer ∙ follows.places.0, goes.taking.consumer ∙ follows.places.1);
    ring =
        one-ring begun.handing.producer ended.handing.producer begun.taking.end ended.taking.end follows.ring goes.handing.ring goes.taking.ring;
    handing = goes.handing.handing;
    taking = goes.taking.copy;
    its_home = goes.handing.its_home ∙ begins.its_home ∙ its_home;
    port_is =
        port-goes (suc (writers + place)) many (state begun.handing.port) (state ended.handing.port)
        (port-goes (suc (writers + place)) many (state port) (state begun.handing.port)
        (fresh_is (suc (writers + place)) many (state port) fresh (omega arith) few) begins.goes_on) goes.handing.goes_on;
  }

  -- each consumer after its threads
  pub each_worked : (place : ℕ) (ports : List P) (begun ended : List (Following P)) → writers + place + length ports ≤ many
      → EachAt (λ n port. home port ≡ one) (writers + place) ports
      → EachAt (λ number port. IsFreshPort number many (state port)) (suc (writers + place)) ports
      → AllZip (BeginsAt home state) ports begun → EachAt (IsFollowing state) place begun → AllZip (FollowingGoes home state) begun ended
      → EachAt (HasWorked home state writers many one) place ended
  each_worked place [] [] [] few homes fresh begins follows goes = tt
  each_worked place [] [] (z ∷ ended) few homes fresh begins follows goes = absurd goes
  each_worked place [] (y ∷ begun) ended few homes fresh begins follows goes = absurd begins
  each_worked place (x ∷ ports) [] ended few homes fresh begins follows goes = absurd begins
  each_worked place (x ∷ ports) (y ∷ begun) [] few homes fresh begins follows goes = absurd goes
  each_worked place (x ∷ ports) (y ∷ begun) (z ∷ ended) few homes fresh begins follows goes =
      let next : suc (writers + place) ≡ writers + suc place = omega arith in (
        one_worked place x y z (omega (arith, few)) homes.0 fresh.0 begins.0 follows.0 goes.0,
        each_worked (suc place) ports begun ended (omega (arith, few))
            (subst (λ n. EachAt (λ n port. home port ≡ one) n ports) next homes.1)
            (subst (λ n. EachAt (λ number port. IsFreshPort number many (state port)) (suc n) ports) next fresh.1)
            begins.1 follows.1 goes.1,
      )

  -- each may be settled at a port of the same directory
  pub may_settle : (first : P) (followings : List (Following P)) → home first ≡ one → EachAt (HasWorked home state writers many one) 0 followings
      → All (MaySettle home state first) followings
  may_settle first followings is each =
      each-all (HasWorked home state writers many one) (MaySettle home state first) 0 followings
      (λ place f worked. record {
        consumers = worked.places.1 ∙ sym worked.places.0;
        ring = worked.ring;
        handing = worked.handing;
        taking = worked.taking;
        shared = omega (arith, worked.port_is.its_ports, worked.port_is.within.0, worked.port_is.within.1);
        its_home = worked.its_home ∙ sym is;
      }) each

  -- ---- brought up to what the first port had seen

  module _ (met : PortState) where
    -- a consumer that is brought up, by its port
    pub record IsUp (number consumer : ℕ) (f : Following P) : Type 0 where
      pub its_home : home f.handing.port ≡ one
      pub port_is : IsDrillPort number many (state f.handing.port)
      pub settled : IsSettled consumer met (state f.handing.port) f.taking.copy f.handing.producer f.taking.end
      pub before : IsDrillPort number many settled.upto

    -- each of them is
    pub each_up : (place : ℕ) (old new : List (Following P)) → EachAt (HasWorked home state writers many one) place old
        → AllZip (IsBroughtUp home state met) old new → EachAt (λ n f. IsUp (suc (writers + n)) n f) place new
    each_up place old new =
        each-zip (HasWorked home state writers many one) (IsBroughtUp home state met) (λ n f. IsUp (suc (writers + n)) n f) place old new
        (λ n x y worked up. subst (λ consumer. IsUp (suc (writers + n)) consumer y) worked.places.0
        (record {
          its_home = up.its_home ∙ worked.its_home;
          port_is = port-goes (suc (writers + n)) many (state x.handing.port) (state y.handing.port) worked.port_is up.goes_on;
          settled = up.settled;
          before = port-goes (suc (writers + n)) many (state x.handing.port) up.settled.upto worked.port_is up.before;
        }))

    -- ---- by what the first port has seen in the end

    module _ (seen : PortState) where
      -- consumers wrote nothing
      silent_each : (place : ℕ) (ups : List (Following P)) (new : List P) → EachAt (λ n f. IsUp (suc (writers + n)) n f) place ups
          → AllZip (HasShown home state seen) (map port_of ups) new
          → EachAt (λ n f. operations_in (notes_of (suc (writers + n)) seen.journal) ≡ []) place ups
      silent_each place [] new each shown = tt
      silent_each place (f ∷ ups) [] each shown = absurd shown
      silent_each place (f ∷ ups) (x ∷ new) each shown = (
        ap (λ n. operations_in (notes_of n seen.journal)) (sym each.0.port_is.its_number)
            ∙ ap operations_in shown.0.own
            ∙ ap operations_in each.0.settled.resting.own
            ∙ ended_no_operations each.0.settled.resting.searches,
        silent_each (suc place) ups new each.1 shown.1,
      )

      -- so no port after those of the writers wrote
      pub silent : (ups : List (Following P)) (new : List P) → EachAt (λ n f. IsUp (suc (writers + n)) n f) 0 ups
          → AllZip (HasShown home state seen) (map port_of ups) new → writers + length ups ≡ many
          → (k : ℕ) → writers < k → k ≤ many → operations_in (notes_of k seen.journal) ≡ []
      silent ups new each shown count k low high =
          let place : ℕ = k - suc writers in
          let same : suc (writers + (0 + place)) ≡ k = omega (arith, low) in
          let within : place < length ups = omega (arith, low, high, count) in
          subst (λ n. operations_in (notes_of n seen.journal) ≡ []) same
          (each_holds (λ n. operations_in (notes_of (suc (writers + n)) seen.journal) ≡ []) 0 ups (silent_each 0 ups new each shown) place within)

      -- what each of them followed
      module _ (first : IsDrillPort 1 many seen) (accepted : WereAccepted suffix history (writes_in seen.journal))
          (few : length (writes_in seen.journal) ≤ most_identities)
          (still : (k : ℕ) → 1 ≤ k → k ≤ writers → notes_of k seen.journal ≡ notes_of k met.journal)
          (none : (k : ℕ) → writers < k → k ≤ many → operations_in (notes_of k seen.journal) ≡ []) where
        -- each followed all writes
        pub each_followed : (place : ℕ) (ups : List (Following P)) (new : List P) → EachAt (λ n f. IsUp (suc (writers + n)) n f) place ups
            → AllZip (HasShown home state seen) (map port_of ups) new
            → EachAt (λ n f. HasFollowed seen.directory seen.journal n (state f.port) f.copy f.ends) place
            (together new (map copy_of ups) (map ends_of ups))
        each_followed place [] [] each shown = tt
        each_followed place [] (x ∷ new) each shown = absurd shown
        each_followed place (f ∷ ups) [] each shown = absurd shown
        each_followed place (f ∷ ups) (x ∷ new) each shown = (
          has_followed writers many met seen first accepted few still none (suc (writers + place)) place (state f.handing.port) (state x)
              f.taking.copy f.handing.producer f.taking.end each.0.settled each.0.port_is each.0.before shown.0.begins shown.0.own shown.0.meets,
          each_followed (suc place) ups new each.1 shown.1,
        )

-- ---- what is printed

lines_of : (writes : List Write) (place : ℕ) (copies : List ConsumerState)
    → EachAt (λ n copy. copy.copy.held ≡ select (followed_by n) (entries_after writes)) place copies
    → consumer_lines writes place ++ copies_text place copies ≡ consumer_lines writes (place + length copies)
lines_of writes place [] each =
    let same : place ≡ place + 0 = omega arith in append-nil (consumer_lines writes place) ∙ ap (consumer_lines writes) same
lines_of writes place (copy ∷ copies) each =
    let same : suc place + length copies ≡ place + suc (length copies) = omega arith in
    sym (append_assoc (consumer_lines writes place) (consumer_line place (plain_of_each copy.copy.held)) (copies_text (suc place) copies))
    ∙ ap (λ entries. (consumer_lines writes place ++ consumer_line place (plain_of_each entries)) ++ copies_text (suc place) copies) each.0
    ∙ lines_of writes (suc place) copies each.1
    ∙ ap (consumer_lines writes) same

-- where a port knows these writes, and each copy has what its consumer follows
pub printed : (old seen : PortState) (copies : List ConsumerState) (text : List ℕ) (writes : List Write) (consumers : ℕ)
    → (summary : IsSummary old seen copies text) → summary.first.count ≡ length writes → entries_of seen.directory ≡ entries_after writes
    → length copies ≡ consumers → EachAt (λ n copy. copy.copy.held ≡ select (followed_by n) (entries_after writes)) 0 copies
    → text ≡ summary_after consumers writes
printed old seen copies text writes consumers summary count entries many each =
    let same : 0 + length copies ≡ consumers = omega (arith, many) in
    summary.is
    ∙ ap (λ line. line ++ copies_text 0 copies)
    (summary.first.is ∙ (λ i. writes_line (count i) (plain_of_each (select whole (entries i)))))
    ∙ ap (λ lines. writes_line (length writes) (plain_of_each (select whole (entries_after writes))) ++ lines)
    (lines_of writes 0 copies each ∙ ap (consumer_lines writes) same)
