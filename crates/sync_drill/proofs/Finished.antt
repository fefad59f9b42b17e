-- The ports of a drill after its threads.
use Rattle.std.proofs.Common.{◌≡◌, ◌≤◌, ◌+◌, ℕ, zero, suc, List, [], ◌∷◌, ◌++◌, length, refl, sym, ap, ◌∙◌, subst, arith, append-nil}
use Rattle.std.specs.List.{All, AllZip}
use Rattle.std.proofs.lemmas.List.Elements.{All-cons, All-nil}
use Rattle.sync_provider.specs.Ports.{PortState}
use Rattle.drill_plan.specs.declared.plan.DrillPlan.{DrillPlan}
use Rattle.drill_plan.specs.Operations.{writer_operations}
use Rattle.sync_drill.specs.Drilled.{EachAt, done_by}
use Rattle.sync_drill.specs.Going.{IsDrillPort}
use Rattle.sync_drill.specs.Journals.{OpenedNone, own_operations}
use Rattle.sync_drill.specs.Writers.{HasBegun, HasEnded, HasFinished, MayWrite, WriterGoes, begun, first_writing, planned, writings_from}
use Rattle.sync_drill.specs.declared.writing.Writing.{Writing}
use Rattle.sync_drill.proofs.Going.{port-goes}

-- ---- the writers

-- one more of them
pub writings-push : {P : Type 0} (plan : DrillPlan) (place : ℕ) (ports : List P) (port : P)
    → writings_from plan place (ports ++ port ∷ []) ≡ writings_from plan place ports ++ first_writing plan (place + length ports) port ∷ []
writings-push plan place [] port = let same : place ≡ place + 0 = omega arith in ap (λ n. first_writing plan n port ∷ []) same
writings-push plan place (first ∷ ports) port =
    let same : suc place + length ports ≡ place + suc (length ports) = omega arith in
    ap (λ writings. first_writing plan place first ∷ writings)
    (writings-push plan (suc place) ports port
    ∙ ap (λ n. writings_from plan (suc place) ports ++ first_writing plan n port ∷ []) same)

-- each of them may write
pub may_write : {P : Type 0} (plan : DrillPlan) (place : ℕ) (ports : List P) → place + length ports ≤ 8 → plan.size ≤ 2000
    → All MayWrite (writings_from plan place ports)
may_write plan place [] few small = All-nil MayWrite
may_write plan place (port ∷ ports) few small =
    All-cons MayWrite (first_writing plan place port) (writings_from plan (suc place) ports)
    (omega (arith, few), omega (arith, small))
    (may_write plan (suc place) ports (omega (arith, few)) small)

-- ---- their ports

done_is : (plan : DrillPlan) (writer : ℕ) → begun writer ++ writer_operations plan writer ≡ done_by plan writer
done_is plan zero = refl
done_is plan (suc writer) = refl

module _ {P H : Type 0} (home : P → H) (state : P → PortState) (plan : DrillPlan) (many : ℕ) (one : H) where
  finished : (place : ℕ) (port after : P) (w : Writing P) → HasBegun home state plan many one place port
      → WriterGoes home state (first_writing plan place port) w → HasEnded w after → HasFinished home state plan many one place after
  finished place port after w begins goes ended = record {
    its_home = ap home ended.its_port ∙ goes.its_home ∙ begins.its_home;
    port_is =
        subst (λ p. IsDrillPort (suc place) many (state p)) (sym ended.its_port)
        (port-goes (suc place) many (state port) (state w.port) begins.port_is goes.goes_on);
    no_search = subst (λ p. OpenedNone (state p)) (sym ended.its_port) (goes.no_search begins.no_search);
    written =
        ap (λ p. own_operations (state p)) ended.its_port
        ∙ sym (append-nil (own_operations (state w.port)))
        ∙ ap (λ needs. own_operations (state w.port) ++ planned needs 0 w.writer) (sym ended.unit)
        ∙ ap (λ n. own_operations (state w.port) ++ planned w.needs_unit n w.writer) (sym ended.none_left)
        ∙ goes.written
        ∙ ap (λ ops. ops ++ writer_operations plan place) begins.written
        ∙ done_is plan place;
  }

  -- each port that begins, writes and ends is one that has finished
  pub each_finished : (place : ℕ) (ports after : List P) (writings : List (Writing P)) → EachAt (HasBegun home state plan many one) place ports
      → AllZip (WriterGoes home state) (writings_from plan place ports) writings → AllZip HasEnded writings after
      → EachAt (HasFinished home state plan many one) place after
  each_finished place [] [] [] begins goes ended = tt
  each_finished place [] (p ∷ after) [] begins goes ended = absurd ended
  each_finished place [] after (w ∷ writings) begins goes ended = absurd goes
  each_finished place (port ∷ ports) after [] begins goes ended = absurd goes
  each_finished place (port ∷ ports) [] (w ∷ writings) begins goes ended = absurd ended
  each_finished place (port ∷ ports) (p ∷ after) (w ∷ writings) begins goes ended =
      (finished place port p w begins.0 goes.0 ended.0, each_finished (suc place) ports after writings begins.1 goes.1 ended.1)

  -- as many as there were
  pub finished_count : (place : ℕ) (ports after : List P) (writings : List (Writing P)) → AllZip (WriterGoes home state) (writings_from plan place ports) writings
      → AllZip HasEnded writings after → length after ≡ length ports
  finished_count place [] [] [] goes ended = refl
  finished_count place [] (p ∷ after) [] goes ended = absurd ended
  finished_count place [] after (w ∷ writings) goes ended = absurd goes
  finished_count place (port ∷ ports) after [] goes ended = absurd goes
  finished_count place (port ∷ ports) [] (w ∷ writings) goes ended = absurd ended
  finished_count place (port ∷ ports) (p ∷ after) (w ∷ writings) goes ended =
      ap suc (finished_count (suc place) ports after writings goes.1 ended.1)
