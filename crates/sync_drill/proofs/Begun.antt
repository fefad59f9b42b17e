-- The ports of a drill before its threads.
use Rattle.std.proofs.Common.{◌≡◌, ℕ, zero, suc, ◌+◌, ◌≤◌, List, [], ◌∷◌, ◌++◌, length, fold, refl, sym, ap, ◌∙◌, subst, arith}
use Rattle.std.specs.List.{All}
use Rattle.std.proofs.lemmas.List.Elements.{All-nil}
use Rattle.directory_writes.specs.Directory.{fresh_directory, with_write}
use Rattle.sync_provider.specs.Ports.{PortState, writes_in}
use Rattle.drill_plan.specs.declared.plan.DrillPlan.{DrillPlan}
use Rattle.drill_plan.specs.Ending.{history, server}
use Rattle.drill_plan.specs.Names.{suffix}
use Rattle.drill_plan.specs.Operations.{add_suffix}
use Rattle.sync_drill.specs.Drilled.{EachAt, IsFreshPort}
use Rattle.sync_drill.specs.Going.{IsDrillPort}
use Rattle.sync_drill.specs.Journals.{AreWrites, OpenedNone, notes_of, operations_in, own_operations}
use Rattle.sync_drill.specs.Writers.{AreBegunFrom, HasBegun, begun}
use Rattle.sync_drill.proofs.Going.{port-goes}

-- a port of a new directory is one of a drill
pub fresh_is : (number ports : ℕ) (p : PortState) → IsFreshPort number ports p → 1 ≤ number → number ≤ ports → IsDrillPort number ports p
fresh_is number ports p fresh some low = record {
  its_number = fresh.its_number;
  its_ports = fresh.its_ports;
  within = (some, low);
  kind = fresh.kind;
  directory = fresh.directory
      ∙ ap (λ journal. fold with_write (fresh_directory suffix server history) (writes_in journal)) (sym fresh.journal);
  by = subst (All (λ e. (1 ≤ e.1) × (e.1 ≤ ports))) (sym fresh.journal) (All-nil (λ e. (1 ≤ e.1) × (e.1 ≤ ports)));
}

no_operations : (number ports : ℕ) (p : PortState) → IsFreshPort number ports p → own_operations p ≡ []
no_operations number ports p fresh = ap (λ journal. operations_in (notes_of p.number journal)) fresh.journal

opened_none : (number ports : ℕ) (p : PortState) → IsFreshPort number ports p → OpenedNone p
opened_none number ports p fresh = subst AreWrites (sym (ap (notes_of p.number) fresh.journal)) tt

begun_later : (writer : ℕ) → 1 ≤ writer → begun writer ≡ []
begun_later zero some = absurd (omega (arith, some))
begun_later (suc writer) some = refl

module _ {P H : Type 0} (home : P → H) (state : P → PortState) (plan : DrillPlan) (many : ℕ) (one : H) where
  each_begun : (place : ℕ) (ports : List P) → 1 ≤ place → place + length ports ≤ many
      → EachAt (λ place port. home port ≡ one) place ports
      → EachAt (λ number port. IsFreshPort number many (state port)) (suc place) ports
      → EachAt (HasBegun home state plan many one) place ports
  each_begun place [] some few homes states = tt
  each_begun place (port ∷ ports) some few homes states = (
    record {
      its_home = homes.0;
      port_is = fresh_is (suc place) many (state port) states.0 (omega arith) (omega (arith, few));
      no_search = opened_none (suc place) many (state port) states.0;
      written = no_operations (suc place) many (state port) states.0 ∙ sym (begun_later place some);
    },
    each_begun (suc place) ports (omega arith) (omega (arith, few)) homes.1 states.1,
  )

  -- all of them
  pub all_begun : (first : P) (others ports : List P) → length (first ∷ others) ≤ many → EachAt (λ place port. home port ≡ one) 0 (first ∷ others)
      → EachAt (λ number port. IsFreshPort number many (state port)) 1 (first ∷ others) → AreBegunFrom home state first others ports
      → EachAt (HasBegun home state plan many one) 0 ports
  all_begun first others ports few homes states began =
      subst (EachAt (HasBegun home state plan many one) 0) (sym began.are) (
        record {
          its_home = began.its_home ∙ homes.0;
          port_is =
              port-goes 1 many (state first) (state began.writing)
              (fresh_is 1 many (state first) states.0 (omega arith) (omega (arith, few))) began.goes_on;
          no_search = began.no_search (opened_none 1 many (state first) states.0);
          written = began.written ∙ ap (λ ops. ops ++ add_suffix ∷ []) (no_operations 1 many (state first) states.0);
        },
        each_begun 1 others (omega arith) (omega (arith, few)) homes.1 states.1,
      )
