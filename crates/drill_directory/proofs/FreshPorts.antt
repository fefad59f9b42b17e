-- The ports of the passes with which a directory is made have had no write.
use Rattle.std.proofs.Common.{◌≡◌, ◌≤◌, ◌+◌, ℕ, suc, List, [], ◌∷◌, ◌++◌, length, take, drop, take-append-drop, length-take-le, length-drop, refl, sym, ap, ◌∙◌, subst, arith}
use Rattle.std.specs.List.{AllZip}
use Rattle.atomic_table.specs.Seated.{TableId}
use Rattle.turn_cell.specs.declared.pass.Pass.{Pass}
use Rattle.sync_provider.specs.Journal.{JournalledProvider, fresh_port, port_state}
use Rattle.sync_provider.specs.Ports.{PortState}
use Rattle.sync_provider.specs.declared.journal_note.JournalNote.{JournalNote}
use Rattle.sync_provider.specs.declared.provider.Kind.TheVariants.{Root}
use Rattle.shared_directory.specs.Desks.{NumberedState, HeldState}
use Rattle.shared_directory.specs.Passes.{AreFirst, IsPassOf, directory_id, first_port}
use Rattle.shared_directory.specs.declared.directory.SharedDirectory.{SharedDirectory}
use Rattle.drill_plan.specs.Ending.{history, server}
use Rattle.drill_plan.specs.Names.{suffix}
use Rattle.sync_drill.specs.Drilled.{AreFresh, EachAt, IsFreshPort}
use Rattle.drill_directory.specs.Ports.{AreNew, IsPortOf}

-- one of them is a pass of the directory
pub pass_at : {g : _} (cell : TableId) (count : ℕ) (v : JournalledProvider) (number : ℕ) (given left : List (Pass HeldState JournalNote NumberedState g))
    (pass : Pass HeldState JournalNote NumberedState g) → AreFirst cell count v number (given ++ pass ∷ left) → IsPassOf cell pass
pass_at cell count v number [] left pass first = first.0
pass_at cell count v number (other ∷ given) left pass first = pass_at cell count v (suc number) given left pass first.2

its_port : (number count : ℕ) (v : JournalledProvider) (p : PortState) → port_state v ≡ fresh_port suffix server history Root
    → p ≡ first_port number count v → IsFreshPort number count p
its_port number count v p fresh is =
    subst (IsFreshPort number count) (sym is) (record {
      its_number = refl;
      its_ports = refl;
      kind = ap (λ (s : PortState). s.kind) fresh;
      directory = ap (λ (s : PortState). s.directory) fresh;
      journal = ap (λ (s : PortState). s.journal) fresh;
      followed = λ n. refl;
    })

module _ {P : Type 0} {g : _} (home : P → SharedDirectory) (state : P → PortState) (directory : SharedDirectory) where
  homes : (place : ℕ) (passes : List (Pass HeldState JournalNote NumberedState g)) (ports : List P)
      → AllZip (IsPortOf home state directory) passes ports → EachAt (λ place port. home port ≡ directory) place ports
  homes place [] [] all = tt
  homes place [] (port ∷ ports) all = absurd all
  homes place (pass ∷ passes) [] all = absurd all
  homes place (pass ∷ passes) (port ∷ ports) all = (all.0.0, homes (suc place) passes ports all.1)

  states : (count number : ℕ) (v : JournalledProvider) (passes : List (Pass HeldState JournalNote NumberedState g)) (ports : List P)
      → port_state v ≡ fresh_port suffix server history Root → AreFirst (directory_id directory) count v number passes
      → AllZip (IsPortOf home state directory) passes ports → EachAt (λ number port. IsFreshPort number count (state port)) number ports
  states count number v [] [] fresh first all = tt
  states count number v [] (port ∷ ports) fresh first all = absurd all
  states count number v (pass ∷ passes) [] fresh first all = absurd all
  states count number v (pass ∷ passes) (port ∷ ports) fresh first all =
      (its_port number count v (state port) fresh (all.0.1 ∙ first.1), states count (suc number) v passes ports fresh first.2 all.1)

  -- they are those of the directory, in the order of their numbers
  pub all_fresh : (passes : List (Pass HeldState JournalNote NumberedState g)) (ports : List P) → length ports ≡ length passes → AreNew directory (length passes) passes
      → AllZip (IsPortOf home state directory) passes ports → AreFresh home state ports
  all_fresh passes ports many new all =
      let first = subst (λ (n : ℕ). AreFirst (directory_id directory) n new.0 1 passes) (sym many) new.2 in
      record {
        one_home = directory;
        homes = homes 0 passes ports all;
        states = states (length ports) 1 new.0 passes ports new.1 first all;
      }

-- so they are where they are parted
pub parted_fresh : {P H : Type 0} (home : P → H) (state : P → PortState) (count : ℕ) (ports first others : List P) → first ≡ take count ports → others ≡ drop count ports
    → AreFresh home state ports → AreFresh home state (first ++ others)
parted_fresh {P} home state count ports first others is are fresh =
    subst (AreFresh home state) (sym (ap (λ (xs : List P). xs ++ others) is ∙ ap (λ (ys : List P). take count ports ++ ys) are ∙ take-append-drop count ports)) fresh

-- how many there are of each
pub first_count : {P : Type 0} (count others : ℕ) (ports first : List P) → first ≡ take count ports → length ports ≡ count + others → length first ≡ count
first_count count others ports first is many =
    let short : count ≤ length ports = omega (arith, many) in
    ap length is ∙ length-take-le count ports short

-- and how many there are of the others
pub others_count : {P : Type 0} (count others : ℕ) (ports back : List P) → back ≡ drop count ports → length ports ≡ count + others → length back ≡ others
others_count count others ports back are many = omega (arith, ap length are, length-drop count ports, many)
