-- What `drill SEED WRITERS CONSUMERS SIZE` reads, prints and says.
use Rattle.std.specs.Prelude.{◌≡◌, ◌⊎◌, ◌-◌, ◌^◌, ℕ, List, [], ◌∷◌, Option, Result, IfOk, OnErr, codes}
use Rattle.std.specs.Io.KnownBytes.{Appends, Keeps}
use Rattle.std.specs.String.{string_bytes}
use Rattle.std.specs.declared.alloc.Global.{Global}
use Rattle.std.specs.declared.string.String.{String}
use Rattle.drill_plan.specs.Summary.{summary_of}
use Rattle.drill_plan.specs.declared.plan.DrillPlan.{DrillPlan}
use Rattle.sync_io.specs.Faults.{CountHasRisen}
use Rattle.sync_io.specs.Sink.{AppendsPrefix}
use Rattle.syncrepl_tool.specs.Numbers.{IsNumber}
use Rattle.syncrepl_tool.specs.Texts.{Says, write_fault_text}
use Rattle.syncrepl_tool.specs.declared.run.Status.{Status}

-- ---- the words

-- the plan of these words: a seed of 64 bits, 1 to 8 writers and consumers, and 1 to 2,000
-- operations of each writer
abbrev pub IsPlanOf : (seed writers consumers size : List ℕ) → DrillPlan → Type 0
IsPlanOf seed writers consumers size plan =
    IsNumber seed 0 (2 ^ 64 - 1) plan.seed
    × IsNumber writers 1 8 plan.writers
    × IsNumber consumers 1 8 plan.consumers
    × IsNumber size 1 2000 plan.size

abbrev pub IsDrill : List (String Global) → DrillPlan → Type 0
IsDrill (word ∷ seed ∷ writers ∷ consumers ∷ size ∷ []) plan =
    (string_bytes word ≡ codes "drill")
    × IsPlanOf (string_bytes seed) (string_bytes writers) (string_bytes consumers)
    (string_bytes size) plan
IsDrill _ plan = ⊥

-- the words are no drill
abbrev pub IsNoDrill : List (String Global) → Type 0
IsNoDrill words = (plan : DrillPlan) → IsDrill words plan → ⊥

-- ---- how it ends

abbrev pub IsDrillStatus : ℕ → Type 0
IsDrillStatus code = (code ≡ 0) ⊎ (code ≡ 5)

-- what is seen of the objects of a drill at one moment: what the output holds, what was said, and
-- the faults of each
pub record DrillSide : Type 0 where
  pub printed : Option (List ℕ)
  pub print_faults : ℕ
  pub said : Option (List ℕ)
  pub said_faults : ℕ

-- the same by what they report
abbrev pub drill_side : Option (List ℕ) → ℕ → Option (List ℕ) → ℕ → DrillSide
drill_side printed print_faults said said_faults = record {
  printed = printed;
  print_faults = print_faults;
  said = said;
  said_faults = said_faults;
}

-- this text was printed, and nothing was said
pub record HasPrinted (text : List ℕ) (before after : DrillSide) : Type 0 where
  pub printed : Appends before.printed after.printed text
  pub sound : after.print_faults ≡ before.print_faults
  pub quiet : Keeps before.said after.said

-- the output failed, which is said; a prefix of the text was printed
pub record HasFailedToPrint (text : List ℕ) (before after : DrillSide) : Type 0 where
  pub prefix : AppendsPrefix before.printed after.printed text
  pub write_fault : CountHasRisen before.print_faults after.print_faults
  pub reported :
      Says write_fault_text before.said after.said before.said_faults after.said_faults

-- printing this text may end with this status
abbrev pub MayPrint : List ℕ → (before after : DrillSide) → Status → Type 0
MayPrint text before after status =
    ((status.code ≡ 0) × HasPrinted text before after)
    ⊎ ((status.code ≡ 5) × HasFailedToPrint text before after)

-- How `drill` ends. What it prints is of the plan alone, whatever its threads did when. Where the
-- output did not fail it is done. Where memory runs out nothing was printed and nothing said.
pub record EndsDrill {E : Type 0}
    (plan : DrillPlan) (before after : DrillSide) (answer : Result Status E) : Type 0 where
  pub with_status : IfOk answer (MayPrint (summary_of plan) before after)
  pub complete :
      IfOk answer
      (λ status.
      (CountHasRisen before.print_faults after.print_faults → ⊥) → status.code ≡ 0)
  pub without_memory : OnErr answer (after ≡ before)
