-- Exchanges that are done in one step, in which no stage takes effect.
use Rattle.std.proofs.Common.{◌≡◌, ℕ, false, List, [], ◌++◌, refl, ap, subst, ◌∙◌, inl, inr}
use Rattle.std.proofs.lemmas.Bool.{cases_Bool}
use Rattle.std.specs.Prelude.{⊤, Ok, Err}
use Rattle.entry_tree.specs.Selection.{Search, search_of}
use Rattle.cascade_exchange.specs.Cookies.{is_later}
use Rattle.cascade_exchange.specs.Exchange.{Agreement, ExchangeOutcome, copy_of, is_busy, cut, idle, sets_cookie, respecs, part_of, is_stepwise}
use Rattle.cascade_exchange.specs.Parts.{Does}
use Rattle.cascade_exchange.specs.declared.exchange.Exchange.{Exchange}
use Rattle.cascade_exchange.specs.declared.exchange.Exchange.TheVariants as goes
use Rattle.cascade_report.specs.Report.{Report}
use Rattle.cascade_report.specs.ReportLines.{stages_of}

-- no stage is reported
abbrev HasNoStage : ExchangeOutcome → Type 0
HasNoStage (Ok next) = stages_of next.1 ≡ []
HasNoStage (Err cause) = ⊤

cut_unstaged : (pair : Agreement) → HasNoStage (cut pair)
cut_unstaged pair =
    elim (cases_Bool (is_busy pair.consumer_node)) [
      | inl busy ↦ rw busy refl
      | inr free ↦ rw free refl
    ]

idle_unstaged : (pair : Agreement) → HasNoStage (idle pair)
idle_unstaged pair =
    elim (cases_Bool (is_busy pair.consumer_node)) [
      | inl busy ↦ rw busy refl
      | inr free ↦ rw free refl
    ]

sets_cookie_unstaged : (text : List ℕ) (pair : Agreement) → HasNoStage (sets_cookie text pair)
sets_cookie_unstaged text pair =
    elim (cases_Bool (is_later (copy_of pair.consumer_node).cookie text)) [
      | inl later ↦ rw later tt
      | inr fine ↦ rw fine refl
    ]

respecs_unstaged : (search : Search) (pair : Agreement) → HasNoStage (respecs search pair)
respecs_unstaged search pair =
    elim (cases_Bool (is_busy pair.consumer_node)) [
      | inl busy ↦ rw busy refl
      | inr free ↦ rw free refl
    ]

part_unstaged : (what : Exchange) (pair : Agreement) → is_stepwise what ≡ false → HasNoStage (part_of what pair)
part_unstaged (goes.Open mode) pair at_once = let never : ⊥ = cc in absurd never
part_unstaged (goes.Send count) pair at_once = let never : ⊥ = cc in absurd never
part_unstaged (goes.Take count) pair at_once = let never : ⊥ = cc in absurd never
part_unstaged goes.Cut pair at_once = cut_unstaged pair
part_unstaged goes.Settle pair at_once = let never : ⊥ = cc in absurd never
part_unstaged goes.LoseCookie pair at_once = refl
part_unstaged (goes.SetCookie text) pair at_once = sets_cookie_unstaged text pair
part_unstaged goes.CutIfBusy pair at_once = idle_unstaged pair
part_unstaged (goes.Respec spec) pair at_once = respecs_unstaged (search_of spec) pair

-- in one step no stage takes effect
pub unstaged : (what : Exchange) (pair after : Agreement) (old new : Report) → old.stages ≡ [] → is_stepwise what ≡ false → Does (part_of what pair) old after new (Ok tt) → new.stages ≡ []
unstaged what pair after old new no_stages at_once does =
    let none : stages_of does.0 ≡ [] = subst HasNoStage does.1 (part_unstaged what pair at_once) in
    ap (λ (t : Report). t.stages) does.2 ∙ ap (λ s. s ++ stages_of does.0) no_stages ∙ none
