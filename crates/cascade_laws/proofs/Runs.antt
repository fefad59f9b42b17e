-- Runs, one order on, and why a script that is refused somewhere is not read to its end.
use Rattle.std.proofs.Common.{◌≡◌, ℕ, List, [], ◌∷◌, ◌++◌, refl, ap, sym, subst, ◌∙◌, inl, inr}
use Rattle.std.specs.Prelude.{Ok, Err}
use Rattle.cascade_script.specs.declared.fault.Cause.{Cause}
use Rattle.cascade_script.specs.Fault.{fault_at}
use Rattle.cascade_script.specs.Orders.{Order}
use Rattle.cascade_script.specs.Reader.{ScriptReader, Next, next_in}
use Rattle.cascade_script.specs.Reader.Next.{Ended, Refused, Got}
use Rattle.cascade_world.specs.ReportLines.{ReportLine, lines_text}
use Rattle.cascade_laws.specs.Run.{Runs, IsRefusal}
use Rattle.cascade_world.specs.World.{WorldState, StepOutcome, step, IsStep}

-- a run goes on by one order
pub runs-more : (state : WorldState) (reader : ScriptReader) (orders : List Order) (report : List (List ReportLine)) (mid : WorldState) (rest : ScriptReader) → Runs state reader orders report mid rest
    → (line : ℕ) (order : Order) (reported : List ReportLine) (end : WorldState) (more : ScriptReader) → next_in rest ≡ Got line order more → step mid order ≡ Ok (end, reported)
    → Runs state reader (orders ++ order ∷ []) (report ++ reported ∷ []) end more
runs-more state reader [] [] mid rest r line order reported end more reads steps =
    (line, more, end, ap next_in r.1 ∙ reads, ap (λ s. step s order) r.0 ∙ steps, (refl, refl))
runs-more state reader [] (t ∷ report) mid rest r line order reported end more reads steps = absurd r
runs-more state reader (o ∷ orders) [] mid rest r line order reported end more reads steps = absurd r
runs-more state reader (o ∷ orders) (t ∷ report) mid rest r line order reported end more reads steps =
    (r.0, r.1, r.2, r.3, r.4, runs-more r.2 r.1 orders report mid rest r.5 line order reported end more reads steps)

-- what a step that is done reports
pub step_reported : (s : StepOutcome) (new : WorldState) (text : List ℕ) → IsStep s new text → (reported : List ReportLine) × (s ≡ Ok (new, reported)) × (text ≡ lines_text reported)
step_reported (Err cause) new text h = absurd h
step_reported (Ok next) new text h = (next.1, ap (λ s. Ok (s, next.1)) (sym h.0), h.1)

-- two readings of one place
refused_not_ended : (n : Next) (state : WorldState) (line : ℕ) (cause : Cause) (reader : ScriptReader) → next_in reader ≡ n → IsRefusal state reader line cause → n ≡ Ended → ⊥
refused_not_ended n state line cause reader is (inl refused) e = let a : Refused (fault_at line cause) ≡ Ended = sym refused ∙ is ∙ e in cc
refused_not_ended n state line cause reader is (inr step') e = let a : Got line step'.0 step'.1 ≡ Ended = sym step'.2 ∙ is ∙ e in cc

refused_not_done : (state : WorldState) (line at : ℕ) (cause : Cause) (reader more : ScriptReader) (order : Order) (next : WorldState) (reported : List ReportLine)
    → IsRefusal state reader line cause → next_in reader ≡ Got at order more → step state order ≡ Ok (next, reported) → ⊥
refused_not_done state line at cause reader more order next reported (inl refused) reads steps = let a : Refused (fault_at line cause) ≡ Got at order more = sym refused ∙ reads in cc
refused_not_done state line at cause reader more order next reported (inr step') reads steps =
    let a : Got line step'.0 step'.1 ≡ Got at order more = sym step'.2 ∙ reads in
    let same : step'.0 ≡ order = cc in
    let b : Err cause ≡ Ok (next, reported) = sym step'.3 ∙ ap (step state) same ∙ steps in
    cc

-- a script that is refused somewhere is not read to its end
pub refused_not_whole : (state : WorldState) (reader : ScriptReader) (orders : List Order) (report : List (List ReportLine)) (end : WorldState) (rest : ScriptReader) (line : ℕ) (cause : Cause)
    → Runs state reader orders report end rest → IsRefusal end rest line cause
    → (orders' : List Order) (report' : List (List ReportLine)) (end' : WorldState) (rest' : ScriptReader) → Runs state reader orders' report' end' rest' → next_in rest' ≡ Ended → ⊥
refused_not_whole state reader [] [] end rest line cause r refused [] [] end' rest' r' whole =
    refused_not_ended (next_in rest) end line cause rest refl refused (ap next_in (sym r.1 ∙ r'.1) ∙ whole)
refused_not_whole state reader [] [] end rest line cause r refused [] (t' ∷ report') end' rest' r' whole = r'
refused_not_whole state reader [] [] end rest line cause r refused (o' ∷ orders') [] end' rest' r' whole = r'
refused_not_whole state reader [] [] end rest line cause r refused (o' ∷ orders') (t' ∷ report') end' rest' r' whole =
    refused_not_done end line r'.0 cause rest r'.1 o' r'.2 t' refused (ap next_in (sym r.1) ∙ r'.3) (ap (λ s. step s o') (sym r.0) ∙ r'.4)
refused_not_whole state reader [] (t ∷ report) end rest line cause r refused orders' report' end' rest' r' whole = r
refused_not_whole state reader (o ∷ orders) [] end rest line cause r refused orders' report' end' rest' r' whole = r
refused_not_whole state reader (o ∷ orders) (t ∷ report) end rest line cause r refused [] [] end' rest' r' whole =
    let a : Got r.0 o r.1 ≡ Ended = sym r.3 ∙ ap next_in r'.1 ∙ whole in cc
refused_not_whole state reader (o ∷ orders) (t ∷ report) end rest line cause r refused [] (t' ∷ report') end' rest' r' whole = r'
refused_not_whole state reader (o ∷ orders) (t ∷ report) end rest line cause r refused (o' ∷ orders') [] end' rest' r' whole = r'
refused_not_whole state reader (o ∷ orders) (t ∷ report) end rest line cause r refused (o' ∷ orders') (t' ∷ report') end' rest' r' whole =
    let a : Got r.0 o r.1 ≡ Got r'.0 o' r'.1 = sym r.3 ∙ r'.3 in
    let order : o' ≡ o = cc in
    let more : r'.1 ≡ r.1 = cc in
    let s : Ok (r.2, t) ≡ Ok (r'.2, t') = sym r.4 ∙ ap (step state) (sym order) ∙ r'.4 in
    let pair : (r.2, t) ≡ (r'.2, t') = cc in
    let next : r'.2 ≡ r.2 = sym (ap (λ (x : WorldState × List ReportLine). x.0) pair) in
    let there = subst (λ s. Runs s r.1 orders' report' end' rest') next (subst (λ m. Runs r'.2 m orders' report' end' rest') more r'.5) in
    refused_not_whole r.2 r.1 orders report end rest line cause r.5 refused orders' report' end' rest' there whole
