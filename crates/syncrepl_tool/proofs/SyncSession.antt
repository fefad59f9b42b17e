-- What a run has done so far, and how it goes on and ends.
use Rattle.std.proofs.Common.{◌≡◌, ◌≢◌, ◌≤◌, ℕ, Option, List, [], ◌∷◌, ◌++◌, refl, ap, sym, subst, ◌∙◌, inl, inr, arith, append-nil, append_assoc}
use Rattle.std.proofs.lemmas.List.{flat_map_more}
use Rattle.std.proofs.KnownBytes.{Appends-nil, Appends-trans}
use Rattle.std.specs.Io.KnownBytes.{Appends}
use Rattle.std.specs.Prelude.{Result, Ok, Err}
use Rattle.sync_io.specs.Sink.{AppendsPrefix}
use Rattle.cascade_script.specs.declared.fault.Cause.{Cause}
use Rattle.cascade_script.specs.declared.fault.Cause.TheVariants.{NoMemory, BadCommand, UnknownNode, NameTaken, BadRecord, LimitReached, OutsideSuffix, LaterCookie, Circle}
use Rattle.cascade_script.specs.declared.fault.ScriptFault.{ScriptFault}
use Rattle.cascade_script.specs.Fault.{fault_at, RefusedAt}
use Rattle.cascade_script.specs.Orders.{Order}
use Rattle.cascade_script.specs.Reader.{ScriptReader, Next, next_in, IsRefusalOf}
use Rattle.cascade_script.specs.Reader.Next.{Ended, Refused, Got}
use Rattle.cascade_world.specs.ReportLines.{ReportLine, lines_text, report_text}
use Rattle.cascade_laws.specs.Run.{Runs}
use Rattle.cascade_world.specs.World.{WorldState, no_nodes, step, IsStep}
use Rattle.cascade_laws.proofs.HeadlineHolds.{runs_lines_right, runs_held}
use Rattle.cascade_laws.proofs.Reported.{runs_reported}
use Rattle.cascade_laws.proofs.Runs.{runs-more, step_reported}
use Rattle.cascade_laws.proofs.Traces.{runs_traced}
use Rattle.syncrepl_tool.specs.declared.run.Outcome.{Outcome}
use Rattle.syncrepl_tool.specs.declared.run.Outcome.TheVariants as outcome
use Rattle.syncrepl_tool.specs.Cascade.{WritesPrefix, WritesReport, WritesWhole, WritesUpTo, Ends, IsOutputSound}

-- the orders that were read are done and reported
pub record SoFar (script : ScriptReader) (state : WorldState) (reader : ScriptReader) (old new : Option (List ℕ)) (before now : ℕ) : Type 0 where
  pub orders : List Order
  pub report : List (List ReportLine)
  pub run : Runs no_nodes script orders report state reader
  pub written : Appends old new (report_text report)
  pub sound : now ≡ before

-- at first no event is done, and nothing is written
pub start : (state : WorldState) (reader : ScriptReader) (held : Option (List ℕ)) (n : ℕ) → state ≡ no_nodes → SoFar reader state reader held held n n
start state reader held n fresh = record { orders = []; report = []; run = (sym fresh, refl); written = Appends-nil held; sound = refl }

report_text-push : (report : List (List ReportLine)) (reported : List ReportLine) → report_text report ++ lines_text reported ≡ report_text (report ++ reported ∷ [])
report_text-push report reported = flat_map_more lines_text [] report reported

-- one event more is done, and its lines are written
pub go_on : {script reader : ScriptReader} {state : WorldState} {old new : Option (List ℕ)} {before now : ℕ} → SoFar script state reader old new before now
    → (line : ℕ) (order : Order) (after : ScriptReader) (next : WorldState) (text : List ℕ) (held : Option (List ℕ)) (count : ℕ)
    → next_in reader ≡ Got line order after → IsStep (step state order) next text → Appends new held text → count ≡ now → SoFar script next after old held before count
go_on {script} {reader} {state} {old} {new} s line order after next text held count reads steps appended same =
    let reported = step_reported (step state order) next text steps in
    record {
      orders = s.orders ++ order ∷ [];
      report = s.report ++ reported.0 ∷ [];
      run = runs-more no_nodes script s.orders s.report state reader s.run line order reported.0 next after reads reported.1;
      written = subst (λ t. Appends old held t) (ap (λ t. report_text s.report ++ t) reported.2 ∙ report_text-push s.report reported.0) (Appends-trans old new held (report_text s.report) text s.written appended);
      sound = same ∙ s.sound;
    }

-- what was written is the report of the events so far
pub written_report : {script reader : ScriptReader} {state : WorldState} {old new : Option (List ℕ)} {before now : ℕ} → SoFar script state reader old new before now → WritesReport script old new state reader
written_report {script} {reader} {state} s = record {
  orders = s.orders;
  report = s.report;
  run = s.run;
  given = runs_reported script s.orders s.report state reader s.run;
  right = runs_lines_right script s.orders s.report state reader s.run;
  traced = runs_traced script s.orders s.report state reader s.run;
  held = runs_held script s.orders s.report state reader s.run;
  written = s.written;
}

-- which begins the report of the whole script
pub prefix_so_far : {script reader : ScriptReader} {state : WorldState} {old new : Option (List ℕ)} {before now : ℕ} → SoFar script state reader old new before now → WritesPrefix script old new state
prefix_so_far {script} {reader} {state} s = record {
  orders = s.orders;
  report = s.report;
  rest = reader;
  run = s.run;
  given = runs_reported script s.orders s.report state reader s.run;
  right = runs_lines_right script s.orders s.report state reader s.run;
  traced = runs_traced script s.orders s.report state reader s.run;
  held = runs_held script s.orders s.report state reader s.run;
  written = (report_text s.report, [], sym (append-nil (report_text s.report)), s.written);
  torn = inl refl;
}

-- a prefix of the lines of one more order
pub prefix_of_next : {script reader : ScriptReader} {state : WorldState} {old new : Option (List ℕ)} {before now : ℕ} → SoFar script state reader old new before now
    → (line : ℕ) (order : Order) (more : ScriptReader) (next : WorldState) (text : List ℕ) (held : Option (List ℕ))
    → next_in reader ≡ Got line order more → IsStep (step state order) next text → AppendsPrefix new held text → WritesPrefix script old held next
prefix_of_next {script} {reader} {state} {old} {new} s line order more next text held reads steps prefix =
    let reported = step_reported (step state order) next text steps in
    let run = runs-more no_nodes script s.orders s.report state reader s.run line order reported.0 next more reads reported.1 in
    let whole : lines_text reported.0 ≡ prefix.0 ++ prefix.1 = sym reported.2 ∙ prefix.2 in
    record {
      orders = s.orders ++ order ∷ [];
      report = s.report ++ reported.0 ∷ [];
      rest = more;
      run = run;
      given = runs_reported script (s.orders ++ order ∷ []) (s.report ++ reported.0 ∷ []) next more run;
      right = runs_lines_right script (s.orders ++ order ∷ []) (s.report ++ reported.0 ∷ []) next more run;
      traced = runs_traced script (s.orders ++ order ∷ []) (s.report ++ reported.0 ∷ []) next more run;
      held = runs_held script (s.orders ++ order ∷ []) (s.report ++ reported.0 ∷ []) next more run;
      written = (
        report_text s.report ++ prefix.0,
        prefix.1,
        sym (report_text-push s.report reported.0) ∙ ap (λ t. report_text s.report ++ t) whole ∙ sym (append_assoc (report_text s.report) prefix.0 prefix.1),
        Appends-trans old new held (report_text s.report) prefix.0 s.written prefix.3,
      );
      torn = inr (s.report, reported.0, prefix.0, prefix.1, refl, whole, refl);
    }

-- the script is read to its end
pub whole_so_far : {script reader : ScriptReader} {state : WorldState} {old new : Option (List ℕ)} {before now : ℕ} → SoFar script state reader old new before now → next_in reader ≡ Ended → WritesWhole script old new state
whole_so_far {script} {reader} s ended = record { rest = reader; report = written_report s; ended = ended }

refused_reading : (n : Next) (line : ℕ) (cause : Cause) → cause ≢ NoMemory → IsRefusalOf n line cause → n ≡ Refused (fault_at line cause)
refused_reading n line BadCommand known h = h
refused_reading n line UnknownNode known h = h
refused_reading n line NameTaken known h = h
refused_reading n line BadRecord known h = h
refused_reading n line (LimitReached number) known h = h
refused_reading n line OutsideSuffix known h = h
refused_reading n line (LaterCookie held given) known h = h
refused_reading n line Circle known h = h
refused_reading n line NoMemory known h = absurd (known refl)

-- a refusal in reading
pub refused_read : {script reader : ScriptReader} {state : WorldState} {old new : Option (List ℕ)} {before now : ℕ} → SoFar script state reader old new before now
    → (line : ℕ) (cause : Cause) → cause ≢ NoMemory → IsRefusalOf (next_in reader) line cause → WritesUpTo script old new state line cause
refused_read {script} {reader} s line cause known h = record { rest = reader; report = written_report s; refusal = inl (refused_reading (next_in reader) line cause known h) }

refused_answer : {Y : Type 0} (line at : ℕ) (cause : Cause) (answer : Result Y Cause) → cause ≢ NoMemory → RefusedAt line at cause answer → (answer ≡ Err cause) × (at ≡ line)
refused_answer line at BadCommand answer known h = h
refused_answer line at UnknownNode answer known h = h
refused_answer line at NameTaken answer known h = h
refused_answer line at BadRecord answer known h = h
refused_answer line at (LimitReached number) answer known h = h
refused_answer line at OutsideSuffix answer known h = h
refused_answer line at (LaterCookie held given) answer known h = h
refused_answer line at Circle answer known h = h
refused_answer line at NoMemory answer known h = absurd (known refl)

-- a refusal by the nodes
pub refused_step : {script reader : ScriptReader} {state : WorldState} {old new : Option (List ℕ)} {before now : ℕ} → SoFar script state reader old new before now
    → (line at : ℕ) (order : Order) (more : ScriptReader) (cause : Cause) → next_in reader ≡ Got line order more → cause ≢ NoMemory → RefusedAt line at cause (step state order) → WritesUpTo script old new state at cause
refused_step {script} {reader} {state} {old} {new} s line at order more cause reads known h =
    let is = refused_answer line at cause (step state order) known h in
    subst (λ l. WritesUpTo script old new state l cause) (sym is.1) (record { rest = reader; report = written_report s; refusal = inr (order, more, reads, is.0) })

-- nothing was written
pub nothing_written : (script : ScriptReader) (held : Option (List ℕ)) (end : WorldState) → end ≡ no_nodes → WritesPrefix script held held end
nothing_written script held end fresh = prefix_so_far (start end script held 0 fresh)

-- how the run ends with a refusal
pub ends_refused : {script : ScriptReader} {old new : Option (List ℕ)} {state : WorldState} (b n : ℕ) (fault : ScriptFault) (o : Outcome) → WritesUpTo script old new state fault.line fault.cause → o ≡ outcome.Refused fault → Ends script old new state b n o
ends_refused {script} {old} {new} {state} b n fault o reported is =
    let P : Outcome → Type 0 = Ends script old new state b n in subst P (sym is) reported

-- no write failed, however that was answered
pub sound_anyway : {E : Type 0} (result : Result Outcome E) (before now : ℕ) → now ≡ before → IsOutputSound result before now
sound_anyway (Ok outcome.Done) before now same = same
sound_anyway (Ok (outcome.Refused fault)) before now same = same
sound_anyway (Ok outcome.WriteFault) before now same = tt
sound_anyway (Err memory) before now same = same
