-- From how a run ended to what is said of the text that was left to read.
use Rattle.std.proofs.Common.{◌≡◌, ◌≤◌, ℕ, true, Option, Some, None, List, [], ◌++◌, length, take, refl, ap, sym, subst, ◌∙◌, inl, inr, arith, append-nil, length-append}
use Rattle.std.proofs.lemmas.Bool.{cases_Bool}
use Rattle.std.proofs.lemmas.Bool.Decides.{nat_tests}
use Rattle.std.proofs.lemmas.List.{take-append-le}
use Rattle.std.proofs.KnownBytes.{Appends-kept}
use Rattle.std.specs.Io.KnownBytes.{Keeps, IsAtEnd}
use Rattle.std.specs.Prelude.{IfSome, nat_lt}
use Rattle.sync_io.specs.Faults.{CountHasRisen}
use Rattle.cascade_script.specs.declared.fault.Cause.{Cause}
use Rattle.cascade_script.specs.declared.fault.Cause.TheVariants.{BadCommand, UnknownNode, NameTaken, BadRecord, LimitReached, OutsideSuffix, LaterCookie, Circle, NoMemory}
use Rattle.cascade_script.specs.Lines.{kept_bytes, most_bytes, most_lines, text_lines, up_to_last, has_more, limit_passed}
use Rattle.cascade_script.specs.Reader.{ScriptReader, reader_of}
use Rattle.cascade_laws.specs.Run.{IsScript}
use Rattle.cascade_world.specs.World.{WorldState, no_nodes}
use Rattle.cascade_laws.proofs.Limits.{runs_limit}
use Rattle.cascade_laws.proofs.Runs.{refused_not_whole}
use Rattle.syncrepl_tool.proofs.SyncSession.{nothing_written}
use Rattle.syncrepl_tool.specs.Texts.{Says, refusal_text, write_fault_text}
use Rattle.syncrepl_tool.specs.Cascade.{WritesPrefix, WritesReport, WritesWhole, WritesUpTo, IsRefused, IsRefusedStatus, status_of, RunEnds, IsPrefixOf, Decides}

-- ---- a flush leaves what was written

-- a prefix of a report is one still where nothing more is written
pub prefix_kept : {script : ScriptReader} {a b : Option (List ℕ)} {end : WorldState} → WritesPrefix script a b end → (c : Option (List ℕ)) → Keeps b c → WritesPrefix script a c end
prefix_kept {script} {a} {b} {end} f c k = record {
  orders = f.orders;
  report = f.report;
  rest = f.rest;
  run = f.run;
  given = f.given;
  right = f.right;
  traced = f.traced;
  held = f.held;
  written = (f.written.0, f.written.1, f.written.2, Appends-kept a b c f.written.0 f.written.3 k);
  torn = f.torn;
}

report_kept : {script : ScriptReader} {a b : Option (List ℕ)} {end : WorldState} {rest : ScriptReader} → WritesReport script a b end rest → (c : Option (List ℕ)) → Keeps b c → WritesReport script a c end rest
report_kept {script} {a} {b} w c k = record {
  orders = w.orders;
  report = w.report;
  run = w.run;
  given = w.given;
  right = w.right;
  traced = w.traced;
  held = w.held;
  written = Appends-kept a b c _ w.written k;
}

-- so is a report up to a refused line
pub up_to_kept : {script : ScriptReader} {a b : Option (List ℕ)} {end : WorldState} {line : ℕ} {cause : Cause} → WritesUpTo script a b end line cause → (c : Option (List ℕ)) → Keeps b c → WritesUpTo script a c end line cause
up_to_kept w c k = record { rest = w.rest; report = report_kept w.report c k; refusal = w.refusal }

-- ---- the script of a text that was read is that of the bytes that were left

kept_of_prefix : (text rest : List ℕ) → nat_lt most_bytes (length text) ≡ true → kept_bytes most_bytes text ≡ kept_bytes most_bytes (text ++ rest)
kept_of_prefix text rest long =
    let more : 67108864 ≤ length text = grind (arith, nat_tests) in
    let long' : nat_lt 67108864 (length (text ++ rest)) ≡ true = grind (arith, nat_tests, length-append text rest) in
    let same : take 67108864 (text ++ rest) ≡ take 67108864 text = rw take-append-le refl in
    rw (long, long') (ap (up_to_last 10) (sym same))

more_of_prefix : (text rest : List ℕ) → nat_lt most_bytes (length text) ≡ true → has_more most_bytes text ≡ has_more most_bytes (text ++ rest)
more_of_prefix text rest long =
    let long' : nat_lt 67108864 (length (text ++ rest)) ≡ true = grind (arith, nat_tests, length-append text rest) in long ∙ sym long'

reader_of_prefix : (text rest : List ℕ) → (length text ≤ most_bytes → rest ≡ []) → reader_of text ≡ reader_of (text ++ rest)
reader_of_prefix text rest short =
    elim (cases_Bool (nat_lt 67108864 (length text))) [
      | inl long ↦ rw (kept_of_prefix text rest long, more_of_prefix text rest long) refl
      | inr all ↦
          let within : length text ≤ 67108864 = grind (arith, nat_tests) in
          ap reader_of (sym (append-nil text)) ∙ ap (λ r. reader_of (text ++ r)) (sym (short within))
    ]

-- what holds of the script of a text that was read to its end holds of the bytes that were left
pub at_prefix : (old new : Option (List ℕ)) (text : List ℕ) → IsPrefixOf old new text → (P : ScriptReader → Type 0) → P (reader_of text) → IfSome old (λ all. P (reader_of all))
at_prefix None new text f P h = tt
at_prefix (Some all) new text f P h =
    let same : reader_of text ≡ reader_of all = reader_of_prefix text f.prefix.0 f.prefix.2 ∙ ap reader_of (sym f.prefix.1) in
    subst P same h

-- what follows of what there is holds of it
pub if_some_map : {A : Type 0} (o : Option A) (P Q : A → Type 0) → ((a : A) → P a → Q a) → IfSome o P → IfSome o Q
if_some_map None P Q h p = tt
if_some_map (Some a) P Q h p = h a p

-- so does what was written of its report
pub prefix_of : {old new : Option (List ℕ)} {text : List ℕ} → IsPrefixOf old new text → (a b : Option (List ℕ)) (end : WorldState) → WritesPrefix (reader_of text) a b end
    → IfSome old (λ all. WritesPrefix (reader_of all) a b end)
prefix_of {old} {new} {text} prefix a b end w = at_prefix old new text prefix (λ script. WritesPrefix script a b end) w

-- a read fault leaves the output as it was, and the world without nodes
pub prefix_of_nothing : (left held : Option (List ℕ)) (end : WorldState) → end ≡ no_nodes → IfSome left (λ text. WritesPrefix (reader_of text) held held end)
prefix_of_nothing None held end fresh = tt
prefix_of_nothing (Some text) held end fresh = nothing_written (reader_of text) held end fresh

-- ---- what is said of the text that was left, by how the run ended

script_of : {old new : Option (List ℕ)} {end : WorldState} (text : List ℕ) → WritesWhole (reader_of text) old new end → IsScript text
script_of {old} {new} {end} text w = record { orders = w.report.orders; report = w.report.report; end = end; rest = w.rest; run = w.report.run; whole = w.ended }

no_script : {old new : Option (List ℕ)} {end : WorldState} {line : ℕ} {cause : Cause} (text : List ℕ) → WritesUpTo (reader_of text) old new end line cause → IsScript text → ⊥
no_script {old} {new} {end} {line} {cause} text w is =
    refused_not_whole no_nodes (reader_of text) w.report.orders w.report.report end w.rest line cause w.report.run w.refusal is.orders is.report is.end is.rest is.run is.whole

short_of : (text : List ℕ) → limit_passed text ≡ None → length text ≤ most_bytes
short_of text none =
    elim (cases_Bool (nat_lt most_lines (length (text_lines (kept_bytes most_bytes text))))) [
      | inl lines ↦ let bad : Some most_lines ≡ None = rw lines at none in cc
      | inr few ↦
          elim (cases_Bool (nat_lt 67108864 (length text))) [
            | inl long ↦ let bad : Some most_bytes ≡ None = rw (few, long) at none in cc
            | inr short ↦ grind (arith, nat_tests)
          ]
    ]

-- what is read to its end is not too long
within : (text : List ℕ) → IsScript text → length text ≤ most_bytes
within text is =
    let none : limit_passed text ≡ None = runs_limit no_nodes (reader_of text) is.orders is.report is.end is.rest is.run is.whole in
    short_of text none

abbrev Ended' : List ℕ → Option (List ℕ) → Option (List ℕ) → WorldState → ℕ → ℕ → Option (List ℕ) → Option (List ℕ) → ℕ → ℕ → ℕ → Type 0
Ended' text a b end before now unsaid said f t code = RunEnds (reader_of text) a b end before now unsaid said f t code

module _ {old new : Option (List ℕ)} {text : List ℕ} (prefix : IsPrefixOf old new text) (a b : Option (List ℕ)) (end : WorldState) (before now : ℕ) (unsaid said : Option (List ℕ)) (f t code : ℕ) where
  -- with status 0 the text is a script, and its whole report was written
  pub done_of : Ended' text a b end before now unsaid said f t code → code ≡ 0 → IfSome old (λ all. IsScript all × WritesWhole (reader_of all) a b end)
  done_of (inl done) zero' =
      if_some_map old (λ all. WritesWhole (reader_of all) a b end) _ (λ all w. (script_of all w, w)) (at_prefix old new text prefix (λ script. WritesWhole script a b end) done.1)
  done_of (inr (inl (inl three, refused))) zero' = absurd (omega (arith, three))
  done_of (inr (inl (inr eight, refused))) zero' = absurd (omega (arith, eight))
  done_of (inr (inr fault)) zero' = absurd (omega (arith, fault.0))

  -- with status 0 the input was read to its end
  pub end_of : Ended' text a b end before now unsaid said f t code → code ≡ 0 → IsAtEnd new
  end_of (inl done) zero' = prefix.end (within text (script_of text done.1))
  end_of (inr (inl (inl three, refused))) zero' = absurd (omega (arith, three))
  end_of (inr (inl (inr eight, refused))) zero' = absurd (omega (arith, eight))
  end_of (inr (inr fault)) zero' = absurd (omega (arith, fault.0))

  -- with status 0 nothing was said
  pub quiet_of : Ended' text a b end before now unsaid said f t code → code ≡ 0 → Keeps unsaid said
  quiet_of (inl done) zero' = done.2
  quiet_of (inr (inl (inl three, refused))) zero' = absurd (omega (arith, three))
  quiet_of (inr (inl (inr eight, refused))) zero' = absurd (omega (arith, eight))
  quiet_of (inr (inr fault)) zero' = absurd (omega (arith, fault.0))

  -- a text that was read ends with no read fault
  pub no_read_fault : Ended' text a b end before now unsaid said f t code → code ≡ 4 → ⊥
  no_read_fault (inl done) four = omega (arith, done.0)
  no_read_fault (inr (inl (inl three, refused))) four = omega (arith, three)
  no_read_fault (inr (inl (inr eight, refused))) four = omega (arith, eight)
  no_read_fault (inr (inr fault)) four = omega (arith, fault.0)

  -- with status 5 the output counted a fault, which is said
  pub write_fault_of : Ended' text a b end before now unsaid said f t code → code ≡ 5 → CountHasRisen before now × Says write_fault_text unsaid said f t
  write_fault_of (inl done) five = absurd (omega (arith, done.0))
  write_fault_of (inr (inl (inl three, refused))) five = absurd (omega (arith, three))
  write_fault_of (inr (inl (inr eight, refused))) five = absurd (omega (arith, eight))
  write_fault_of (inr (inr fault)) five = (fault.1, fault.2)

  -- the refusal of a script, with a status of that number
  pub refused_of : (number : ℕ) → IsRefusedStatus number → Ended' text a b end before now unsaid said f t code → code ≡ number → IfSome old (λ all. IsRefused number (reader_of all) a b end unsaid said f t)
  refused_of number (inl three) (inl done) same = absurd (omega (arith, three, same, done.0))
  refused_of number (inr eight) (inl done) same = absurd (omega (arith, eight, same, done.0))
  refused_of number is (inr (inl refused)) same =
      at_prefix old new text prefix (λ script. IsRefused number script a b end unsaid said f t) (subst (λ n. IsRefused n (reader_of text) a b end unsaid said f t) same refused.1)
  refused_of number (inl three) (inr (inr fault)) same = absurd (omega (arith, three, same, fault.0))
  refused_of number (inr eight) (inr (inr fault)) same = absurd (omega (arith, eight, same, fault.0))

  not_script_of : {line : ℕ} {cause : Cause} → WritesUpTo (reader_of text) a b end line cause → IfSome old (λ all. IsScript all → ⊥)
  not_script_of {line} {cause} w =
      if_some_map old (λ all. WritesUpTo (reader_of all) a b end line cause) _ (λ all w'. no_script all w') (at_prefix old new text prefix (λ script. WritesUpTo script a b end line cause) w)

  -- with status 3 or 8 the text is no script without a refusal
  pub no_script_of : Ended' text a b end before now unsaid said f t code → IsRefusedStatus code → IfSome old (λ all. IsScript all → ⊥)
  no_script_of (inl done) (inl three) = absurd (omega (arith, done.0, three))
  no_script_of (inl done) (inr eight) = absurd (omega (arith, done.0, eight))
  no_script_of (inr (inl refused)) is = not_script_of refused.1.3
  no_script_of (inr (inr fault)) (inl three) = absurd (omega (arith, fault.0, three))
  no_script_of (inr (inr fault)) (inr eight) = absurd (omega (arith, fault.0, eight))

  -- where the output counted no fault, the status says whether the text is a script
  pub decides_of : Ended' text a b end before now unsaid said f t code → (CountHasRisen before now → ⊥) → IfSome old (Decides code)
  decides_of (inl done) no_fault =
      if_some_map old (λ all. WritesWhole (reader_of all) a b end) _ (λ all w. record { script = λ is. done.0; other = λ no. absurd (no (script_of all w)) })
      (at_prefix old new text prefix (λ script. WritesWhole script a b end) done.1)
  decides_of (inr (inl refused)) no_fault =
      if_some_map old (λ all. IsScript all → ⊥) _ (λ all no. record { script = λ is. absurd (no is); other = λ no'. refused.0 }) (not_script_of refused.1.3)
  decides_of (inr (inr fault)) no_fault = absurd (no_fault fault.1)

-- a refusal that is said
status_is : (cause : Cause) → IsRefusedStatus (status_of cause)
status_is BadCommand = inl refl
status_is UnknownNode = inl refl
status_is NameTaken = inl refl
status_is BadRecord = inl refl
status_is (LimitReached number) = inr refl
status_is OutsideSuffix = inl refl
status_is (LaterCookie held given) = inl refl
status_is Circle = inl refl
status_is NoMemory = inl refl

-- a run ends at a refused line with the status of its cause, which is said
pub refused_ends : {script : ScriptReader} {a b : Option (List ℕ)} {end : WorldState} (before now : ℕ) {unsaid said : Option (List ℕ)} {f t code line : ℕ} {cause : Cause}
    → WritesUpTo script a b end line cause → code ≡ status_of cause → Says (refusal_text line cause) unsaid said f t → RunEnds script a b end before now unsaid said f t code
refused_ends {script} {a} {b} {end} before now {unsaid} {said} {f} {t} {code} {line} {cause} w is says =
    inr (inl (subst IsRefusedStatus (sym is) (status_is cause), (line, cause, sym is, w, says)))
