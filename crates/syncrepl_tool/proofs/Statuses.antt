-- What the status of a run says.
use Rattle.std.proofs.Common.{◌≡◌, ◌≢◌, ℕ, List, Result, Ok, Err, inl, inr, refl, arith}
use Rattle.cascade_script.specs.Reader.{reader_of}
use Rattle.cascade_world.specs.World.{WorldState, no_nodes}
use Rattle.std.specs.Prelude.{◌⊎◌, IfOk}
use Rattle.sync_io.specs.Faults.{CountHasRisen}
use Rattle.syncrepl_tool.proofs.Ending.{done_of, end_of, quiet_of, refused_of, no_script_of, no_read_fault, write_fault_of}
use Rattle.syncrepl_tool.specs.Cascade.{IsPrefixOf, IsRefusedStatus, MayEndWith, RunEnds, Streams}
use Rattle.syncrepl_tool.specs.Texts.{Says, read_fault_text}
use Rattle.syncrepl_tool.specs.declared.run.Status.{Status}

not_refused : (code most : ℕ) → code ≡ most → ((most ≡ 2) ⊎ (most ≡ 4)) → IsRefusedStatus code → ⊥
not_refused code most is (inl two) (inl three) = omega (arith, is, two, three)
not_refused code most is (inl two) (inr eight) = omega (arith, is, two, eight)
not_refused code most is (inr four) (inl three) = omega (arith, is, four, three)
not_refused code most is (inr four) (inr eight) = omega (arith, is, four, eight)

-- other words
pub of_usage : (before after : Streams) (end : WorldState) (status : Status) → status.code ≡ 2 → after.read_faults ≡ before.read_faults → after.report_faults ≡ before.report_faults → MayEndWith before after end status
of_usage before after end status two reads writes = record {
  done = λ is. absurd (omega (arith, two, is));
  read_to_end = λ is. absurd (omega (arith, two, is));
  quiet = λ is. absurd (omega (arith, two, is));
  refused = λ is. absurd (omega (arith, two, is));
  limited = λ is. absurd (omega (arith, two, is));
  no_script = λ is. absurd (not_refused status.code 2 two (inl refl) is);
  read_fault = λ is. absurd (omega (arith, two, is));
  read_sound = λ other. reads;
  read_fault_reported = λ is. absurd (omega (arith, two, is));
  unread = λ is. absurd (omega (arith, two, is));
  write_fault = λ is. absurd (omega (arith, two, is));
  output_sound = λ other. writes;
  write_fault_reported = λ is. absurd (omega (arith, two, is));
}

-- a read that failed
pub of_read_fault : (before after : Streams) (end : WorldState) (status : Status) → status.code ≡ 4 → CountHasRisen before.read_faults after.read_faults
    → Says read_fault_text before.said after.said before.said_faults after.said_faults → after.report ≡ before.report → after.report_faults ≡ before.report_faults → end ≡ no_nodes
    → MayEndWith before after end status
of_read_fault before after end status four rose says report writes world = record {
  done = λ is. absurd (omega (arith, four, is));
  read_to_end = λ is. absurd (omega (arith, four, is));
  quiet = λ is. absurd (omega (arith, four, is));
  refused = λ is. absurd (omega (arith, four, is));
  limited = λ is. absurd (omega (arith, four, is));
  no_script = λ is. absurd (not_refused status.code 4 four (inr refl) is);
  read_fault = λ is. rose;
  read_sound = λ other. absurd (other four);
  read_fault_reported = λ is. says;
  unread = λ is. (report, world);
  write_fault = λ is. absurd (omega (arith, four, is));
  output_sound = λ other. writes;
  write_fault_reported = λ is. absurd (omega (arith, four, is));
}

-- the end of the script of the text that was read
pub of_ends : {text : List ℕ} (before after : Streams) (end : WorldState) (status : Status) → IsPrefixOf before.left after.left text
    → RunEnds (reader_of text) before.report after.report end before.report_faults after.report_faults before.said after.said before.said_faults after.said_faults status.code
    → after.read_faults ≡ before.read_faults → (status.code ≢ 5 → after.report_faults ≡ before.report_faults) → MayEndWith before after end status
of_ends before after end status first_part ends reads writes = record {
  done = done_of first_part _ _ _ _ _ _ _ _ _ _ ends;
  read_to_end = end_of first_part _ _ _ _ _ _ _ _ _ _ ends;
  quiet = quiet_of first_part _ _ _ _ _ _ _ _ _ _ ends;
  refused = refused_of first_part _ _ _ _ _ _ _ _ _ _ 3 (inl refl) ends;
  limited = refused_of first_part _ _ _ _ _ _ _ _ _ _ 8 (inr refl) ends;
  no_script = no_script_of first_part _ _ _ _ _ _ _ _ _ _ ends;
  read_sound = λ other. reads;
  read_fault = λ is. absurd (no_read_fault first_part _ _ _ _ _ _ _ _ _ _ ends is);
  read_fault_reported = λ is. absurd (no_read_fault first_part _ _ _ _ _ _ _ _ _ _ ends is);
  unread = λ is. absurd (no_read_fault first_part _ _ _ _ _ _ _ _ _ _ ends is);
  output_sound = writes;
  write_fault = λ is. (write_fault_of first_part _ _ _ _ _ _ _ _ _ _ ends is).0;
  write_fault_reported = λ is. (write_fault_of first_part _ _ _ _ _ _ _ _ _ _ ends is).1;
}

-- ---- whatever was answered

-- two facts of an answer are one
pub both_hold : {T E : Type 0} (result : Result T E) (P Q : T → Type 0) → IfOk result P → IfOk result Q → IfOk result (λ value. P value × Q value)
both_hold (Ok value) P Q one other = (one, other)
both_hold (Err memory) P Q one other = tt
