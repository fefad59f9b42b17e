-- Records of a text that are added to a directory.
use Rattle.std.proofs.Common.{◌≡◌, ◌≢◌, ◌<◌, ℕ, length, true, false, [], ◌∷◌, Some, Result, Ok, Err, inl, inr, refl, sym, subst, ◌∙◌}
use Rattle.entry_tree.specs.Reading.{read_change}
use Rattle.entry_tree.specs.declared.op.Op.{Op}
use Rattle.entry_tree.specs.declared.op.Write.{Write}
use Rattle.directory_writes.specs.Directory.{code_of_judged}
use Rattle.ldap_constants.specs.declared.result_codes.TheConstants.{OTHER, SUCCESS}
use Rattle.ldif_text.specs.Reader.{RecordReader, next_record}
use Rattle.ldif_text.specs.declared.fault.LdifFault.{LdifFault}
use Rattle.schema_rules.specs.declared.raw.Change.{Change}
use Rattle.std.specs.Result.{result_err}
use Rattle.sync_provider.specs.Machine.{judged_by}
use Rattle.sync_provider.specs.Ports.{PortState, WriteReplies, wrote_in}
use Rattle.sync_provider.specs.declared.writing.Reply.{Reply}
use Rattle.directory_setup.specs.Filling.{AddsOn, EndsFilling, FillsPart, FillsUp, IsRejectedWith, StepsOn, cause_of, is_add, line_of}
use Rattle.directory_setup.specs.declared.filling.RecordOutcome.{RecordOutcome}
use Rattle.directory_setup.specs.declared.filling.RecordOutcome.TheVariants.{Added, Over}
use Rattle.directory_setup.specs.declared.filling.Filling.{Filling}
use Rattle.directory_setup.specs.declared.filling.Filling.TheVariants.{Refused}
use Rattle.directory_setup.specs.declared.refusal.LineCause.TheVariants as cause

-- ---- one add

-- a write that is rejected leaves the directory as it was
rejected_same : (p : PortState) (op : Op) (now : ℕ) (reply : Reply) (new : PortState)
    → WriteReplies p op now reply new → reply.code ≢ SUCCESS → reply.code ≢ OTHER → new ≡ p
rejected_same p op now reply new replies fails made =
    replies.state made ∙ by (judged_by p.kind p.directory op now) (replies.code made)
  where
    by : (judged : Result Write ℕ) → reply.code ≡ code_of_judged judged → wrote_in p judged ≡ p
    by (Ok write) is = absurd (fails is)
    by (Err code) is = refl

-- a fault of the reading rejects the add
rejected_read : (found : Result Op ℕ) (code : ℕ) (p : PortState)
    → result_err found ≡ Some code → IsRejectedWith found p code
rejected_read (Ok op) code p is = absurd cc
rejected_read (Err fault) code p is = cc

-- an add that is refused as it is read ends the filling at its line
pub unread_add : (change : Change) (line code : ℕ) (p : PortState) (taken : RecordOutcome)
    → result_err (read_change change) ≡ Some code → taken ≡ Over (Refused line (cause.Refused code))
    → AddsOn change line p taken p
unread_add change line code p taken fault is =
    subst (λ t. AddsOn change line p t p) (sym is)
    (refl, code, rejected_read (read_change change) code p fault, refl)

-- so does one that the directory refuses
pub rejected_add : (change : Change) (line now : ℕ) (p : PortState) (op : Op) (reply : Reply) (new : PortState) (taken : RecordOutcome)
    → read_change change ≡ Ok op → WriteReplies p op now reply new → reply.code ≢ SUCCESS → reply.code ≢ OTHER
    → taken ≡ Over (Refused line (cause.Refused reply.code)) → AddsOn change line p taken new
rejected_add change line now p op reply new taken read replies fails made is =
    subst (λ t. AddsOn change line p t new) (sym is) (
      rejected_same p op now reply new replies fails made,
      reply.code,
      subst (λ (found : Result Op ℕ). IsRejectedWith found p reply.code) (sym read) (now, reply, new, replies, refl, fails, made),
      refl,
    )

-- ---- one record

-- the next record of the text is added
pub step_add : (r : RecordReader) (p : PortState) (change : Change) (after : RecordReader) (line : ℕ) (taken : RecordOutcome) (new : PortState)
    → next_record r ≡ Ok (Some (record { change = change; after = after })) → length after.lines < length r.lines → is_add change ≡ true
    → line ≡ after.line → AddsOn change line p taken new → StepsOn r p taken after new
step_add r p change after line Added new next shorter add at (op, now, reply, read, replies, accepted) = (
  record { change = change; op = op; now = now; reply = reply },
  record { next = next; add = add; read = read; replies = replies; accepted = accepted },
  shorter,
)
step_add r p change after line (Over filling) new next shorter add at (same, why, rejects, is) = (
  same,
  subst (EndsFilling r p) (sym is) (inr (inr (record {
    change = change;
    after = after;
    next = next;
    add = add;
    code = why;
    rejects = rejects;
    line_is = at;
    cause_is = refl;
  }))),
)

-- the record is no add
pub step_other : (r : RecordReader) (p : PortState) (change : Change) (after : RecordReader) (line : ℕ) (taken : RecordOutcome)
    → next_record r ≡ Ok (Some (record { change = change; after = after })) → is_add change ≡ false → line ≡ after.line
    → taken ≡ Over (Refused line cause.BadChange) → StepsOn r p taken after p
step_other r p change after line taken next other at is =
    subst (λ t. StepsOn r p t after p) (sym is) (
      refl,
      inr (inl (record {
        change = change;
        after = after;
        next = next;
        other = other;
        line_is = at;
        cause_is = refl;
      })),
    )

-- the record's text is refused
pub step_refused : (r after : RecordReader) (p : PortState) (fault : LdifFault) (taken : RecordOutcome)
    → next_record r ≡ Err fault → taken ≡ Over (Refused (line_of fault) (cause_of fault)) → StepsOn r p taken after p
step_refused r after p fault taken refused is =
    subst (λ t. StepsOn r p t after p) (sym is)
    (refl, inl (record { fault = fault; refused = refused; line_is = refl; cause_is = refl }))

-- ---- all records

-- a record, and then the others
pub fills_more : (r : RecordReader) (p : PortState) (after : RecordReader) (between : PortState) (filling : Filling) (new : PortState)
    → StepsOn r p Added after between → FillsUp after between filling new → FillsUp r p filling new
fills_more r p after between filling new (added, adds, shorter) later = record {
  added = added ∷ later.added;
  after = later.after;
  fills = (after, between, adds, later.fills);
  ends = later.ends;
}

-- no record more
pub fills_none : (r : RecordReader) (p : PortState) (filling : Filling) → EndsFilling r p filling → FillsUp r p filling p
fills_none r p filling ends = record { added = []; after = r; fills = (refl, refl); ends = ends }

-- a record, and then a part of the others
pub part_more : (r : RecordReader) (p : PortState) (after : RecordReader) (between new : PortState)
    → StepsOn r p Added after between → FillsPart after between new → FillsPart r p new
part_more r p after between new (added, adds, shorter) later = record {
  added = added ∷ later.added;
  after = later.after;
  fills = (after, between, adds, later.fills);
}

-- nothing is a part of the records
pub part_none : (r : RecordReader) (p new : PortState) → new ≡ p → FillsPart r p new
part_none r p new same = record { added = []; after = r; fills = (refl, same) }
