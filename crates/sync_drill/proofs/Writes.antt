-- What a reply to a write says of the port: what its own operations are after it.
use Rattle.std.proofs.Common.{◌≡◌, ◌≢◌, ℕ, ◌≤◌, Bool, true, false, nat_eq, List, [], ◌∷◌, ◌++◌, refl, sym, ap, ◌∙◌, subst, arith, eqb-true}
use Rattle.std.specs.Prelude.{Result, Ok, Err}
use Rattle.std.proofs.lemmas.Bool.{eqb-false}
use Rattle.ldap_constants.specs.declared.result_codes.TheConstants.{OTHER, SUCCESS}
use Rattle.entry_tree.specs.declared.op.Op.{Op}
use Rattle.entry_tree.specs.declared.op.Write.{Write}
use Rattle.directory_writes.specs.Directory.{code_of_judged}
use Rattle.sync_provider.specs.Machine.{judged_by}
use Rattle.sync_provider.specs.Ports.{IsLater, IsReplied, PortState, WriteReplies, noted, wrote_in}
use Rattle.sync_provider.specs.declared.journal_note.JournalNote.{JournalNote}
use Rattle.sync_provider.specs.declared.journal_note.JournalNote.TheVariants.{Wrote, Opened, Closed}
use Rattle.sync_provider.specs.declared.writing.Reply.{Reply}
use Rattle.sync_drill.specs.Journals.{AreWrites, OpenedNone, notes_of, operations_in, own_operations}
use Rattle.sync_drill.specs.Going.{HasGoneOn}
use Rattle.sync_drill.proofs.Going.{goes-twice, later-goes, own-goes, stays}
use Rattle.sync_drill.proofs.Notes.{later-own, own_notes}
use Rattle.sync_drill.proofs.Refusals.{accepted_op, refused_code}

-- the operations of two lists of notes in a row
pub operations-append : (one other : List JournalNote) → operations_in (one ++ other) ≡ operations_in one ++ operations_in other
operations-append [] other = refl
operations-append (Wrote write ∷ one) other = ap (λ ops. write.op ∷ ops) (operations-append one other)
operations-append (Opened opening ∷ one) other = operations-append one other
operations-append (Closed end ∷ one) other = operations-append one other

-- entries of other ports are none of its operations
pub later-operations : (old new : PortState) → IsLater old new → own_operations new ≡ own_operations old
later-operations old new later = ap operations_in (later-own old new later)

own_after : (p : PortState) (write : Write) → own_operations (noted p (Wrote write) p.number) ≡ own_operations p ++ write.op ∷ []
own_after p write =
    ap operations_in (own_notes p (Wrote write)) ∙ operations-append (notes_of p.number p.journal) (Wrote write ∷ [])

-- one write more
write_more : (notes : List JournalNote) (write : Write) → AreWrites notes → AreWrites (notes ++ Wrote write ∷ [])
write_more [] write all = tt
write_more (Wrote first ∷ notes) write all = write_more notes write all
write_more (Opened opening ∷ notes) write all = absurd all
write_more (Closed end ∷ notes) write all = absurd all

module _ (op : Op) (now : ℕ) (reply : Reply) (old new : PortState) (replied : IsReplied old (λ p. WriteReplies p op now reply new)) where
  abbrev place : PortState
  place = replied.place

  -- what it is judged as where its port called
  abbrev outcome : Result Write ℕ
  outcome = judged_by place.kind place.directory op now

  apart : SUCCESS ≡ OTHER → ⊥
  apart is = cc

  -- a port goes on by a write, whatever its code
  pub write-goes : HasGoneOn old new
  write-goes = goes-twice old place new (later-goes old place replied.later) (by (nat_eq reply.code OTHER) refl)
    where
      goes : (r : Result Write ℕ) → new ≡ wrote_in place r → HasGoneOn place new
      goes (Ok write) is = subst (HasGoneOn place) (sym is) (own-goes place (Wrote write))
      goes (Err code) is = subst (HasGoneOn place) (sym is) (stays place)

      by : (b : Bool) → nat_eq reply.code OTHER ≡ b → HasGoneOn place new
      by true is = subst (HasGoneOn place) (sym (replied.replies.err (eqb-true reply.code OTHER is))) (stays place)
      by false is = goes outcome (replied.replies.state (eqb-false reply.code OTHER is))

  -- a port that opened no search opened none
  pub none_opened : OpenedNone old → OpenedNone new
  none_opened none = by (nat_eq reply.code OTHER) refl
    where
      here : OpenedNone place
      here = subst AreWrites (sym (later-own old place replied.later)) none

      after : (r : Result Write ℕ) → new ≡ wrote_in place r → OpenedNone new
      after (Ok write) is =
          subst OpenedNone (sym is)
          (subst AreWrites (sym (own_notes place (Wrote write))) (write_more (notes_of place.number place.journal) write here))
      after (Err code) is = subst OpenedNone (sym is) here

      by : (b : Bool) → nat_eq reply.code OTHER ≡ b → OpenedNone new
      by true is = subst OpenedNone (sym (replied.replies.err (eqb-true reply.code OTHER is))) here
      by false is = after outcome (replied.replies.state (eqb-false reply.code OTHER is))

  -- with success it was written
  pub written : reply.code ≡ SUCCESS → own_operations new ≡ own_operations old ++ op ∷ []
  written good = by outcome refl
    where
      other : reply.code ≢ OTHER
      other full = apart (sym good ∙ full)

      by : (r : Result Write ℕ) → outcome ≡ r → own_operations new ≡ own_operations old ++ op ∷ []
      by (Ok write) is =
          ap own_operations (replied.replies.state other ∙ ap (wrote_in place) is)
          ∙ own_after place write
          ∙ ap (λ o. own_operations place ++ o ∷ []) (accepted_op place.kind place.directory op now write is)
          ∙ ap (λ ops. ops ++ op ∷ []) (later-operations old place replied.later)
      by (Err code) is =
          let none : code ≡ SUCCESS = sym (replied.replies.code other ∙ ap code_of_judged is) ∙ good in
          let some : 1 ≤ code = refused_code place.kind place.directory op now code is in
          absurd (omega (arith, none, some))

  -- with any other code nothing was
  pub unwritten : reply.code ≢ SUCCESS → own_operations new ≡ own_operations old
  unwritten bad = by (nat_eq reply.code OTHER) refl
    where
      refused : (r : Result Write ℕ) → outcome ≡ r → reply.code ≢ OTHER → own_operations new ≡ own_operations old
      refused (Ok write) is other = absurd (bad (replied.replies.code other ∙ ap code_of_judged is))
      refused (Err code) is other =
          ap own_operations (replied.replies.state other ∙ ap (wrote_in place) is) ∙ later-operations old place replied.later

      by : (b : Bool) → nat_eq reply.code OTHER ≡ b → own_operations new ≡ own_operations old
      by true is =
          ap own_operations (replied.replies.err (eqb-true reply.code OTHER is)) ∙ later-operations old place replied.later
      by false is = refused outcome refl (eqb-false reply.code OTHER is)
