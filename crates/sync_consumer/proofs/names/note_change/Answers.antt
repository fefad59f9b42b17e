-- The name of the entry that is put, if any.
use Rattle.std.proofs.Common.{◌≡◌, Bool, true, false, List, [], ◌∷◌, Some, sym, subst}
use Rattle.std.specs.Prelude.{Result, Ok, Err, IfOk, OnOk, is_none}
use Rattle.dn_names.specs.Paths.{path_key}
use Rattle.entry_tree.specs.State.{entry_at}
use Rattle.entry_tree.specs.declared.entry.Entry.{Entry}
use Rattle.sync_consumer.specs.declared.stage.StagedChange.{StagedChange}
use Rattle.sync_consumer.specs.Holding.{HeldNames, id_at, keeps_name, NotesAll, SetsId}
use Rattle.sync_consumer.specs.Staging.{change_of}
use Rattle.sync_consumer.proofs.Noting.{notes_none, notes_put}
use Rattle.sync_consumer.proofs.names.note_change.Goals as goal

noted : {E : Type 0} (entries : List Entry) (old new : HeldNames) (e : Entry) (result : Result Bool E) → keeps_name (entry_at entries e.uuid) (Some e) ≡ false
    → IfOk result (λ is_free. is_free ≡ is_none (id_at old (path_key e.dn))) → OnOk result (SetsId old new (path_key e.dn) (Some e.uuid))
    → IfOk result (NotesAll entries old new ((e.uuid, Some e) ∷ []))
noted entries old new e (Ok is_free) off free sets = notes_put entries old new e is_free off free sets
noted entries old new e (Err error) off free sets = tt

pub returns-in-AddOrModify-clause-noted : goal.returns-in-AddOrModify-clause-noted
returns-in-AddOrModify-clause-noted c = λ entries.
    subst
    (λ (s : StagedChange). keeps_name (entry_at entries (change_of s).0) (change_of s).1 ≡ false → IfOk c.note.result (NotesAll entries c.args.names.now c.note.new.names (change_of s ∷ [])))
    (sym c.in-AddOrModify.is)
    (λ off. noted entries c.args.names.now c.note.new.names c.in-AddOrModify.entry c.note.result off c.note.ensures.free c.note.ensures.noted)

pub returns-in-Delete-clause-noted : goal.returns-in-Delete-clause-noted
returns-in-Delete-clause-noted c = λ entries.
    subst
    (λ (s : StagedChange). keeps_name (entry_at entries (change_of s).0) (change_of s).1 ≡ false → NotesAll entries c.args.names.now c.args.names.now (change_of s ∷ []) true)
    (sym c.in-Delete.is)
    (λ off. notes_none entries c.args.names.now c.in-Delete.field-0 off)
