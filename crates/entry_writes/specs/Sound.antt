-- Writes that clients may ask for.
use Rattle.std.specs.Prelude.{Bool, true, not, ◌&&◌, ◌||◌, ◌==◌, false, length}
use Rattle.std.specs.List.{list_all}
use Rattle.schema_rules.specs.declared.raw.How.{How}
use Rattle.schema_rules.specs.declared.raw.How.TheVariants as how
use Rattle.schema_rules.specs.Attributes.{is_given, is_sound, is_of_syntax}
use Rattle.schema_rules.specs.Schema.{is_operational}
use Rattle.entry_writes.specs.declared.edit.Edit.{Edit}
use Rattle.entry_writes.specs.declared.entry.Entry.{Entry}
use Rattle.entry_writes.specs.declared.op.Op.{Op}
use Rattle.entry_writes.specs.declared.op.Op.TheVariants.{Add, Delete, Modify, Rename, Commit}

abbrev pub may_be_empty : How → Bool
may_be_empty how.Add = false
may_be_empty how.Delete = true
may_be_empty how.Replace = true

-- the values are of the type's syntax, and the type is not operational; an edit
-- that adds has a value
abbrev pub is_sound_edit : Edit → Bool
is_sound_edit edit =
    not (is_operational edit.kind)
    && (list_all (is_of_syntax edit.kind) edit.values
    && (may_be_empty edit.how || not (length edit.values == 0)))

-- each value of the entry is of its type's syntax, and no type is operational
abbrev pub is_sound_put : Entry → Bool
is_sound_put e = list_all is_given e.attrs

-- and no two values of a type that is added have one key
abbrev pub is_sound_op : Op → Bool
is_sound_op (Add name attrs) = list_all is_sound attrs
is_sound_op (Delete name) = true
is_sound_op (Modify name edits) = list_all is_sound_edit edits
is_sound_op (Rename name rdn deletes superior) = true
is_sound_op (Commit puts drops) = list_all is_sound_put puts

-- what no client asks for
abbrev pub is_commit : Op → Bool
is_commit (Add name attrs) = false
is_commit (Delete name) = false
is_commit (Modify name edits) = false
is_commit (Rename name rdn deletes superior) = false
is_commit (Commit puts drops) = true
