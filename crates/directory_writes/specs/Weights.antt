-- What a kept write weighs.
use Rattle.std.specs.Prelude.{ℕ, ◌+◌, ◌*◌, List, length, sum_by, Option, Some, None}
use Rattle.dn_names.specs.Names.{TypeAndValue}
use Rattle.dn_names.specs.Writing.{name_text, rdn_text}
use Rattle.schema_rules.specs.Attributes.{weight_of, values_weight}
use Rattle.schema_rules.specs.Schema.{type_name}
use Rattle.entry_tree.specs.declared.edit.Edit.{Edit}
use Rattle.entry_tree.specs.declared.entry.Entry.{Entry}
use Rattle.entry_tree.specs.declared.op.Op.{Op}
use Rattle.entry_tree.specs.declared.op.Op.TheVariants.{Add, Delete, Modify, Rename, Commit}
use Rattle.entry_tree.specs.declared.op.Write.{Write}

-- a name weighs what it has octets where it is written
abbrev pub name_weight : List (List TypeAndValue) → ℕ
name_weight name = length (name_text name)

abbrev pub superior_weight : Option (List (List TypeAndValue)) → ℕ
superior_weight None = 0
superior_weight (Some name) = name_weight name

-- each value weighs what it and the name of its type have octets
abbrev pub edits_weight : List Edit → ℕ
edits_weight edits = sum_by (λ edit. values_weight (type_name edit.kind) edit.values) edits

-- an entry that a commit puts weighs 64, its name and its attributes
abbrev pub put_weight : Entry → ℕ
put_weight e = name_weight e.dn + weight_of e.attrs + 64

abbrev pub puts_weight : List Entry → ℕ
puts_weight puts = sum_by put_weight puts

-- the names and values that a write gives, and 16 for each identity that a commit drops
abbrev pub given_weight : Op → ℕ
given_weight (Add name attrs) = name_weight name + weight_of attrs
given_weight (Delete name) = name_weight name
given_weight (Modify name edits) = name_weight name + edits_weight edits
given_weight (Rename name rdn deletes superior) =
    name_weight name + length (rdn_text rdn) + superior_weight superior
given_weight (Commit puts drops) = puts_weight puts + 16 * length drops

abbrev pub op_weight : Op → ℕ
op_weight op = given_weight op + 64

abbrev pub kept_weight : List Write → ℕ
kept_weight writes = sum_by (λ write. op_weight write.op) writes
