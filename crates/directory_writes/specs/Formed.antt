-- What the parts of a write keep to, whatever it was accepted on.
use Rattle.std.specs.Prelude.{◌≡◌, ⊤, true, false, List, All, IfSome}
use Rattle.csn_cookie.specs.Csn.{IsCsn}
use Rattle.schema_rules.specs.Attributes.{IsAttributeList}
use Rattle.dn_names.specs.Sound.{IsName, is_rdn}
use Rattle.entry_tree.specs.Sound.{is_commit}
use Rattle.entry_tree.specs.declared.op.Op.{Op}
use Rattle.entry_tree.specs.declared.op.Op.TheVariants.{Add, Delete, Modify, Rename, Commit}
use Rattle.entry_tree.specs.declared.op.Write.{Write}

-- the names that a write gives are names, and what it adds has each type once and none without
-- values; no client asks for a commit
abbrev pub IsWellFormed : Op → Type 0
IsWellFormed (Add name attrs) = IsName name × IsAttributeList attrs
IsWellFormed (Delete name) = ⊤
IsWellFormed (Modify name edits) = ⊤
IsWellFormed (Rename name rdn deletes superior) = (is_rdn rdn ≡ true) × IfSome superior IsName
IsWellFormed (Commit puts drops) = ⊥

-- its CSN is in range, and it is well formed unless it is a commit
pub record IsFormed (write : Write) : Type 0 where
  pub csn : IsCsn write.csn
  pub op : is_commit write.op ≡ false → IsWellFormed write.op

abbrev pub AreFormed : List Write → Type 0
AreFormed writes = All IsFormed writes
