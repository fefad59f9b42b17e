-- A write that was read is well formed, and one that a client may ask for.
use Rattle.std.proofs.Common.{◌≡◌, ℕ, true, List, Option, Some, None, Result, Ok, Err, refl, subst}
use Rattle.std.specs.Prelude.{IfSome}
use Rattle.std.specs.List.{list_all}
use Rattle.schema_rules.specs.declared.raw.Change.{Change}
use Rattle.schema_rules.specs.declared.raw.Change.TheVariants as change
use Rattle.schema_rules.specs.Attributes.{read_attributes}
use Rattle.dn_names.specs.declared.fault.NameFault.{NameFault}
use Rattle.dn_names.specs.Names.{TypeAndValue}
use Rattle.dn_names.specs.Reading.{name_of_text, rdn_of_text}
use Rattle.dn_names.specs.Sound.{IsName, is_rdn}
use Rattle.entry_tree.specs.declared.edit.Edit.{Edit}
use Rattle.entry_tree.specs.declared.op.Op.{Op}
use Rattle.entry_tree.specs.declared.op.Op.TheVariants.{Add, Delete, Modify, Rename}
use Rattle.entry_tree.specs.Reading.{and_then, or_invalid_dn_syntax, read_name, read_rdn, read_superior, read_edits, read_change}
use Rattle.entry_tree.specs.Sound.{is_sound_op, is_sound_edit}
use Rattle.directory_writes.specs.Formed.{IsWellFormed}
use Rattle.directory_laws.proofs.ReadAttributes.{IsSoundList, read_attributes-sound}
use Rattle.directory_laws.proofs.ReadEdits.{read_edits-sound}
use Rattle.directory_laws.proofs.ReadNames.{name_of_text-sound, rdn_of_text-sound}
use Rattle.directory_laws.proofs.Results.{value_is}

-- what a reading gives has the fact, if it gives anything
abbrev GivesSuch : {A : Type 0} → (A → Type 0) → Result A ℕ → Type 0
GivesSuch {A} P read = (a : A) → read ≡ Ok a → P a

-- the second step gives what has the fact, where the first gave something that has another
gives-and_then : {A B : Type 0} (P : A → Type 0) (Q : B → Type 0) (read : Result A ℕ) (next : A → Result B ℕ) → GivesSuch P read → ((a : A) → P a → GivesSuch Q (next a)) → GivesSuch Q (and_then read next)
gives-and_then P Q (Ok a) next first second b same = second a (first a refl) b same
gives-and_then P Q (Err code) next first second b same = absurd (cc)

-- a reading that gives this gives what has the fact
gives-this : {A : Type 0} (P : A → Type 0) (a : A) → P a → GivesSuch P (Ok a)
gives-this P a fact b same = subst P (value_is a b same) fact

gives-or_invalid_dn_syntax : {A : Type 0} (P : A → Type 0) (read : Result A NameFault) → ((a : A) → read ≡ Ok a → P a) → GivesSuch P (or_invalid_dn_syntax read)
gives-or_invalid_dn_syntax {A} P (Ok a) first b same = gives-this P a (first a refl) b same
gives-or_invalid_dn_syntax P (Err fault) first b same = absurd (cc)

gives-name : (text : List ℕ) → GivesSuch IsName (read_name text)
gives-name text = gives-or_invalid_dn_syntax IsName (name_of_text text) (name_of_text-sound text)

abbrev IsRdn : List TypeAndValue → Type 0
IsRdn rdn = is_rdn rdn ≡ true

gives-rdn : (text : List ℕ) → GivesSuch IsRdn (read_rdn text)
gives-rdn text = gives-or_invalid_dn_syntax IsRdn (rdn_of_text text) (rdn_of_text-sound text)

abbrev IsAbove : Option (List (List TypeAndValue)) → Type 0
IsAbove superior = IfSome superior IsName

gives-superior : (text : Option (List ℕ)) → GivesSuch IsAbove (read_superior text)
gives-superior None = gives-this IsAbove None tt
gives-superior (Some text) = gives-and_then IsName IsAbove (read_name text) (λ name. Ok (Some name)) (gives-name text) (λ name is. gives-this IsAbove (Some name) is)

abbrev pub IsAskable : Op → Type 0
IsAskable op = IsWellFormed op × (is_sound_op op ≡ true)

abbrev AreEdits : List Edit → Type 0
AreEdits edits = list_all is_sound_edit edits ≡ true

-- what a change is read as is a write that a client may ask for
pub gives-change : (change : Change) (op : Op) → read_change change ≡ Ok op → IsAskable op
unfolding read_change
gives-change (change.Add name raws) =
    gives-and_then IsName IsAskable (read_name name) (λ dn. and_then (read_attributes raws) (λ attrs. Ok (Add dn attrs))) (gives-name name)
    (λ dn is. gives-and_then IsSoundList IsAskable (read_attributes raws) (λ attrs. Ok (Add dn attrs)) (read_attributes-sound raws)
    (λ attrs sound. gives-this IsAskable (Add dn attrs) ((is, sound.list), sound.sound)))
gives-change (change.Delete name) =
    gives-and_then IsName IsAskable (read_name name) (λ dn. Ok (Delete dn)) (gives-name name) (λ dn is. gives-this IsAskable (Delete dn) (tt, refl))
gives-change (change.Modify name raws) =
    gives-and_then IsName IsAskable (read_name name) (λ dn. and_then (read_edits raws) (λ edits. Ok (Modify dn edits))) (gives-name name)
    (λ dn is. gives-and_then AreEdits IsAskable (read_edits raws) (λ edits. Ok (Modify dn edits)) (read_edits-sound raws)
    (λ edits sound. gives-this IsAskable (Modify dn edits) (tt, sound)))
gives-change (change.Rename name rdn deletes superior) =
    gives-and_then IsName IsAskable (read_name name)
    (λ dn. and_then (read_rdn rdn) (λ new. and_then (read_superior superior) (λ above. Ok (Rename dn new deletes above)))) (gives-name name)
    (λ dn is. gives-and_then IsRdn IsAskable (read_rdn rdn) (λ new. and_then (read_superior superior) (λ above. Ok (Rename dn new deletes above))) (gives-rdn rdn)
    (λ new sound. gives-and_then IsAbove IsAskable (read_superior superior) (λ above. Ok (Rename dn new deletes above)) (gives-superior superior)
    (λ above is_above. gives-this IsAskable (Rename dn new deletes above) ((sound, is_above), refl))))
