-- Codes that come of what is asked.
use Rattle.std.proofs.Common.{◌≡◌, ◌⊎◌, ℕ, Bool, true, false, nat_eq, List, [], ◌∷◌, Some, Result, Ok, Err, inl, inr, refl, sym, ap, ◌∙◌, eqb-true, eq-eqb}
use Rattle.std.specs.Result.{result_err}
use Rattle.std.proofs.lemmas.Bool.{false≢true}
use Rattle.dn_names.specs.Names.{TypeAndValue}
use Rattle.dn_names.specs.Reading.{name_of_text}
use Rattle.dn_names.specs.declared.fault.NameFault.{NameFault}
use Rattle.entry_tree.specs.Reading.{read_change}
use Rattle.entry_tree.specs.declared.op.Op.{Op}
use Rattle.ldap_constants.specs.declared.result_codes.TheConstants.{INSUFFICIENT_ACCESS_RIGHTS, INVALID_DN_SYNTAX, OTHER}
use Rattle.schema_rules.specs.declared.raw.Change.{Change}
use Rattle.sync_provider.specs.Ports.{PortState, IsReplied}
use Rattle.sync_provider.specs.declared.writing.Reply.{Reply}
use Rattle.ldap_server.specs.PortCalls.{PortCall, Compared, Replies, Wrote}
use Rattle.ldap_server.specs.Table.{ChangeGives, FindsCode, CompareGives, IsRefusedName, NameOrFault, name_code}

-- nothing is asked
pub finds_unasked : (Gives : List PortCall → ℕ → Type 0) (port : PortState) (code : ℕ) → Gives [] code → FindsCode Gives port code port
finds_unasked Gives port code gives = record { asked = []; gives = gives; exchanged = refl }

-- one question is asked
pub finds_one : (Gives : List PortCall → ℕ → Type 0) (one : PortCall) (old new : PortState) (code : ℕ)
    → IsReplied old (λ p. Replies one p new) → Gives (one ∷ []) code → FindsCode Gives old code new
finds_one Gives one old new code replied gives = record { asked = one ∷ []; gives = gives; exchanged = (new, replied, refl) }

-- ---- names that are refused

code_is : (name : NameOrFault) (code : ℕ) → name_code name ≡ Some code → (fault : NameFault) × (name ≡ Err fault) × (code ≡ INVALID_DN_SYNTAX)
code_is (Ok dn) code is = absurd cc
code_is (Err fault) code is =
    let same : code ≡ INVALID_DN_SYNTAX = cc in
    (fault, refl, same)

-- when out of memory, or since it is no name
pub refused_name : (name : NameOrFault) (code : ℕ) → IsRefusedName name code → (code ≡ OTHER) ⊎ ((fault : NameFault) × (name ≡ Err fault) × (code ≡ INVALID_DN_SYNTAX))
refused_name name code refused = step (nat_eq code OTHER) refl
  where
    step : (b : Bool) → nat_eq code OTHER ≡ b → (code ≡ OTHER) ⊎ ((fault : NameFault) × (name ≡ Err fault) × (code ≡ INVALID_DN_SYNTAX))
    step true other = inl (eqb-true code OTHER other)
    step false known = inr (code_is name code (refused (λ same. false≢true (sym known ∙ eq-eqb code OTHER same))))

-- ---- writes

-- a session that may not write gets insufficientAccessRights, and nothing is asked
pub change_denied : (allowed : Bool) (change : Change) (now : ℕ) → allowed ≡ false → ChangeGives allowed change now [] INSUFFICIENT_ACCESS_RIGHTS
change_denied allowed change now denied = rw denied (refl, refl)

-- a change that is read is asked for, and its code is that of the reply
pub change_wrote : (allowed : Bool) (change : Change) (now : ℕ) (op : Op) (reply : Reply)
    → allowed ≡ true → read_change change ≡ Ok op → ChangeGives allowed change now (Wrote op now reply ∷ []) reply.code
change_wrote allowed change now op reply yes' is = rw (yes', is) (inl (reply, refl, refl))

err_is : (r : Result Op ℕ) (code : ℕ) → result_err r ≡ Some code → r ≡ Err code
err_is (Ok op) code is = absurd cc
err_is (Err e) code is =
    let same : e ≡ code = cc in
    ap (λ (n : ℕ). Err n) same

-- one that is refused as it is read has that code, and nothing is asked
pub change_refused : (allowed : Bool) (change : Change) (now code : ℕ)
    → allowed ≡ true → result_err (read_change change) ≡ Some code → ChangeGives allowed change now [] code
change_refused allowed change now code yes' is = rw (yes', err_is (read_change change) code is) (inl (refl, refl))

-- out of memory the code is other, and nothing is asked
pub change_other : (allowed : Bool) (change : Change) (now : ℕ) → allowed ≡ true → ChangeGives allowed change now [] OTHER
change_other allowed change now yes' = rw yes' (inr (refl, refl))

-- ---- comparisons

-- a comparison with an entry whose name is one is asked for, and its code is that of the reply
pub compare_named : (entry name value : List ℕ) (dn : List (List TypeAndValue)) (code : ℕ)
    → name_of_text entry ≡ Ok dn → CompareGives entry name value (Compared dn name value code ∷ []) code
compare_named entry name value dn code is = rw is (inl refl)

-- where it is no name, or memory ran out, the code says so, and nothing is asked
pub compare_refused : (entry name value : List ℕ) (code : ℕ) → IsRefusedName (name_of_text entry) code → CompareGives entry name value [] code
compare_refused entry name value code refused = step (refused_name (name_of_text entry) code refused)
  where
    step : (code ≡ OTHER) ⊎ ((fault : NameFault) × (name_of_text entry ≡ Err fault) × (code ≡ INVALID_DN_SYNTAX)) → CompareGives entry name value [] code
    step (inl other) = inr (refl, other)
    step (inr (fault, is, rejected)) = rw is (inl (refl, rejected))
