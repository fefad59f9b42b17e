-- Edits that were read are ones that a client may ask for (RFC 4511, section 4.6).
use Rattle.std.proofs.Common.{◌≡◌, ℕ, Bool, true, false, not, ◌&&◌, ◌||◌, cond, nat_eq, List, [], ◌∷◌, length, Option, Some, None, Ok, refl}
use Rattle.std.specs.Option.{option_map}
use Rattle.std.specs.List.{list_all, filter_map, cons_option}
use Rattle.std.proofs.lemmas.Bool.{and_from}
use Rattle.ldap_constants.specs.declared.result_codes.TheConstants.{CONSTRAINT_VIOLATION, INVALID_ATTRIBUTE_SYNTAX}
use Rattle.schema_rules.specs.declared.raw.How.{How}
use Rattle.schema_rules.specs.declared.raw.RawEdit.{RawEdit}
use Rattle.schema_rules.specs.Attributes.{is_of_syntax}
use Rattle.schema_rules.specs.Schema.{type_named, is_operational}
use Rattle.entry_tree.specs.declared.edit.Edit.{Edit}
use Rattle.entry_tree.specs.Fault.{first_code}
use Rattle.entry_tree.specs.Reading.{given_code, typed_code, raw_code, typed, typed_edits, read_edits}
use Rattle.entry_tree.specs.Sound.{may_be_empty, is_sound_edit}
use Rattle.directory_laws.proofs.Results.{none_first, none_second, value_is}

given_code-none : (may none all : Bool) → cond {A = Option ℕ} (not may && none) (Some INVALID_ATTRIBUTE_SYNTAX) (cond {A = Option ℕ} all None (Some INVALID_ATTRIBUTE_SYNTAX)) ≡ None → (all && (may || not none)) ≡ true
given_code-none true none true e = refl
given_code-none true none false e = absurd (cc)
given_code-none false true all e = absurd (cc)
given_code-none false false true e = refl
given_code-none false false false e = absurd (cc)

typed_code-none : (how : How) (kind : ℕ) (values : List (List ℕ)) → typed_code how (Some kind) values ≡ None → is_sound_edit (record { how = how; kind = kind; values = values }) ≡ true
typed_code-none how kind values none = by (is_operational kind) none
  where
    by : (operational : Bool) → cond operational (Some CONSTRAINT_VIOLATION) (given_code how kind values) ≡ None
        → (not operational && (list_all (is_of_syntax kind) values && (may_be_empty how || not (nat_eq (length values) 0)))) ≡ true
    by true e = absurd (cc)
    by false e = given_code-none (may_be_empty how) (nat_eq (length values) 0) (list_all (is_of_syntax kind) values) e

sound-typed : (raws : List RawEdit) → first_code raw_code raws ≡ None → list_all is_sound_edit (filter_map typed raws) ≡ true
sound-typed [] none = refl
sound-typed (raw ∷ raws) none =
    by (type_named raw.attribute.name) (none_first (raw_code raw) (first_code raw_code raws) none) (sound-typed raws (none_second (raw_code raw) (first_code raw_code raws) none))
  where
    by : (found : Option ℕ) → typed_code raw.how found raw.attribute.values ≡ None → list_all is_sound_edit (filter_map typed raws) ≡ true
        → list_all is_sound_edit (cons_option (option_map (λ kind. let e : Edit = record { how = raw.how; kind = kind; values = raw.attribute.values } in e) found) (filter_map typed raws)) ≡ true
    by None code rest = rest
    by (Some kind) code rest =
        and_from (is_sound_edit (record { how = raw.how; kind = kind; values = raw.attribute.values })) (list_all is_sound_edit (filter_map typed raws))
        (typed_code-none raw.how kind raw.attribute.values code) rest

-- edits that are read are sound
pub read_edits-sound : (raws : List RawEdit) (edits : List Edit) → read_edits raws ≡ Ok edits → list_all is_sound_edit edits ≡ true
read_edits-sound raws edits read = by (first_code raw_code raws) refl read
  where
    by : (code : Option ℕ) → first_code raw_code raws ≡ code → typed_edits code (filter_map typed raws) ≡ Ok edits → list_all is_sound_edit edits ≡ true
    by (Some code) is same = absurd (cc)
    by None is same =
        rw (← value_is (filter_map typed raws) edits same) (sound-typed raws is)
