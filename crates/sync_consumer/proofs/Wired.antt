-- An entry that is decoded is fit for a commit of a replica.
use Rattle.std.proofs.Common.{◌≡◌, ℕ, Bool, true, false, not, ◌&&◌, cond, nat_lt, nat_le, List, [], ◌∷◌, filter, nat_eq, Option, None, Some, Result, Ok, Err, refl, ap, ◌∙◌, arith}
use Rattle.std.specs.Prelude.{⊤}
use Rattle.std.specs.List.{list_all, filter_map, cons_option}
use Rattle.std.proofs.lemmas.Bool.{and_parts, and_from}
use Rattle.std.proofs.lemmas.Bool.Decides.{nat_tests}
use Rattle.std.proofs.lemmas.List.Folds.{list_all-map}
use Rattle.ldap_constants.specs.declared.result_codes.TheConstants.{ADMIN_LIMIT_EXCEEDED, INVALID_ATTRIBUTE_SYNTAX}
use Rattle.schema_rules.specs.declared.attributes.Attribute.{Attribute}
use Rattle.schema_rules.specs.declared.raw.RawAttribute.{RawAttribute}
use Rattle.schema_rules.specs.Attributes.{is_of_syntax, kinds_of, joined, values_of, weight_of, is_given}
use Rattle.schema_rules.specs.Schema.{type_named, is_operational}
use Rattle.entry_tree.specs.declared.entry.Entry.{Entry}
use Rattle.entry_tree.specs.Fitting.{is_within_entry_limit}
use Rattle.entry_tree.specs.Sound.{is_sound_put}
use Rattle.entry_tree.specs.State.{most_entry_weight}
use Rattle.entry_tree.proofs.Passing.{list_all-filter}
use Rattle.sync_wire.specs.Refusals.{and_then, bad_entry}
use Rattle.sync_wire.specs.WireEntry.{kept, kept_of, kept_values, unless_empty, attributes_of, is_of_its_syntax, are_uuids, checked_syntax, checked_weight, name_of, entry_csn, entry_of}
use Rattle.sync_wire.specs.declared.fault.DecodeFault.{DecodeFault}

-- ---- no type is operational

abbrev is_free : ℕ → Bool
is_free kind = not (is_operational kind)

abbrev all_free : List Attribute → Bool
all_free attrs = list_all (λ a. is_free a.kind) attrs

-- where there is one, its type is not operational
abbrev Free : Option Attribute → Type 0
Free None = ⊤
Free (Some a) = is_free a.kind ≡ true

free_unless : (kind : ℕ) (values : List (List ℕ)) → is_free kind ≡ true → Free (unless_empty kind values)
free_unless kind [] free = tt
free_unless kind (value ∷ values) free = free

free_of : (named : Option ℕ) (values : List (List ℕ)) → Free (kept_of named values)
free_of None values = tt
free_of (Some kind) values = by (is_operational kind) refl
  where
    by : (b : Bool) → is_operational kind ≡ b → Free (cond {A = Option Attribute} b None (unless_empty kind (kept_values kind values)))
    by true e = tt
    by false e = free_unless kind (kept_values kind values) (ap not e)

more_free : (o : Option Attribute) (attrs : List Attribute) → Free o → all_free attrs ≡ true → all_free (cons_option o attrs) ≡ true
more_free None attrs free h = h
more_free (Some a) attrs free h = and_from (is_free a.kind) (all_free attrs) free h

kept_free : (raws : List RawAttribute) → all_free (filter_map kept raws) ≡ true
kept_free [] = refl
kept_free (raw ∷ raws) = more_free (kept raw) (filter_map kept raws) (free_of (type_named raw.name) raw.values) (kept_free raws)

kinds_free : (attrs : List Attribute) → all_free attrs ≡ true → list_all is_free (kinds_of attrs) ≡ true
kinds_free [] h = refl
kinds_free (a ∷ attrs) h =
    let parts = and_parts (is_free a.kind) (all_free attrs) h in
    and_from (is_free a.kind) (list_all is_free (filter (λ other. not (nat_eq other a.kind)) (kinds_of attrs))) parts.0
    (list_all-filter is_free (λ other. not (nat_eq other a.kind)) (kinds_of attrs) (kinds_free attrs parts.1))

joined_free : (attrs : List Attribute) → all_free attrs ≡ true → all_free (joined attrs) ≡ true
joined_free attrs h =
    list_all-map (λ (a : Attribute). is_free a.kind) (λ kind. record { kind = kind; values = values_of attrs kind }) (kinds_of attrs) ∙ kinds_free attrs h

-- ---- the values are of their types' syntax

sound_by : (attrs : List Attribute) → all_free attrs ≡ true → list_all is_of_its_syntax attrs ≡ true → list_all is_given attrs ≡ true
sound_by [] free h = refl
sound_by (a ∷ attrs) free h =
    let f = and_parts (is_free a.kind) (all_free attrs) free in
    let s = and_parts (is_of_its_syntax a) (list_all is_of_its_syntax attrs) h in
    and_from (is_given a) (list_all is_given attrs)
    (and_from (is_free a.kind) (list_all (is_of_syntax a.kind) a.values) f.0 s.0) (sound_by attrs f.1 s.1)

-- ---- the entry

-- an entry may be put by a commit
pub record IsFit (e : Entry) : Type 0 where
  pub sound : is_sound_put e ≡ true
  pub light : is_within_entry_limit e ≡ true

-- the entry, where there is one, is fit
abbrev pub EntryFits : Result Entry DecodeFault → Type 0
EntryFits (Ok e) = IsFit e
EntryFits (Err found) = ⊤

after : {X : Type 0} (first : Result X DecodeFault) (next : X → Result Entry DecodeFault)
    → ((x : X) → first ≡ Ok x → EntryFits (next x)) → EntryFits (and_then first next)
after (Ok x) next fits = fits x refl
after (Err found) next fits = tt

weighed : (e : Entry) → is_sound_put e ≡ true → EntryFits (checked_weight e)
weighed e sound = by (nat_lt most_entry_weight (weight_of e.attrs)) refl
  where
    by : (b : Bool) → nat_lt most_entry_weight (weight_of e.attrs) ≡ b → EntryFits (cond b (Err (bad_entry ADMIN_LIMIT_EXCEEDED)) (Ok e))
    by true heavy = tt
    by false low = record { sound = sound; light = light (weight_of e.attrs) low }
      where
        light : (w : ℕ) → nat_lt most_entry_weight w ≡ false → nat_le w most_entry_weight ≡ true
        light w low = grind (arith, nat_tests, low)

of_syntax : (raws : List RawAttribute) (attrs : List Attribute) (unit : Unit {0}) → checked_syntax raws attrs ≡ Ok unit → list_all is_of_its_syntax attrs ≡ true
of_syntax raws attrs unit is = by (are_uuids raws) (list_all is_of_its_syntax attrs) is
  where
    by : (a b : Bool) → cond {A = Result (Unit {0}) DecodeFault} (a && b) (Ok tt) (Err (bad_entry INVALID_ATTRIBUTE_SYNTAX)) ≡ Ok unit → b ≡ true
    by true true h = refl
    by true false h = absurd (cc)
    by false true h = refl
    by false false h = absurd (cc)

-- an entry that was sent is fit, or refused
pub entry_fits : (uuid : ℕ) (name : List ℕ) (raws : List RawAttribute) → EntryFits (entry_of uuid name raws)
entry_fits uuid name raws =
    after (name_of name) _ (λ dn named. after (checked_syntax raws (attributes_of raws)) _ (λ checked are. after (entry_csn raws) _ (λ csn stamped.
    weighed (record { uuid = uuid; csn = csn; dn = dn; attrs = attributes_of raws })
    (sound_by (attributes_of raws) (joined_free (filter_map kept raws) (kept_free raws)) (of_syntax raws (attributes_of raws) checked are)))))
