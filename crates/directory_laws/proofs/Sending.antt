-- What can be sent is read again.
use Rattle.std.proofs.Common.{◌≡◌, ◌≢◌, ℕ, true, false, not, List, [], ◌∷◌, get_or, is_some, Some, refl, inl, inr}
use Rattle.std.specs.List.{list_all}
use Rattle.std.proofs.lemmas.Bool.{and_parts, not-true, cases_Bool}
use Rattle.std.proofs.lemmas.List.Sums.{AllPass-from_list_all}
use Rattle.schema_rules.specs.declared.attributes.Attribute.{Attribute}
use Rattle.schema_rules.specs.declared.types.Rule.TheVariants.{Class}
use Rattle.schema_rules.specs.Attributes.{is_given, is_of_syntax}
use Rattle.schema_rules.specs.Keys.{key_of, key_by}
use Rattle.schema_rules.specs.Schema.{type_name, type_named, type_rule, is_operational, class_named}
use Rattle.csn_cookie.proofs.SpellingLemmas.{csn_of_text-csn_text}
use Rattle.dn_names.proofs.Equality.{found_type}
use Rattle.dn_names.proofs.Rereading.{name_read_again}
use Rattle.entry_tree.specs.declared.entry.Entry.{Entry}
use Rattle.sync_wire.specs.CanBeSent.{CanBeSent}
use Rattle.directory_laws.specs.Reading.{IsReadable, EntryIsReadAgain}

found : (kind : ℕ) (values : List (List ℕ)) → values ≢ [] → list_all (is_of_syntax kind) values ≡ true → type_named (type_name kind) ≡ Some kind
found kind [] some syntax = absurd (some refl)
found kind (value ∷ values) some syntax = found_type kind value (and_parts (is_of_syntax kind value) (list_all (is_of_syntax kind) values) syntax).0

-- a value of the syntax of object classes names a class
names_class : (kind : ℕ) (value : List ℕ) → type_rule kind ≡ Class → is_of_syntax kind value ≡ true → is_some (class_named value) ≡ true
unfolding key_of
names_class kind value class keyed =
    elim (cases_Bool (is_some (class_named value))) [
      | inl named ↦ named
      | inr unknown ↦ absurd (let none : is_some (key_by Class value) ≡ false = rw unknown refl in cc)
    ]

readable : (a : Attribute) → a.values ≢ [] → is_given a ≡ true → IsReadable a
readable a some given =
    let parts = and_parts (not (is_operational a.kind)) (list_all (is_of_syntax a.kind) a.values) given in
    let syntax = AllPass-from_list_all (is_of_syntax a.kind) a.values parts.1 in
    record {
      found = found a.kind a.values some parts.1;
      user = not-true (is_operational a.kind) parts.0;
      filled = some;
      syntax = syntax;
      classes = λ class k d low. names_class a.kind (get_or a.values k d) class (syntax k d low);
    }

-- an entry that can be sent is read again as it was
pub IsReadAgain-sent : (e : Entry) → CanBeSent e → EntryIsReadAgain e
IsReadAgain-sent e sent = record {
  name = name_read_again e.dn sent.name;
  is_csn = csn_of_text-csn_text e.csn sent.is_csn;
  attributes = λ k d low. readable (get_or e.attrs k d) (sent.listed.filled k d low) (AllPass-from_list_all is_given e.attrs sent.given k d low);
  once = sent.listed.once;
}
