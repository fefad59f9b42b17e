-- What the limits leave to an entry with no code against it.
use Rattle.std.proofs.Common.{◌≡◌, ◌<◌, ◌≤◌, ◌+◌, ◌-◌, ◌^◌, ℕ, min, Bool, true, false, ◌||◌, cond, nat_lt, nat_le, List, length, Option, Some, None, ap, sym, ◌∙◌, refl, ◌⊎◌, inl, inr, arith}
use Rattle.std.specs.Option.{option_or}
use Rattle.std.proofs.lemmas.Bool.{ltb-false, leb-false, lt-ltb, or_parts, cases_lt}
use Rattle.ldap_constants.specs.declared.result_codes.TheConstants.{ADMIN_LIMIT_EXCEEDED}
use Rattle.schema_rules.specs.declared.attributes.Attribute.{Attribute}
use Rattle.schema_rules.specs.Attributes.{entry_code, weight_of}
use Rattle.dn_names.specs.Names.{TypeAndValue}
use Rattle.entry_writes.specs.declared.entry.Entry.{Entry}
use Rattle.entry_writes.specs.Codes.{weight_code, limit_code, naming_code, add_target_code, add_code}
use Rattle.entry_writes.specs.State.{total_weight, most_entry_weight, most_entries, most_weight}

-- neither code rejects it
pub both_none : (a b : Option ℕ) → option_or a b ≡ None → (a ≡ None) × (b ≡ None)
both_none None b none = (refl, none)
both_none (Some n) b none = absurd (cc)

refused_not : (b : Bool) (n : ℕ) (rest : Option ℕ) → cond b (Some n) rest ≡ None → (b ≡ false) × (rest ≡ None)
refused_not true n rest none = absurd (cc)
refused_not false n rest none = (refl, none)

-- entries that no code rejects are not too heavy
pub light_where_none : (weight total : ℕ) → weight_code weight total ≡ None → total ≤ most_weight
light_where_none weight total none =
    let within = refused_not (nat_lt most_entry_weight weight || nat_lt most_weight total) ADMIN_LIMIT_EXCEEDED None none in
    ltb-false most_weight total (or_parts (nat_lt most_entry_weight weight) (nat_lt most_weight total) within.0).1

-- there is room for one entry more, and for its weight
pub room_where_none : (entries : List Entry) (weight : ℕ) → limit_code entries weight ≡ None → (length entries < most_entries) × (total_weight entries + weight ≤ most_weight)
room_where_none entries weight none =
    let within = refused_not (nat_le most_entries (length entries)) ADMIN_LIMIT_EXCEEDED (weight_code weight (total_weight entries + weight)) none in
    (leb-false most_entries (length entries) within.0, light_where_none weight (total_weight entries + weight) within.1)

-- an Add that no code rejects has room
pub add_where_none : (suffix : List (List TypeAndValue)) (entries : List Entry) (name : List (List TypeAndValue)) (attrs : List Attribute) → add_code suffix entries name attrs ≡ None
    → (length entries < most_entries) × (total_weight entries + weight_of attrs ≤ most_weight)
add_where_none suffix entries name attrs none =
    let room = limit_code entries (weight_of attrs) in
    let placed = both_none (add_target_code suffix entries name) (option_or (entry_code attrs) (option_or (naming_code name attrs) room)) none in
    let checked = both_none (entry_code attrs) (option_or (naming_code name attrs) room) placed.1 in
    let named = both_none (naming_code name attrs) room checked.1 in
    room_where_none entries (weight_of attrs) named.1

-- the greatest number that a weight is reported as stands for all above it
pub weight_code-shown : (shown weight others : ℕ) → shown ≡ min weight (2 ^ 64 - 1) → weight_code shown (others + shown) ≡ weight_code weight (others + weight)
weight_code-shown shown weight others is = by (cases_lt weight (2 ^ 64))
  where
    refused : (n total : ℕ) → most_entry_weight < n → weight_code n total ≡ Some ADMIN_LIMIT_EXCEEDED
    refused n total more = ap (λ b. cond (b || nat_lt most_weight total) (Some ADMIN_LIMIT_EXCEEDED) None) (lt-ltb most_entry_weight n more)

    by : (weight < 2 ^ 64) ⊎ (2 ^ 64 ≤ weight) → weight_code shown (others + shown) ≡ weight_code weight (others + weight)
    by (inl small) = let same : shown ≡ weight = omega (arith, is, small) in ap (λ n. weight_code n (others + n)) same
    by (inr large) = refused shown (others + shown) (omega (arith, is, large)) ∙ sym (refused weight (others + weight) (omega (arith, large)))

-- ---- codes, one after another

-- the code is the third where the first two give none
pub third_some : (a b c d : Option ℕ) (n : ℕ) → a ≡ None → b ≡ None → c ≡ Some n → option_or a (option_or b (option_or c d)) ≡ Some n
third_some a b c d n na nb some =
    ap (λ o. option_or o (option_or b (option_or c d))) na ∙ ap (λ o. option_or o (option_or c d)) nb ∙ ap (λ o. option_or o d) some

-- there is no code where three give none
pub three_none : (a b c : Option ℕ) → a ≡ None → b ≡ None → c ≡ None → option_or a (option_or b c) ≡ None
three_none a b c na nb nc = ap (λ o. option_or o (option_or b c)) na ∙ ap (λ o. option_or o c) nb ∙ nc

-- the code is the fourth where the first three give none
pub fourth_some : (a b c d : Option ℕ) (n : ℕ) → a ≡ None → b ≡ None → c ≡ None → d ≡ Some n → option_or a (option_or b (option_or c d)) ≡ Some n
fourth_some a b c d n na nb nc some =
    ap (λ o. option_or o (option_or b (option_or c d))) na ∙ ap (λ o. option_or o (option_or c d)) nb ∙ ap (λ o. option_or o d) nc ∙ some
