-- The RDNs of a drill are read from the texts in which they are written.
use Rattle.std.proofs.Common.{◌≡◌, ◌⊎◌, ℕ, suc, ◌+◌, ◌/◌, ◌%◌, ◌<◌, ◌≤◌, Bool, true, false, not, nat_lt, nat_le, List, [], ◌∷◌, ◌++◌, length, is_some, inl, inr, Ok, Err, refl, sym, ap, ◌∙◌, subst, ⊎_elim, arith, length-append}
use Rattle.std.specs.Prelude.{codes, Result, IfOk, None, if◌then◌else◌, ◌&&◌}
use Rattle.std.specs.Fmt.{decimal}
use Rattle.std.specs.List.{list_all}
use Rattle.std.proofs.lemmas.Bool.{and_from, cases_lt, le-leb, le-ltb, lt-ltb}
use Rattle.std.proofs.lemmas.Fmt.{decimal_digit, decimal_step}
use Rattle.std.proofs.lemmas.Result.{IfOk-weaker}
use Rattle.schema_rules.specs.Keys.{is_ascii, key_by, key_of}
use Rattle.schema_rules.specs.Schema.{types, type_name, type_rule}
use Rattle.schema_rules.specs.declared.types.Rule.TheVariants.{FoldedAscii}
use Rattle.text_keys.specs.Text.{ignore_case_key}
use Rattle.dn_names.specs.Keys.{has_double}
use Rattle.dn_names.specs.Names.{TypeAndValue}
use Rattle.dn_names.specs.Reading.{IsNameFault, limited, rdn_of_text}
use Rattle.dn_names.specs.Sound.{has_key, is_rdn}
use Rattle.dn_names.specs.Writing.{rdn_text}
use Rattle.dn_names.specs.declared.fault.NameFault.{NameFault}
use Rattle.dn_names.specs.declared.fault.NameFault.TheVariants.{BadName, UnknownType, TooLong, NoMemory}
use Rattle.dn_names.proofs.Rereading.{rdn_read_again}
use Rattle.drill_plan.specs.Names.{rdn_of_one, unit_text, unit_rdn, entry_text}
use Rattle.drill_plan.proofs.PlainKeys.{IsWord, byte_small, folded_word, unit_rule, common_rule, word_key}
use Rattle.drill_plan.proofs.UnitTexts.{digits, text_word}
use Rattle.drill_plan.proofs.WrittenNames.{one_text, common_name_text, unit_name_text, component_text}

-- ---- words have keys

-- a word of this type has a key
abbrev HasWords : ℕ → Type 0
HasWords kind = (c : ℕ) (cs : List ℕ) → IsWord (c ∷ cs) → is_some (key_of kind (c ∷ cs)) ≡ true

common_words : HasWords 1
common_words c cs word = ap is_some (word_key 1 c cs common_rule word)

unit_words : HasWords 9
unit_words c cs word = ap is_some (word_key 9 c cs unit_rule word)

-- a word is in ASCII
pub word_is_ascii : (value : List ℕ) → IsWord value → is_ascii value ≡ true
word_is_ascii [] word = refl
word_is_ascii (c ∷ cs) word =
    let low : c < 123 = byte_small c word.0 in
    and_from (nat_lt c 128) (is_ascii cs) (lt-ltb c 128 (omega (arith, low))) (word_is_ascii cs word.1)

component_rule : type_rule 12 ≡ FoldedAscii
unfolding types
component_rule = refl

-- a value of `dc` in ASCII has the key of one whose case is ignored
pub component_key : (value : List ℕ) → is_ascii value ≡ true → key_of 12 value ≡ ignore_case_key value
unfolding key_of
component_key value ascii =
    ap (λ rule. key_by rule value) component_rule ∙ ap (λ b. if b then ignore_case_key value else None) ascii

component_words : HasWords 12
component_words c cs word =
    ap is_some (component_key (c ∷ cs) (word_is_ascii (c ∷ cs) word) ∙ folded_word c cs word)

-- ---- RDNs of one word

one_rdn : (kind c : ℕ) (cs name : List ℕ) → HasWords kind → type_name kind ≡ name → IsWord (c ∷ cs) → length name ≤ 100
    → length cs ≤ 100 → is_rdn (rdn_of_one kind (c ∷ cs)) ≡ true
one_rdn kind c cs name has is word short few =
    let rdn : List TypeAndValue = rdn_of_one kind (c ∷ cs) in
    let written : rdn_text rdn ≡ name ++ 61 ∷ c ∷ cs = one_text kind name (c ∷ cs) is word in
    let count : length (rdn_text rdn) ≡ length name + suc (suc (length cs)) =
    ap length written ∙ length-append name (61 ∷ c ∷ cs) in
    let low : length (rdn_text rdn) ≤ 1024 = omega (arith, count, short, few) in
    and_from true (list_all has_key rdn && (not (has_double rdn) && nat_le (length (rdn_text rdn)) 1024)) refl
    (and_from (list_all has_key rdn) (not (has_double rdn) && nat_le (length (rdn_text rdn)) 1024)
    (and_from (is_some (key_of kind (c ∷ cs))) true (has c cs word) refl)
    (and_from (not (has_double rdn)) (nat_le (length (rdn_text rdn)) 1024) refl (le-leb (length (rdn_text rdn)) 1024 low)))

one_reread : (kind c : ℕ) (cs name : List ℕ) → HasWords kind → type_name kind ≡ name → IsWord (c ∷ cs) → length name ≤ 100
    → length cs ≤ 100 → rdn_of_text (name ++ 61 ∷ c ∷ cs) ≡ Ok (rdn_of_one kind (c ∷ cs))
one_reread kind c cs name has is word short few =
    ap rdn_of_text (sym (one_text kind name (c ∷ cs) is word))
    ∙ rdn_read_again (rdn_of_one kind (c ∷ cs)) (one_rdn kind c cs name has is word short few)

-- ---- those of a drill

letter : (c : ℕ) → 97 ≤ c → c < 123 → ((48 ≤ c) × (c < 58)) ⊎ ((97 ≤ c) × (c < 123))
letter c low high = inr (low, high)

-- `drill` is a word
pub drill_word : IsWord (codes "drill")
drill_word = (
  letter 100 (omega arith) (omega arith),
  (
    letter 114 (omega arith) (omega arith),
    (
      letter 105 (omega arith) (omega arith),
      (letter 108 (omega arith) (omega arith), (letter 108 (omega arith) (omega arith), tt)),
    ),
  ),
)

-- the RDN of the suffix
pub suffix_reread : rdn_of_text (codes "dc=drill") ≡ Ok (rdn_of_one 12 (codes "drill"))
suffix_reread =
    one_reread 12 100 (codes "rill") (codes "dc") component_words component_text drill_word (omega arith) (omega arith)

-- the RDN of a unit
pub unit_reread : (writer : ℕ) (renamed : Bool) → writer < 8
    → rdn_of_text (codes "ou=" ++ unit_text writer renamed) ≡ Ok (unit_rdn writer renamed)
unit_reread writer renamed small =
    let rest : List ℕ = (48 + writer) ∷ (if renamed then codes "x" else []) in
    ap (λ value. rdn_of_text (codes "ou=" ++ value)) (digits writer renamed small)
    ∙ one_reread 9 119 rest (codes "ou") unit_words unit_name_text (text_word writer renamed small) (omega arith) (few renamed)
    ∙ ap (λ value. Ok (rdn_of_one 9 value)) (sym (digits writer renamed small))
  where
    few : (b : Bool) → length ((48 + writer) ∷ (if b then codes "x" else [])) ≤ 100
    few true = omega arith
    few false = omega arith

-- a number below 64 has one digit or two
pub slot_word : (slot : ℕ) → slot < 64 → IsWord (decimal slot) × (length (decimal slot) ≤ 2)
slot_word slot small =
    ⊎_elim
    (λ (one : slot < 10).
    subst (λ ds. IsWord ds × (length ds ≤ 2)) (sym (decimal_digit slot one))
    ((inl (omega arith, omega (arith, one)), tt), omega arith))
    (λ (more : 10 ≤ slot).
    let high : slot / 10 < 10 = omega (arith, small) in
    let low : slot % 10 < 10 = omega arith in
    let two : decimal slot ≡ (48 + slot / 10) ∷ (48 + slot % 10) ∷ [] =
    decimal_step slot more (omega (arith, small)) ∙ ap (λ ds. ds ++ ((48 + slot % 10) ∷ [])) (decimal_digit (slot / 10) high) in
    subst (λ ds. IsWord ds × (length ds ≤ 2)) (sym two)
    ((inl (omega arith, omega (arith, high)), (inl (omega arith, omega (arith, low)), tt)), omega arith))
    (cases_lt slot 10)

-- the RDN of an entry below it
pub entry_reread : (slot : ℕ) → slot < 64 → rdn_of_text (codes "cn=" ++ entry_text slot) ≡ Ok (rdn_of_one 1 (entry_text slot))
entry_reread slot small =
    let its = slot_word slot small in
    let few : length (decimal slot) ≤ 2 = its.1 in
    one_reread 1 101 (decimal slot) (codes "cn") common_words common_name_text (inr (omega arith, omega arith), its.0) (omega arith)
    (omega (arith, few))

-- ---- a text that is read has no fault but that memory runs out

apart : {A : Type 0} (value : A) (fault : NameFault) → ◌≡◌ {A = Result A NameFault} (Ok value) (Err fault) → ⊥
apart value fault e = cc

-- a text that is an RDN is refused for no other cause
pub only_memory : {A : Type 0} (read : Result A NameFault) (value : A) (fault : NameFault) → read ≡ Ok value → IsNameFault read fault
    → fault ≡ NoMemory
only_memory read value (BadName place) is fails = absurd (apart value (BadName place) (sym is ∙ fails))
only_memory read value (UnknownType place) is fails = absurd (apart value (UnknownType place) (sym is ∙ fails))
only_memory read value (TooLong place) is fails = absurd (apart value (TooLong place) (sym is ∙ fails))
only_memory read value NoMemory is fails = refl

-- what is read from one text is one value
pub same_read : {A : Type 0} (read : Result A NameFault) (one other : A) → read ≡ Ok one → read ≡ Ok other → one ≡ other
same_read read one other first second = same_ok one other (sym first ∙ second)
  where
    same_ok : {A : Type 0} (x y : A) → ◌≡◌ {A = Result A NameFault} (Ok x) (Ok y) → x ≡ y
    same_ok x y e = cc

-- a name of few RDNs may have one more
pub within : (rdn : List TypeAndValue) (name : List (List TypeAndValue)) → length name < 32 → limited (rdn ∷ name) ≡ Ok (rdn ∷ name)
within rdn name low =
    ap (λ b. if b then Err (TooLong 0) else Ok (rdn ∷ name)) (le-ltb 32 (suc (length name)) (omega (arith, low)))

-- what is read from a text in which this RDN is written
pub read_as : {E : Type 0} (text : List ℕ) (rdn : List TypeAndValue) (read : Result (List TypeAndValue) E)
    → rdn_of_text text ≡ Ok rdn → IfOk read (λ found. rdn_of_text text ≡ Ok found) → IfOk read (λ found. found ≡ rdn)
read_as text rdn read is reads =
    IfOk-weaker read (λ found. rdn_of_text text ≡ Ok found) (λ found. found ≡ rdn)
    (λ found there. same_read (rdn_of_text text) found rdn there is) reads
