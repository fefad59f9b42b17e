-- Texts of identities that are read one after the other.
use Rattle.std.proofs.Common.{◌≡◌, ◌≢◌, ℕ, ◌+◌, ◌<◌, Bool, true, false, cond, ◌&&◌, not, ◌==◌, List, [], ◌∷◌, ◌++◌, length, drop, get_or, Option, None, Some, is_some, Result, Ok, Err, ap, sym, append-nil, ◌∙◌, refl}
use Rattle.std.specs.Prelude.{find}
use Rattle.std.specs.Option.{option_or}
use Rattle.std.specs.List.{list_all, filter, filter_map, flat_map}
use Rattle.std.specs.Str.{str_eq_ignore_ascii_case}
use Rattle.std.proofs.lemmas.Bool.{eq-eqb, ne_eqb}
use Rattle.std.proofs.lemmas.List.{at_drop_more}
use Rattle.std.proofs.lemmas.List.Folds.{find-append, list_all-append}
use Rattle.std.proofs.lemmas.List.Elements.{filter-append, filter_map-append}
use Rattle.std.proofs.lemmas.Grind.{flat_map-append}
use Rattle.schema_rules.specs.declared.raw.RawAttribute.{RawAttribute}
use Rattle.sync_wire.specs.declared.fault.DecodeFault.TheVariants.{UuidDiffers}
use Rattle.sync_wire.specs.WireEntry.{values_named, uuid_of, same_or_refused, other_or_all, uuids_read}

-- what texts say after others without another identity
abbrev pub and_read : Bool → Result Bool ℕ → Result Bool ℕ
and_read all (Ok rest) = Ok (all && rest)
and_read all (Err other) = Err other

abbrev after_read : Result Bool ℕ → Result Bool ℕ → Result Bool ℕ
after_read (Ok all) rest = and_read all rest
after_read (Err other) rest = Err other

-- ---- one text

-- the text of another identity
pub one_other : (f : List ℕ → Option ℕ) (uuid : ℕ) (text : List ℕ) (other : ℕ) → f text ≡ Some other → other ≢ uuid
    → Err other ≡ other_or_all (find (λ found. not (found == uuid)) (filter_map f (text ∷ []))) (list_all (λ t. is_some (f t)) (text ∷ []))
one_other f uuid text other some differs = rw (some, ne_eqb other uuid differs) refl

-- the text of this identity
pub one_same : (f : List ℕ → Option ℕ) (uuid : ℕ) (text : List ℕ) (found : ℕ) → f text ≡ Some found → found ≡ uuid
    → Ok true ≡ other_or_all (find (λ found. not (found == uuid)) (filter_map f (text ∷ []))) (list_all (λ t. is_some (f t)) (text ∷ []))
one_same f uuid text found some same = rw (some, eq-eqb found uuid same) refl

-- a text of no identity
pub one_none : (f : List ℕ → Option ℕ) (uuid : ℕ) (text : List ℕ) → f text ≡ None
    → Ok false ≡ other_or_all (find (λ found. not (found == uuid)) (filter_map f (text ∷ []))) (list_all (λ t. is_some (f t)) (text ∷ []))
one_none f uuid text none = rw none refl

-- ---- texts before others

joined : (found others : Option ℕ) (all rest : Bool) → other_or_all (option_or found others) (all && rest) ≡ after_read (other_or_all found all) (other_or_all others rest)
joined None None all rest = refl
joined None (Some other) all rest = refl
joined (Some other) others all rest = refl

read-append : (f : List ℕ → Option ℕ) (p : ℕ → Bool) (xs ys : List (List ℕ))
    → other_or_all (find p (filter_map f (xs ++ ys))) (list_all (λ t. is_some (f t)) (xs ++ ys))
    ≡ after_read (other_or_all (find p (filter_map f xs)) (list_all (λ t. is_some (f t)) xs)) (other_or_all (find p (filter_map f ys)) (list_all (λ t. is_some (f t)) ys))
read-append f p xs ys =
    ap (λ found. other_or_all found (list_all (λ t. is_some (f t)) (xs ++ ys))) (ap (find p) (filter_map-append f xs ys) ∙ find-append p (filter_map f xs) (filter_map f ys))
    ∙ ap (λ all. other_or_all (option_or (find p (filter_map f xs)) (find p (filter_map f ys))) all) (list_all-append (λ t. is_some (f t)) xs ys)
    ∙ joined (find p (filter_map f xs)) (find p (filter_map f ys)) (list_all (λ t. is_some (f t)) xs) (list_all (λ t. is_some (f t)) ys)

and_read-and : (all read : Bool) (rest : Result Bool ℕ) → and_read (all && read) rest ≡ and_read all (and_read read rest)
and_read-and true read (Ok b) = refl
and_read-and false read (Ok b) = refl
and_read-and all read (Err other) = refl

goes_on : (uuid : ℕ) (xs ys : List (List ℕ)) (whole : Result Bool ℕ) (all read : Bool)
    → and_read all (uuids_read uuid (xs ++ ys)) ≡ whole → Ok read ≡ uuids_read uuid xs → and_read (all && read) (uuids_read uuid ys) ≡ whole
goes_on uuid xs ys whole all read before is =
    and_read-and all read (uuids_read uuid ys) ∙ ap (λ first. and_read all (after_read first (uuids_read uuid ys))) is
    ∙ ap (and_read all) (sym (read-append uuid_of (λ found. not (found == uuid)) xs ys)) ∙ before

stops : (uuid : ℕ) (xs ys : List (List ℕ)) (whole : Result Bool ℕ) (all : Bool) (other : ℕ)
    → and_read all (uuids_read uuid (xs ++ ys)) ≡ whole → Err other ≡ uuids_read uuid xs → Err other ≡ whole
stops uuid xs ys whole all other before is =
    ap (λ first. and_read all (after_read first (uuids_read uuid ys))) is
    ∙ ap (and_read all) (sym (read-append uuid_of (λ found. not (found == uuid)) xs ys)) ∙ before

-- ---- in loops

-- at first all are read
pub none_before : (rest : Result Bool ℕ) → and_read true rest ≡ rest
none_before (Ok all) = refl
none_before (Err other) = refl

-- at the end none is left
pub none_after : (all : Bool) → Ok all ≡ and_read all (Ok true)
none_after true = refl
none_after false = refl

next_text : (xs : List (List ℕ)) (i : ℕ) (x : List ℕ) → i < length xs → x ≡ get_or xs i x → drop i xs ≡ (x ∷ []) ++ drop (i + 1) xs
next_text xs i x low at = at_drop_more (λ ys. ys) xs i x low ∙ ap (λ y. y ∷ drop (i + 1) xs) (sym at)

-- the next text is of this identity, or of none
pub text_goes_on : (uuid : ℕ) (xs : List (List ℕ)) (i : ℕ) (x : List ℕ) (all read : Bool) → i < length xs → x ≡ get_or xs i x
    → and_read all (uuids_read uuid (drop i xs)) ≡ uuids_read uuid xs → Ok read ≡ uuids_read uuid (x ∷ [])
    → and_read (all && read) (uuids_read uuid (drop (i + 1) xs)) ≡ uuids_read uuid xs
text_goes_on uuid xs i x all read low at before is =
    goes_on uuid (x ∷ []) (drop (i + 1) xs) (uuids_read uuid xs) all read (ap (λ ys. and_read all (uuids_read uuid ys)) (sym (next_text xs i x low at)) ∙ before) is

-- the next text is of another identity
pub text_stops : (uuid : ℕ) (xs : List (List ℕ)) (i : ℕ) (x : List ℕ) (all : Bool) (other : ℕ) → i < length xs → x ≡ get_or xs i x
    → and_read all (uuids_read uuid (drop i xs)) ≡ uuids_read uuid xs → Err other ≡ uuids_read uuid (x ∷ []) → Err other ≡ uuids_read uuid xs
text_stops uuid xs i x all other low at before is =
    stops uuid (x ∷ []) (drop (i + 1) xs) (uuids_read uuid xs) all other (ap (λ ys. and_read all (uuids_read uuid ys)) (sym (next_text xs i x low at)) ∙ before) is

-- what is kept of the first by a test goes before what is kept of the others
first_apart : {X Y : Type 0} (f : X → List Y) (p : X → Bool) (x : X) (xs : List X) → flat_map f (filter p (x ∷ xs)) ≡ flat_map f (filter p (x ∷ [])) ++ flat_map f (filter p xs)
first_apart f p x xs = ap (flat_map f) (filter-append p (x ∷ []) xs) ∙ flat_map-append f (filter p (x ∷ [])) (filter p xs)

-- the values under a name, of one attribute more
pub next_raw : (name : List ℕ) (raws : List RawAttribute) (i : ℕ) (raw : RawAttribute) → i < length raws → raw ≡ get_or raws i raw
    → values_named name (drop i raws) ≡ values_named name (raw ∷ []) ++ values_named name (drop (i + 1) raws)
next_raw name raws i raw low at =
    at_drop_more (values_named name) raws i raw low ∙ ap (λ r. values_named name (r ∷ drop (i + 1) raws)) (sym at)
    ∙ first_apart (λ r. r.values) (λ r. str_eq_ignore_ascii_case r.name name) raw (drop (i + 1) raws)

-- the next attribute has values of this identity, or of none
pub raw_goes_on : (name : List ℕ) (uuid : ℕ) (raws : List RawAttribute) (i : ℕ) (raw : RawAttribute) (all read : Bool) → i < length raws → raw ≡ get_or raws i raw
    → and_read all (uuids_read uuid (values_named name (drop i raws))) ≡ uuids_read uuid (values_named name raws) → Ok read ≡ uuids_read uuid (values_named name (raw ∷ []))
    → and_read (all && read) (uuids_read uuid (values_named name (drop (i + 1) raws))) ≡ uuids_read uuid (values_named name raws)
raw_goes_on name uuid raws i raw all read low at before is =
    goes_on uuid (values_named name (raw ∷ [])) (values_named name (drop (i + 1) raws)) (uuids_read uuid (values_named name raws)) all read
    (ap (λ ys. and_read all (uuids_read uuid ys)) (sym (next_raw name raws i raw low at)) ∙ before) is

-- a value of the next attribute is of another identity
pub raw_stops : (name : List ℕ) (uuid : ℕ) (raws : List RawAttribute) (i : ℕ) (raw : RawAttribute) (all : Bool) (other : ℕ) → i < length raws → raw ≡ get_or raws i raw
    → and_read all (uuids_read uuid (values_named name (drop i raws))) ≡ uuids_read uuid (values_named name raws) → Err other ≡ uuids_read uuid (values_named name (raw ∷ []))
    → Err other ≡ uuids_read uuid (values_named name raws)
raw_stops name uuid raws i raw all other low at before is =
    stops uuid (values_named name (raw ∷ [])) (values_named name (drop (i + 1) raws)) (uuids_read uuid (values_named name raws)) all other
    (ap (λ ys. and_read all (uuids_read uuid ys)) (sym (next_raw name raws i raw low at)) ∙ before) is

-- one attribute of the name has the values that it has
pub named_alone : (name : List ℕ) (raw : RawAttribute) → str_eq_ignore_ascii_case raw.name name ≡ true → values_named name (raw ∷ []) ≡ raw.values
named_alone name raw named = ap (λ b. flat_map (λ (r : RawAttribute). r.values) (cond b (raw ∷ []) [])) named ∙ append-nil raw.values

-- and one of another name has none
pub other_alone : (name : List ℕ) (raw : RawAttribute) → str_eq_ignore_ascii_case raw.name name ≡ false → values_named name (raw ∷ []) ≡ []
other_alone name raw other = ap (λ b. flat_map (λ (r : RawAttribute). r.values) (cond b (raw ∷ []) [])) other

-- ---- what was read of all texts

-- where all texts are read, and none is of another identity, it is this one
pub read_same : (uuid : ℕ) (found : Option ℕ) (every all : Bool) → Ok all ≡ other_or_all found every → same_or_refused uuid found ≡ Ok tt
read_same uuid None every all is = refl
read_same uuid (Some other) every all is = absurd (cc)

-- whether all are read is whether each is
pub read_all : (found : Option ℕ) (every all : Bool) → Ok all ≡ other_or_all found every → all ≡ every
read_all None every all is = cc
read_all (Some other) every all is = absurd (cc)

-- where one is of another identity, the entry is refused for both
pub read_other : (uuid : ℕ) (found : Option ℕ) (every : Bool) (other : ℕ) → Err other ≡ other_or_all found every → same_or_refused uuid found ≡ Err (UuidDiffers uuid other)
read_other uuid None every other is = absurd (cc)
read_other uuid (Some first) every other is = let same : first ≡ other = cc in ap (λ o. Err (UuidDiffers uuid o)) same
