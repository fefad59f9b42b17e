-- Gathering changes neither what is said of an identity nor whether anything is.
use Rattle.std.proofs.Common.{◌≡◌, ℕ, ◌+◌, Bool, true, false, cond, nat_eq, nat_lt, List, [], ◌∷◌, ◌++◌, length, refl, sym, ap, ◌∙◌, arith, None, inl, inr, subst}
use Rattle.std.specs.Prelude.{◌||◌, ⊤}
use Rattle.std.proofs.lemmas.Bool.Decides.{nat_tests}
use Rattle.std.proofs.lemmas.Bool.{cases_Bool, eqb-true, false≢true}
use Rattle.std.proofs.Math.Bool.{or-false}
use Rattle.entry_tree.specs.declared.entry.Entry.{Entry}
use Rattle.sync_model.specs.Message.{SyncMessage}
use Rattle.sync_model.specs.Message.SyncMessage.{AddOrModify, Delete, Present, IdSet, NewCookie, RefreshDelete, RefreshPresent, Done, Ignored}
use Rattle.sync_model.specs.Stream.{WalkDecision, among, most_names, whole, left_over, rest_of, gathered}
use Rattle.sync_model.specs.Stream.WalkDecision.{Sends, Names}
use Rattle.sync_model.proofs.Maps.{among-append}

-- each item of a list has a property
abbrev pub Each : {X : Type 0} → (X → Type 0) → List X → Type 0
Each Q [] = ⊤
Each Q (x ∷ xs) = Q x × Each Q xs

-- what follows from what holds of each holds of each
pub each_weaker : {X : Type 0} (P Q : X → Type 0) (xs : List X) → ((x : X) → P x → Q x) → Each P xs → Each Q xs
each_weaker P Q [] h each = tt
each_weaker P Q (x ∷ xs) h each = (h x each.0, each_weaker P Q xs h each.1)

-- P of each entry that is sent, Q of each identity that is named
abbrev pub EachD : (Entry → Type 0) → (ℕ → Type 0) → List WalkDecision → Type 0
EachD P Q [] = ⊤
EachD P Q (Sends entry ∷ ds) = P entry × EachD P Q ds
EachD P Q (Names uuid ∷ ds) = Q uuid × EachD P Q ds

-- a message of a part of a refresh: an entry or a set of the part's kind, without a cookie
abbrev pub IsPart : (deletes : Bool) → (Entry → Type 0) → (ℕ → Type 0) → SyncMessage → Type 0
IsPart deletes P Q (AddOrModify adds entry cookie) = (cookie ≡ None) × P entry
IsPart deletes P Q (IdSet d uuids cookie) = (cookie ≡ None) × (d ≡ deletes) × Each Q uuids
IsPart deletes P Q (Delete uuid name cookie) = ⊥
IsPart deletes P Q (Present uuid cookie) = ⊥
IsPart deletes P Q (NewCookie cookie) = ⊥
IsPart deletes P Q (RefreshDelete done cookie) = ⊥
IsPart deletes P Q (RefreshPresent done cookie) = ⊥
IsPart deletes P Q (Done code control) = ⊥
IsPart deletes P Q Ignored = ⊥

-- each entry that a list of messages puts and each identity that it names has its property
abbrev pub EachM : (deletes : Bool) → (Entry → Type 0) → (ℕ → Type 0) → List SyncMessage → Type 0
EachM deletes P Q ms = Each (IsPart deletes P Q) ms

-- whether something is said of u
abbrev pub meant_d : ℕ → List WalkDecision → Bool
meant_d u [] = false
meant_d u (Sends entry ∷ ds) = nat_eq u entry.uuid || meant_d u ds
meant_d u (Names uuid ∷ ds) = nat_eq u uuid || meant_d u ds

-- whether a message is about this identity
abbrev pub meant_by : ℕ → SyncMessage → Bool
meant_by u (AddOrModify adds entry cookie) = nat_eq u entry.uuid
meant_by u (IdSet d uuids cookie) = among u uuids
meant_by u (Delete uuid name cookie) = nat_eq u uuid
meant_by u (Present uuid cookie) = nat_eq u uuid
meant_by u (NewCookie cookie) = false
meant_by u (RefreshDelete done cookie) = false
meant_by u (RefreshPresent done cookie) = false
meant_by u (Done code control) = false
meant_by u Ignored = false

-- whether one of the messages is about this identity
abbrev pub meant : ℕ → List SyncMessage → Bool
meant u [] = false
meant u (m ∷ ms) = meant_by u m || meant u ms

-- what holds of the items of two lists holds of those of both together
pub each-append : {X : Type 0} (Q : X → Type 0) (xs ys : List X) → Each Q xs → Each Q ys → Each Q (xs ++ ys)
each-append Q [] ys a b = b
each-append Q (x ∷ xs) ys a b = (a.0, each-append Q xs ys a.1 b)

-- what holds of all items holds of those of the first part
pub each-prefix : {X : Type 0} (Q : X → Type 0) (xs ys : List X) → Each Q (xs ++ ys) → Each Q xs
each-prefix Q [] ys a = tt
each-prefix Q (x ∷ xs) ys a = (a.0, each-prefix Q xs ys a.1)

-- what holds of all identities holds of one that is among them
pub each-among : (Q : ℕ → Type 0) (us : List ℕ) (u : ℕ) → Each Q us → among u us ≡ true → Q u
each-among Q [] u a h = absurd (false≢true h)
each-among Q (v ∷ us) u a h = elim (cases_Bool (nat_eq u v)) [
  | inl here ↦ subst Q (sym (eqb-true u v here)) a.0
  | inr off ↦ each-among Q us u a.1 (sym (ap (λ b. b || among u us) off) ∙ h)
]

-- what holds of the decisions of two lists holds of those of both together
pub eachd-append : (P : Entry → Type 0) (Q : ℕ → Type 0) (ds es : List WalkDecision) → EachD P Q ds → EachD P Q es → EachD P Q (ds ++ es)
eachd-append P Q [] es a b = b
eachd-append P Q (Sends entry ∷ ds) es a b = (a.0, eachd-append P Q ds es a.1 b)
eachd-append P Q (Names uuid ∷ ds) es a b = (a.0, eachd-append P Q ds es a.1 b)

-- some messages mean an identity where the first or the others do
pub meant-append : (u : ℕ) (ms ns : List SyncMessage) → meant u (ms ++ ns) ≡ (meant u ms || meant u ns)
meant-append u [] ns = refl
meant-append u (m ∷ ms) ns = step (meant_by u m) (meant-append u ms ns) where
  step : (b : Bool) → meant u (ms ++ ns) ≡ (meant u ms || meant u ns) → (b || meant u (ms ++ ns)) ≡ ((b || meant u ms) || meant u ns)
  step true ih = refl
  step false ih = ih

-- an identity is meant by two lists of decisions where one of them means it
pub meant_d-append : (u : ℕ) (ds es : List WalkDecision) → meant_d u (ds ++ es) ≡ (meant_d u ds || meant_d u es)
meant_d-append u [] es = refl
meant_d-append u (Sends entry ∷ ds) es = grind (arith, nat_tests, meant_d-append u ds es)
meant_d-append u (Names uuid ∷ ds) es = grind (arith, nat_tests, meant_d-append u ds es)

if_each : {X : Type 0} (Q : X → Type 0) (b : Bool) (xs ys : List X) → Each Q xs → Each Q ys → Each Q (cond b xs ys)
if_each Q true xs ys a c = a
if_each Q false xs ys a c = c

each-whole : (ds : List WalkDecision) (d : Bool) (P : Entry → Type 0) (Q : ℕ → Type 0) (names : List ℕ) → Each Q names → EachD P Q ds → EachM d P Q (whole d names ds)
each-whole [] d P Q names n a = tt
each-whole (Sends entry ∷ ds) d P Q names n a = ((refl, a.0), each-whole ds d P Q names n a.1)
each-whole (Names uuid ∷ ds) d P Q names n a =
    let more : Each Q (names ++ uuid ∷ []) = each-append Q names (uuid ∷ []) n (a.0, tt) in
    if_each (IsPart d P Q) (nat_lt (length names + 1) most_names) (whole d (names ++ uuid ∷ []) ds) (IdSet d (names ++ uuid ∷ []) None ∷ whole d [] ds)
    (each-whole ds d P Q (names ++ uuid ∷ []) more a.1) ((refl, refl, more), each-whole ds d P Q [] tt a.1)

each-left_over : (ds : List WalkDecision) (P : Entry → Type 0) (Q : ℕ → Type 0) (names : List ℕ) → Each Q names → EachD P Q ds → Each Q (left_over names ds)
each-left_over [] P Q names n a = n
each-left_over (Sends entry ∷ ds) P Q names n a = each-left_over ds P Q names n a.1
each-left_over (Names uuid ∷ ds) P Q names n a =
    if_each Q (nat_lt (length names + 1) most_names) (left_over (names ++ uuid ∷ []) ds) (left_over [] ds)
    (each-left_over ds P Q (names ++ uuid ∷ []) (each-append Q names (uuid ∷ []) n (a.0, tt)) a.1) (each-left_over ds P Q [] tt a.1)

each-rest : (d : Bool) (P : Entry → Type 0) (Q : ℕ → Type 0) (us : List ℕ) → Each Q us → EachM d P Q (rest_of d us)
each-rest d P Q [] a = tt
each-rest d P Q (u ∷ us) a = ((refl, refl, a), tt)

-- what holds of decisions holds of the messages that they are gathered to
pub each-gathered : (d : Bool) (P : Entry → Type 0) (Q : ℕ → Type 0) (ds : List WalkDecision) → EachD P Q ds → EachM d P Q (gathered d ds)
each-gathered d P Q ds a =
    each-append (IsPart d P Q) (whole d [] ds) (rest_of d (left_over [] ds)) (each-whole ds d P Q [] tt a) (each-rest d P Q (left_over [] ds) (each-left_over ds P Q [] tt a))

meant-rest : (u : ℕ) (d : Bool) (us : List ℕ) → meant u (rest_of d us) ≡ among u us
meant-rest u d [] = refl
meant-rest u d (v ∷ us) = or-false (among u (v ∷ us))

meant-whole : (ds : List WalkDecision) (u : ℕ) (d : Bool) (names : List ℕ) → (meant u (whole d names ds) || among u (left_over names ds)) ≡ (among u names || meant_d u ds)
meant-whole [] u d names = grind (arith, nat_tests)
meant-whole (Sends entry ∷ ds) u d names = grind (arith, nat_tests, meant-whole ds u d names)
meant-whole (Names v ∷ ds) u d names = step (nat_lt (length names + 1) most_names) (meant-whole ds u d []) (meant-whole ds u d (names ++ v ∷ [])) where
  step : (b : Bool) → (meant u (whole d [] ds) || among u (left_over [] ds)) ≡ meant_d u ds
      → (meant u (whole d (names ++ v ∷ []) ds) || among u (left_over (names ++ v ∷ []) ds)) ≡ (among u (names ++ v ∷ []) || meant_d u ds)
      → (meant u (cond b (whole d (names ++ v ∷ []) ds) (IdSet d (names ++ v ∷ []) None ∷ whole d [] ds)) || among u (cond b (left_over (names ++ v ∷ []) ds) (left_over [] ds))) ≡ (among u names || (nat_eq u v || meant_d u ds))
  step true p q = grind (arith, nat_tests, among-append u names (v ∷ []))
  step false p q = grind (arith, nat_tests, among-append u names (v ∷ []))

-- gathered messages are about the identities of their decisions
pub meant-gathered : (u : ℕ) (d : Bool) (ds : List WalkDecision) → meant u (gathered d ds) ≡ meant_d u ds
meant-gathered u d ds =
    meant-append u (whole d [] ds) (rest_of d (left_over [] ds)) ∙ ap (λ b. meant u (whole d [] ds) || b) (meant-rest u d (left_over [] ds)) ∙ meant-whole ds u d []
