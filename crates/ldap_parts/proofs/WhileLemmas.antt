-- As many of a component as there are elements with its tag: reading them is exact, and so is reading them one after the other.
use Rattle.std.proofs.Common.{◌≡◌, ◌≢◌, ℕ, zero, suc, ◌<◌, ◌≤◌, ◌%◌, ◌^◌, true, false, List, [], ◌∷◌, ◌++◌, length, Result, Ok, Err, refl, sym, ap, subst, ◌∙◌, append_assoc, length-append, inl, inr, arith}
use Rattle.std.specs.List.{flat_map}
use Rattle.std.proofs.lemmas.Bool.{cases_Bool}
use Rattle.std.proofs.lemmas.List.{append-nil}
use Rattle.std.proofs.lemmas.List.Concat.{flat_map-cons}
use Rattle.ldap_ber.specs.Reader.{◌>>=◌, has_tag}
use Rattle.ldap_ber.specs.Form.{Form, OctetString}
use Rattle.ldap_ber.specs.Reading.{Reading}
use Rattle.ldap_ber.specs.Canonical.{element}
use Rattle.ldap_ber.proofs.Steps.{bind_ok, bind_same, ok_pair}
use Rattle.ldap_ber.proofs.ExactLemmas.{Exact, Shortens, tag_there, tag_not_there, advances, tag_is, tag_is_not}
use Rattle.ldap_ber.proofs.ManyLemmas.{Advances}
use Rattle.ldap_ber.proofs.CanonicalLemmas.{Spelled, Always, Lacks, begins_with}
use Rattle.ldap_ber.proofs.ElementLemmas.{element_spells, body_size}
use Rattle.ldap_parts.specs.Filters.{While, while_in, while_at}
use Rattle.ldap_parts.proofs.ComponentLemmas.{other_next}

-- more steps than there are octets change nothing
while_enough : {X : Type 0} (tag : ℕ) (f : Reading ℕ X) → Advances f → (m n stop : ℕ) (bytes : List ℕ) → length bytes ≤ m → length bytes ≤ n → while_in tag f m stop bytes ≡ while_in tag f n stop bytes
while_enough tag f adv zero zero stop bytes h k = refl
while_enough tag f adv zero (suc n) stop [] h k = refl
while_enough tag f adv zero (suc n) stop (b ∷ bytes) h k = absurd (omega arith)
while_enough tag f adv (suc m) zero stop [] h k = refl
while_enough tag f adv (suc m) zero stop (b ∷ bytes) h k = absurd (omega arith)
while_enough tag f adv (suc m) (suc n) stop [] h k = refl
while_enough tag f adv (suc m) (suc n) stop (b ∷ bytes) h k = elim (cases_Bool (has_tag tag (b ∷ bytes))) [
  | inr lacks ↦ rw lacks refl
  | inl there ↦ rw there (bind_same (f stop (b ∷ bytes)) _ _ (λ x e.
      let less : length x.1 < length (b ∷ bytes) = adv stop (b ∷ bytes) x.0 x.1 e in
      ap (λ r. r >>= λ xs. Ok (x.0 ∷ xs.0, xs.1)) (while_enough tag f adv m n stop x.1 (omega arith) (omega arith))))
]

-- one more is read in front
pub while_next : {X : Type 0} (tag : ℕ) (f : Reading ℕ X) → Advances f → (stop : ℕ) (bytes : List ℕ) → has_tag tag bytes ≡ true
    → while_at tag f stop bytes ≡ (f stop bytes >>= λ x. while_at tag f stop x.1 >>= λ xs. Ok (x.0 ∷ xs.0, xs.1))
unfolding while_at
while_next tag f adv stop [] h = absurd cc
while_next tag f adv stop (b ∷ bytes) h =
    rw h (bind_same (f stop (b ∷ bytes)) _ _ (λ x e.
    let less : length x.1 < length (b ∷ bytes) = adv stop (b ∷ bytes) x.0 x.1 e in
    ap (λ r. r >>= λ xs. Ok (x.0 ∷ xs.0, xs.1)) (while_enough tag f adv (length bytes) (length x.1) stop x.1 (omega arith) (omega arith))))

-- where no element has the tag, there is none
pub while_none : {X : Type 0} (tag : ℕ) (f : Reading ℕ X) (stop : ℕ) (bytes : List ℕ) → has_tag tag bytes ≡ false → while_at tag f stop bytes ≡ Ok ([], bytes)
unfolding while_at
while_none tag f stop [] h = refl
while_none tag f stop (b ∷ bytes) h = rw h refl

-- ---- as a loop reads them

abbrev pub and_prefix : {X : Type 0} → List X → Result (List X × List ℕ) ℕ → Result (List X × List ℕ) ℕ
and_prefix prefix read = read >>= λ xs. Ok (prefix ++ xs.0, xs.1)

regroup : {X : Type 0} (prefix : List X) (x : X) (read : Result (List X × List ℕ) ℕ) → and_prefix (prefix ++ x ∷ []) read ≡ and_prefix prefix (read >>= λ xs. Ok (x ∷ xs.0, xs.1))
regroup {X} prefix x (Ok xs) = ap (λ (ys : List X). Ok (ys, xs.1)) (simp append_assoc)
regroup prefix x (Err f) = refl

-- one that was read stands after those before it
pub while_goes_on : {X : Type 0} (tag : ℕ) (f : Reading ℕ X) → Advances f → (prefix : List X) (stop : ℕ) (bytes : List ℕ) (x : X) (rest : List ℕ) → has_tag tag bytes ≡ true → f stop bytes ≡ Ok (x, rest)
    → and_prefix (prefix ++ x ∷ []) (while_at tag f stop rest) ≡ and_prefix prefix (while_at tag f stop bytes)
while_goes_on tag f adv prefix stop bytes x rest here h = regroup prefix x (while_at tag f stop rest) ∙ rw (while_next tag f adv stop bytes here, h) refl

-- where one is refused, all are
pub while_fails : {X : Type 0} (tag : ℕ) (f : Reading ℕ X) → Advances f → (prefix : List X) (stop : ℕ) (bytes : List ℕ) (e : ℕ) → has_tag tag bytes ≡ true → f stop bytes ≡ Err e
    → and_prefix prefix (while_at tag f stop bytes) ≡ Err e
while_fails tag f adv prefix stop bytes e here h = rw (while_next tag f adv stop bytes here, h) refl

-- where no element has the tag any more, they are those that were read
pub while_ended : {X : Type 0} (tag : ℕ) (f : Reading ℕ X) (prefix : List X) (stop : ℕ) (bytes : List ℕ) → has_tag tag bytes ≡ false → and_prefix prefix (while_at tag f stop bytes) ≡ Ok (prefix, bytes)
while_ended {X} tag f prefix stop bytes none = rw (while_none tag f stop bytes none) (ap (λ (ys : List X). Ok (ys, bytes)) (append-nil prefix))

-- ---- exact

abbrev none : (X : Type 0) → List X
none X = []

nothing_found : {X : Type 0} (tag : ℕ) (R : Form X) (f : Reading ℕ X) (stop : ℕ) (bytes : List ℕ) (xs : List X) (rest : List ℕ) → has_tag tag bytes ≡ false → while_at tag f stop bytes ≡ Ok (xs, rest) → While tag R bytes xs rest
nothing_found {X} tag R f stop bytes xs rest lacks h =
    let e = ok_pair (none X) bytes xs rest (sym (while_none tag f stop bytes lacks) ∙ h) in
    subst (λ (y : List ℕ). While tag R bytes xs y) e.1 (subst (λ (ys : List X). While tag R bytes ys bytes) e.0 (refl, tag_is_not tag bytes lacks))

while_found : {X : Type 0} (tag : ℕ) (R : Form X) (f : Reading ℕ X) → Exact R f → Shortens R → (most stop : ℕ) (bytes : List ℕ) (xs : List X) (rest : List ℕ) → length bytes ≤ most → while_at tag f stop bytes ≡ Ok (xs, rest) → While tag R bytes xs rest
while_found tag R f p short most stop [] xs rest le h = nothing_found tag R f stop [] xs rest refl h
while_found tag R f p short zero stop (b ∷ bytes) xs rest le h = absurd (omega arith)
while_found {X} tag R f p short (suc most) stop (b ∷ bytes) xs rest le h = elim (cases_Bool (has_tag tag (b ∷ bytes))) [
  | inr lacks ↦ nothing_found tag R f stop (b ∷ bytes) xs rest lacks h
  | inl there ↦
      let step = sym (while_next tag f (advances R f p short) stop (b ∷ bytes) there) ∙ h in
      let a = bind_ok (f stop (b ∷ bytes)) (λ x. while_at tag f stop x.1 >>= λ xs. Ok (x.0 ∷ xs.0, xs.1)) (xs, rest) step in
      let c = bind_ok (while_at tag f stop a.0.1) (λ xs. Ok (a.0.0 ∷ xs.0, xs.1)) (xs, rest) a.2 in
      let e = ok_pair (a.0.0 ∷ c.0.0) c.0.1 xs rest c.2 in
      let r = p.found stop (b ∷ bytes) a.0.0 a.0.1 a.1 in
      let less : length a.0.1 < length (b ∷ bytes) = short (b ∷ bytes) a.0.0 a.0.1 r in
      let here : While tag R (b ∷ bytes) (a.0.0 ∷ c.0.0) c.0.1 = (tag_is tag (b ∷ bytes) there, a.0.1, r, while_found tag R f p short most stop a.0.1 c.0.0 c.0.1 (omega arith) c.1) in
      subst (λ (y : List ℕ). While tag R (b ∷ bytes) xs y) e.1 (subst (λ (ys : List X). While tag R (b ∷ bytes) ys c.0.1) e.0 here)
]

while_only : {X : Type 0} (tag : ℕ) (R : Form X) (f : Reading ℕ X) → Exact R f → Shortens R → (stop : ℕ) (bytes : List ℕ) (xs : List X) (rest : List ℕ) → While tag R bytes xs rest → while_at tag f stop bytes ≡ Ok (xs, rest)
while_only tag R f p short stop bytes [] rest h = rw (while_none tag f stop bytes (tag_not_there tag bytes h.1), h.0) refl
while_only tag R f p short stop bytes (x ∷ xs) rest h =
    rw (while_next tag f (advances R f p short) stop bytes (tag_there tag bytes h.0), p.only stop bytes x h.1 h.2, while_only tag R f p short stop h.1 xs rest h.3) refl

-- an exact reading, repeated, is exact
pub while_exact : {X : Type 0} (tag : ℕ) (R : Form X) (f : Reading ℕ X) → Exact R f → Shortens R → Exact (While tag R) (while_at tag f)
while_exact tag R f p short = record {
  found = λ stop bytes xs rest h. while_found tag R f p short (length bytes) stop bytes xs rest (omega arith) h;
  only = λ stop bytes xs rest h. while_only tag R f p short stop bytes xs rest h;
}

-- ---- written

strings_go : (tag : ℕ) → tag % 32 ≢ 31 → (xs : List (List ℕ)) (rest : List ℕ) → length (flat_map (element tag) xs) < 2 ^ 32 → Lacks tag rest → While tag (OctetString tag) (flat_map (element tag) xs ++ rest) xs rest
strings_go tag low [] rest small after = (refl, after)
strings_go tag low (x ∷ xs) rest small after =
    let size = simp (flat_map-cons, length-append) at small in
    let again : flat_map (element tag) (x ∷ xs) ++ rest ≡ element tag x ++ (flat_map (element tag) xs ++ rest) = ap (λ (y : List ℕ). y ++ rest) (flat_map-cons (element tag) x xs) ∙ append_assoc (element tag x) (flat_map (element tag) xs) rest in
    rw again (begins_with tag x (flat_map (element tag) xs ++ rest), flat_map (element tag) xs ++ rest, element_spells tag x (flat_map (element tag) xs ++ rest) low (omega (arith, body_size tag x, size)), strings_go tag low xs rest (omega (arith, size)) after)

-- octet strings one after another spell these where no element with their tag follows
pub strings_while_spelled : (tag : ℕ) → tag % 32 ≢ 31 → Spelled (While tag (OctetString tag)) (flat_map (element tag)) (Always {X = List (List ℕ)}) (Lacks tag)
strings_while_spelled tag low = record { spells = λ xs rest small sound after. strings_go tag low xs rest small after }

-- an element of another tag comes next, or what follows it
pub strings_lack : (tag other : ℕ) (xs : List (List ℕ)) (rest : List ℕ) → other ≢ tag → Lacks tag rest → Lacks tag (flat_map (element other) xs ++ rest)
strings_lack tag other [] rest ne after = after
strings_lack tag other (x ∷ xs) rest ne after =
    let again : flat_map (element other) (x ∷ xs) ++ rest ≡ element other x ++ (flat_map (element other) xs ++ rest) = ap (λ (y : List ℕ). y ++ rest) (flat_map-cons (element other) x xs) ∙ append_assoc (element other x) (flat_map (element other) xs) rest in
    subst (λ (y : List ℕ). Lacks tag y) (sym again) (other_next tag other x (flat_map (element other) xs ++ rest) ne)
