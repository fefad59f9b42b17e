-- A reading gives exactly what a form says. One lemma for each way to make a component.
use Rattle.std.proofs.Common.{◌≡◌, ◌≢◌, ℕ, zero, suc, ◌-◌, ◌<◌, ◌≤◌, Bool, true, false, cond, ltb, eqb, not, ◌||◌, List, [], ◌∷◌, length, Option, Some, None, Result, Ok, Err, refl, sym, ap, subst, ◌∙◌, arith, inl, inr}
use Rattle.std.proofs.lemmas.Bool.{ltb-false, le-ltb, eqb-true, eqb-false, ne_eqb, or_parts}
use Rattle.std.proofs.Common.{eq-eqb}
use Rattle.ldap_ber.specs.declared.fault.BerFault.{BerFault}
use Rattle.ldap_ber.specs.Element.{Begins, integer_of}
use Rattle.ldap_ber.specs.Reader.{◌>>=◌, Element, fault, placed, element_at, expect_at, tag_at, has_tag, end_at, integer_in, boolean_of, boolean_in}
use Rattle.ldap_ber.specs.Form.{Form, OctetString, Integer, Boolean, Optional, Default, Both, Meaning, MadeOf, Many, AnyElement, AreElements, Tagged, Sequence, ListOf}
use Rattle.ldap_ber.specs.Reading.{Reading, reworded, octets_at, integer_at, boolean_at, optional_at, default_at, both_at, meaning_at, made_at, many_in, many_at, any_at, skip_at, tagged_at, sequence_at, list_at, whole_at}
use Rattle.ldap_ber.proofs.Steps.{bind_ok, chosen, guard_ok, guard_on, ok_is, ok_pair}
use Rattle.ldap_ber.proofs.ElementLemmas.{parts_only}
use Rattle.ldap_ber.proofs.ManyLemmas.{Advances, many_next, many_none}
use Rattle.ldap_ber.proofs.SkipLemmas.{element_found, Begins-shorter}

-- what is read is spelled so, and what is spelled so is read
pub record Exact {X E : Type 0} (R : Form X) (f : Reading E X) : Type 0 where
  pub found : (stop : ℕ) (bytes : List ℕ) (x : X) (rest : List ℕ) → f stop bytes ≡ Ok (x, rest) → R bytes x rest
  pub only : (stop : ℕ) (bytes : List ℕ) (x : X) (rest : List ℕ) → R bytes x rest → f stop bytes ≡ Ok (x, rest)

-- a component that takes an octet at least
abbrev pub Shortens : {X : Type 0} → Form X → Type 0
Shortens {X} R = (bytes : List ℕ) (x : X) (rest : List ℕ) → R bytes x rest → length rest < length bytes

-- a fault in other words is a fault still
pub reworded_ok : {X E : Type 0} (reword : BerFault → E) (r : Result X BerFault) (x : X) → reworded reword r ≡ Ok x → r ≡ Ok x
reworded_ok reword (Ok y) x h = ap (λ z. Ok z) (ok_is y x h)
reworded_ok reword (Err f) x h = absurd cc

-- the same, with faults reported as the caller reports them
pub reworded_exact : {X E : Type 0} (reword : BerFault → E) (R : Form X) (f : Reading BerFault X) → Exact R f → Exact R (λ stop bytes. reworded reword (f stop bytes))
reworded_exact reword R f p = record {
  found = λ stop bytes x rest h. p.found stop bytes x rest (reworded_ok reword (f stop bytes) (x, rest) h);
  only = λ stop bytes x rest h. rw (p.only stop bytes x rest h) refl;
}

-- ---- one element

abbrev pub element_here : ℕ → ℕ → List ℕ → List ℕ → List ℕ → Element
element_here tag stop bytes body rest = record { tag = tag; at = stop - length bytes; stop = stop - length rest; body = body }

-- bytes that begin with an element are read as that element
pub element_only : (stop : ℕ) (bytes : List ℕ) (tag : ℕ) (body rest : List ℕ) → Begins bytes tag body rest → element_at stop bytes ≡ Ok (element_here tag stop bytes body rest, rest)
unfolding element_at
element_only stop bytes tag body rest h = ap (placed stop bytes) (parts_only bytes tag body rest h)

-- what is read with a tag stands first in the bytes
pub expect_found : (tag stop : ℕ) (bytes : List ℕ) (e : Element) (rest : List ℕ) → expect_at tag stop bytes ≡ Ok (e, rest) → Begins bytes tag e.body rest
unfolding expect_at
expect_found tag stop bytes e rest h =
    let b = bind_ok (element_at stop bytes) (λ e. cond (eqb e.0.tag tag) (Ok e) (Err (fault _ stop bytes))) (e, rest) h in
    let g = guard_on (eqb b.0.0.tag tag) _ _ _ b.2 in
    let p = ok_pair b.0.0 b.0.1 e rest g.1 in
    let t : b.0.0.tag ≡ tag = eqb-true _ _ g.0 in
    let i = element_found stop bytes b.0.0 b.0.1 b.1 in
    subst (λ (n : ℕ). Begins bytes n e.body rest) (ap (λ (y : Element). y.tag) (sym p.0) ∙ t) (subst (λ (y : Element). Begins bytes y.tag y.body rest) p.0 (subst (λ (y : List ℕ). Begins bytes b.0.0.tag b.0.0.body y) p.1 i))

-- bytes that begin with an element of the tag are read as that element
pub expect_only : (tag stop : ℕ) (bytes body rest : List ℕ) → Begins bytes tag body rest → expect_at tag stop bytes ≡ Ok (element_here tag stop bytes body rest, rest)
unfolding expect_at
expect_only tag stop bytes body rest h = rw (element_only stop bytes tag body rest h, eq-eqb tag tag refl) refl

-- an octet string is read exactly where it is spelled
pub octets_exact : (tag : ℕ) → Exact (OctetString tag) (octets_at tag)
octets_exact tag = record {
  found = λ stop bytes x rest h.
      let b = bind_ok (expect_at tag stop bytes) (λ e. Ok (e.0.body, e.1)) (x, rest) h in
      let p = ok_pair b.0.0.body b.0.1 x rest b.2 in
      subst (λ (y : List ℕ). Begins bytes tag x y) p.1 (subst (λ (y : List ℕ). Begins bytes tag y b.0.1) p.0 (expect_found tag stop bytes b.0.0 b.0.1 b.1));
  only = λ stop bytes x rest h. rw (expect_only tag stop bytes x rest h) refl;
}

boolean_one : (at : ℕ) (body : List ℕ) (b : Bool) → boolean_of at body ≡ Ok b → (octet : ℕ) × (body ≡ octet ∷ []) × (b ≡ not (eqb octet 0))
boolean_one at [] b h = absurd cc
boolean_one at (o ∷ []) b h = (o, refl, sym (ok_is (not (eqb o 0)) b h))
boolean_one at (o ∷ p ∷ more) b h = absurd cc

-- a truth value is read exactly where it is spelled
pub boolean_exact : (tag : ℕ) → Exact (Boolean tag) (boolean_at tag)
boolean_exact tag = record {
  found = λ stop bytes x rest h.
      let b = bind_ok (expect_at tag stop bytes) (λ e. boolean_in e.0 >>= λ b. Ok (b, e.1)) (x, rest) h in
      let d = bind_ok (boolean_in b.0.0) (λ y. Ok (y, b.0.1)) (x, rest) b.2 in
      let p = ok_pair d.0 b.0.1 x rest d.2 in
      let o = boolean_one b.0.0.at b.0.0.body d.0 d.1 in
      (o.0, subst (λ (y : List ℕ). Begins bytes tag (o.0 ∷ []) y) p.1 (subst (λ (y : List ℕ). Begins bytes tag y b.0.1) o.1 (expect_found tag stop bytes b.0.0 b.0.1 b.1)), sym p.0 ∙ o.2);
  only = λ stop bytes x rest h. rw (expect_only tag stop bytes (h.0 ∷ []) rest h.1, h.2) refl;
}

-- an integer is read exactly where it is spelled
pub integer_exact : (tag : ℕ) → Exact (Integer tag) (integer_at tag)
unfolding integer_in
integer_exact tag = record {
  found = λ stop bytes x rest h.
      let b = bind_ok (expect_at tag stop bytes) (λ e. integer_in e.0 >>= λ b. Ok (b, e.1)) (x, rest) h in
      let d = bind_ok (integer_in b.0.0) (λ y. Ok (y, b.0.1)) (x, rest) b.2 in
      let p = ok_pair d.0 b.0.1 x rest d.2 in
      let g = guard_ok ((eqb (length b.0.0.body) 0) || (ltb 8 (length b.0.0.body))) _ _ _ d.1 in
      let o = or_parts _ _ g.0 in
      let some : length b.0.0.body ≢ 0 = eqb-false _ _ o.0 in
      let few : length b.0.0.body ≤ 8 = ltb-false _ _ o.1 in
      (b.0.0.body, subst (λ (y : List ℕ). Begins bytes tag b.0.0.body y) p.1 (expect_found tag stop bytes b.0.0 b.0.1 b.1), omega arith, few, sym p.0 ∙ sym (ok_is (integer_of b.0.0.body) d.0 g.1));
  only = λ stop bytes x rest h. rw (expect_only tag stop bytes h.0 rest h.1, ne_eqb (length h.0) 0 (omega (arith, h.2)), le-ltb 8 (length h.0) h.3, h.4) refl;
}

-- ---- components

-- two components are read exactly where they are spelled one after another
pub both_exact : {X Y E : Type 0} (R : Form X) (S : Form Y) (f : Reading E X) (g : Reading E Y) → Exact R f → Exact S g → Exact (Both R S) (both_at f g)
both_exact {X} {Y} R S f g p q = record {
  found = λ stop bytes x rest h.
      let a = bind_ok (f stop bytes) (λ x. g stop x.1 >>= λ y. Ok ((x.0, y.0), y.1)) (x, rest) h in
      let b = bind_ok (g stop a.0.1) (λ y. Ok ((a.0.0, y.0), y.1)) (x, rest) a.2 in
      let e = ok_pair (a.0.0, b.0.0) b.0.1 x rest b.2 in (
        a.0.1,
        subst (λ (y : X × Y). R bytes y.0 a.0.1) e.0 (p.found stop bytes a.0.0 a.0.1 a.1),
        subst (λ (y : List ℕ). S a.0.1 x.1 y) e.1 (subst (λ (y : X × Y). S a.0.1 y.1 b.0.1) e.0 (q.found stop a.0.1 b.0.0 b.0.1 b.1)),
      );
  only = λ stop bytes x rest h. rw (p.only stop bytes x.0 h.0 h.1, q.only stop h.0 x.1 rest h.2) refl;
}

-- the test of a tag reported it, or it is another
pub tag_is : (tag : ℕ) (bytes : List ℕ) → has_tag tag bytes ≡ true → tag_at bytes ≡ Some tag
tag_is tag [] h = absurd cc
tag_is tag (b ∷ bytes) h = ap (λ (n : ℕ). Some n) (eqb-true b tag h)

-- a tag that is not seen is not next
pub tag_is_not : (tag : ℕ) (bytes : List ℕ) → has_tag tag bytes ≡ false → tag_at bytes ≡ Some tag → ⊥
tag_is_not tag [] h e = cc
tag_is_not tag (b ∷ bytes) h e = eqb-false b tag h cc

-- a tag that is next is seen
pub tag_there : (tag : ℕ) (bytes : List ℕ) → tag_at bytes ≡ Some tag → has_tag tag bytes ≡ true
tag_there tag [] e = absurd cc
tag_there tag (b ∷ bytes) e = eq-eqb b tag cc

-- a tag that is not next is not seen
pub tag_not_there : (tag : ℕ) (bytes : List ℕ) → (tag_at bytes ≡ Some tag → ⊥) → has_tag tag bytes ≡ false
tag_not_there tag [] h = refl
tag_not_there tag (b ∷ bytes) h = ne_eqb b tag (λ e. h (ap (λ (n : ℕ). Some n) e))

-- a component with a default is read exactly where it is spelled or left out
pub default_exact : {X E : Type 0} (tag : ℕ) (usual : X) (R : Form X) (f : Reading E X) → Exact R f → Exact (Default tag usual R) (default_at tag usual f)
default_exact tag usual R f p = record {
  found = λ stop bytes x rest h. elim (chosen (has_tag tag bytes) _ _ _ h) [
    | inl s ↦ inl (tag_is tag bytes s.0, p.found stop bytes x rest s.1)
    | inr s ↦ let e = ok_pair usual bytes x rest s.1 in inr (sym e.0, sym e.1, tag_is_not tag bytes s.0)
  ];
  only = λ stop bytes x rest h. elim h [
    | inl s ↦ rw (tag_there tag bytes s.0) (p.only stop bytes x rest s.1)
    | inr s ↦ rw (tag_not_there tag bytes s.2, s.0, s.1) refl
  ];
}

abbrev nothing : (X : Type 0) → List X
nothing X = []

abbrev none_of : (X : Type 0) → Option X
none_of X = None

optional_found : {X E : Type 0} (tag : ℕ) (R : Form X) (f : Reading E X) → Exact R f → (stop : ℕ) (bytes : List ℕ) (x : Option X) (rest : List ℕ) → optional_at tag f stop bytes ≡ Ok (x, rest) → Optional tag R bytes x rest
optional_found {X} {E} tag R f p stop bytes x rest h = elim (chosen (has_tag tag bytes) _ _ _ h) [
  | inl s ↦
      let b = bind_ok (f stop bytes) (λ x. Ok (Some x.0, x.1)) (x, rest) s.1 in
      let e = ok_pair (Some b.0.0) b.0.1 x rest b.2 in
      let r = p.found stop bytes b.0.0 b.0.1 b.1 in
      let here : Optional tag R bytes (Some b.0.0) b.0.1 = (tag_is tag bytes s.0, r) in
      subst (λ (y : List ℕ). Optional tag R bytes x y) e.1 (subst (λ (y : Option X). Optional tag R bytes y b.0.1) e.0 here)
  | inr s ↦
      let e = ok_pair (none_of X) bytes x rest s.1 in
      let here : Optional tag R bytes None bytes = (refl, tag_is_not tag bytes s.0) in
      subst (λ (y : List ℕ). Optional tag R bytes x y) e.1 (subst (λ (y : Option X). Optional tag R bytes y bytes) e.0 here)
]

optional_only : {X E : Type 0} (tag : ℕ) (R : Form X) (f : Reading E X) → Exact R f → (stop : ℕ) (bytes : List ℕ) (x : Option X) (rest : List ℕ) → Optional tag R bytes x rest → optional_at tag f stop bytes ≡ Ok (x, rest)
optional_only tag R f p stop bytes None rest h = rw (tag_not_there tag bytes h.1, h.0) refl
optional_only tag R f p stop bytes (Some x) rest h = rw (tag_there tag bytes h.0, p.only stop bytes x rest h.1) refl

-- an optional component is read exactly where it is spelled or left out
pub optional_exact : {X E : Type 0} (tag : ℕ) (R : Form X) (f : Reading E X) → Exact R f → Exact (Optional tag R) (optional_at tag f)
optional_exact tag R f p = record { found = optional_found tag R f p; only = optional_only tag R f p }

-- a value is read exactly where what means it is spelled
pub meaning_exact : {X Y E : Type 0} (P : X → Y → Type 0) (g : ℕ → X → Result Y E) (R : Form X) (f : Reading E X) → ((at : ℕ) (x : X) (y : Y) → g at x ≡ Ok y → P x y) → ((at : ℕ) (x : X) (y : Y) → P x y → g at x ≡ Ok y) → Exact R f → Exact (Meaning P R) (meaning_at g f)
meaning_exact {X} {Y} P g R f to from p = record {
  found = λ stop bytes y rest h.
      let a = bind_ok (f stop bytes) (λ x. g (stop - length bytes) x.0 >>= λ y. Ok (y, x.1)) (y, rest) h in
      let b = bind_ok (g (stop - length bytes) a.0.0) (λ y. Ok (y, a.0.1)) (y, rest) a.2 in
      let e = ok_pair b.0 a.0.1 y rest b.2 in
      (a.0.0, subst (λ (z : List ℕ). R bytes a.0.0 z) e.1 (p.found stop bytes a.0.0 a.0.1 a.1), subst (λ (z : Y). P a.0.0 z) e.0 (to (stop - length bytes) a.0.0 b.0 b.1));
  only = λ stop bytes y rest h. rw (p.only stop bytes h.0 rest h.1, from (stop - length bytes) h.0 y h.2) refl;
}

-- what a value was made of
pub made_ok : {X Y E : Type 0} (make : X → Y) (f : Reading E X) (stop : ℕ) (bytes : List ℕ) (y : Y) (rest : List ℕ) → made_at make f stop bytes ≡ Ok (y, rest) → (x : X) × (f stop bytes ≡ Ok (x, rest)) × (make x ≡ y)
made_ok {X} make f stop bytes y rest h =
    let b = bind_ok (f stop bytes) (λ x. Ok (make x.0, x.1)) (y, rest) h in
    let e = ok_pair (make b.0.0) b.0.1 y rest b.2 in
    (b.0.0, b.1 ∙ ap (λ (r : List ℕ). Ok (b.0.0, r)) e.1, e.0)

-- a value of some parts is read exactly where these are spelled
pub made_exact : {X Y E : Type 0} (parts : Y → X) (make : X → Y) (R : Form X) (f : Reading E X) → ((x : X) → parts (make x) ≡ x) → ((y : Y) → make (parts y) ≡ y) → Exact R f → Exact (MadeOf parts R) (made_at make f)
made_exact {X} {Y} parts make R f there back p = record {
  found = λ stop bytes y rest h.
      let m = made_ok make f stop bytes y rest h in
      subst (λ (z : X). R bytes z rest) (sym (there m.0) ∙ ap parts m.2) (p.found stop bytes m.0 rest m.1);
  only = λ stop bytes y rest h. rw (p.only stop bytes (parts y) rest h, back y) refl;
}

-- ---- any number of a component

-- a reading of a form that has at least one octet leaves fewer bytes
pub advances : {X E : Type 0} (R : Form X) (f : Reading E X) → Exact R f → Shortens R → Advances f
advances R f p short stop bytes x rest h = short bytes x rest (p.found stop bytes x rest h)

many_in_found : {X E : Type 0} (R : Form X) (f : Reading E X) → Exact R f → Shortens R → (most stop : ℕ) (bytes : List ℕ) (xs : List X) → length bytes ≤ most → many_in f most stop bytes ≡ Ok xs → Many R bytes xs
many_in_found {X} R f p short most stop [] xs le h = subst (λ (ys : List X). Many R [] ys) (ok_is (nothing X) xs h) refl
many_in_found R f p short zero stop (b ∷ bytes) xs le h = absurd (omega arith)
many_in_found {X} R f p short (suc most) stop (b ∷ bytes) xs le h =
    let a = bind_ok (f stop (b ∷ bytes)) (λ x. many_in f most stop x.1 >>= λ xs. Ok (x.0 ∷ xs)) xs h in
    let c = bind_ok (many_in f most stop a.0.1) (λ xs. Ok (a.0.0 ∷ xs)) xs a.2 in
    let r = p.found stop (b ∷ bytes) a.0.0 a.0.1 a.1 in
    let less : length a.0.1 < length (b ∷ bytes) = short (b ∷ bytes) a.0.0 a.0.1 r in
    let here : Many R (b ∷ bytes) (a.0.0 ∷ c.0) = (a.0.1, r, many_in_found R f p short most stop a.0.1 c.0 (omega arith) c.1) in
    subst (λ (ys : List X). Many R (b ∷ bytes) ys) (ok_is (a.0.0 ∷ c.0) xs c.2) here

-- components that were read one after another stand in the bytes
pub many_found : {X E : Type 0} (R : Form X) (f : Reading E X) → Exact R f → Shortens R → (stop : ℕ) (bytes : List ℕ) (xs : List X) → many_at f stop bytes ≡ Ok xs → Many R bytes xs
unfolding many_at
many_found R f p short stop bytes xs h = many_in_found R f p short (length bytes) stop bytes xs (omega arith) h

-- bytes that are components one after another are read as these
pub many_only : {X E : Type 0} (R : Form X) (f : Reading E X) → Exact R f → Shortens R → (stop : ℕ) (bytes : List ℕ) (xs : List X) → Many R bytes xs → many_at f stop bytes ≡ Ok xs
many_only R f p short stop bytes [] h = rw h (many_none f stop)
many_only R f p short stop [] (x ∷ xs) h = absurd (omega (arith, short [] x h.0 h.1))
many_only R f p short stop (b ∷ bytes) (x ∷ xs) h =
    rw (many_next f (advances R f p short) stop b bytes, p.only stop (b ∷ bytes) x h.0 h.1, many_only R f p short stop h.0 xs h.2) refl

any_exact : Exact AnyElement any_at
any_exact = record {
  found = λ stop bytes x rest h.
      let b = bind_ok (element_at stop bytes) (λ e. Ok ((e.0.tag, e.0.body), e.1)) (x, rest) h in
      let p = ok_pair (b.0.0.tag, b.0.0.body) b.0.1 x rest b.2 in
      subst (λ (y : List ℕ). Begins bytes x.0 x.1 y) p.1 (subst (λ (y : ℕ × List ℕ). Begins bytes y.0 y.1 b.0.1) p.0 (element_found stop bytes b.0.0 b.0.1 b.1));
  only = λ stop bytes x rest h. rw (element_only stop bytes x.0 x.1 rest h) refl;
}

any_shortens : Shortens AnyElement
any_shortens bytes x rest h = Begins-shorter bytes x.0 x.1 rest h

skip_found : (stop : ℕ) (bytes : List ℕ) (u : Unit {0}) → skip_at stop bytes ≡ Ok u → AreElements bytes
unfolding skip_at
skip_found stop bytes u h =
    let b = bind_ok (many_at any_at stop bytes) (λ es. Ok tt) u h in
    (b.0, many_found AnyElement any_at any_exact any_shortens stop bytes b.0 b.1)

skip_only : (stop : ℕ) (bytes : List ℕ) → AreElements bytes → skip_at stop bytes ≡ Ok tt
unfolding skip_at
skip_only stop bytes h = rw (many_only AnyElement any_at any_exact any_shortens stop bytes h.0 h.1) refl

end_found : (stop : ℕ) (bytes : List ℕ) (u : Unit {0}) → end_at stop bytes ≡ Ok u → bytes ≡ []
end_found stop [] u h = refl
end_found stop (b ∷ bytes) u h = absurd cc

-- a component within a tag is read exactly where it is spelled
pub tagged_exact : {X E : Type 0} (reword : BerFault → E) (tag : ℕ) (R : Form X) (f : Reading E X) → Exact R f → Exact (Tagged tag R) (tagged_at reword tag f)
tagged_exact {X} {E} reword tag R f p = record {
  found = λ stop bytes x rest h.
      let a = bind_ok (reworded reword (expect_at tag stop bytes)) (λ e. f e.0.stop e.0.body >>= λ x. reworded reword (end_at e.0.stop x.1) >>= λ u. Ok (x.0, e.1)) (x, rest) h in
      let b = bind_ok (f a.0.0.stop a.0.0.body) (λ x. reworded reword (end_at a.0.0.stop x.1) >>= λ u. Ok (x.0, a.0.1)) (x, rest) a.2 in
      let c = bind_ok (reworded reword (end_at a.0.0.stop b.0.1)) (λ u. Ok (b.0.0, a.0.1)) (x, rest) b.2 in
      let e = ok_pair b.0.0 a.0.1 x rest c.2 in
      let none = end_found a.0.0.stop b.0.1 c.0 (reworded_ok reword (end_at a.0.0.stop b.0.1) c.0 c.1) in (
        a.0.0.body,
        subst (λ (y : List ℕ). Begins bytes tag a.0.0.body y) e.1 (expect_found tag stop bytes a.0.0 a.0.1 (reworded_ok reword (expect_at tag stop bytes) a.0 a.1)),
        subst (λ (y : X). R a.0.0.body y []) e.0 (subst (λ (y : List ℕ). R a.0.0.body b.0.0 y) none (p.found a.0.0.stop a.0.0.body b.0.0 b.0.1 b.1)),
      );
  only = λ stop bytes x rest h.
      rw (expect_only tag stop bytes h.0 rest h.1, p.only (stop - length rest) h.0 x [] h.2) refl;
}

-- a SEQUENCE is read exactly where it is spelled
pub sequence_exact : {X E : Type 0} (reword : BerFault → E) (tag : ℕ) (R : Form X) (f : Reading E X) → Exact R f → Exact (Sequence tag R) (sequence_at reword tag f)
sequence_exact {X} {E} reword tag R f p = record {
  found = λ stop bytes x rest h.
      let a = bind_ok (reworded reword (expect_at tag stop bytes)) (λ e. f e.0.stop e.0.body >>= λ x. reworded reword (skip_at e.0.stop x.1) >>= λ u. Ok (x.0, e.1)) (x, rest) h in
      let b = bind_ok (f a.0.0.stop a.0.0.body) (λ x. reworded reword (skip_at a.0.0.stop x.1) >>= λ u. Ok (x.0, a.0.1)) (x, rest) a.2 in
      let c = bind_ok (reworded reword (skip_at a.0.0.stop b.0.1)) (λ u. Ok (b.0.0, a.0.1)) (x, rest) b.2 in
      let e = ok_pair b.0.0 a.0.1 x rest c.2 in (
        a.0.0.body,
        b.0.1,
        subst (λ (y : List ℕ). Begins bytes tag a.0.0.body y) e.1 (expect_found tag stop bytes a.0.0 a.0.1 (reworded_ok reword (expect_at tag stop bytes) a.0 a.1)),
        subst (λ (y : X). R a.0.0.body y b.0.1) e.0 (p.found a.0.0.stop a.0.0.body b.0.0 b.0.1 b.1),
        skip_found a.0.0.stop b.0.1 c.0 (reworded_ok reword (skip_at a.0.0.stop b.0.1) c.0 c.1),
      );
  only = λ stop bytes x rest h.
      rw (expect_only tag stop bytes h.0 rest h.2, p.only (stop - length rest) h.0 x h.1 h.3, skip_only (stop - length rest) h.1 h.4) refl;
}

-- a list is read exactly where it is spelled
pub list_exact : {X E : Type 0} (reword : BerFault → E) (tag : ℕ) (R : Form X) (f : Reading E X) → Exact R f → Shortens R → Exact (ListOf tag R) (list_at reword tag f)
list_exact {X} {E} reword tag R f p short = record {
  found = λ stop bytes x rest h.
      let a = bind_ok (reworded reword (expect_at tag stop bytes)) (λ e. many_at f e.0.stop e.0.body >>= λ xs. Ok (xs, e.1)) (x, rest) h in
      let b = bind_ok (many_at f a.0.0.stop a.0.0.body) (λ xs. Ok (xs, a.0.1)) (x, rest) a.2 in
      let e = ok_pair b.0 a.0.1 x rest b.2 in (
        a.0.0.body,
        subst (λ (y : List ℕ). Begins bytes tag a.0.0.body y) e.1 (expect_found tag stop bytes a.0.0 a.0.1 (reworded_ok reword (expect_at tag stop bytes) a.0 a.1)),
        subst (λ (y : List X). Many R a.0.0.body y) e.0 (many_found R f p short a.0.0.stop a.0.0.body b.0 b.1),
      );
  only = λ stop bytes x rest h.
      rw (expect_only tag stop bytes h.0 rest h.1, many_only R f p short (stop - length rest) h.0 x h.2) refl;
}

-- ---- all of the bytes

-- a value that is read of all bytes is spelled by them
pub whole_found : {X E : Type 0} (reword : BerFault → E) (R : Form X) (f : Reading E X) → Exact R f → (bytes : List ℕ) (x : X) → whole_at reword f bytes ≡ Ok x → R bytes x []
whole_found {X} reword R f p bytes x h =
    let a = bind_ok (f (length bytes) bytes) (λ x. reworded reword (end_at (length bytes) x.1) >>= λ u. Ok x.0) x h in
    let b = bind_ok (reworded reword (end_at (length bytes) a.0.1)) (λ u. Ok a.0.0) x a.2 in
    let e = end_found (length bytes) a.0.1 b.0 (reworded_ok reword (end_at (length bytes) a.0.1) b.0 b.1) in
    subst (λ (y : X). R bytes y []) (ok_is a.0.0 x b.2) (subst (λ (y : List ℕ). R bytes a.0.0 y) e (p.found (length bytes) bytes a.0.0 a.0.1 a.1))

-- a value that all bytes spell is read
pub whole_only : {X E : Type 0} (reword : BerFault → E) (R : Form X) (f : Reading E X) → Exact R f → (bytes : List ℕ) (x : X) → R bytes x [] → whole_at reword f bytes ≡ Ok x
whole_only reword R f p bytes x h = rw (p.only (length bytes) bytes x [] h) refl
