-- Splitting what a step gave.
use Rattle.std.proofs.Common.{◌≡◌, Bool, true, false, cond, Result, Ok, Err, refl, ap, inl, inr, ◌⊎◌}
use Rattle.ldap_ber.specs.Reader.{◌>>=◌}

-- the value of a step that did not fail
pub bind_ok : {A B E : Type 0} (r : Result A E) (f : A → Result B E) (y : B) → (r >>= f) ≡ Ok y → (x : A) × (r ≡ Ok x) × (f x ≡ Ok y)
bind_ok (Ok x) f y e = (x, refl, e)
bind_ok (Err d) f y e = absurd cc

-- which way a test went
pub chosen : {A : Type 0} (b : Bool) (x y z : A) → cond b x y ≡ z → ((b ≡ true) × (x ≡ z)) ⊎ ((b ≡ false) × (y ≡ z))
chosen true x y z e = inl (refl, e)
chosen false x y z e = inr (refl, e)

-- a test that did not fail
pub guard_ok : {A E : Type 0} (b : Bool) (d : E) (r : Result A E) (y : A) → cond b (Err d) r ≡ Ok y → (b ≡ false) × (r ≡ Ok y)
guard_ok true d r y e = absurd cc
guard_ok false d r y e = (refl, e)

-- an answer after a test shows that the test held
pub guard_on : {A E : Type 0} (b : Bool) (d : E) (r : Result A E) (y : A) → cond b r (Err d) ≡ Ok y → (b ≡ true) × (r ≡ Ok y)
guard_on false d r y e = absurd cc
guard_on true d r y e = (refl, e)

abbrev done : {A E : Type 0} → A → Result A E
done x = Ok x

-- two values of one answer are equal
pub ok_is : {A E : Type 0} (x y : A) → done {A = A} {E = E} x ≡ done y → x ≡ y
ok_is x y e = cc

abbrev refused : {A E : Type 0} → E → Result A E
refused e = Err e

-- two faults of one answer are equal
pub err_is : {A E : Type 0} (x y : E) → refused {A = A} {E = E} x ≡ refused y → x ≡ y
err_is x y e = cc

-- two pairs of one answer are equal part by part
pub ok_pair : {A B E : Type 0} (a : A) (b : B) (c : A) (d : B) → done {A = A × B} {E = E} (a, b) ≡ done (c, d) → (a ≡ c) × (b ≡ d)
ok_pair {A} {B} a b c d e =
    let h : (a, b) ≡ (c, d) = ok_is (a, b) (c, d) e in
    (ap (λ (p : A × B). p.0) h, ap (λ (p : A × B). p.1) h)

-- two triples of one answer are equal part by part
pub ok_triple : {A B C E : Type 0} (a : A) (b : B) (x : C) (c : A) (d : B) (y : C) → done {A = A × B × C} {E = E} (a, b, x) ≡ done (c, d, y) → (a ≡ c) × (b ≡ d) × (x ≡ y)
ok_triple {A} {B} {C} a b x c d y e =
    let h : (a, b, x) ≡ (c, d, y) = ok_is (a, b, x) (c, d, y) e in
    (ap (λ (p : A × B × C). p.0) h, ap (λ (p : A × B × C). p.1) h, ap (λ (p : A × B × C). p.2) h)

-- what follows a step matters only where the step did not fail
pub bind_same : {A B E : Type 0} (r : Result A E) (f g : A → Result B E) → ((x : A) → r ≡ Ok x → f x ≡ g x) → (r >>= f) ≡ (r >>= g)
bind_same (Ok x) f g h = h x refl
bind_same (Err d) f g h = refl

-- triples of equal parts are equal
pub triple_is : {A B C : Type 0} (a x : A) (b y : B) (c z : C) → a ≡ x → b ≡ y → c ≡ z → ◌≡◌ {A = A × B × C} (a, b, c) (x, y, z)
triple_is a x b y c z p q r = rw (p, q, r) refl
