-- What one more element adds to what a loop made of a list so far.
use Rattle.std.proofs.Common.{◌≡◌, ◌<◌, ℕ, zero, suc, Bool, true, false, cond, Bor, List, [], ◌∷◌, ◌++◌, length, take, get_or, Some, None, refl, sym, ap, ◌∙◌, arith}
use Rattle.std.specs.List.{find}
use Rattle.entry_tree.specs.declared.entry.Entry.{Entry}
use Rattle.sync_model.specs.Copy.{Stage, puts_of, drops_of}
use Rattle.sync_consumer.specs.declared.stage.StagedChange.{StagedChange}
use Rattle.sync_consumer.specs.declared.stage.StagedChange.TheVariants.{AddOrModify, Delete}
use Rattle.sync_consumer.specs.Staging.{change_of, changes_in, put_alone, dropped_alone}

-- ---- the first that passes a test

-- the first item of a list that passes, where none before it does
pub first_found : {X : Type 0} (p : X → Bool) (xs : List X) (i : ℕ) (x : X) → i < length xs → x ≡ get_or xs i x → find p (take i xs) ≡ None → p x ≡ true → find p xs ≡ Some x
first_found p [] i x low is none passes = absurd (omega (arith, low))
first_found p (y ∷ ys) zero x low is none passes = ap (λ z. cond (p z) (Some z) (find p ys)) (sym is) ∙ ap (λ b. cond b (Some x) (find p ys)) passes
first_found {X} p (y ∷ ys) (suc i) x low is none passes = step (p y) (first_found p ys i x (omega (arith, low)) is) none passes where
  step : (b : Bool) → (find p (take i ys) ≡ None → p x ≡ true → find p ys ≡ Some x) → cond b (Some y) (find p (take i ys)) ≡ None → p x ≡ true → cond b (Some y) (find p ys) ≡ Some x
  step true ih h q = cc
  step false ih h q = ih h q

-- no item passes up to one that does not
pub none_more : {X : Type 0} (p : X → Bool) (xs : List X) (i : ℕ) (x : X) → i < length xs → x ≡ get_or xs i x → find p (take i xs) ≡ None → p x ≡ false → find p (take (suc i) xs) ≡ None
none_more p [] i x low is none fails = absurd (omega (arith, low))
none_more p (y ∷ ys) zero x low is none fails = ap (λ b. cond b (Some y) None) (ap p (sym is) ∙ fails)
none_more {X} p (y ∷ ys) (suc i) x low is none fails = step (p y) (none_more p ys i x (omega (arith, low)) is) none fails where
  step : (b : Bool) → (find p (take i ys) ≡ None → p x ≡ false → find p (take (suc i) ys) ≡ None) → cond b (Some y) (find p (take i ys)) ≡ None → p x ≡ false
      → cond b (Some y) (find p (take (suc i) ys)) ≡ None
  step true ih h q = cc
  step false ih h q = ih h q

-- ---- the changes

puts_alone : (c : StagedChange) → puts_of (change_of c ∷ []) ≡ put_alone c
puts_alone (AddOrModify entry) = refl
puts_alone (Delete uuid) = refl

drops_alone : (c : StagedChange) → drops_of (change_of c ∷ []) ≡ dropped_alone c
drops_alone (AddOrModify entry) = refl
drops_alone (Delete uuid) = refl

puts_after : (c : StagedChange) (more fewer : Stage) (es : List Entry) → puts_of more ≡ puts_of fewer ++ es → puts_of (change_of c ∷ more) ≡ puts_of (change_of c ∷ fewer) ++ es
puts_after (AddOrModify entry) more fewer es is = ap (λ xs. entry ∷ xs) is
puts_after (Delete uuid) more fewer es is = is

drops_after : (c : StagedChange) (more fewer : Stage) (us : List ℕ) → drops_of more ≡ drops_of fewer ++ us → drops_of (change_of c ∷ more) ≡ drops_of (change_of c ∷ fewer) ++ us
drops_after (AddOrModify entry) more fewer us is = is
drops_after (Delete uuid) more fewer us is = ap (λ xs. uuid ∷ xs) is

-- what a stage puts with one more of its changes
pub puts_more : (stage : List (Bor StagedChange)) (i : ℕ) (s : Bor StagedChange) → i < length stage → s ≡ get_or stage i s
    → puts_of (changes_in (take (suc i) stage)) ≡ puts_of (changes_in (take i stage)) ++ put_alone s.now
puts_more [] i s low is = absurd (omega (arith, low))
puts_more (c ∷ stage) zero s low is = puts_alone c.now ∙ ap (λ (x : Bor StagedChange). put_alone x.now) (sym is)
puts_more (c ∷ stage) (suc i) s low is =
    puts_after c.now (changes_in (take (suc i) stage)) (changes_in (take i stage)) (put_alone s.now) (puts_more stage i s (omega (arith, low)) is)

-- what a stage drops with one more of its changes
pub drops_more : (stage : List (Bor StagedChange)) (i : ℕ) (s : Bor StagedChange) → i < length stage → s ≡ get_or stage i s
    → drops_of (changes_in (take (suc i) stage)) ≡ drops_of (changes_in (take i stage)) ++ dropped_alone s.now
drops_more [] i s low is = absurd (omega (arith, low))
drops_more (c ∷ stage) zero s low is = drops_alone c.now ∙ ap (λ (x : Bor StagedChange). dropped_alone x.now) (sym is)
drops_more (c ∷ stage) (suc i) s low is =
    drops_after c.now (changes_in (take (suc i) stage)) (changes_in (take i stage)) (dropped_alone s.now) (drops_more stage i s (omega (arith, low)) is)
