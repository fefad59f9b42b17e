-- What the cell has after a turn, and as each pass left it.
use Rattle.std.proofs.Common.{◌≡◌, ◌≢◌, ◌<◌, ℕ, zero, suc, Bool, true, false, nat_eq, List, [], ◌∷◌, ◌++◌, map, set, length, Option, Some, None, refl, ap, sym, ◌∙◌, subst, arith, eqb-true, append_assoc, append-nil}
use Rattle.std.specs.Prelude.{slice_get, is_some}
use Rattle.std.proofs.lemmas.Bool.{false≢true, eqb-false}
use Rattle.std.proofs.lemmas.Option.{same_Some}
use Rattle.turn_cell.specs.Rule.{Grows}
use Rattle.sync_provider.specs.Ports.{Journal, PortState, noted, noted_all}
use Rattle.shared_directory.specs.Desks.{NumberedState, HeldState, port_journal, port_in, IsAnswered, HasCome, HaveCome, IsTurnOf, entries_of, left_by, listed}

-- some entries, and then others
pub noted_all-append : (p : PortState) (xs ys : Journal) → noted_all p (xs ++ ys) ≡ noted_all (noted_all p xs) ys
noted_all-append p [] ys = refl
noted_all-append p (x ∷ xs) ys = noted_all-append (noted p x.0 x.1) xs ys

-- ---- places of a list

module _ {X : Type 0} where
  get-set-same : (xs : List X) (i : ℕ) (y : X) → is_some (slice_get xs i) ≡ true → slice_get (set xs i y) i ≡ Some y
  get-set-same [] i y there = absurd (false≢true there)
  get-set-same (x ∷ xs) zero y there = refl
  get-set-same (x ∷ xs) (suc i) y there = get-set-same xs i y there

  get-set-other : (xs : List X) (i j : ℕ) (y : X) → j ≢ i → slice_get (set xs i y) j ≡ slice_get xs j
  get-set-other [] i j y differs = refl
  get-set-other (x ∷ xs) zero zero y differs = absurd (differs refl)
  get-set-other (x ∷ xs) zero (suc j) y differs = refl
  get-set-other (x ∷ xs) (suc i) zero y differs = refl
  get-set-other (x ∷ xs) (suc i) (suc j) y differs = get-set-other xs i j y (λ same. differs (ap suc same))

  -- where what there is makes a list of one element, it is that element
  pub listed-one : (o : Option X) (x : X) → listed o ≡ x ∷ [] → o ≡ Some x
  listed-one None x is = absurd (nil-cons is)
    where
      nil-cons : ◌≡◌ {A = List X} [] (x ∷ []) → ⊥
      nil-cons e = cc
  listed-one (Some y) x is = ap Some (head-is is)
    where
      head-is : y ∷ [] ≡ x ∷ [] → y ≡ x
      head-is e = cc

-- a place that a mapped list has, the list has
pub is_place : {X Y : Type 0} (f : Y → X) (ys : List Y) (i : ℕ) → is_some (slice_get (map f ys) i) ≡ true → i < length ys
is_place f [] i there = absurd (false≢true there)
is_place f (y ∷ ys) zero there = omega arith
is_place f (y ∷ ys) (suc i) there = let low : i < length ys = is_place f ys i there in omega (arith, low)

-- ---- a turn

-- at first each pass has left it as it is
pub come_at_once : (number : ℕ) (now : NumberedState) → HasCome number now now
come_at_once number now = record { entries = []; journal = sym (append-nil (port_journal now)); port = λ ports. refl }

module _ (number : ℕ) (old : HeldState) (now : NumberedState) (last : List NumberedState) (Replies : PortState → PortState → Type 0)
    (there : is_some (slice_get old.last number) ≡ true) (answered : IsAnswered number old.now now Replies)
    (left_now : last ≡ set old.last number now) where
  abbrev new : HeldState
  new = record { now = now; last = last }

  own_last : slice_get last number ≡ Some now
  own_last = ap (λ xs. slice_get xs number) left_now ∙ get-set-same old.last number now there

  other_last : (other : ℕ) → other ≢ number → slice_get last other ≡ slice_get old.last other
  other_last other differs = ap (λ xs. slice_get xs other) left_now ∙ get-set-other old.last number other now differs

  -- what came in since a pass's last turn, and what this turn adds
  come_on : (other : ℕ) (was : NumberedState) → other ≢ number → HasCome other was old.now → HasCome other was now
  come_on other was differs come = record {
    entries = come.entries ++ answered.called.added;
    journal = answered.called.journal
        ∙ ap (λ js. js ++ answered.called.added) come.journal
        ∙ append_assoc (port_journal was) come.entries answered.called.added;
    port = λ ports.
        answered.called.others other differs ports
        ∙ ap (λ p. noted_all p answered.called.added) (come.port ports)
        ∙ sym (noted_all-append (port_in other ports was) come.entries answered.called.added);
  }

  -- after a turn, what came since each pass's last one is what others added
  pub turn_kept : HaveCome old → HaveCome new
  turn_kept come other was left = by (nat_eq other number) refl
    where
      by : (b : Bool) → nat_eq other number ≡ b → HasCome other was now
      by true same =
          let own : slice_get last number ≡ Some was = ap (slice_get last) (sym (eqb-true other number same)) ∙ left in
          let is : now ≡ was = same_Some now was (sym own_last ∙ own) in
          subst (λ w. HasCome other w now) is (come_at_once other now)
      by false far =
          let differs : other ≢ number = eqb-false other number far in
          come_on other was differs (come other was (sym (other_last other differs) ∙ left))

  -- a turn has put entries of its own number alone at the end of the journal, and left the shares
  -- of others
  pub turn_grows : Grows entries_of left_by number old new
  turn_grows = record {
    added = answered.called.added;
    entries = answered.called.journal;
    own = answered.called.own;
    others = λ other differs. ap listed (other_last other differs);
  }

  -- so it is a turn of its port, whose replies are those due at its place
  pub turn_is : HaveCome old → IsTurnOf number old new Replies
  turn_is come = record {
    left = ap listed own_last;
    come = λ was left. come number was (listed-one (slice_get old.last number) was left);
    replies = answered.replies;
  }
