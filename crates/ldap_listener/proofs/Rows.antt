-- Seats of the code in a list.
use Rattle.std.proofs.Common.{◌≡◌, ◌<◌, ℕ, false, true, List, [], ◌∷◌, ◌++◌, map, length, get_or, set, arith, ap, refl, sym, ◌∙◌, append_assoc}
use Rattle.std.proofs.lemmas.List.{set-set, map-append, map-set, length-map}
use Rattle.std.proofs.Math.ListN.{get_or-map}
use Rattle.atomic_table.specs.Seated.{TableId}
use Rattle.shared_directory.specs.Passes.{DirectoryView}
use Rattle.ldap_session.specs.declared.access.Access.{Access}
use Rattle.ldap_listener.specs.Seats.{IsFree, ConnectionSeat, busy, free}
use Rattle.ldap_listener.specs.SeatsOfCode.{seat_of}
use Rattle.ldap_listener.specs.declared.seat.Seat.{Seat}
use Rattle.ldap_listener.specs.declared.seat.Seat.TheVariants.{Busy, Free, Vacant}
use Rattle.ldap_listener.proofs.Accounts.{HasFree, IsBusyAt}

module _ {L : Type 0} (seats : List (Seat L)) (i : ℕ) where
  -- a seat that is written twice
  pub twice : (a b : Seat L) → map seat_of (set (set seats i a) i b) ≡ set (map seat_of seats) i (seat_of b)
  twice a b = ap (map seat_of) (set-set seats i a b) ∙ map-set seat_of seats i b

  -- a seat of the code that is busy is so as contracts see it
  pub there-busy : (d r : Seat L) (c : TableId) (view : DirectoryView) (access : Access) (link : L) → i < length seats → r ≡ get_or seats i d → seat_of r ≡ busy c view access link
      → IsBusyAt (map seat_of seats) i c view access link
  there-busy d r c view access link low is at = record {
    low = omega (arith, length-map seats seat_of, low);
    other = seat_of d;
    at = get_or-map seat_of seats i d ∙ ap seat_of (sym is) ∙ at;
  }

  -- and so is one that is free
  pub there-free : (d r : Seat L) (c : TableId) (view : DirectoryView) → i < length seats → r ≡ get_or seats i d → seat_of r ≡ free c view → HasFree (map seat_of seats) i c view
  there-free d r c view low is at = record {
    low = omega (arith, length-map seats seat_of, low);
    other = seat_of d;
    at = get_or-map seat_of seats i d ∙ ap seat_of (sym is) ∙ at;
  }

-- ---- one after another

-- the first of those that are left is moved after those that are done
pub moved : {L A : Type 0} (f : A → ConnectionSeat L) (done : List A) (one : A) (seat : ConnectionSeat L) (rest all : List (ConnectionSeat L))
    → f one ≡ seat → map f done ++ seat ∷ rest ≡ all → map f (done ++ one ∷ []) ++ rest ≡ all
moved f done one seat rest all is so_far =
    ap (λ xs. xs ++ rest) (map-append f done (one ∷ [])) ∙ append_assoc (map f done) (f one ∷ []) rest
    ∙ ap (λ s. map f done ++ s ∷ rest) is ∙ so_far

-- a free seat has a pass
pub has_pass : {L : Type 0} (t : Seat L) → IsFree (seat_of t) → ((pass : _) → t ≡ Free pass → ⊥) → ⊥
has_pass (Free pass) known other = other pass refl
has_pass (Busy child) known other = let wrong : false ≡ true = known in cc
has_pass Vacant known other = let wrong : false ≡ true = known in cc
