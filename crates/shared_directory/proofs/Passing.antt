-- What a turn at the cell is at the port of its pass.
use Rattle.std.proofs.Common.{◌≡◌, ◌<◌, ℕ, zero, suc, true, List, [], ◌∷◌, ◌++◌, map, length, Some, refl, ap, sym, ◌∙◌, subst, arith}
use Rattle.std.proofs.lemmas.List.{append_cancel_left}
use Rattle.std.specs.Prelude.{slice_get, slice_index_or, is_some}
use Rattle.std.proofs.lemmas.Option.{none-some, same_Some}
use Rattle.turn_cell.specs.Journals.{Every}
use Rattle.turn_cell.specs.Passes.{Continues}
use Rattle.turn_cell.specs.Rule.{IsOther}
use Rattle.sync_provider.specs.Ports.{Journal, PortState, IsLater, IsReplied}
use Rattle.shared_directory.specs.Desks.{NumberedState, HeldState, port_journal, port_in, HasCome, HaveCome, IsTurnOf, entries_of, left_by}
use Rattle.shared_directory.specs.Passes.{DirectoryView, journal_left, port_left, port_of, IsUpToDate}
use Rattle.shared_directory.proofs.Turns.{listed-one}

at-each : {X : Type 0} (P : X → Type 0) (xs : List X) → Every P xs → (k : ℕ) (x : X) → k < length xs → P (slice_index_or xs k x)
at-each P [] every k x low = absurd (omega (arith, low))
at-each P (y ∷ ys) every zero x low = every.0
at-each P (y ∷ ys) every (suc k) x low = at-each P ys every.1 k x (omega (arith, low))

-- what holds of each image under a function holds of each element of the mapped list
pub every-mapped : {X Y : Type 0} (P : Y → Type 0) (f : X → Y) (xs : List X) → Every (λ x. P (f x)) xs → Every P (map f xs)
every-mapped P f [] every = tt
every-mapped P f (x ∷ xs) every = (every.0, every-mapped P f xs every.1)

-- What came in since the pass left it is of other ports.
module _ (view : DirectoryView) (found : HeldState) (last : NumberedState) (continues : Continues (entries_of found) (left_by found view.number) view)
    (seen : port_journal last ≡ view.seen) where
  pub later_port : HasCome view.number last found.now
      → IsLater (port_in view.number view.seats last) (port_in view.number view.seats found.now)
  later_port come = record {
    entries = come.entries;
    others = λ k e low.
        let other = at-each (IsOther view) come.entries (subst (Every (IsOther view)) same continues.others) k e low in
        (other.0, other.1.0, other.1.1);
    is = come.port view.seats;
  }
    where
      same : continues.later ≡ come.entries
      same = append_cancel_left view.seen continues.later come.entries
          (sym continues.begins ∙ come.journal ∙ ap (λ js. js ++ come.entries) seen)

-- the one that it left
pub the_last : (share : List NumberedState) (seen : Journal) → journal_left share ≡ Some seen
    → (last : NumberedState) × (share ≡ last ∷ []) × (port_journal last ≡ seen)
the_last [] seen is = absurd (none-some seen is)
the_last (last ∷ []) seen is = (last, refl, same_Some (port_journal last) seen is)
the_last (last ∷ other ∷ more) seen is = absurd (none-some seen is)

module _ (view : DirectoryView) (found : HeldState) (continues : Continues (entries_of found) (left_by found view.number) view) (up_to_date : IsUpToDate view) where
  -- it has a place
  pub has_place : is_some (slice_get found.last view.number) ≡ true
  has_place =
      let left = the_last view.share view.seen up_to_date in
      ap is_some (listed-one (slice_get found.last view.number) left.0 (continues.same ∙ left.1))

  -- after its turn
  module _ (value : HeldState) (after : DirectoryView) (Replies : PortState → PortState → Type 0)
      (turn : IsTurnOf view.number found value Replies) (number : after.number ≡ view.number) (seats : after.seats ≡ view.seats)
      (share : after.share ≡ left_by value view.number) (seen : after.seen ≡ entries_of value) where
    pub still_up_to_date : IsUpToDate after
    still_up_to_date = ap journal_left (share ∙ turn.left) ∙ ap Some (sym seen)

    port_after : port_of after ≡ port_in view.number view.seats value.now
    port_after = λ i. port_left (number i) (seats i) ((share ∙ turn.left) i)

    -- what is due at the port of a pass, after what others added, is a reply of that port
    pub replied : IsReplied (port_of view) (λ p. Replies p (port_of after))
    replied =
        let left = the_last view.share view.seen up_to_date in
        let come = turn.come left.0 (continues.same ∙ left.1) in
        record {
          place = port_in view.number view.seats found.now;
          later = subst (λ p. IsLater p (port_in view.number view.seats found.now))
              (sym (ap (port_left view.number view.seats) left.1))
              (later_port view found left.0 continues left.2 come);
          replies = subst (Replies (port_in view.number view.seats found.now)) (sym port_after) (turn.replies view.seats);
        }

  -- where the directory is closed
  pub closed_port : HaveCome found → IsLater (port_of view) (port_in view.number view.seats found.now)
  closed_port have =
      let left = the_last view.share view.seen up_to_date in
      let come = have view.number left.0 (listed-one (slice_get found.last view.number) left.0 (continues.same ∙ left.1)) in
      subst (λ p. IsLater p (port_in view.number view.seats found.now))
      (sym (ap (port_left view.number view.seats) left.1))
      (later_port view found left.0 continues left.2 come)

-- as many entries as it has seen
pub seen_journal : (view : DirectoryView) → IsUpToDate view → length view.seen ≡ length (port_of view).journal
seen_journal view up_to_date =
    let left = the_last view.share view.seen up_to_date in
    ap length (sym left.2) ∙ ap (λ share. length (port_left view.number view.seats share).journal) (sym left.1)

-- a turn, by the number that it has and the value that it finds
pub turn_as : (n m : ℕ) (was found value : HeldState) (Replies : PortState → PortState → Type 0) → n ≡ m → was ≡ found
    → IsTurnOf n was value Replies → IsTurnOf m found value Replies
turn_as n m was found value Replies number is turn =
    subst (λ k. IsTurnOf k found value Replies) number (subst (λ w. IsTurnOf n w value Replies) is turn)
