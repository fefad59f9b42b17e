-- A directory as it is made: no port has called.
use Rattle.std.proofs.Common.{◌≡◌, ◌≤◌, ◌<◌, ℕ, zero, suc, ◌+◌, cond, nat_eq, List, [], ◌∷◌, ◌++◌, map, drop, get_or, length, Some, None, refl, ap, sym, ◌∙◌, subst, arith, append-nil}
use Rattle.std.specs.Prelude.{slice_get, slice_index, replicate}
use Rattle.std.proofs.lemmas.List.{map-append, take_all, drop_all, length-map, length-replicate, replicate_more}
use Rattle.std.proofs.lemmas.Option.{none-some, same_Some}
use Rattle.std.proofs.lemmas.Bool.{ne_eqb}
use Rattle.atomic_table.specs.Seated.{TableId}
use Rattle.turn_cell.specs.declared.pass.Pass.{Pass}
use Rattle.turn_cell.specs.Journals.{Every}
use Rattle.turn_cell.specs.Passes.{AreNew}
use Rattle.sync_provider.specs.HandingOut.{search_at}
use Rattle.sync_provider.specs.Journal.{JournalledProvider, journal_of, journal_in, followed_as, followed_in, handed_at, IsJournalled}
use Rattle.sync_provider.specs.Ports.{Journal}
use Rattle.sync_provider.specs.declared.journal_note.JournalNote.{JournalNote}
use Rattle.sync_provider.proofs.Journals.{some_map}
use Rattle.shared_directory.specs.Numbers.{no_openers, numbered_with, openers_of, kept_count}
use Rattle.shared_directory.specs.Desks.{NumberedState, HeldState, first_state, first_held, port_journal, port_in, IsNumbered, HasCome, HaveCome, entries_of, left_by, listed}
use Rattle.shared_directory.specs.Passes.{journal_left, port_left, port_of, first_port, IsUpToDate, AreFirst}
use Rattle.shared_directory.proofs.Turns.{come_at_once}

zeros : (m n : ℕ) → ◌≡◌ {A = ℕ} (get_or (replicate m 0) n 0) 0
zeros zero n = refl
zeros (suc m) zero = refl
zeros (suc m) (suc n) = zeros m n

get-replicate : {X : Type 0} (m n : ℕ) (x : X) → n < m → slice_get (replicate m x) n ≡ Some x
get-replicate zero n x low = absurd (omega (arith, low))
get-replicate (suc m) zero x low = refl
get-replicate (suc m) (suc n) x low = get-replicate m n x (omega (arith, low))

got-replicate : {X : Type 0} (m n : ℕ) (x y : X) → slice_get (replicate m x) n ≡ Some y → x ≡ y
got-replicate zero n x y is = absurd (none-some y is)
got-replicate (suc m) zero x y is = same_Some x y is
got-replicate (suc m) (suc n) x y is = got-replicate m n x y is

-- one more that is mapped to the same
pub replicate-more : {X Y : Type 0} (f : Y → X) (ys : List Y) (y : Y) (x : X) (n : ℕ) → map f ys ≡ replicate n x → f y ≡ x
    → map f (ys ++ y ∷ []) ≡ replicate (n + 1) x
replicate-more f ys y x n all one = map-append f ys (y ∷ []) ∙ (λ i. all i ++ one i ∷ []) ∙ replicate_more n x

module _ (v : JournalledProvider) where
  abbrev j : Journal
  j = journal_in v

  all_of : length j ≤ length j
  all_of = omega arith

  none_later : drop (length j) j ≡ []
  none_later = drop_all (length j) j all_of

  -- a provider with its journal, to which no port has called yet, has the numbers that it needs:
  -- none
  pub first_numbered : IsJournalled v → IsNumbered (first_state v)
  first_numbered is = record {
    first = all_of;
    kept = ap kept_count none_later;
    places = length-replicate {A = ℕ} 65 0;
    openers = λ n. zeros 65 n ∙ sym (ap (λ js. openers_of no_openers js [] n) none_later);
    followed = λ n.
        some_map (followed_as n (handed_at v.handed n)) (search_at v.state.searches n) ∙ is.only n;
  }

  -- by the length of its journal, where no number is kept
  pub first_is : (n : ℕ) (numbers : List ℕ) → n ≡ length (journal_of v.state.directory.writes v.events) → numbers ≡ []
      → record { provider = v; first = n; numbers = numbers; openers = replicate 65 0 } ≡ first_state v
  first_is n numbers counted none =
      let zero_of : JournalNote → JournalNote × ℕ = λ note. (note, 0) in
      λ i. record {
        provider = v;
        first = (counted ∙ sym (length-map (journal_of v.state.directory.writes v.events) zero_of)) i;
        numbers = none i;
        openers = replicate 65 0;
      }

  -- the same of a journal that was counted, and an empty list of numbers
  pub counted_numbered : (n : ℕ) (numbers : List ℕ) → n ≡ length (journal_of v.state.directory.writes v.events) → numbers ≡ [] → IsJournalled v
      → IsNumbered (record { provider = v; first = n; numbers = numbers; openers = replicate 65 0 })
  counted_numbered n numbers counted none is = subst IsNumbered (sym (first_is n numbers counted none)) (first_numbered is)

  -- the journal of the first port is the one that the provider had
  pub first_journal : port_journal (first_state v) ≡ j
  first_journal =
      (λ i. take_all (length j) j all_of i ++ numbered_with no_openers (none_later i) []) ∙ append-nil j

  -- each port of such a directory knows the provider as it is, and follows no search
  pub first_in : (number ports : ℕ) → 1 ≤ number → port_in number ports (first_state v) ≡ first_port number ports v
  first_in number ports low = λ i. record {
    number = number;
    ports = ports;
    kind = v.state.kind;
    directory = v.state.directory;
    queue_limit = v.state.queue_limit;
    journal = first_journal i;
    followed = λ n. none n i;
  }
    where
      none : (n : ℕ) → cond (nat_eq (slice_index (replicate 65 0) n) number) (followed_in v n) None ≡ None
      none n =
          ap (λ o. cond (nat_eq o number) (followed_in v n) None) (zeros 65 n)
          ∙ ap (λ b. cond b (followed_in v n) None) (ne_eqb 0 number (λ same. absurd (omega (arith, same, low))))

  every_zero : (notes : List JournalNote) → Every (λ (e : JournalNote × ℕ). e.1 ≡ 0) (map (λ note. (note, 0)) notes)
  every_zero [] = tt
  every_zero (note ∷ notes) = (refl, every_zero notes)

  -- no entry of the journal is by a port yet
  pub none_by_ports : Every (λ (e : JournalNote × ℕ). e.1 ≡ 0) (port_journal (first_state v))
  none_by_ports = subst (Every (λ (e : JournalNote × ℕ). e.1 ≡ 0)) (sym first_journal) (every_zero (journal_of v.state.directory.writes v.events))

  module _ (seats : ℕ) where
    -- since it was made nothing has come to any pass
    pub first_come : HaveCome (first_held v seats)
    first_come number old left =
        subst (λ o. HasCome number o (first_state v)) (got-replicate (seats + 1) number (first_state v) old left)
        (come_at_once number (first_state v))

    -- what the cell begins with, by its parts
    pub held_first : (n : ℕ) (now : NumberedState) (last : List NumberedState) → now ≡ first_state v → last ≡ replicate n now → n ≡ seats + 1
        → record { now = now; last = last } ≡ first_held v seats
    held_first n now last is left count = λ i. record {
      now = is i;
      last = (left ∙ (λ k. replicate (count k) (is k))) i;
    }

    -- the same of a state with n copies of the directory
    pub held_come : (n : ℕ) (now : NumberedState) (last : List NumberedState) → now ≡ first_state v → last ≡ replicate n now → n ≡ seats + 1
        → HaveCome (record { now = now; last = last })
    held_come n now last is left count = subst HaveCome (sym (held_first n now last is left count)) first_come

    left_first : (number : ℕ) → number ≤ seats → left_by (first_held v seats) number ≡ first_state v ∷ []
    left_first number low = ap listed (get-replicate (seats + 1) number (first_state v) (omega (arith, low)))

    -- passes that are new, from some number on, are those of a directory as it is made
    pub are_first : {g : _} (cell : TableId) (passes : List (Pass HeldState JournalNote NumberedState g)) (first : ℕ)
        → 1 ≤ first → first + length passes ≡ suc seats
        → AreNew cell seats (entries_of (first_held v seats)) (left_by (first_held v seats)) first passes
        → AreFirst cell seats v first passes
    are_first cell [] first low high new = tt
    are_first cell (pass ∷ passes) first low high new = (
      (new.0, subst IsUpToDate (sym new.1) (ap journal_left (left_first first least))),
      ap port_of new.1 ∙ ap (port_left first seats) (left_first first least) ∙ first_in first seats low,
      are_first cell passes (suc first) (omega (arith, low)) (omega (arith, high)) new.2,
    )
      where
        least : first ≤ seats
        least = omega (arith, high)

    -- what a cell asks of the value that it is made with, and what its passes know then
    module _ (held : HeldState) (is : held ≡ first_held v seats) where
      pub none_before : Every (λ (e : JournalNote × ℕ). e.1 ≡ 0) (entries_of held)
      none_before = subst (λ h. Every (λ (e : JournalNote × ℕ). e.1 ≡ 0) (entries_of h)) (sym is) none_by_ports

      -- so are all of them
      pub passes_first : {g : _} (cell : TableId) (passes : List (Pass HeldState JournalNote NumberedState g)) → length passes ≡ seats
          → AreNew cell seats (entries_of held) (left_by held) 1 passes → AreFirst cell seats v 1 passes
      passes_first cell passes count new =
          are_first cell passes 1 (omega arith) (omega (arith, count))
          (subst (λ h. AreNew cell seats (entries_of h) (left_by h) 1 passes) is new)
