-- A pass that meets another one and then takes a turn, and the port of it.
use Rattle.std.proofs.Common.{◌≡◌, ℕ, List, ◌++◌, sym, ap, ◌∙◌, subst, append_assoc}
use Rattle.turn_cell.specs.Journals.{IsNumber}
use Rattle.turn_cell.specs.Passes.{Continues}
use Rattle.turn_cell.specs.Rule.{IsOther, Grows}
use Rattle.turn_cell.proofs.Each.{every-append, every-weaker}
use Rattle.turn_cell.proofs.Placing.{continues}
use Rattle.sync_provider.specs.Ports.{Journal, IsLater, IsReplied, HasMet}
use Rattle.shared_directory.specs.Desks.{NumberedState, HeldState, entries_of, left_by}
use Rattle.shared_directory.specs.Passes.{DirectoryView, port_left, port_of, IsUpToDate}
use Rattle.shared_directory.proofs.Passing.{the_last}

-- what goes on from what a pass has seen, goes on from what it had seen before
pub continues_on : (journal : Journal) (share : List NumberedState) (view met : DirectoryView)
    → met.number ≡ view.number → met.seats ≡ view.seats
    → Continues met.seen met.share view → Continues journal share met → Continues journal share view
continues_on journal share view met number seats first second =
    continues journal share view (record {
      later = first.later ++ second.later;
      goes_on = second.begins
          ∙ ap (λ js. js ++ second.later) first.begins
          ∙ append_assoc view.seen first.later second.later;
      others = every-append (IsOther view) first.later second.later first.others
          (every-weaker (IsOther met) (IsOther view) second.later
          (λ e other. (
            (λ same. other.0 (same ∙ sym number)),
            subst (λ n. IsNumber n e.1) seats other.1,
          ))
          second.others);
      same = second.same ∙ first.same;
    })

-- the journal of its port is the one that it has seen
pub seen_by_port : (view : DirectoryView) → IsUpToDate view → (port_of view).journal ≡ view.seen
seen_by_port view up_to_date =
    let left = the_last view.share view.seen up_to_date in
    ap (λ share. (port_left view.number view.seats share).journal) left.1 ∙ left.2

-- a turn that makes no call, after a meeting
pub has_met : (view met beside after : DirectoryView) (found value : HeldState) (number : ℕ)
    → IsUpToDate beside → IsUpToDate after
    → Continues met.seen beside.share beside
    → Continues (entries_of found) (left_by found met.number) met
    → Grows entries_of left_by number found value
    → after.seen ≡ entries_of value
    → IsReplied (port_of view) (λ p. port_of after ≡ p)
    → HasMet (port_of view) (port_of beside) (port_of after)
has_met view met beside after found value number beside_is after_is first second grows seen replied = record {
  later = subst (IsLater (port_of view)) (sym replied.replies) replied.later;
  seen = record {
    more = first.later ++ (second.later ++ grows.added);
    begins = seen_by_port after after_is
        ∙ seen
        ∙ grows.entries
        ∙ ap (λ js. js ++ grows.added) (second.begins ∙ ap (λ js. js ++ second.later) first.begins)
        ∙ append_assoc (beside.seen ++ first.later) second.later grows.added
        ∙ append_assoc beside.seen first.later (second.later ++ grows.added)
        ∙ ap (λ js. js ++ (first.later ++ (second.later ++ grows.added))) (sym (seen_by_port beside beside_is));
  };
}
