use Rattle.std.proofs.Common.{◌≡◌, ◌≤◌}
use Rattle.std.specs.VecDeque.{deque_capacity, deque_len}
use Rattle.session_log.specs.Log.{last_of, before_last, greatest}
use Rattle.session_log.proofs.ending.keep_last.Given as goal

-- what is still to be dropped stands at the start
abbrev pub invariant-loop-notes : goal.invariant-loop-notes
invariant-loop-notes l = record {
  kept : last_of l.limit l.notes.items ≡ last_of l.limit l.fn.notes.items;
  floor : greatest l.highest (before_last l.limit l.notes.items) ≡ greatest l.floor (before_last l.limit l.fn.notes.items);
  len : deque_len l.notes ≤ deque_len l.fn.notes;
  capacity : deque_capacity l.notes ≡ deque_capacity l.fn.notes;
}

abbrev pub decreases-loop-notes : goal.decreases-loop-notes
decreases-loop-notes l = deque_len l.notes
