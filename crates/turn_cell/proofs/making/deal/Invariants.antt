use Rattle.std.proofs.Common.{◌≡◌, ◌+◌, ◌-◌, ◌≤◌, [], length, vec_len, vec_capacity}
use Rattle.turn_cell.specs.Rule.{idle, new_passes}
use Rattle.turn_cell.specs.Passes.{AreNew}
use Rattle.turn_cell.proofs.making.deal.Given as goal

-- the dealer has the passes that are not dealt yet
abbrev pub invariant-loop-place : goal.invariant-loop-place
invariant-loop-place g l = record {
  table : l.dealer.table_id ≡ l.fn.dealer.table_id;
  dealer : l.dealer.me ≡ (idle (new_passes l.seats (g.D.Journalled.journal l.words.key.value.value) (g.D.Journalled.share l.words.key.value.value) (l.place + 1) (l.seats - l.place)), []);
  dealt : AreNew l.fn.dealer.table_id l.seats (g.D.Journalled.journal l.words.key.value.value) (g.D.Journalled.share l.words.key.value.value) 1 l.passes.items;
  count : length l.passes.items ≡ l.place;
  len : vec_len l.passes ≡ l.place;
  room : l.seats ≤ vec_capacity l.passes;
}
