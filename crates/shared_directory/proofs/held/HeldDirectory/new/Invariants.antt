use Rattle.std.proofs.Common.{◌≡◌, ◌+◌, ◌≤◌, map, replicate, vec_len, vec_capacity}
use Rattle.shared_directory.proofs.held.HeldDirectory.new.Given as goal

-- n passes have left it as it is
abbrev pub invariant-loop-place : goal.invariant-loop-place
invariant-loop-place l = record {
  left : map (λ s. s.value) l.last.items ≡ replicate l._place l.now.value;
  len : vec_len l.last ≡ l._place;
  room : l.seats + 1 ≤ vec_capacity l.last;
}
