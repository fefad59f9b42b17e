use Rattle.std.proofs.Common.{◌≡◌, take, true, is_some}
use Rattle.std.specs.List.{list_all, filter_map}
use Rattle.ldap_filter.specs.Matching.{middle_key}
use Rattle.ldap_filter.proofs.matching.middle_keys.Given as goal

-- the pieces so far have keys, and these are there
abbrev pub invariant-loop-piece : goal.invariant-loop-piece
invariant-loop-piece l = record {
  all : list_all (λ p. is_some (middle_key l.rule p)) (take l.piece-index l.pieces) ≡ true;
  keys : l.keys ≡ filter_map (middle_key l.rule) (take l.piece-index l.pieces);
}
