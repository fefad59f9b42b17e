use Rattle.std.proofs.Common.{◌≡◌, ◌++◌, drop}
use Rattle.std.specs.List.{flat_map, list_all}
use Rattle.ldap_filter.specs.Writing.{are_bytes, middle_text}
use Rattle.ldap_filter.proofs.writing.put_middle.Given as goal

-- the pieces that are left are still to come
abbrev pub invariant-loop-piece : goal.invariant-loop-piece
invariant-loop-piece l = record {
  text : l.text.items ++ flat_map middle_text (drop l.piece-index l.pieces) ≡ l.initial.text.items ++ flat_map middle_text l.pieces;
  sound : list_all are_bytes (drop l.piece-index l.pieces) ≡ list_all are_bytes l.pieces;
}
