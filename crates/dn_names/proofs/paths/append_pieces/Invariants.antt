use Rattle.std.proofs.Common.{◌≡◌, ◌++◌, map}
use Rattle.std.specs.List.{flat_map}
use Rattle.std.specs.BTreeSet.{btree_set_len}
use Rattle.dn_names.proofs.paths.append_pieces.Given as goal

-- the pieces that are left are missing
abbrev pub invariant-loop-piece : goal.invariant-loop-piece
invariant-loop-piece l =
    l.path.items ++ flat_map (λ piece. piece) (map (λ piece. piece.items) l.pieces.keys)
    ≡ l.fn.path.items ++ flat_map (λ piece. piece) (map (λ piece. piece.items) l.fn.pieces.keys)

abbrev pub decreases-loop-piece : goal.decreases-loop-piece
decreases-loop-piece l = btree_set_len l.pieces
