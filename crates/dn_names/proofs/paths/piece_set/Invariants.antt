use Rattle.std.proofs.Common.{◌≡◌, true, take, map}
use Rattle.std.specs.List.{list_all}
use Rattle.dn_names.specs.Paths as spec
use Rattle.dn_names.proofs.paths.piece_set.Given as goal

-- the set of the pairs so far, whose keys are short
abbrev pub invariant-loop-pair : goal.invariant-loop-pair
invariant-loop-pair l =
    (map (λ piece. piece.items) l.set.keys ≡ spec.piece_set (take l.pair-index l.pairs))
    × (list_all spec.has_short_key (take l.pair-index l.pairs) ≡ true)
