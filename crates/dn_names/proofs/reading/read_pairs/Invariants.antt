use Rattle.std.proofs.Common.{◌≡◌, length}
use Rattle.std.specs.List.{slice_split}
use Rattle.dn_names.specs.Reading as spec
use Rattle.dn_names.proofs.Pieces.{with_all}
use Rattle.dn_names.proofs.reading.read_pairs.Given as goal

-- the pairs so far, and what the rest is read as
abbrev pub invariant-pairs : goal.invariant-pairs
invariant-pairs l =
    spec.pairs_of l.place l.ended (slice_split (spec.is_plain 43) l.chars)
    ≡ with_all l.pairs.items (spec.pairs_of l.place l.ended (slice_split (spec.is_plain 43) l.rest))

abbrev pub decreases-pairs : goal.decreases-pairs
decreases-pairs l = length l.rest
