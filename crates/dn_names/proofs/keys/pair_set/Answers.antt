-- One more mark in the set.
use Rattle.std.proofs.Common.{◌≡◌, ℕ, ◌+◌, ◌<◌, ◌∙◌, sym, ap, length, map, take, arith, Vec, Global}
use Rattle.std.specs.Ordering.{nat_cmp}
use Rattle.std.specs.Cmp.Lexicographic.{slice_cmp}
use Rattle.std.specs.BTreeSet.{insert_key}
use Rattle.dn_names.specs.Keys.{pair_set, pair_mark}
use Rattle.dn_names.proofs.PairSets.{map-insert_key, set_by_more}
use Rattle.dn_names.proofs.keys.pair_set.Goals as goal

pub loop-pair-preserved : goal.loop-pair-preserved
loop-pair-preserved c =
    let within : c.loop-pair.pair-index < length c.args.pairs.now = omega arith in
    let more : pair_set (take (c.loop-pair.pair-index + 1) c.args.pairs.now) ≡ insert_key (slice_cmp nat_cmp) (pair_set (take c.loop-pair.pair-index c.args.pairs.now)) (pair_mark c.pair-item.result) =
    set_by_more pair_mark c.args.pairs.now c.loop-pair.pair-index c.pair-item.result within
    ∙ ap (λ pair. insert_key (slice_cmp nat_cmp) (pair_set (take c.loop-pair.pair-index c.args.pairs.now)) (pair_mark pair)) (sym c.pair-item.is) in
    ap (map (λ (mark : Vec ℕ Global). mark.items)) c.in_ok-insert.ensures.keys
    ∙ map-insert_key (λ (mark : Vec ℕ Global). mark.items) (slice_cmp nat_cmp) c.loop-pair.set.keys c.in_ok-pair_mark.field-0
    ∙ rw (c.loop-pair.invariant, c.in_ok-pair_mark.ensures) (sym more)
