-- One more piece in the set.
use Rattle.std.proofs.Common.{◌≡◌, ℕ, ◌+◌, ◌<◌, true, ◌∙◌, sym, ap, length, map, take, arith, Vec, Global}
use Rattle.std.specs.List.{list_all}
use Rattle.std.specs.Ordering.{nat_cmp}
use Rattle.std.specs.Cmp.Lexicographic.{slice_cmp}
use Rattle.std.specs.BTreeSet.{insert_key}
use Rattle.std.proofs.lemmas.Bool.{and_from}
use Rattle.std.proofs.lemmas.List.Folds.{list_all_more}
use Rattle.dn_names.specs.Paths.{pair_piece, piece_set, has_short_key}
use Rattle.dn_names.proofs.PairSets.{map-insert_key, set_by_more}
use Rattle.dn_names.proofs.paths.piece_set.Goals as goal

pub loop-pair-preserved : goal.loop-pair-preserved
loop-pair-preserved c =
    let i = c.loop-pair.pair-index in
    let within : c.loop-pair.pair-index < length c.args.pairs.now = omega arith in
    let more : piece_set (take (i + 1) c.args.pairs.now) ≡ insert_key (slice_cmp nat_cmp) (piece_set (take i c.args.pairs.now)) (pair_piece c.pair-item.result) =
    set_by_more pair_piece c.args.pairs.now i c.pair-item.result within
    ∙ ap (λ pair. insert_key (slice_cmp nat_cmp) (piece_set (take i c.args.pairs.now)) (pair_piece pair)) (sym c.pair-item.is) in
    let short : has_short_key c.pair-item.result ≡ true = c.in_ok-pair_piece.ensures.short in (
      ap (map (λ (piece : Vec ℕ Global). piece.items)) c.in_ok-insert.ensures.keys
          ∙ map-insert_key (λ (piece : Vec ℕ Global). piece.items) (slice_cmp nat_cmp) c.loop-pair.set.keys c.in_ok-pair_piece.field-0
          ∙ rw (c.loop-pair.invariant.0, c.in_ok-pair_piece.ensures.piece) (sym more),
      list_all_more has_short_key c.args.pairs.now i c.pair-item.result within
          ∙ and_from (list_all has_short_key (take i c.args.pairs.now)) _ c.loop-pair.invariant.1 (ap has_short_key (sym c.pair-item.is) ∙ short),
    )
