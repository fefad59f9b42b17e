-- One pair is a set by itself.
use Rattle.std.proofs.Common.{◌++◌, append_assoc, ap, sym, ◌∙◌}
use Rattle.dn_names.specs.Paths.{pair_piece}
use Rattle.dn_names.proofs.OnePair.{rdn_path-one, small_numbers-one}
use Rattle.dn_names.proofs.paths.append_pair_path.Goals as goal

pub returns-clause-path : goal.returns-clause-path
returns-clause-path c =
    let piece = pair_piece c.args.pair.now in
    c.in_ok-append_piece.ensures.piece
    ∙ ap (λ text. text ++ piece) c.in_ok-extend_from_slice.ensures.items
    ∙ append_assoc c.args.path.now.items c.to_be_bytes.result piece
    ∙ ap (λ count. c.args.path.now.items ++ (count ++ piece)) c.to_be_bytes.ensures
    ∙ ap (λ text. c.args.path.now.items ++ text) (sym (rdn_path-one c.args.pair.now))

pub returns-clause-numbers : goal.returns-clause-numbers
returns-clause-numbers c = small_numbers-one c.args.pair.now c.in_ok-append_piece.ensures.short
