-- A list of one pair is that pair alone.
use Rattle.std.proofs.Common.{◌≡◌, ◌++◌, length, ap, sym, ◌∙◌, arith}
use Rattle.std.proofs.lemmas.Result.{on_ok_weaker}
use Rattle.dn_names.specs.Paths.{rdn_path, has_small_numbers}
use Rattle.dn_names.proofs.OnePair.{one_pair}
use Rattle.dn_names.proofs.paths.append_rdn_path.Goals as goal

pub returns-in-len1-clause-path : goal.returns-in-len1-clause-path
returns-in-len1-clause-path c =
    let one : length c.args.pairs.now ≡ 1 = omega arith in
    let alone = one_pair c.args.pairs.now c.pair-item.result _ one c.pair-item.is in
    on_ok_weaker c.append_pair_path.result
    (λ put. put ∙ ap (λ pairs. c.args.path.now.items ++ rdn_path pairs) (sym alone))
    c.append_pair_path.ensures.path

pub returns-in-len1-clause-numbers : goal.returns-in-len1-clause-numbers
returns-in-len1-clause-numbers c =
    let one : length c.args.pairs.now ≡ 1 = omega arith in
    let alone = one_pair c.args.pairs.now c.pair-item.result _ one c.pair-item.is in
    on_ok_weaker c.append_pair_path.result
    (λ small. ap has_small_numbers alone ∙ small)
    c.append_pair_path.ensures.numbers
