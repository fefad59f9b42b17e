-- A list of one pair is that pair alone.
use Rattle.std.proofs.Common.{◌≡◌, length, ap, sym, ◌∙◌, arith}
use Rattle.dn_names.proofs.OnePair.{one_pair}
use Rattle.entry_tree.specs.Pinned.{is_whole_rdn}
use Rattle.entry_tree.proofs.Counting.{not_one_pair}
use Rattle.entry_tree.proofs.strays.is_whole_rdn.Goals as goal

pub returns-in-len1 : goal.returns-in-len1
returns-in-len1 c =
    let one : length c.args.own.now ≡ 1 = omega arith in
    c.is_of_pair.ensures ∙ ap (λ own. is_whole_rdn own c.args.attribute.now) (sym (one_pair c.args.own.now c.pair-item.result _ one c.pair-item.is))

pub returns-in_default : goal.returns-in_default
returns-in_default c = sym (not_one_pair c.args.own.now c.args.attribute.now (λ one. omega (arith, one)))
