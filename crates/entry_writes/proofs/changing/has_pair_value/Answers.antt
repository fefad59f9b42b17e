-- An attribute holds the key of the pair, or none does.
use Rattle.std.proofs.Common.{◌≡◌, true, false, sym, ◌∙◌, arith}
use Rattle.std.specs.List.{list_any}
use Rattle.std.proofs.lemmas.Grind.{common_steps}
use Rattle.entry_writes.specs.Edits.{holds_key}
use Rattle.entry_writes.proofs.Keyed.{has_pair_value-key}
use Rattle.entry_writes.proofs.changing.has_pair_value.Goals as goal

pub returns-then-branch : goal.returns-then-branch
returns-then-branch c =
    let pair = c.args.pair.now in
    let found : list_any (holds_key pair.kind c.key-key.result.now) c.args.attributes.now ≡ true = grind (arith, common_steps) in
    sym found ∙ has_pair_value-key c.args.attributes.now pair c.key-key.result.now c.key-key.ensures

pub returns : goal.returns
returns c =
    let pair = c.args.pair.now in
    let none : list_any (holds_key pair.kind c.key-key.result.now) c.args.attributes.now ≡ false = grind (arith, common_steps) in
    sym none ∙ has_pair_value-key c.args.attributes.now pair c.key-key.result.now c.key-key.ensures
