-- Each part between dots is tested.
use Rattle.std.proofs.Common.{rules, ◌==◌}
use Rattle.std.proofs.lemmas.Iterator.Search.{all_from_yields_List}
use Rattle.std.proofs.lemmas.Iterator.Splits.{YieldsList-from_slice_split}
use Rattle.text_keys.specs.Integer.{is_number}
use Rattle.dn_names.proofs.reading.are_numbers.Goals as goal

pub returns : goal.returns
returns c =
    all_from_yields_List is_number _ _ _ c.all.ensures.ran
    (YieldsList-from_slice_split _ (λ byte. byte == 46) c.args.name.now c.split.ensures.rest c.split.ensures.done c.split.ensures.closure (λ x b q h. search rules))
    (λ x b q h. search rules)
