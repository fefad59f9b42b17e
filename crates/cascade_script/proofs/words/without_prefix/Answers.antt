use Rattle.std.proofs.lemmas.Slice.Eq.{strip_prefix_is}
use Rattle.std.proofs.lemmas.Bool.Decides.{Decides-eqb}
use Rattle.cascade_script.proofs.Prefixes.{stripped-from_cases}
use Rattle.cascade_script.proofs.words.without_prefix.Goals as goal

pub returns : goal.returns
returns c =
    stripped-from_cases c.args.prefix.now c.args.bytes.now c.strip_prefix.result (strip_prefix_is Decides-eqb c.args.bytes.now c.args.prefix.now _ c.strip_prefix.ensures.cases)
