-- Each number is 0, and so is what stands past the last one.
use Rattle.entry_tree.proofs.Counting.{zeros}
use Rattle.entry_tree.proofs.strays.no_strays.Goals as goal

pub returns : goal.returns
returns c = zeros 24
