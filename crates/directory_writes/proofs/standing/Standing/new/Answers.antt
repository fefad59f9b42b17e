-- Nothing is kept.
use Rattle.std.proofs.Common.{ap, arith}
use Rattle.entry_tree.specs.State.{same_named}
use Rattle.directory_writes.proofs.standing.Standing.new.Goals as goal

pub invariant_of-result : goal.invariant_of-result
invariant_of-result c = (record { few = omega arith; light = omega arith; unique_names = λ holds. ap same_named c.new-tree.ensures }, tt)

pub returns : goal.returns
returns c = λ i. record { count = 0; weight = 0; last = c.new-csn_maker.ensures i; entries = c.new-tree.ensures i; numbers = c.new-numbers.ensures i }
