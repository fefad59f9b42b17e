use Rattle.directory_laws.proofs.States.{small-state_of, IsWithinLimits-state_of}
use Rattle.directory_laws.proofs.states_are_within.Goals as goal

pub returns-clause-small : goal.returns-clause-small
returns-clause-small c = λ suffix history writes accepted number. let small = small-state_of suffix history writes number accepted in (small.few, small.light)

pub returns-clause-within : goal.returns-clause-within
returns-clause-within c = IsWithinLimits-state_of
