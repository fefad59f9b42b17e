use Rattle.std.proofs.Common.{refl}
use Rattle.std.specs.List.Sorted.{IsStrictlySortedBy}
use Rattle.base_tests.proofs.refresh_tests.items.Goals as goal

pub returns : goal.returns
unfolding IsStrictlySortedBy
returns c = ((refl, (refl, (refl, tt))), ((refl, (refl, tt)), ((refl, tt), (tt, tt))))
