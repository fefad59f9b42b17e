use Rattle.std.proofs.Common.{◌≡◌, ◌++◌, drop}
use Rattle.std.specs.Prelude.{option_copied, option_to_list}
use Rattle.sync_wire.specs.WireEntry.{values_named}
use Rattle.sync_wire.proofs.operational.only_named.Given as goal

-- the one value so far, if any, and the values after it are all
abbrev pub invariant-loop-raw : goal.invariant-loop-raw
invariant-loop-raw l = option_to_list (option_copied l.only) ++ values_named l.name (drop l.raw-index l.raws) ≡ values_named l.name l.raws
