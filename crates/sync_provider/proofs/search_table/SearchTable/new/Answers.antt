-- Each place is free.
use Rattle.std.proofs.Common.{arith}
use Rattle.sync_provider.proofs.Tables.{table_free}
use Rattle.sync_provider.proofs.search_table.SearchTable.new.Goals as goal

pub invariant_of-result : goal.invariant_of-result
invariant_of-result c = table_free c.loop-free.places.items (omega (arith, c.loop-free.invariant.long)) c.loop-free.invariant.free
