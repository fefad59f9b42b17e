use Rattle.std.proofs.Common.{arith}
use Rattle.cascade_script.proofs.Records.{limit_before-more}
use Rattle.cascade_script.proofs.script.limit_after.Goals as goal

pub returns-else-place-bytes : goal.returns-else-place-bytes
returns-else-place-bytes c = limit_before-more c.args.bytes.now c.args.place.at c.args.limit (omega arith)
