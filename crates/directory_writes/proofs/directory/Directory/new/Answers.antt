use Rattle.directory_writes.specs.Directory.{first_log_limit}
use Rattle.directory_writes.proofs.Writes.{kept_none}
use Rattle.directory_writes.proofs.directory.Directory.new.Goals as goal

pub invariant_of-result : goal.invariant_of-result
invariant_of-result c =
    kept_none c.args.suffix c.args.sid c.args.history c.new.result.items c.new-3.result c.new-2.result.log first_log_limit
    c.new.ensures.items c.new-3.ensures c.requires c.new-2.ensures
