use Rattle.directory_writes.specs.Directory.{entries_of}
use Rattle.directory_writes.proofs.Commits.{plain_fits}
use Rattle.provider_tests.proofs.directory_writes_tests.write.Goals as goal

pub done-requires-clause-fits : goal.done-requires-clause-fits
done-requires-clause-fits c = plain_fits (entries_of c.args.directory.now.state) c.in_ok-op.op c.in_ok-op.ensures.asked
