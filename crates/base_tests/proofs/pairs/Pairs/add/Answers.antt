use Rattle.std.proofs.Common.{is_ok}
use Rattle.base_tests.proofs.Growing.{pushed}
use Rattle.base_tests.proofs.pairs.Pairs.add.Goals as goal

pub returns-clause-grows : goal.returns-clause-grows
returns-clause-grows c =
    pushed c.args.self.now c.push.new.self (is_ok c.push.result) c.args.number c.args.value c.push.ensures.items
