-- The identities are written at the path key.
use Rattle.std.proofs.lemmas.Result.{on_ok_weaker}
use Rattle.entry_tree.proofs.NameKeys.{writes_some, some_written}
use Rattle.entry_tree.proofs.names.write_anew.Goals as goal

pub returns-clause-written : goal.returns-clause-written
returns-clause-written c =
    on_ok_weaker c.insert.result
    (λ is. writes_some c.args.names.now c.insert.new.self c.args.path.now c.in_ok-key.key c.args.uuids c.in_ok-key.ensures is)
    c.insert.ensures.ok

pub returns-clause-some : goal.returns-clause-some
returns-clause-some c =
    on_ok_weaker c.insert.result
    (λ is. some_written c.args.names.now c.insert.new.self c.args.path.now c.in_ok-key.key c.args.uuids c.in_ok-key.ensures is c.requires.some c.requires.others)
    c.insert.ensures.ok
