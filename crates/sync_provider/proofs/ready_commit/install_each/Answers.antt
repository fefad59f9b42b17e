-- One commit after another, until none is left.
use Rattle.std.proofs.Common.{rules, ◌≡◌, ◌++◌, ◌∷◌, [], suc, subst, drop, length, arith}
use Rattle.std.proofs.lemmas.Iterator.Adapters.{YieldsList-from_vec}
use Rattle.std.proofs.lemmas.Iterator.Consumers.{YieldsList-turn, YieldsList-end}
use Rattle.std.proofs.lemmas.List.{length_push}
use Rattle.directory_writes.specs.Directory.{DirectoryWithRoom}
use Rattle.sync_provider.specs.declared.ready_commit.ReadyCommit.{ReadyCommit}
use Rattle.sync_provider.proofs.ReadyCommits.{PutsOn, left_is, puts_end, puts_first, puts_next}
use Rattle.sync_provider.proofs.ready_commit.install_each.Goals as goal

pub loop-commit-preserved : goal.loop-commit-preserved
loop-commit-preserved c =
    let each = c.args.each.items in
    let commit : ReadyCommit = c.in-Some.commit in
    let so_far = c.loop-commit.yielded in
    let before : DirectoryWithRoom = c.loop-commit.directory in
    let after : DirectoryWithRoom = c.install.new.self in
    let turn = YieldsList-turn (YieldsList-from_vec {s = c.into_iter-commit-iterator.result} each (search rules) (search rules)) so_far c.loop-commit.commit-iterator c.loop-commit.yielded_by
    c.next.result c.next.new.self commit c.in-Some.is c.next.ensures.steps in
    let rest = left_is each (length so_far) commit turn.0 turn.1 in
    let long : suc (length so_far) ≡ length (so_far ++ commit ∷ []) = omega (arith, length_push so_far commit) in
    subst (λ n. PutsOn each c.args.directory.now after (drop n each)) long
    (puts_next each (drop (length so_far) each) (drop (suc (length so_far)) each) c.args.directory.now before after commit rest c.loop-commit.invariant
    c.install.ensures.state c.install.ensures.room c.install.ensures.spare)

pub install-requires-clause-ready : goal.install-requires-clause-ready
install-requires-clause-ready c =
    let each = c.args.each.items in
    let commit : ReadyCommit = c.in-Some.commit in
    let so_far = c.loop-commit.yielded in
    let turn = YieldsList-turn (YieldsList-from_vec {s = c.into_iter-commit-iterator.result} each (search rules) (search rules)) so_far c.loop-commit.commit-iterator c.loop-commit.yielded_by
    c.next.result c.next.new.self commit c.in-Some.is c.next.ensures.steps in
    (puts_first each (drop (length so_far) each) (drop (suc (length so_far)) each) c.args.directory.now c.loop-commit.directory commit (left_is each (length so_far) commit turn.0 turn.1) c.loop-commit.invariant).0

pub install-requires-clause-room : goal.install-requires-clause-room
install-requires-clause-room c =
    let each = c.args.each.items in
    let commit : ReadyCommit = c.in-Some.commit in
    let so_far = c.loop-commit.yielded in
    let turn = YieldsList-turn (YieldsList-from_vec {s = c.into_iter-commit-iterator.result} each (search rules) (search rules)) so_far c.loop-commit.commit-iterator c.loop-commit.yielded_by
    c.next.result c.next.new.self commit c.in-Some.is c.next.ensures.steps in
    (puts_first each (drop (length so_far) each) (drop (suc (length so_far)) each) c.args.directory.now c.loop-commit.directory commit (left_is each (length so_far) commit turn.0 turn.1) c.loop-commit.invariant).1

pub install-requires-clause-spare : goal.install-requires-clause-spare
install-requires-clause-spare c =
    let each = c.args.each.items in
    let commit : ReadyCommit = c.in-Some.commit in
    let so_far = c.loop-commit.yielded in
    let turn = YieldsList-turn (YieldsList-from_vec {s = c.into_iter-commit-iterator.result} each (search rules) (search rules)) so_far c.loop-commit.commit-iterator c.loop-commit.yielded_by
    c.next.result c.next.new.self commit c.in-Some.is c.next.ensures.steps in
    (puts_first each (drop (length so_far) each) (drop (suc (length so_far)) each) c.args.directory.now c.loop-commit.directory commit (left_is each (length so_far) commit turn.0 turn.1) c.loop-commit.invariant).2

pub returns : goal.returns
returns c =
    let each = c.args.each.items in
    let so_far = c.loop-commit.yielded in
    let end = YieldsList-end (YieldsList-from_vec {s = c.into_iter-commit-iterator.result} each (search rules) (search rules)) so_far c.loop-commit.commit-iterator c.loop-commit.yielded_by
    c.next.result c.next.new.self c.in-None.is c.next.ensures.steps in
    puts_end each c.args.directory.now c.loop-commit.directory (length so_far) (omega (arith, end.1)) c.loop-commit.invariant
