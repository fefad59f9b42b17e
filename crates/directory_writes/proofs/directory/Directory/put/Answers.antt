-- A write that is ready is put in place where room is made for it.
use Rattle.std.proofs.Common.{ap, arith, length, subst, sym, ◌∙◌}
use Rattle.entry_tree.specs.declared.touched.EntryChange.{EntryChange}
use Rattle.directory_writes.specs.Directory.{DirectoryState, with_write}
use Rattle.directory_writes.specs.Ready.{IsReadyWrite}
use Rattle.directory_writes.proofs.directory.Directory.put.Goals as goal

pub install-requires-clause-ready : goal.install-requires-clause-ready
install-requires-clause-ready c =
    subst (λ (d : DirectoryState). IsReadyWrite d c.args.op c.in_ok-ready.ready) (sym c.make_room.ensures.state) c.in_ok-ready.ensures.ready

pub install-requires-clause-spare : goal.install-requires-clause-spare
install-requires-clause-spare c =
    omega (arith, c.in_ok-make_room.ensures.spare, ap (length {A = EntryChange}) c.list.ensures)

pub returns-clause-ok : goal.returns-clause-ok
returns-clause-ok c =
    c.install.ensures.state
    ∙ (λ i. with_write (c.make_room.ensures.state i) (record { csn = (c.in_ok-ready.ensures.preview i).csn; op = c.args.op }))
    ∙ ap (λ (d : DirectoryState). with_write d (record { csn = c.args.preview.csn; op = c.args.op })) c.ready.ensures.state
