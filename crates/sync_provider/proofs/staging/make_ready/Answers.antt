-- A write is still ready where room is made for it, and its messages are all that is staged.
use Rattle.std.proofs.Common.{◌∙◌, ap, arith, length, subst, sym}
use Rattle.csn_cookie.specs.Cookie.{cookie_text}
use Rattle.entry_tree.specs.declared.touched.EntryChange.{EntryChange}
use Rattle.directory_writes.specs.Directory.{DirectoryState, cookie_at}
use Rattle.directory_writes.specs.Ready.{IsReadyWrite}
use Rattle.sync_provider.specs.Staging.{each_staged}
use Rattle.sync_provider.proofs.staging.make_ready.Goals as goal

pub returns-clause-ready : goal.returns-clause-ready
returns-clause-ready c =
    subst (λ (d : DirectoryState). IsReadyWrite d c.args.op.now c.in_ok-ready.ready) (sym c.make_room.ensures.state) c.in_ok-ready.ensures.ready

pub returns-clause-spare : goal.returns-clause-spare
returns-clause-spare c =
    omega (arith, c.in_ok-make_room.ensures.spare, ap (length {A = EntryChange}) c.list.ensures)

pub returns-clause-staged : goal.returns-clause-staged
returns-clause-staged c =
    let d : DirectoryState = c.args.directory.now.state in
    let preview = c.args.preview in
    c.in_ok-stage_write.ensures.staged ∙ ap (each_staged preview.touched (cookie_text (cookie_at d.sid d.history preview.csn))) c.unstage_each.ensures.unstaged
