-- What is due to each search after a write that was previewed.
use Rattle.std.proofs.Common.{◌≡◌, sym, subst, ◌∙◌}
use Rattle.entry_tree.specs.declared.op.Write.{Write}
use Rattle.directory_writes.specs.Directory.{DirectoryState, with_write, IsPreview}
use Rattle.directory_writes.proofs.Writes.{planned_touches}
use Rattle.sync_provider.specs.Machine.{ProviderState}
use Rattle.sync_provider.proofs.Delivery.{notified_view}
use Rattle.sync_provider.proofs.sync_directory.SyncDirectory.put_and_notify.Goals as goal

pub make_ready-requires : goal.make_ready-requires
make_ready-requires c = subst (λ (p : ProviderState). IsPreview p.directory c.args.op c.args.preview) (sym c.self.view_is) c.requires

pub returns-in-Ok-clause-ok : goal.returns-in-Ok-clause-ok
returns-in-Ok-clause-ok c =
    let was = c.self.inside in
    let d : DirectoryState = was.directory.state in
    let op = c.args.op in
    let preview = c.args.preview in
    let w : Write = record { csn = preview.csn; op = op } in
    let plan : IsPreview d op preview = subst (λ (p : ProviderState). IsPreview p.directory op preview) (sym c.self.view_is) c.requires in
    let made : c.put_in_place.new.directory.state ≡ with_write d w =
    c.put_in_place.ensures.state ∙ (λ i. with_write (c.make_ready.ensures.state i) (record { csn = (c.in-Ok.ensures.preview i).csn; op = op })) in
    notified_view was.kind d c.put_in_place.new.directory.state was.searches c.make_ready.new.searches c.put_in_place.new.searches was.queue_limit c.args.self.now w preview.touched
    c.self.view_is c.in-Ok.ensures.staged (planned_touches d op preview plan) made c.put_in_place.ensures.searches
