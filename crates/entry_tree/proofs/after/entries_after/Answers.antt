-- Those that stay ascend, and are reported by the set of what is dropped.
use Rattle.std.proofs.Common.{◌∙◌, Bor, not, map, ap}
use Rattle.std.specs.List.{filter}
use Rattle.entry_writes.specs.declared.entry.Entry.{Entry}
use Rattle.entry_writes.specs.Effects.{is_one_of}
use Rattle.entry_writes.specs.State.{ascends}
use Rattle.entry_tree.proofs.Committing.{put_all, kept_by_set}
use Rattle.entry_tree.proofs.Directory.{ascends_filter}
use Rattle.entry_tree.proofs.after.entries_after.Goals as goal

pub put_each-requires : goal.put_each-requires
put_each-requires c =
    ap ascends c.in_ok-after.ensures ∙ ascends_filter (λ e. not (is_one_of c.in_ok-dropped.dropped.keys e)) (map (λ (e : Bor Entry). e.now) c.args.entries.now) c.requires

pub returns : goal.returns
returns c =
    c.in_ok-put_each.ensures
    ∙ ap (λ es. put_all es c.args.puts.now)
    (c.in_ok-after.ensures
    ∙ ap (λ ids. filter (λ e. not (is_one_of ids e)) (map (λ (e : Bor Entry). e.now) c.args.entries.now)) c.in_ok-dropped.ensures
    ∙ kept_by_set c.args.drops.now (map (λ (e : Bor Entry). e.now) c.args.entries.now))
