use Rattle.std.proofs.Common.{◌≡◌, refl, rules}
use Rattle.std.specs.Prelude.{map}
use Rattle.entry_tree.specs.Selection.{Search, search_of}
use Rattle.cascade_nodes.specs.Commits.{commit_of, note_of}
use Rattle.cascade_nodes.proofs.Commits.{all_committed}
use Rattle.cascade_nodes.proofs.node.ProviderNode.commit_all.Goals as goal

pub returns-in-Ok-clause-does : goal.returns-in-Ok-clause-does
returns-in-Ok-clause-does c =
    let wants : Search = search_of c.args.wanted.now in
    let commits : c.in_ok-commits.field-0.commits.items ≡ map commit_of c.args.stages.items = search rules in
    let notes : c.in_ok-commits.field-0.notes.items ≡ map (note_of wants) c.args.stages.items = search rules in
    all_committed c.args.now wants c.args.self.now _ c.args.stages.items c.in_ok-commits.field-0.commits.items c.in_ok-commits.field-0.notes.items
    c.requires.can commits notes c.in-Ok.ensures.leaves.accepted refl c.in-Ok.ensures.leaves.state c.in_ok-append.ensures.ok
