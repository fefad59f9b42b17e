use Rattle.std.proofs.Common.{ap, sym, ◌∙◌}
use Rattle.entry_tree.specs.Selection.{search_of}
use Rattle.sync_consumer.specs.Taking.{ConsumerState}
use Rattle.cascade_world.proofs.OwnCommits.{own_seen, own_can}
use Rattle.cascade_world.proofs.nodes.ScriptNodes.commit.Goals as goal

pub returns-clause-does : goal.returns-clause-does
returns-clause-does c =
    own_seen c.args.self.now _ c.args.place c.in-Some.own c.index.result.now c.index-2.result.now (search_of c.spec-wanted.result.now) c.args.stages.items c.index_mut.result.now c.commit_all.new.self c.commit_all.result
    c.self.view_is c.requires.place c.index.ensures c.index-2.ensures (c.spec-wanted.ensures ∙ ap (λ (k : ConsumerState). k.spec) c.inner.ensures) (sym c.in-Some.ensures) c.index_mut.ensures.value c.commit_all.ensures.does

pub commit_all-requires : goal.commit_all-requires
commit_all-requires c =
    record {
      can = own_can c.args.self.now _ c.args.place c.in-Some.own c.index.result.now c.index_mut.result.now c.args.stages.items
          c.self.view_is c.requires.place c.index.ensures (sym c.in-Some.ensures) c.index_mut.ensures.value c.requires.can;
    }
