use Rattle.std.proofs.Common.{[], ◌∷◌, ◌++◌, ap, ◌∙◌}
use Rattle.sync_drill.specs.Journals.{own_operations}
use Rattle.sync_drill.proofs.drilling.begun.Goals as goal

pub returns : goal.returns
returns g c = record {
  writing = c.write_one.new.port;
  are = c.in_ok-insert.ensures.items;
  its_home = c.write_one.ensures.home;
  goes_on = c.write_one.ensures.goes_on;
  no_search = c.write_one.ensures.no_search;
  written = c.in_ok-write_one.ensures.ok
      ∙ ap (λ op. own_operations (g.P.Port.state c.args.first) ++ op ∷ []) c.in_ok-suffix_operation.ensures.op;
}
