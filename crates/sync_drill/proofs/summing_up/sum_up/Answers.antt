use Rattle.std.proofs.Common.{◌∙◌}
use Rattle.sync_drill.proofs.summing_up.sum_up.Goals as goal

pub returns-clause-text : goal.returns-clause-text
returns-clause-text g c = record {
  line = c.in_ok-text.text.items;
  first = c.in_ok-text.ensures.line;
  is = c.from.ensures ∙ c.in_ok-push_copies.ensures;
}
