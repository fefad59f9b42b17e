-- One more text in the set.
use Rattle.std.proofs.Common.{ℕ, ◌∙◌, sym, ap, map, Vec, Global}
use Rattle.std.specs.Ordering.{nat_cmp}
use Rattle.std.specs.Cmp.Lexicographic.{slice_cmp}
use Rattle.dn_names.proofs.PairSets.{map-insert_key}
use Rattle.drill_plan.proofs.NamedTexts.{in_order_more}
use Rattle.drill_plan.proofs.summary.in_order.Goals as goal

pub loop-entry-preserved : goal.loop-entry-preserved
loop-entry-preserved c =
    let i = c.loop-entry.entry-index in
    ap (map (λ (each : Vec ℕ Global). each.items)) c.in_ok-insert.ensures.keys
    ∙ map-insert_key (λ (each : Vec ℕ Global). each.items) (slice_cmp nat_cmp) c.loop-entry.named.keys c.in_ok-named_text.field-0
    ∙ rw (c.loop-entry.invariant, c.in_ok-named_text.ensures)
    (sym (in_order_more c.args.entries.now i c.entry-item.result c.loop-entry-test.true c.entry-item.is))
