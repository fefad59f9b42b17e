-- What a stage leaves is within the limits where all that there was and that it puts is.
use Rattle.std.proofs.Common.{◌∙◌, List, sym, ap, arith}
use Rattle.std.proofs.lemmas.Bool.{leb-true}
use Rattle.entry_tree.specs.declared.entry.Entry.{Entry}
use Rattle.entry_tree.specs.State.{exceeds_limits, most_weight}
use Rattle.sync_model.specs.Copy.{effected}
use Rattle.sync_consumer.proofs.Effecting.{fits_effected}
use Rattle.sync_consumer.proofs.entry_map.EntryMap.has_room.Goals as goal

pub returns-then-count-le-MOST_ENTRIES : goal.returns-then-count-le-MOST_ENTRIES
returns-then-count-le-MOST_ENTRIES c = λ within.
    let stage = c.args.stage.now in
    let few = c.if-count-le-MOST_ENTRIES.true in
    let light = leb-true c.saturating_add-weight.result most_weight within in
    let held = c.len.ensures in
    let put = c.count.ensures in
    let count = c.saturating_add-count.ensures in
    let weighed = c.weight.ensures in
    let own = c.weight-2.ensures in
    let weight = c.saturating_add-weight.ensures in
    ap (λ (es : List Entry). exceeds_limits (effected es stage)) (sym c.self.view_is)
    ∙ fits_effected c.self.inside.entries stage c.self.invariant.held.0 (omega (arith, few, held, put, count)) (omega (arith, light, weighed, own, weight))
