-- The notes before the place that is found are those up to the write.
use Rattle.std.proofs.Common.{rules, tests, ◌∙◌, ap, leb}
use Rattle.std.proofs.lemmas.List.Sorted.{IsPartitionedBy-leb, IsPartitionPoint-from_clause}
use Rattle.session_log.specs.declared.note.Note.{Note}
use Rattle.session_log.specs.Log.{uuids_after}
use Rattle.session_log.proofs.InOrder.{uuids_after-from}
use Rattle.session_log.proofs.ascending.later_notes.Goals as goal

pub returns-then-in_order : goal.returns-then-in_order
returns-then-in_order c =
    let notes = c.args.notes.now in
    let number = c.args.number in
    let point =
    IsPartitionPoint-from_clause (λ (note : Note). leb note.number number) notes c.partition_point-first.result c.partition_point-first.ensures.partitioned
    (IsPartitionedBy-leb (λ (note : Note). note.number) notes number (c.requires c.if-in_order.true))
    (λ a r q k. search (rules, tests)) in
    ap (uuids_after number) c.split_at.ensures.back ∙ uuids_after-from number notes c.partition_point-first.result point
