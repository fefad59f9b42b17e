-- One more identity, known or not.
use Rattle.std.proofs.Common.{◌∙◌, get_or, take, not, add-one, ap, sym}
use Rattle.std.specs.List.{find}
use Rattle.std.proofs.lemmas.List.{get_or_default}
use Rattle.sync_model.specs.Copy.{is_known}
use Rattle.sync_consumer.proofs.Turns.{first_found, none_more}
use Rattle.sync_consumer.proofs.held.HeldContent.unknown.Goals as goal

pub returns-then-not-knows : goal.returns-then-not-knows
returns-then-not-knows c =
    let uuids = c.args.uuids.now in
    let i = c.loop-uuid.uuid-index in
    let x = get_or uuids i 0 in
    sym (first_found (λ uuid. not (is_known c.args.self.now.entries c.args.stage.now uuid)) uuids i x c.loop-uuid-test.true (get_or_default uuids i 0 x c.loop-uuid-test.true) c.loop-uuid.invariant
    (ap not (sym c.knows.ensures ∙ c.if-not-knows.true)))

pub loop-uuid-preserved : goal.loop-uuid-preserved
loop-uuid-preserved c =
    let uuids = c.args.uuids.now in
    let i = c.loop-uuid.uuid-index in
    let x = get_or uuids i 0 in
    ap (λ n. find (λ uuid. not (is_known c.args.self.now.entries c.args.stage.now uuid)) (take n uuids)) (add-one i)
    ∙ none_more (λ uuid. not (is_known c.args.self.now.entries c.args.stage.now uuid)) uuids i x c.loop-uuid-test.true (get_or_default uuids i 0 x c.loop-uuid-test.true) c.loop-uuid.invariant
    (ap not (sym c.knows.ensures ∙ c.if-not-knows.false))
