use Rattle.std.proofs.Common.{rules, refl}
use Rattle.std.proofs.lemmas.Fn.{filter_same}
use Rattle.sync_io.specs.FaultySource.{is_played}
use Rattle.sync_io.proofs.Scripts.{ArePlayable-filter}
use Rattle.sync_io.proofs.faulty_source.FaultySource.new.Goals as goal

pub invariant_of-result : goal.invariant_of-result
invariant_of-result c =
    let kept = filter_same _ is_played _ (λ x b f' k. search rules) _ _ c.retain.ensures.filtered in
    rw (c.into_iter.ensures.rest, kept, c.has_quiet-waits.ensures, c.deref.ensures.value) (ArePlayable-filter c.args.steps.items)

pub returns-clause-steps : goal.returns-clause-steps
returns-clause-steps c =
    let kept = filter_same _ is_played _ (λ x b f' k. search rules) _ _ c.retain.ensures.filtered in
    rw (c.into_iter.ensures.rest, kept, c.new-2.ensures, c.from.ensures, c.new.ensures.items) refl
