-- What a commit leaves of the numbers.
use Rattle.std.proofs.Common.{ap, ◌∙◌}
use Rattle.std.specs.Prelude.{Err}
use Rattle.sync_provider.specs.Ports.{CommitReplies}
use Rattle.shared_directory.specs.Desks.{NumberedState, unmade_fault}
use Rattle.shared_directory.proofs.Seen.{unmade_seen, commit_unmade_as, commit_seen}
use Rattle.shared_directory.proofs.numbered.NumberedProvider.commit.Goals as goal

pub invariant_of-self : goal.invariant_of-self
invariant_of-self c =
    let d : NumberedState = record { provider = c.self.inside.provider; first = c.self.inside.first; numbers = c.self.inside.numbers.items; openers = c.self.inside.openers } in
    (unmade_seen c.args.number d c.args.self.now c.self.view_is c.self.invariant
    (λ p q. CommitReplies p c.args.puts c.args.drops c.args.now (Err c.unmade_fault.result) q) c.reserve.new.self.items c.reserve.ensures.items
    (commit_unmade_as c.args.number d c.unmade_fault.result (c.unmade_fault.ensures ∙ ap unmade_fault c.kind.ensures) c.args.puts c.args.drops c.args.now)).numbered

pub returns-in_default : goal.returns-in_default
returns-in_default c =
    let d : NumberedState = record { provider = c.self.inside.provider; first = c.self.inside.first; numbers = c.self.inside.numbers.items; openers = c.self.inside.openers } in
    (unmade_seen c.args.number d c.args.self.now c.self.view_is c.self.invariant
    (λ p q. CommitReplies p c.args.puts c.args.drops c.args.now (Err c.unmade_fault.result) q) c.reserve.new.self.items c.reserve.ensures.items
    (commit_unmade_as c.args.number d c.unmade_fault.result (c.unmade_fault.ensures ∙ ap unmade_fault c.kind.ensures) c.args.puts c.args.drops c.args.now)).answered

pub invariant_of-self-2 : goal.invariant_of-self-2
invariant_of-self-2 c =
    (commit_seen c.args.number _ c.args.self.now c.self.view_is c.self.invariant c.commit-result.new.self c.reserve.new.self.items c.keep.new.numbers.items c.reserve.ensures.items
    c.writes-before.result c.writes.result c.writes-before.ensures.value c.writes.ensures.value c.keep.ensures.same c.keep.ensures.more
    c.args.puts c.args.drops c.args.now c.commit-result.result c.commit-result.ensures.journal).numbered

pub returns : goal.returns
returns c =
    (commit_seen c.args.number _ c.args.self.now c.self.view_is c.self.invariant c.commit-result.new.self c.reserve.new.self.items c.keep.new.numbers.items c.reserve.ensures.items
    c.writes-before.result c.writes.result c.writes-before.ensures.value c.writes.ensures.value c.keep.ensures.same c.keep.ensures.more
    c.args.puts c.args.drops c.args.now c.commit-result.result c.commit-result.ensures.journal).answered
