use Rattle.std.proofs.Common.{refl}
use Rattle.sync_provider.specs.Ports.{WritesReplies}
use Rattle.shared_directory.specs.Desks.{NumberedState}
use Rattle.shared_directory.proofs.Seen.{asked}
use Rattle.shared_directory.proofs.numbered.NumberedProvider.writes.Goals as goal

pub returns : goal.returns
returns c =
    let d : NumberedState = record { provider = c.self.inside.provider; first = c.self.inside.first; numbers = c.self.inside.numbers.items; openers = c.self.inside.openers } in
    asked c.args.number d c.args.self.now c.self.view_is (λ p q. WritesReplies p c.writes.result q)
    (λ ports. record {
      answer = c.writes.ensures.value;
      small = c.writes.ensures.small;
      accepted = c.writes.ensures.accepted;
      rises = c.writes.ensures.rises;
      formed = c.writes.ensures.formed;
      state = refl;
    })
