use Rattle.std.proofs.Common.{refl}
use Rattle.sync_provider.specs.Ports.{SearchReplies}
use Rattle.shared_directory.specs.Desks.{NumberedState}
use Rattle.shared_directory.proofs.Seen.{asked}
use Rattle.shared_directory.proofs.numbered.NumberedProvider.search.Goals as goal

pub returns : goal.returns
returns c =
    let d : NumberedState = record { provider = c.self.inside.provider; first = c.self.inside.first; numbers = c.self.inside.numbers.items; openers = c.self.inside.openers } in
    asked c.args.number d c.args.self.now c.self.view_is (λ p q. SearchReplies p c.args.ask.now c.search.result q)
    (λ ports. record { answer = c.search.ensures; state = refl })
