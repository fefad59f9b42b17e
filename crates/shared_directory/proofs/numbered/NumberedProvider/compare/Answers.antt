use Rattle.std.proofs.Common.{refl}
use Rattle.sync_provider.specs.Ports.{CompareReplies}
use Rattle.shared_directory.specs.Desks.{NumberedState}
use Rattle.shared_directory.proofs.Seen.{asked}
use Rattle.shared_directory.proofs.numbered.NumberedProvider.compare.Goals as goal

pub returns : goal.returns
returns c =
    let d : NumberedState = record { provider = c.self.inside.provider; first = c.self.inside.first; numbers = c.self.inside.numbers.items; openers = c.self.inside.openers } in
    asked c.args.number d c.args.self.now c.self.view_is (λ p q. CompareReplies p c.args.dn.now c.args.name.now c.args.value.now c.compare.result q)
    (λ ports. record { answer = c.compare.ensures; state = refl })
