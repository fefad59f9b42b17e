use Rattle.std.proofs.Common.{◌≡◌, refl}
use Rattle.shared_directory.proofs.Answered.{unchanged}
use Rattle.shared_directory.proofs.numbered.NumberedProvider.look.Goals as goal

pub returns : goal.returns
returns c = unchanged c.args.number c.args.self.now (λ p q. q ≡ p) (λ ports. refl)
