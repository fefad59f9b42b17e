use Rattle.std.proofs.Common.{ap}
use Rattle.shared_directory.proofs.numbered.NumberedProvider.into_provider.Goals as goal

pub returns : goal.returns
returns c = ap (λ d. d.provider) c.self.view_is
