use Rattle.std.proofs.Common.{ap, ◌∙◌, subst}
use Rattle.shared_directory.specs.Desks.{HaveCome}
use Rattle.shared_directory.proofs.held.HeldDirectory.into_provider.Goals as goal

pub returns-clause-provider : goal.returns-clause-provider
returns-clause-provider c =
    c.into_provider.ensures ∙ ap (λ d. d.provider) c.into_inner.ensures ∙ ap (λ h. h.now.provider) c.self.view_is

pub returns-clause-come : goal.returns-clause-come
returns-clause-come c = subst HaveCome c.self.view_is c.self.invariant
