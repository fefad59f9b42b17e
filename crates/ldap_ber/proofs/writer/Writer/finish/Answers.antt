-- Where nothing is open, all is written.
use Rattle.std.proofs.Common.{ap, reverse, ◌∙◌}
use Rattle.ldap_ber.specs.Writer.{Written}
use Rattle.ldap_ber.proofs.UnfinishedLemmas.{written-none}
use Rattle.ldap_ber.proofs.writer.Writer.finish.Goals as goal

pub returns : goal.returns
returns c =
    let inside = c.self.inside in
    c.from.ensures
    ∙ written-none (reverse inside.begun.items) inside.out.items (ap (λ (w : Written). w.opened) c.self.view_is ∙ c.requires)
    ∙ ap (λ (w : Written). w.bytes) c.self.view_is
