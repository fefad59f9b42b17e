use Rattle.std.proofs.Common.{length, ap, ◌∙◌}
use Rattle.shared_directory.specs.Desks.{port_journal}
use Rattle.shared_directory.proofs.held.HeldDirectoryJournalled.count.Goals as goal

pub returns : goal.returns
returns c =
    c.journal_len.ensures ∙ ap (λ d. length (port_journal d)) c.as_ref.ensures
    ∙ ap (λ h. length (port_journal h.now)) c.self.view_is
