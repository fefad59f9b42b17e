use Rattle.std.proofs.Common.{length, ap, ◌∙◌}
use Rattle.shared_directory.specs.Desks.{NumberedState, port_journal}
use Rattle.shared_directory.proofs.Seen.{counted_journal}
use Rattle.shared_directory.proofs.numbered.NumberedProvider.journal_len.Goals as goal

pub returns : goal.returns
returns c =
    let d : NumberedState = record { provider = c.self.inside.provider; first = c.self.inside.first; numbers = c.self.inside.numbers.items; openers = c.self.inside.openers } in
    counted_journal d c.journal_len.result c.journal_len.ensures.value ∙ ap (λ d. length (port_journal d)) c.self.view_is
