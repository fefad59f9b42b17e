use Rattle.ldif_text.proofs.WrittenEntries.{written_back}
use Rattle.ldif_text.proofs.written.entries_are_read_again.Goals as goal

pub returns : goal.returns
returns c = λ name attrs is number line begun. written_back begun number name attrs is
