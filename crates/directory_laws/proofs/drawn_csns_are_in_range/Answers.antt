use Rattle.directory_laws.proofs.Csns.{IsCsn-start, IsCsn-next_csn}
use Rattle.directory_laws.proofs.drawn_csns_are_in_range.Goals as goal

pub returns : goal.returns
returns c = (IsCsn-start, IsCsn-next_csn)
