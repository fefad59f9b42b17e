use Rattle.csn_cookie.proofs.instant.epoch.Goals as goal
use Rattle.csn_cookie.proofs.CalendarLemmas.{civil_nanos-epoch}

pub returns : goal.returns
returns c = civil_nanos-epoch c.at.result (rw c.at.ensures.date c.date.ensures) c.at.ensures.time
