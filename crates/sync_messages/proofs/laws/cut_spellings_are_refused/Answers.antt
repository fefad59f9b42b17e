use Rattle.sync_messages.proofs.CutLemmas.{request_cut, state_cut, done_cut, info_cut}
use Rattle.sync_messages.proofs.laws.cut_spellings_are_refused.Goals as goal

pub returns-clause-request : goal.returns-clause-request
returns-clause-request c = request_cut

pub returns-clause-state : goal.returns-clause-state
returns-clause-state c = state_cut

pub returns-clause-done : goal.returns-clause-done
returns-clause-done c = done_cut

pub returns-clause-info : goal.returns-clause-info
returns-clause-info c = info_cut
