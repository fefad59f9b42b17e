use Rattle.std.proofs.Common.{refl}
use Rattle.std.proofs.lemmas.Result.{IfOk-weaker, on_err_weaker}
use Rattle.syncrepl_tool.proofs.Ending.{decides_of, prefix_of, prefix_of_nothing}
use Rattle.sync_io.proofs.Results.{holds_anyway}
use Rattle.syncrepl_tool.proofs.Statuses.{both_hold, of_ends, of_read_fault}
use Rattle.syncrepl_tool.proofs.run.run_cascade.Goals as goal

pub returns-in_err-text-clause-headline : goal.returns-in_err-text-clause-headline
returns-in_err-text-clause-headline g c = prefix_of_nothing _ _ _ c.requires.fresh

pub returns-in-Failed-clause-headline : goal.returns-in-Failed-clause-headline
returns-in-Failed-clause-headline g c = prefix_of_nothing _ _ _ c.requires.fresh

pub returns-in-Text-clause-headline : goal.returns-in-Text-clause-headline
returns-in-Text-clause-headline g c = prefix_of (rw c.in-Text.is at c.in_ok-text.ensures.input).0 _ _ _ c.run_text.ensures.prefix

pub returns-in-Failed-clause-answer : goal.returns-in-Failed-clause-answer
returns-in-Failed-clause-answer g c = of_read_fault _ _ _ _ c.read_fault.ensures.code (rw c.in-Failed.is at c.in_ok-text.ensures.input) c.read_fault.ensures.says refl refl c.requires.fresh

pub returns-in-Text-clause-answer : goal.returns-in-Text-clause-answer
returns-in-Text-clause-answer g c =
    let read = rw c.in-Text.is at c.in_ok-text.ensures.input in
    IfOk-weaker c.run_text.result _ _ (λ status both. of_ends _ _ _ status read.0 both.0 read.1 both.1) (both_hold c.run_text.result _ _ c.run_text.ensures.ends c.run_text.ensures.output_sound)

pub returns-in-Text-clause-complete : goal.returns-in-Text-clause-complete
returns-in-Text-clause-complete g c =
    let prefix = (rw c.in-Text.is at c.in_ok-text.ensures.input).0 in
    IfOk-weaker c.run_text.result _ _ (λ status ends unread unwritten. decides_of prefix _ _ _ _ _ _ _ _ _ _ ends unwritten) c.run_text.ensures.ends

-- where memory ran out no call failed

pub returns-in_err-text-clause-sound : goal.returns-in_err-text-clause-sound
returns-in_err-text-clause-sound g c = holds_anyway c.from_residual.result (c.in_err-text.ensures.sound, refl)

pub returns-in-Text-clause-sound : goal.returns-in-Text-clause-sound
returns-in-Text-clause-sound g c =
    let read = rw c.in-Text.is at c.in_ok-text.ensures.input in on_err_weaker c.run_text.result (λ same. (read.1, same)) c.run_text.ensures.sound
