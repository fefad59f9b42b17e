use Rattle.std.proofs.Common.{◌∙◌}
use Rattle.std.proofs.lemmas.Result.{IfOk-weaker, on_err_weaker}
use Rattle.syncrepl_tool.proofs.Ending.{prefix_kept, up_to_kept, refused_ends}
use Rattle.sync_io.proofs.Results.{holds_anyway}
use Rattle.syncrepl_tool.proofs.run.run_text.Goals as goal

pub returns-in-Refused-clause-ends : goal.returns-in-Refused-clause-ends
returns-in-Refused-clause-ends g c =
    let ends = rw c.in-Refused.is at c.in_ok-outcome.ensures.ends in
    let reported = rw c.new-script.ensures at ends in
    IfOk-weaker c.refuse.result _ _ (λ status is. refused_ends _ _ (up_to_kept reported _ c.if-not-flush.ensures.bytes) is.0 is.1) c.refuse.ensures.says

pub returns-then-not-flush-clause-prefix : goal.returns-then-not-flush-clause-prefix
returns-then-not-flush-clause-prefix g c =
    let prefix = rw c.new-script.ensures at c.in_ok-outcome.ensures.prefix in
    prefix_kept prefix _ c.flush.ensures.bytes

pub returns-in-Done-clause-prefix : goal.returns-in-Done-clause-prefix
returns-in-Done-clause-prefix g c =
    let prefix = rw c.new-script.ensures at c.in_ok-outcome.ensures.prefix in
    prefix_kept prefix _ c.if-not-flush.ensures.bytes

pub returns-in-Refused-clause-prefix : goal.returns-in-Refused-clause-prefix
returns-in-Refused-clause-prefix g c =
    let prefix = rw c.new-script.ensures at c.in_ok-outcome.ensures.prefix in
    prefix_kept prefix _ c.if-not-flush.ensures.bytes

pub returns-clause-prefix : goal.returns-clause-prefix
returns-clause-prefix g c =
    let prefix = rw c.new-script.ensures at c.in_ok-outcome.ensures.prefix in
    prefix_kept prefix _ c.if-not-flush.ensures.bytes

-- no write failed

pub returns-in_err-outcome-clause-sound : goal.returns-in_err-outcome-clause-sound
returns-in_err-outcome-clause-sound g c = holds_anyway c.from_residual.result c.in_err-outcome.ensures.sound

pub returns-in-Done-clause-output_sound : goal.returns-in-Done-clause-output_sound
returns-in-Done-clause-output_sound g c = λ other. c.if-not-flush.ensures.sound ∙ (rw c.in-Done.is at c.in_ok-outcome.ensures.sound)

pub returns-in-Refused-clause-output_sound : goal.returns-in-Refused-clause-output_sound
returns-in-Refused-clause-output_sound g c =
    let same = c.if-not-flush.ensures.sound ∙ (rw c.in-Refused.is at c.in_ok-outcome.ensures.sound) in
    IfOk-weaker c.refuse.result _ _ (λ status is other. same) c.refuse.ensures.says

pub returns-in-Refused-clause-sound : goal.returns-in-Refused-clause-sound
returns-in-Refused-clause-sound g c =
    let same = c.if-not-flush.ensures.sound ∙ (rw c.in-Refused.is at c.in_ok-outcome.ensures.sound) in
    on_err_weaker c.refuse.result (λ unsaid. same) c.refuse.ensures.unsaid
