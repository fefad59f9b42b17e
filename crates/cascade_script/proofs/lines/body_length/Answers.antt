use Rattle.std.proofs.Common.{◌≡◌, false, length, take, drop, arith, ◌∙◌, subst}
use Rattle.std.proofs.lemmas.Bool.Decides.{nat_tests}
use Rattle.std.proofs.lemmas.List.{take_rest}
use Rattle.std.specs.Str.Lines.{lines}
use Rattle.cascade_script.specs.Lines.{IsCutAt}
use Rattle.cascade_script.specs.Words.{is_empty}
use Rattle.cascade_script.proofs.LineCuts.{IsCut-more, body-more, after-more, filled_line}
use Rattle.cascade_script.proofs.lines.body_length.Goals as goal

pub loop-line-preserved : goal.loop-line-preserved
loop-line-preserved c =
    let text = c.args.text.now in
    let at = c.loop-line.at in
    let more = c.line_length-at.result in
    let before = c.loop-line.invariant in
    let whole = take_rest text at in
    let filled : is_empty c.in-Some.line.now ≡ false = filled_line c.in-Some.line.now (grind (arith, nat_tests)) in
    let piece : IsCutAt (drop at text) more = subst (λ t. IsCutAt t more) whole c.line_length-at.ensures.cut in
    let one : length (lines (take more (drop at text))) ≡ 1 = subst (λ t. length (lines (take more t)) ≡ 1) whole c.line_length-at.ensures.one in
    record {
      within = omega arith;
      cut = IsCut-more text at more before.cut piece;
      body = body-more text c.in-Some.line.now _ at more before.cut piece one c.in-Some.ensures.line filled before.body;
      after = before.after ∙ after-more text c.in-Some.line.now _ at more before.cut piece one c.in-Some.ensures.line filled;
    }
