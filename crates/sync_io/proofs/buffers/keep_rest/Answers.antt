use Rattle.std.proofs.Common.{◌≡◌, ◌+◌, ◌-◌, ap, arith, drop, length, length-drop, refl, take, take_all, ◌∙◌}
use lib.Seq.{paste}
use Rattle.std.proofs.lemmas.List.Edits.{take-paste}
use Rattle.sync_io.proofs.buffers.keep_rest.Goals as goal

pub returns-then-count-eq0 : goal.returns-then-count-eq0
returns-then-count-eq0 c = rw c.if-count-eq0.true refl

pub returns : goal.returns
returns c =
    let kept = c.args.kept.now in
    let rest = drop c.args.count kept.items in
    let n = c.len-len.result - c.args.count in
    let zero : n ≡ 0 + n = omega arith in
    let all : n ≡ length rest = omega (arith, c.len-len.ensures, kept.ok.0, length-drop c.args.count kept.items) in
    c.truncate.ensures.items
    ∙ ap (take n) c.copy_within.ensures.items
    ∙ ap (λ m. take m (paste kept.items 0 rest n)) zero
    ∙ take-paste kept.items 0 rest n (omega arith) (omega (arith, all))
    ∙ take_all n rest (omega (arith, all))
