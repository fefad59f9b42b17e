use Rattle.std.proofs.Common.{◌≡◌, ◌&&◌, not, refl, append_assoc, ◌∙◌}
use Rattle.std.proofs.lemmas.Str.{chars_past_char, IsUtf8-past_char}
use Rattle.std.specs.Str.Iter.{chars_rest}
use Rattle.std.proofs.StrCases.{chars_of_empty}
use Rattle.text_keys.proofs.Squeezing.{squeezed-space, encodes_squeezed-char, squeezed-end, not_both}
use Rattle.text_keys.proofs.text.squeezed.Goals as goal
use Rattle.text_keys.proofs.text.squeezed.Goals.{then-after_space, else-after_space}

pub loop-c-preserved-then-c-eq32 : goal.loop-c-preserved-then-c-eq32
loop-c-preserved-then-c-eq32 c =
    let held = c.loop-c.invariant in
    let parts = c.in-Some.ensures.steps.0 in (
      IsUtf8-past_char _ _ c.in-Some.c held.0 parts,
      not_both c.loop-c.at_start,
      rw (chars_past_char _ _ c.in-Some.c held.0 parts, c.if-c-eq32.true, squeezed-space c.loop-c.at_start c.loop-c.after_space c.args.last _ held.1) at held.2,
    )

pub loop-c-preserved : goal.loop-c-preserved
loop-c-preserved c =
    let held = c.loop-c.invariant in
    let parts = c.in-Some.ensures.steps.0 in (
      IsUtf8-past_char _ _ c.in-Some.c held.0 parts,
      refl,
      rw (c.in_ok-push.ensures.bytes, c.in_ok-push_space.ensures, append_assoc, append_assoc)
          (rw (chars_past_char _ _ c.in-Some.c held.0 parts, encodes_squeezed-char c.loop-c.at_start c.loop-c.after_space c.args.last c.in-Some.c _ c.if-c-eq32.false held.1) at held.2),
    )

pub returns : goal.returns
returns c =
    let held = c.loop-c.invariant in
    let due : c.if-after_space.push_space ≡ (c.loop-c.after_space && not c.args.last) =
    elim c.if-after_space.branch [
      | then-after_space w ↦ rw w.if-after_space.true w.push_space-is
      | else-after_space w ↦ rw w.if-after_space.false (w.push_space-is ∙ w.if-after_space.false)
    ] in
    rw (c.in_ok-push_space-2.ensures, due)
    (rw (chars_of_empty (chars_rest c.loop-c.c-iterator) c.in-None.ensures.steps.0.0, squeezed-end c.loop-c.at_start c.loop-c.after_space c.args.last held.1) at held.2)
