-- Each byte is written, in lower case where that is asked for, or makes a space due.
use Rattle.std.proofs.Common.{◌≡◌, ◌&&◌, not, refl, append_assoc, ◌∙◌, arith}
use Rattle.text_keys.proofs.Squeezing.{not_both}
use Rattle.text_keys.proofs.Ascii.{ascii-space, ascii-char, ascii-end}
use Rattle.text_keys.proofs.text.ascii_key.Goals as goal
use Rattle.text_keys.proofs.text.ascii_key.Goals.{then-after_space, else-after_space, then-byte-eq32, else-byte-eq32+in_ok-push_space_byte+in_ok-push}

pub loop-byte-preserved : goal.loop-byte-preserved
loop-byte-preserved c =
    let held = c.loop-byte.invariant in
    let bytes = c.args.piece.now in
    let i = c.loop-byte.byte-index in
    elim c.if-byte-eq32.branch [
      | then-byte-eq32 w ↦ (
        rw (w.at_start-is, w.after_space-is) (not_both c.loop-byte.at_start),
        rw (w.key-is, w.at_start-is, w.after_space-is) (rw (ascii-space c.loop-byte.at_start c.loop-byte.after_space c.args.last c.args.fold bytes i c.loop-byte-test.true w.if-byte-eq32.true held.0) at held.1),
      )
      | else-byte-eq32+in_ok-push_space_byte+in_ok-push w ↦ (
        rw w.at_start-is refl,
        rw (w.key-is, w.at_start-is, w.after_space-is, w.in_ok-push.ensures.items, w.in_ok-push_space_byte.ensures, w.lowered.ensures, append_assoc, append_assoc)
            (rw (ascii-char c.loop-byte.at_start c.loop-byte.after_space c.args.last c.args.fold bytes i c.loop-byte-test.true w.if-byte-eq32.false c.requires held.0) at held.1),
      )
    ]

pub returns : goal.returns
returns c =
    let held = c.loop-byte.invariant in
    let due : c.if-after_space.push_space_byte ≡ (c.loop-byte.after_space && not c.args.last) =
    elim c.if-after_space.branch [
      | then-after_space w ↦ rw w.if-after_space.true w.push_space_byte-is
      | else-after_space w ↦ rw w.if-after_space.false (w.push_space_byte-is ∙ w.if-after_space.false)
    ] in
    rw (c.in_ok-push_space_byte-2.ensures, due)
    (rw (ascii-end c.loop-byte.at_start c.loop-byte.after_space c.args.last c.args.fold c.args.piece.now c.loop-byte.byte-index (omega arith) held.0) at held.1)
