-- a piece in ASCII has its key by its bytes; of another the spaces of the prepared text are squeezed
use Rattle.std.proofs.Common.{◌≡◌, Some, chars, ap, sym, ◌∙◌}
use Rattle.std.proofs.lemmas.Str.{chars_from_encodes}
use Rattle.text_keys.specs.Text.{prepared}
use Rattle.text_keys.proofs.Ascii.{piece_key-ascii}
use Rattle.text_keys.proofs.Pieces.{piece_key-text}
use Rattle.text_keys.proofs.text.piece_key.Goals as goal

pub ascii_key-requires : goal.ascii_key-requires
ascii_key-requires c = rw c.if-is_ascii.true at c.is_ascii.ensures.cases

pub returns-then-is_ascii-clause-key : goal.returns-then-is_ascii-clause-key
returns-then-is_ascii-clause-key c =
    piece_key-ascii c.args.piece.now c.args.fold c.args.first c.args.last (rw c.if-is_ascii.true at c.is_ascii.ensures.cases)
    ∙ ap Some (sym c.in_ok-ascii_key.ensures)

pub returns-clause-key : goal.returns-clause-key
returns-clause-key c =
    let same : prepared c.args.fold (chars c.in-Ok.text.now) ≡ chars c.as_str.result.now =
    chars_from_encodes _ _ c.as_str.utf8 (sym (c.as_str.ensures.value ∙ c.in_ok-prepared.ensures)) in
    let text = c.in-Ok.ensures.cases in
    piece_key-text c.args.piece.now c.args.fold c.args.first c.args.last text.1
    ∙ ap Some (rw (← text.0, same, c.into_bytes.ensures.value) (sym c.in_ok-key.ensures))
