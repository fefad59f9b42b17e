-- what is folded is the characters of the text in NFKC
use Rattle.std.proofs.Common.{◌≡◌, chars, sym, ◌∙◌}
use Rattle.std.proofs.lemmas.Str.{chars_from_encodes}
use Rattle.unicode_normalization.specs.Forms.{nfkc}
use Rattle.text_keys.proofs.text.prepared.Goals as goal

pub returns-then-fold : goal.returns-then-fold
returns-then-fold c =
    let same : nfkc (chars c.args.text.now) ≡ chars c.as_str.result.now =
    chars_from_encodes _ _ c.as_str.utf8 (sym (c.as_str.ensures.value ∙ c.in_ok-normal.ensures)) in
    rw (c.if-fold.true, same) c.default_case_fold_str.ensures
