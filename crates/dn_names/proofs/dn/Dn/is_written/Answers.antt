-- What the name is written in is read as the name.
use Rattle.std.proofs.Common.{◌∙◌, ap, sym}
use Rattle.std.proofs.lemmas.Slice.Eq.{bytes_eq-Decides}
use Rattle.dn_names.specs.Reading.{name_of_text}
use Rattle.dn_names.proofs.dn.Dn.is_written.Goals as goal

pub returns : goal.returns
returns c = λ is_written.
    let same = (bytes_eq-Decides c.as_slice.result.now c.args.text.now).0 (sym c.eq.ensures ∙ is_written) in
    ap name_of_text (sym same ∙ c.as_slice.ensures) ∙ c.in_ok-written.ensures.again
