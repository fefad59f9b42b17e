use Rattle.std.proofs.Common.{length, Ok, ap, ◌∙◌, arith}
use Rattle.std.specs.Prelude.{option_map}
use Rattle.ldif_text.specs.Lines.{left_at}
use Rattle.ldif_text.specs.Reader.{RecordReader, found_in}
use Rattle.ldif_text.proofs.Shorter.{next_shorter}
use Rattle.ldif_text.proofs.records.Records.next.Goals as goal

pub returns-in-Some-clause-shorter : goal.returns-in-Some-clause-shorter
returns-in-Some-clause-shorter c =
    let text = c.self.inside.text.now in
    let read = c.in_ok-next_record.ensures.found ∙ ap (λ o. Ok (option_map (found_in text) o)) c.in-Some.is in
    let shorter = next_shorter c.self.inside.begun (left_at text c.self.inside.place) (found_in text c.in-Some.taken) read in
    omega (arith, shorter, ap (λ (r : RecordReader). length r.lines) c.self.view_is)
