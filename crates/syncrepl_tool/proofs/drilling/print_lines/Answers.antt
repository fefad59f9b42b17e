use Rattle.std.proofs.Common.{inl, inr, refl, ◌∙◌}
use Rattle.std.proofs.KnownBytes.{Appends-kept, Keeps-refl}
use Rattle.syncrepl_tool.proofs.DrillEnds.{written_prefix}
use Rattle.syncrepl_tool.proofs.drilling.print_lines.Goals as goal

pub returns-then-not-write_whole : goal.returns-then-not-write_whole
returns-then-not-write_whole g c =
    inr (
      c.write_fault.ensures.code,
      record {
        prefix = c.write_whole.ensures.prefix;
        write_fault = rw c.if-not-write_whole.true at c.write_whole.ensures.failed;
        reported = c.write_fault.ensures.says;
      },
    )

pub returns-then-not-flush : goal.returns-then-not-flush
returns-then-not-flush g c =
    let whole = c.if-not-write_whole.ensures.whole in
    let sound = c.if-not-write_whole.ensures.sound in
    let failed = rw c.if-not-flush.true at c.flush.ensures.failed in
    inr (
      c.write_fault-then-not-flush.ensures.code,
      record {
        prefix = written_prefix c.args.lines.now _ _ _ whole c.flush.ensures.bytes;
        write_fault = rw sound at failed;
        reported = c.write_fault-then-not-flush.ensures.says;
      },
    )

pub returns : goal.returns
returns g c =
    let whole = c.if-not-write_whole.ensures.whole in
    let sound = c.if-not-write_whole.ensures.sound in
    let passed = c.if-not-flush.ensures.sound in
    inl (refl, record { printed = Appends-kept _ _ _ _ whole c.if-not-flush.ensures.bytes; sound = passed ∙ sound; quiet = Keeps-refl _ })
