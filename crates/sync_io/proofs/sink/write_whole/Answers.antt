use Rattle.std.proofs.Common.{◌∙◌}
use Rattle.std.proofs.lemmas.List.{take_rest}
use Rattle.sync_io.proofs.Appending.{AppendedUpTo-drop}
use Rattle.sync_io.proofs.sink.write_whole.Goals as goal

pub loop-rest-preserved : goal.loop-rest-preserved
loop-rest-preserved g c =
    record {
      written = rw take_rest (AppendedUpTo-drop c.loop-rest.invariant.written c.in-Wrote.count _ c.in-Wrote.ensures.bytes);
      apart = c.in-Wrote.ensures.apart ∙ c.loop-rest.invariant.apart;
      sound = c.in-Wrote.ensures.sound (λ e. cc) ∙ c.loop-rest.invariant.sound;
    }
