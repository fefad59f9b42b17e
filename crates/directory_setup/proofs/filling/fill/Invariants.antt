use Rattle.std.proofs.Common.{length}
use Rattle.sync_provider.specs.Journal.{port_state}
use Rattle.sync_provider.specs.Ports.{PortState}
use Rattle.directory_setup.specs.Filling.{FillsPart, FillsUp}
use Rattle.directory_setup.specs.Setup.{reader_of}
use Rattle.directory_setup.specs.declared.filling.Filling.{Filling}
use Rattle.directory_setup.proofs.filling.fill.Given as goal

-- who fills on from here has filled from the first record on
abbrev pub invariant-records : goal.invariant-records
invariant-records g l = record {
  fills : (filling : Filling) (new : PortState)
      → FillsUp l.records (port_state l.provider) filling new → FillsUp (reader_of l.text) (port_state l.fn.provider) filling new;
  part : (new : PortState)
      → FillsPart l.records (port_state l.provider) new → FillsPart (reader_of l.text) (port_state l.fn.provider) new;
}

abbrev pub decreases-records : goal.decreases-records
decreases-records g l = length l.records.lines
