-- What a new dialler in memory reports.
use Rattle.std.specs.Prelude.{List, [], map}
use Rattle.sync_io.specs.Dial.{Dialled}
use Rattle.sync_io.specs.MemoryLink.{LinkContents, link_of}
use Rattle.sync_io.specs.declared.memory_link.LinkPlan.{LinkPlan}

-- a dialler that was asked nothing, and that gives a link for each of these plans
abbrev pub dialler_of : List LinkPlan → Dialled LinkContents
dialler_of plans = record { asked = []; came = 0; hung_up = []; to_come = map link_of plans }
