use Rattle.std.proofs.lemmas.List.Sums.{list_all-from_AllPass}
use Rattle.schema_rules.specs.Attributes.{is_sound}
use Rattle.entry_writes.proofs.reading.read_op.Goals as goal

pub returns-in_ok-attrs-in-Add-clause-sound : goal.returns-in_ok-attrs-in-Add-clause-sound
returns-in_ok-attrs-in-Add-clause-sound c =
    list_all-from_AllPass is_sound c.in_ok-attrs-in-Add.attrs c.in_ok-attrs-in-Add.ensures.sound
