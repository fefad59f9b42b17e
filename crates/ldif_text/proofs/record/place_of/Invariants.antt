use Rattle.std.proofs.Common.{◌≡◌, ◌+◌, drop}
use Rattle.std.specs.List.{position_or_len}
use Rattle.ldif_text.specs.Record.{is_of_type}
use Rattle.ldif_text.proofs.record.place_of.Given as goal

abbrev pub invariant-loop-i : goal.invariant-loop-i
invariant-loop-i l =
    l.i + position_or_len (is_of_type l.name) (drop l.i l.attributes) ≡ position_or_len (is_of_type l.name) l.attributes
