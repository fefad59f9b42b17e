use Rattle.std.proofs.Common.{◌≡◌, Some, false, map, take}
use Rattle.std.specs.List.{filter}
use Rattle.entry_writes.specs.Codes.{has_too_long}
use Rattle.entry_writes.specs.Effects.{moved}
use Rattle.entry_writes.specs.Touched.{is_change}
use Rattle.entry_writes.proofs.Identities.{stepped}
use Rattle.entry_writes.proofs.rename.moved_entries.Given as goal

-- what differs of the entries so far is reported, and no name is too long
abbrev pub invariant-loop-entry : goal.invariant-loop-entry
invariant-loop-entry l = record {
  shown : l.entry_changes ≡ filter is_change (map (stepped (λ e. Some (moved l.top l.renamed.name l.renamed.attrs l.csn e))) (take l.entry-index (map (λ e. e.now) l.entries)));
  short : has_too_long (take l.entry-index (map (λ e. e.now) l.entries)) l.top l.renamed.name ≡ false;
}
