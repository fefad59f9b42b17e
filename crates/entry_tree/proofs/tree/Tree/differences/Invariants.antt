use Rattle.std.proofs.Common.{◌≡◌, map, take}
use Rattle.std.specs.BTreeMap as btree
use Rattle.std.specs.List.{filter}
use Rattle.std.specs.Option.{option_copied}
use Rattle.std.specs.Ordering.{nat_cmp}
use Rattle.entry_writes.specs.Touched.{is_change}
use Rattle.entry_tree.specs.Judging.{change_by}
use Rattle.entry_tree.proofs.tree.Tree.differences.Given as goal

-- those of the identities so far that differ are reported
abbrev pub invariant-loop-uuid : goal.invariant-loop-uuid
invariant-loop-uuid l = l.entry_changes ≡ filter is_change (map (change_by l.self (λ uuid. option_copied (btree.get nat_cmp l.others uuid))) (take l.uuid-index l.uuids))
