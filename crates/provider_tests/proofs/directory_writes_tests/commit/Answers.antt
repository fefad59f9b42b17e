-- A commit that has nothing against it fits.
use Rattle.std.proofs.Common.{rules, ◌≡◌, true, None}
use Rattle.std.specs.List.{list_all}
use Rattle.entry_tree.specs.Fitting.{is_within_entry_limit}
use Rattle.directory_writes.specs.Commits.{commit_refusal}
use Rattle.directory_writes.proofs.Commits.{commit_open}
use Rattle.provider_tests.proofs.directory_writes_tests.commit.Goals as goal

pub done-requires-clause-fits : goal.done-requires-clause-fits
done-requires-clause-fits c =
    let puts = c.in_ok-puts.puts in
    let drops = c.in_ok-drops.drops in
    let none : commit_refusal c.args.directory.now.state puts drops 0 ≡ None = search rules in
    let light : list_all is_within_entry_limit puts ≡ true = search rules in
    (commit_open c.args.directory.now.state puts drops 0 none).fitting light
