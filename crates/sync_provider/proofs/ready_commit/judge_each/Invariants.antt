use Rattle.std.proofs.Common.{◌≡◌, ◌++◌, true, length, drop}
use Rattle.std.specs.List.{list_all}
use Rattle.entry_tree.specs.Fitting.{is_within_entry_limit}
use Rattle.entry_tree.specs.Sound.{is_sound_put}
use Rattle.sync_provider.specs.ReadyCommits.{all_staged, AreReadyCommits}
use Rattle.sync_provider.specs.Staging.{searches_of}
use Rattle.sync_provider.proofs.ready_commit.judge_each.Given as goal

-- the commits so far are ready and their messages are made, and the others are left
abbrev pub invariant-loop-staged : goal.invariant-loop-staged
invariant-loop-staged l = record {
  are : AreReadyCommits l.now l.directory.state l.each.items l.yielded;
  made : l.searches ≡ all_staged l.directory.state.sid l.directory.state.history l.each.items l.fn.searches;
  seen : searches_of l.searches ≡ searches_of l.fn.searches;
  whole : l.yielded ++ drop (length l.yielded) l.fn.commits.items ≡ l.fn.commits.items;
  sound : list_all (λ commit. list_all is_sound_put commit.puts) (drop (length l.yielded) l.fn.commits.items) ≡ true;
  light : list_all (λ commit. list_all is_within_entry_limit commit.puts) (drop (length l.yielded) l.fn.commits.items) ≡ true;
}
