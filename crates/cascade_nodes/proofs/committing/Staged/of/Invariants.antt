use Rattle.std.proofs.Common.{◌≡◌, true, map}
use Rattle.std.specs.List.{list_all}
use Rattle.entry_tree.specs.Fitting.{is_within_entry_limit}
use Rattle.entry_tree.specs.Selection.{search_of}
use Rattle.entry_tree.specs.Sound.{is_sound_put}
use Rattle.cascade_nodes.specs.Commits.{commit_of, note_of}
use Rattle.cascade_nodes.proofs.committing.Staged.of.Given as goal

-- the commits and the notes of the stages so far, each of which is fit
abbrev pub invariant-loop-stage : goal.invariant-loop-stage
invariant-loop-stage l = record {
  commits : l.staged.commits.items ≡ map commit_of l.yielded;
  notes : l.staged.notes.items ≡ map (note_of (search_of l.wanted)) l.yielded;
  sound : list_all (λ commit. list_all is_sound_put commit.puts) l.staged.commits.items ≡ true;
  light : list_all (λ commit. list_all is_within_entry_limit commit.puts) l.staged.commits.items ≡ true;
}
