-- What is planned of a commit of sound and light entries.
use Rattle.std.proofs.Common.{◌≡◌, true}
use Rattle.std.specs.List.{list_all}
use Rattle.std.proofs.lemmas.Result.{IfOk-weaker}
use Rattle.entry_tree.specs.Fitting.{is_within_entry_limit}
use Rattle.entry_tree.specs.Sound.{is_sound_put}
use Rattle.entry_tree.specs.declared.op.Op.{Op}
use Rattle.entry_tree.specs.declared.op.Op.TheVariants.{Commit}
use Rattle.directory_writes.specs.Directory.{DirectoryState, IsPreview}
use Rattle.directory_writes.specs.declared.preview.Preview.{Preview}
use Rattle.directory_writes.proofs.directory.Directory.preview_commit.Goals as goal

pub returns-clause-planned : goal.returns-clause-planned
returns-clause-planned c =
    let d : DirectoryState = c.args.self.now.state in
    let puts = c.args.puts.now in
    let op : Op = Commit puts c.args.drops.now in
    IfOk-weaker c.judge_commit.result (λ (preview : Preview). list_all is_sound_put puts ≡ true → list_all is_within_entry_limit puts ≡ true → IsPreview d op preview) (IsPreview d op)
    (λ preview plan. plan c.requires.sound c.requires.light) c.judge_commit.ensures.planned
