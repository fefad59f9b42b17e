-- One more stage.
use Rattle.std.proofs.Common.{◌≡◌, ◌∷◌, [], ◌++◌, ◌∙◌, ap, sym, subst, true, rules}
use Rattle.std.proofs.lemmas.List.{map-append}
use Rattle.std.specs.List.{list_all}
use Rattle.entry_tree.specs.Fitting.{is_within_entry_limit}
use Rattle.entry_tree.specs.Selection.{Search, search_of}
use Rattle.entry_tree.specs.Sound.{is_sound_put}
use Rattle.sync_consumer.specs.Taking.{AreFit}
use Rattle.sync_provider.specs.declared.committing.StagedCommit.{StagedCommit}
use Rattle.cascade_report.specs.ReportLines.{StoredStage}
use Rattle.cascade_nodes.specs.Commits.{commit_of, note_of}
use Rattle.cascade_nodes.proofs.committing.Staged.of.Goals as goal
use Rattle.ldap_ber.proofs.Lists.{list_all_push}

pub loop-stage-preserved : goal.loop-stage-preserved
loop-stage-preserved c =
    let stage : StoredStage = c.in-Some.stage in
    let wants : Search = search_of c.args.wanted.now in
    let so_far = c.loop-stage.yielded in
    let before = c.loop-stage.staged in
    let is = c.loop-stage.invariant in
    let commits : c.add.new.self.commits.items ≡ before.commits.items ++ commit_of stage ∷ [] = search rules in
    let notes : c.add.new.self.notes.items ≡ before.notes.items ++ note_of wants stage ∷ [] = search rules in
    let fit : AreFit stage.puts = search rules in
    record {
      commits = commits ∙ ap (λ cs. cs ++ commit_of stage ∷ []) is.commits ∙ sym (map-append commit_of so_far (stage ∷ []));
      notes = notes ∙ ap (λ ns. ns ++ note_of wants stage ∷ []) is.notes ∙ sym (map-append (note_of wants) so_far (stage ∷ []));
      sound =
          subst (λ cs. list_all (λ (commit : StagedCommit). list_all is_sound_put commit.puts) cs ≡ true) (sym commits)
          (list_all_push (λ (commit : StagedCommit). list_all is_sound_put commit.puts) before.commits.items (commit_of stage) is.sound fit.sound);
      light =
          subst (λ cs. list_all (λ (commit : StagedCommit). list_all is_within_entry_limit commit.puts) cs ≡ true) (sym commits)
          (list_all_push (λ (commit : StagedCommit). list_all is_within_entry_limit commit.puts) before.commits.items (commit_of stage) is.light fit.light);
    }
