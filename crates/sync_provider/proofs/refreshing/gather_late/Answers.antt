use Rattle.std.proofs.Common.{rules, ◌≡◌, Bool, ap, subst, ◌∙◌}
use Rattle.std.proofs.lemmas.Result.{on_ok_weaker}
use Rattle.directory_writes.specs.Directory.{DirectoryState, entries_of}
use Rattle.entry_tree.specs.Selection.{Search, search_of}
use Rattle.sync_model.specs.Stream.{rest_of}
use Rattle.sync_provider.specs.Gathering.{Gathers, Adds}
use Rattle.sync_provider.specs.Refreshing.{delete_planned, said_all}
use Rattle.sync_provider.proofs.Deciding.{late_is}
use Rattle.sync_provider.proofs.Sets.{late_is_gathered}
use Rattle.sync_provider.proofs.refreshing.gather_late.Goals as goal

pub returns : goal.returns
returns c =
    let d : DirectoryState = c.args.directory.now.state in
    let wanted : Search = search_of c.args.spec.now in
    let uuids = c.args.uuids.now in
    let first = c.args.gathering.now in
    let begun = c.turn_to_deletes.new.self in
    let said = c.gather.new.gathering in
    let last = c.send_names.new.self in
    let decided : c.as_slice-2.result.now ≡ delete_planned d wanted uuids = search rules in
    on_ok_weaker c.send_names.result
    (λ (adds : Adds (rest_of said.deletes said.names) said last) (persists : Bool).
    late_is_gathered persists d wanted uuids first begun said last c.requires.names c.in_ok-turn_to_deletes.ensures
    (subst (λ decisions. Gathers decisions begun said) (ap (said_all (entries_of d)) decided ∙ late_is persists d wanted uuids) c.in_ok-gather.ensures) adds)
    c.send_names.ensures
