use Rattle.std.proofs.Common.{ap, ◌∙◌, Option}
use Rattle.std.specs.Prelude.{option_map}
use Rattle.std.specs.Option.{option_and_then}
use Rattle.entry_tree.specs.declared.entry.Entry.{Entry}
use Rattle.sync_consumer.specs.declared.stage.StagedChange.{StagedChange}
use Rattle.sync_consumer.specs.Staging.{change_of, entry_staged}
use Rattle.sync_consumer.proofs.Stages.{slot_kept}
use Rattle.sync_consumer.proofs.stage.Stage.entry.Goals as goal

abbrev entry_in : Option (Option Entry) → Option Entry
entry_in found = option_and_then (λ entry. entry) found

pub returns-in-Some : goal.returns-in-Some
returns-in-Some c =
    c.entry.ensures
    ∙ ap entry_in (ap (option_map (λ (s : StagedChange). (change_of s).1)) c.in-Some.ensures ∙ slot_kept c.self.inside.changes c.args.uuid c.self.invariant.own)
    ∙ ap (λ s. entry_staged s c.args.uuid) c.self.view_is

pub returns-in-None : goal.returns-in-None
returns-in-None c =
    ap entry_in (ap (option_map (λ (s : StagedChange). (change_of s).1)) c.in-None.ensures ∙ slot_kept c.self.inside.changes c.args.uuid c.self.invariant.own)
    ∙ ap (λ s. entry_staged s c.args.uuid) c.self.view_is
