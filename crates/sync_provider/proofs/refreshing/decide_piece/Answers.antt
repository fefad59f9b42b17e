-- By what is planned.
use Rattle.std.proofs.Common.{◌≡◌, Bool, ap, sym, ◌∙◌, Vec, Global, None, Some}
use Rattle.std.proofs.lemmas.Result.{IfOk-weaker}
use Rattle.directory_writes.specs.Directory.{DirectoryState, entries_of}
use Rattle.directory_writes.specs.Starting.{start_of}
use Rattle.directory_writes.specs.declared.start.Start.{Start as Began}
use Rattle.entry_tree.specs.Selection.{Search, search_of}
use Rattle.refresh_present.specs.declared.decision.Decision.{Decision}
use Rattle.sync_provider.specs.Refreshing.{said_all, decided_now, present_planned, delete_planned}
use Rattle.sync_provider.proofs.Deciding.{blank_is, present_is, touched_is}
use Rattle.sync_provider.proofs.refreshing.decide_piece.Goals as goal

pub returns-in-InitialContent : goal.returns-in-InitialContent
returns-in-InitialContent c =
    let d : DirectoryState = c.args.directory.now.state in
    let wanted : Search = search_of c.args.spec.now in
    let uuids = c.args.uuids.now in
    IfOk-weaker c.decide_selected.result (λ (decisions : Vec Decision Global). decisions.items ≡ present_planned d wanted None uuids)
    (λ (decisions : Vec Decision Global). (persists : Bool) → said_all (entries_of d) decisions.items ≡ decided_now persists d wanted (start_of c.args.start) uuids)
    (λ decisions is persists.
    ap (said_all (entries_of d)) is ∙ blank_is persists d wanted uuids ∙ ap (λ (start : Began). decided_now persists d wanted (start_of start) uuids) (sym c.in-InitialContent.is))
    c.decide_selected.ensures

pub returns-in-PresentPhase : goal.returns-in-PresentPhase
returns-in-PresentPhase c =
    let d : DirectoryState = c.args.directory.now.state in
    let wanted : Search = search_of c.args.spec.now in
    let uuids = c.args.uuids.now in
    IfOk-weaker c.decide_selected-in-PresentPhase.result (λ (decisions : Vec Decision Global). decisions.items ≡ present_planned d wanted (Some c.in-PresentPhase.number) uuids)
    (λ (decisions : Vec Decision Global). (persists : Bool) → said_all (entries_of d) decisions.items ≡ decided_now persists d wanted (start_of c.args.start) uuids)
    (λ decisions is persists.
    ap (said_all (entries_of d)) is ∙ present_is persists d wanted c.in-PresentPhase.number uuids
    ∙ ap (λ (start : Began). decided_now persists d wanted (start_of start) uuids) (sym c.in-PresentPhase.is))
    c.decide_selected-in-PresentPhase.ensures

pub returns-in-DeletePhase : goal.returns-in-DeletePhase
returns-in-DeletePhase c =
    let d : DirectoryState = c.args.directory.now.state in
    let wanted : Search = search_of c.args.spec.now in
    let uuids = c.args.uuids.now in
    IfOk-weaker c.decide_touched.result (λ (decisions : Vec Decision Global). decisions.items ≡ delete_planned d wanted uuids)
    (λ (decisions : Vec Decision Global). (persists : Bool) → said_all (entries_of d) decisions.items ≡ decided_now persists d wanted (start_of c.args.start) uuids)
    (λ decisions is persists.
    ap (said_all (entries_of d)) is ∙ touched_is persists d wanted c.in-DeletePhase.field-0 uuids
    ∙ ap (λ (start : Began). decided_now persists d wanted (start_of start) uuids) (sym c.in-DeletePhase.is))
    c.decide_touched.ensures
