-- What is kept after a write that was previewed.
use Rattle.std.proofs.Common.{◌≡◌, sym, subst}
use Rattle.shared_map.proofs.Opened.{IfOk-both}
use Rattle.directory_writes.specs.Directory.{DirectoryState, DirectoryWithRoom, IsKeptBeside, IsPreview}
use Rattle.directory_writes.specs.Ready.{IsReadyWrite}
use Rattle.directory_writes.specs.Standing.{standing_after}
use Rattle.directory_writes.specs.declared.ready.Ready.{Ready}
use Rattle.directory_writes.proofs.Writes.{next_is, ready_is}
use Rattle.directory_writes.proofs.directory.Directory.ready.Goals as goal

pub ready_in_turn-requires : goal.ready_in_turn-requires
ready_in_turn-requires c =
    let s = c.self.inside.standing in
    let kept = subst (λ (v : DirectoryWithRoom). IsKeptBeside v.state s) c.self.view_is c.self.invariant in
    next_is c.args.self.now.state s c.args.op.now c.args.preview kept.standing c.requires

pub invariant_of-self : goal.invariant_of-self
invariant_of-self c =
    let was = c.self.inside in
    let d : DirectoryState = record { suffix = was.suffix; sid = was.sid; history = was.history; writes = was.accepted.items; log = was.log.log } in
    subst (IsKeptBeside d) (sym c.ready_in_turn.ensures.same) c.self.invariant

pub returns-clause-ready : goal.returns-clause-ready
returns-clause-ready c =
    let was = c.self.inside in
    let d : DirectoryState = record { suffix = was.suffix; sid = was.sid; history = was.history; writes = was.accepted.items; log = was.log.log } in
    let plan : IsPreview d c.args.op.now c.args.preview = subst (λ (v : DirectoryWithRoom). IsPreview v.state c.args.op.now c.args.preview) (sym c.self.view_is) c.requires in
    IfOk-both c.ready_in_turn.result (λ (ready : Ready). ready.preview ≡ c.args.preview) (λ (ready : Ready). ready.after ≡ standing_after was.standing c.args.op.now c.args.preview)
    (IsReadyWrite d c.args.op.now)
    (λ ready same after. ready_is d was.standing c.args.op.now c.args.preview ready c.self.invariant.standing plan same after)
    c.ready_in_turn.ensures.preview c.ready_in_turn.ensures.after
