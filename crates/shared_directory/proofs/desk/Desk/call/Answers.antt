use Rattle.std.proofs.Common.{◌≡◌, Some, sym, ◌∙◌, subst}
use Rattle.turn_cell.specs.Passes.{cell_id, view_of}
use Rattle.sync_provider.specs.Ports.{IsReplied}
use Rattle.shared_directory.specs.Passes.{port_of, view_or, cell_or, IsUpToDate}
use Rattle.shared_directory.proofs.desk.Desk.call.Goals as goal

pub take_turn-pass-requires : goal.take_turn-pass-requires
take_turn-pass-requires g c =
    let self = c.args.self.now in
    let cell = cell_id self.directory.now.cell in
    let is : c.args.self.now.pass ≡ Some c.in-Some.pass = sym c.take.ensures.value ∙ c.in-Some.is in (
      subst (λ o. cell_or cell o ≡ cell) is self.seated,
      subst (λ o. IsUpToDate (view_or o)) is self.up_to_date,
    )

pub returns-clause-replies : goal.returns-clause-replies
returns-clause-replies g c =
    let is : c.args.self.now.pass ≡ Some c.in-Some.pass = sym c.take.ensures.value ∙ c.in-Some.is in
    subst (λ o. IsReplied (port_of (view_or o)) (λ p. g.C.Call.replies c.args.call c.take_turn-pass.result.1 p (port_of (view_of c.take_turn-pass.result.0))))
    (sym is) c.take_turn-pass.ensures.replies
