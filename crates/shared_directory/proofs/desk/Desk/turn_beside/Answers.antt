use Rattle.std.proofs.Common.{◌≡◌, Some, sym, ap, ◌∙◌, subst}
use Rattle.turn_cell.specs.Passes.{cell_id, view_of}
use Rattle.sync_provider.specs.Ports.{HasMet}
use Rattle.shared_directory.specs.Passes.{directory_id, port_of, view_or, cell_or, IsUpToDate}
use Rattle.shared_directory.proofs.desk.Desk.turn_beside.Goals as goal

pub take_turn_beside-pass-requires : goal.take_turn_beside-pass-requires
take_turn_beside-pass-requires g c =
    let self = c.args.self.now in
    let other = c.args.other.now in
    let cell = cell_id self.directory.now.cell in
    let mine : self.pass ≡ Some c.in-Some.pass = sym c.take.ensures.value ∙ c.in-Some.is in
    let theirs : other.pass ≡ Some c.in-Some-take.beside = sym c.take-2.ensures.value ∙ c.in-Some-take.is in
    record {
      pass = (
        subst (λ o. cell_or cell o ≡ cell) mine self.seated,
        subst (λ o. IsUpToDate (view_or o)) mine self.up_to_date,
      );
      other = (
        subst (λ o. cell_or (directory_id other.directory.now) o ≡ directory_id other.directory.now) theirs other.seated
            ∙ ap directory_id (sym c.requires),
        subst (λ o. IsUpToDate (view_or o)) theirs other.up_to_date,
      );
    }

pub returns-clause-met : goal.returns-clause-met
returns-clause-met g c =
    let self = c.args.self.now in
    let other = c.args.other.now in
    let after = port_of (view_of c.take_turn_beside-pass.result) in
    let mine : self.pass ≡ Some c.in-Some.pass = sym c.take.ensures.value ∙ c.in-Some.is in
    let theirs : other.pass ≡ Some c.in-Some-take.beside = sym c.take-2.ensures.value ∙ c.in-Some-take.is in
    subst (λ o. HasMet (port_of (view_or o)) (port_of (view_or other.pass)) after) (sym mine)
    (subst (λ o. HasMet (port_of (view_of c.in-Some.pass)) (port_of (view_or o)) after) (sym theirs) c.take_turn_beside-pass.ensures.met)
