use Rattle.std.proofs.Common.{length, [], ◌∷◌, ◌++◌, ap, sym, ◌∙◌, subst}
use Rattle.std.specs.List.{AllZip}
use Rattle.std.proofs.lemmas.Slice.Zip.{all_zipped_more}
use Rattle.shared_directory.specs.Passes.{AreFirst, directory_id, port_of, view_or}
use Rattle.sync_drill.proofs.Lists.{all_given, one_given}
use Rattle.drill_directory.specs.Ports.{IsPortOf}
use Rattle.drill_directory.proofs.FreshPorts.{pass_at}
use Rattle.drill_directory.proofs.directory.desks_of.Goals as goal

pub loop-pass-init : goal.loop-pass-init
loop-pass-init g c = record {
  desks = rw c.in_ok-desks.ensures.items tt;
  all = sym c.into_iter-pass-iterator.ensures.into_iter_gives.0;
}

pub desk-requires : goal.desk-requires
desk-requires g c =
    let passes = c.args.passes.items in
    let left = c.next.new.self.rest.items in
    let yielded = c.loop-pass.yielded in
    let pass = c.in-Some.pass in
    let cell = directory_id c.args.directory.now in
    pass_at cell (length passes) c.requires.0 1 yielded left pass
    (subst (AreFirst cell (length passes) c.requires.0 1)
    (c.loop-pass.invariant.all ∙ ap (λ more. yielded ++ more) c.in-Some.ensures.steps.0) c.requires.2)

pub loop-pass-preserved : goal.loop-pass-preserved
loop-pass-preserved g c =
    let inv = c.loop-pass.invariant in
    let yielded = c.loop-pass.yielded in
    let pass = c.in-Some.pass in
    let directory = c.args.directory.now in
    record {
      desks = subst (AllZip (IsPortOf (λ d. d.directory.now) (λ d. port_of (view_or d.pass)) directory) (yielded ++ pass ∷ [])) (sym c.in_ok-push.ensures.items)
          (all_zipped_more (IsPortOf (λ d. d.directory.now) (λ d. port_of (view_or d.pass)) directory) yielded c.loop-pass.desks.items pass c.desk.result
          inv.desks (c.desk.ensures.home, c.desk.ensures.port));
      all = one_given c.args.passes.items yielded c.loop-pass.pass-iterator.rest.items c.next.new.self.rest.items pass inv.all c.in-Some.ensures.steps.0;
    }

pub returns : goal.returns
returns g c =
    let inv = c.loop-pass.invariant in
    let left = c.loop-pass.pass-iterator.rest in
    subst (λ passes. AllZip (IsPortOf (λ d. d.directory.now) (λ d. port_of (view_or d.pass)) c.args.directory.now) passes c.loop-pass.desks.items)
    (all_given c.args.passes.items c.loop-pass.yielded left.items inv.all (sym left.ok.0 ∙ c.in-None.ensures.steps.0))
    inv.desks
