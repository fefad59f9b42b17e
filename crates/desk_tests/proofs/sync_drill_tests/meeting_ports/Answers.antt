use Rattle.std.proofs.Common.{◌≡◌, [], ◌∷◌, ◌++◌, ap, sym, ◌∙◌, subst}
use Rattle.std.specs.List.{AllZip}
use Rattle.std.proofs.lemmas.Slice.Zip.{all_zipped_more}
use Rattle.sync_drill.proofs.Lists.{all_given, one_given}
use Rattle.desk_tests.proofs.sync_drill_tests.meeting_ports.Goals as goal

pub loop-port-init : goal.loop-port-init
loop-port-init g c = record {
  rounds = subst (AllZip (λ port round. (g.P.Port.home round.port ≡ g.P.Port.home port) × (g.P.Port.state round.port ≡ g.P.Port.state port)) []) (sym c.in_ok-rounds.ensures.items) tt;
  all = sym c.into_iter-port-iterator.ensures.into_iter_gives.0;
}

pub loop-port-preserved : goal.loop-port-preserved
loop-port-preserved g c =
    let inv = c.loop-port.invariant in
    let yielded = c.loop-port.yielded in
    let port = c.in-Some.port in
    let home = g.P.Port.home in
    let state = g.P.Port.state in
    record {
      rounds = subst (AllZip (λ port round. (home round.port ≡ home port) × (state round.port ≡ state port)) (yielded ++ port ∷ [])) (sym c.in_ok-push.ensures.items)
          (all_zipped_more (λ port round. (home round.port ≡ home port) × (state round.port ≡ state port)) yielded c.loop-port.rounds.items port c.new-round.result
          inv.rounds (ap home c.new-round.ensures, ap state c.new-round.ensures));
      all = one_given c.args.ports.items yielded c.loop-port.port-iterator.rest.items c.next.new.self.rest.items port inv.all c.in-Some.ensures.steps.0;
    }

pub returns : goal.returns
returns g c =
    let inv = c.loop-port.invariant in
    let left = c.loop-port.port-iterator.rest in
    let home = g.P.Port.home in
    let state = g.P.Port.state in
    subst (λ ports. AllZip (λ port round. (home round.port ≡ home port) × (state round.port ≡ state port)) ports c.loop-port.rounds.items)
    (all_given c.args.ports.items c.loop-port.yielded left.items inv.all (sym left.ok.0 ∙ c.in-None.ensures.steps.0))
    inv.rounds
