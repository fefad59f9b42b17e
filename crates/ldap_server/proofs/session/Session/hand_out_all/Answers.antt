use Rattle.std.proofs.Common.{◌≡◌, ◌<◌, ◌≤◌, ap, arith, length, refl, ◌∙◌}
use Rattle.ldap_server.specs.HandOuts.{searches_after}
use Rattle.ldap_server.specs.Seen.{point_in}
use Rattle.ldap_server.specs.SessionState.{SessionState}
use Rattle.ldap_server.proofs.Handing.{turned_all, turned_begun, turned_next, turned_none, turned_smaller}
use Rattle.ldap_server.proofs.session.Session.hand_out_all.Goals as goal

pub loop-place-init : goal.loop-place-init
loop-place-init g c = record { home = refl; turned = turned_none (point_in g.P.Port.state c.args.self.now) }

-- the session keeps its searches during a turn

pub pass_by-place-requires : goal.pass_by-place-requires
pass_by-place-requires g c =
    let before = c.loop-place.self.searches in
    let after = c.hand_out.new.self.searches in
    let same : after.items ≡ before.items = ap (λ (s : SessionState). s.searches) c.in-Ok.ensures.turn.same in
    omega (arith, c.loop-place-test.true, c.len.ensures, before.ok.0, after.ok.0, ap length same)

pub loop-place-preserved : goal.loop-place-preserved
loop-place-preserved g c =
    let state = g.P.Port.state in
    let before = c.loop-place.self.searches in
    let low : c.loop-place.place < length before.items = omega (arith, c.loop-place-test.true, c.len.ensures, before.ok.0) in
    record {
      home = ap g.P.Port.home c.pass_by-place.ensures.port ∙ c.in-Ok.ensures.home ∙ c.loop-place.invariant.home;
      turned = rw (c.pass_by-place.ensures.bound, c.pass_by-place.ensures.port, c.pass_by-place.ensures.sent)
          (turned_next c.loop-place.place c.pass_by-place.result (point_in state c.args.self.now) (point_in state c.loop-place.self) (point_in state c.hand_out.new.self)
          c.index-search.result.now c.in-Ok.stays c.pass_by-place.new.self.searches.items c.loop-place.invariant.turned
          low c.index-search.ensures c.in-Ok.ensures.turn c.pass_by-place.ensures.next c.pass_by-place.ensures.searches);
    }

pub loop-place-smaller : goal.loop-place-smaller
loop-place-smaller g c =
    let before = c.loop-place.self.searches in
    let same : c.hand_out.new.self.searches.items ≡ before.items = ap (λ (s : SessionState). s.searches) c.in-Ok.ensures.turn.same in
    let low : c.loop-place.place < length before.items = omega (arith, c.loop-place-test.true, c.len.ensures, before.ok.0) in
    turned_smaller c.in-Ok.stays c.loop-place.place c.pass_by-place.result before.items c.pass_by-place.new.self.searches.items low c.pass_by-place.ensures.next
    (c.pass_by-place.ensures.searches ∙ ap (searches_after c.in-Ok.stays c.loop-place.place) same)

pub returns-in-Err-clause-home : goal.returns-in-Err-clause-home
returns-in-Err-clause-home g c = c.in-Err.ensures.home ∙ c.loop-place.invariant.home

pub returns-in-Err-clause-turns : goal.returns-in-Err-clause-turns
returns-in-Err-clause-turns g c =
    let state = g.P.Port.state in
    turned_begun c.loop-place.place (point_in state c.args.self.now) (point_in state c.loop-place.self) (point_in state c.hand_out.new.self) c.loop-place.invariant.turned c.in-Err.ensures.turn

pub returns-clause-turns : goal.returns-clause-turns
returns-clause-turns g c =
    let state = g.P.Port.state in
    let before = c.loop-place.self.searches in
    let all : length before.items ≤ c.loop-place.place = omega (arith, c.loop-place-test.false, c.len.ensures, before.ok.0) in
    turned_all c.loop-place.place (point_in state c.args.self.now) (point_in state c.loop-place.self) c.loop-place.invariant.turned all
