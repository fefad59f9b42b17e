use Rattle.std.proofs.Common.{◌≡◌, ◌<◌, ◌∷◌, [], ◌++◌, inl, refl, sym, ◌∙◌, subst}
use Rattle.std.specs.List.{AllZip}
use Rattle.sync_drill.specs.Going.{WasSeen}
use Rattle.sync_drill.proofs.Lists.{all_given, is_given, one_given}
use Rattle.sync_drill.proofs.Meetings.{came-none, came-twice, later-came, seen-more}
use Rattle.sync_drill.proofs.meeting.meet_each.Goals as goal

pub loop-other-init : goal.loop-other-init
loop-other-init g c = record {
  home = refl;
  came = came-none (g.P.Port.state c.args.first);
  seen = subst (AllZip (WasSeen g.P.Port.home g.P.Port.state (g.P.Port.state c.args.first)) []) (sym c.in_ok-met.ensures.items) tt;
  all = sym c.into_iter-other-iterator.ensures.into_iter_gives.0;
}

pub meet-requires-clause-home : goal.meet-requires-clause-home
meet-requires-clause-home g c =
    let inv = c.loop-other.invariant in
    let home = g.P.Port.home in
    inv.home
    ∙ sym (is_given (λ other. home other ≡ home c.args.first) c.args.others.items c.loop-other.yielded c.loop-other.other-iterator.rest.items
    c.next.new.self.rest.items c.in-Some.other inv.all c.in-Some.ensures.steps.0 c.requires.homes)

pub meet-requires-clause-known : goal.meet-requires-clause-known
meet-requires-clause-known g c = inl (subst (λ n. 0 < n) (sym c.loop-other.invariant.came.goes_on.ports) c.requires.shared)

pub loop-other-preserved : goal.loop-other-preserved
loop-other-preserved g c =
    let inv = c.loop-other.invariant in
    let home = g.P.Port.home in
    let state = g.P.Port.state in
    let yielded = c.loop-other.yielded in
    let other = c.in-Some.other in
    let old = c.loop-other.meeting in
    let new = c.meet.new.self in
    record {
      home = c.meet.ensures.home ∙ inv.home;
      came = came-twice (state c.args.first) (state old) (state new) inv.came (later-came (state old) (state new) c.meet.ensures.met.later);
      seen = subst (AllZip (WasSeen home state (state new)) (yielded ++ other ∷ [])) (sym c.in_ok-push.ensures.items)
          (seen-more home state old other c.meet.new.other new yielded c.loop-other.met.items inv.seen c.meet.ensures.met c.meet.ensures.other_home c.meet.ensures.other);
      all = one_given c.args.others.items yielded c.loop-other.other-iterator.rest.items c.next.new.self.rest.items other inv.all c.in-Some.ensures.steps.0;
    }

pub returns-clause-home : goal.returns-clause-home
returns-clause-home g c = c.loop-other.invariant.home

pub returns-clause-came : goal.returns-clause-came
returns-clause-came g c = c.loop-other.invariant.came

pub returns-clause-seen : goal.returns-clause-seen
returns-clause-seen g c =
    let inv = c.loop-other.invariant in
    let left = c.loop-other.other-iterator.rest in
    subst (λ others. AllZip (WasSeen g.P.Port.home g.P.Port.state (g.P.Port.state c.loop-other.meeting)) others c.loop-other.met.items)
    (all_given c.args.others.items c.loop-other.yielded left.items inv.all (sym left.ok.0 ∙ c.in-None.ensures.steps.0))
    inv.seen
