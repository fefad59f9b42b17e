use Rattle.std.proofs.Common.{◌≡◌, ◌<◌, ◌∷◌, [], ◌++◌, inl, refl, sym, ◌∙◌, subst}
use Rattle.std.specs.List.{AllZip}
use Rattle.std.proofs.lemmas.Slice.Zip.{all_zipped_more}
use Rattle.sync_drill.specs.Going.{HasMetThis}
use Rattle.sync_drill.proofs.Lists.{all_given, is_given, one_given}
use Rattle.sync_drill.proofs.Meetings.{met-this}
use Rattle.sync_drill.proofs.meeting.show_each.Goals as goal

pub loop-other-init : goal.loop-other-init
loop-other-init g c = record {
  first = record { its_home = refl; its_state = refl };
  met = subst (AllZip (HasMetThis g.P.Port.home g.P.Port.state (g.P.Port.state c.args.first)) []) (sym c.in_ok-shown.ensures.items) tt;
  all = sym c.into_iter-other-iterator.ensures.into_iter_gives.0;
}

pub meet-requires-clause-home : goal.meet-requires-clause-home
meet-requires-clause-home g c =
    let inv = c.loop-other.invariant in
    let home = g.P.Port.home in
    is_given (λ other. home other ≡ home c.args.first) c.args.others.items c.loop-other.yielded c.loop-other.other-iterator.rest.items
    c.next.new.self.rest.items c.in-Some.other inv.all c.in-Some.ensures.steps.0 c.requires.homes
    ∙ sym inv.first.its_home

pub meet-requires-clause-known : goal.meet-requires-clause-known
meet-requires-clause-known g c =
    let inv = c.loop-other.invariant in
    inl
    (is_given (λ other. 0 < (g.P.Port.state other).ports) c.args.others.items c.loop-other.yielded c.loop-other.other-iterator.rest.items
    c.next.new.self.rest.items c.in-Some.other inv.all c.in-Some.ensures.steps.0 c.requires.shared)

pub loop-other-preserved : goal.loop-other-preserved
loop-other-preserved g c =
    let inv = c.loop-other.invariant in
    let home = g.P.Port.home in
    let state = g.P.Port.state in
    let yielded = c.loop-other.yielded in
    let other = c.in-Some.other in
    let this = state c.args.first in
    record {
      first = record {
        its_home = c.meet.ensures.other_home ∙ inv.first.its_home;
        its_state = c.meet.ensures.other ∙ inv.first.its_state;
      };
      met = subst (AllZip (HasMetThis home state this) (yielded ++ other ∷ [])) (sym c.in_ok-push.ensures.items)
          (all_zipped_more (HasMetThis home state this) yielded c.loop-other.shown.items other c.meet.new.self inv.met
          (met-this home state this other c.loop-other.showing c.meet.new.self inv.first.its_state c.meet.ensures.home c.meet.ensures.met));
      all = one_given c.args.others.items yielded c.loop-other.other-iterator.rest.items c.next.new.self.rest.items other inv.all c.in-Some.ensures.steps.0;
    }

pub returns-clause-first : goal.returns-clause-first
returns-clause-first g c = c.loop-other.invariant.first

pub returns-clause-others : goal.returns-clause-others
returns-clause-others g c =
    let inv = c.loop-other.invariant in
    let left = c.loop-other.other-iterator.rest in
    subst (λ others. AllZip (HasMetThis g.P.Port.home g.P.Port.state (g.P.Port.state c.args.first)) others c.loop-other.shown.items)
    (all_given c.args.others.items c.loop-other.yielded left.items inv.all (sym left.ok.0 ∙ c.in-None.ensures.steps.0))
    inv.met
