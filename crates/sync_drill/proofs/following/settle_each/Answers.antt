use Rattle.std.proofs.Common.{◌∷◌, [], ◌++◌, refl, sym, ◌∙◌, subst}
use Rattle.std.specs.List.{AllZip}
use Rattle.std.proofs.lemmas.Slice.Zip.{all_zipped_more}
use Rattle.sync_drill.specs.Following.{IsBroughtUp, MaySettle}
use Rattle.sync_drill.proofs.Lists.{all_given, is_given, one_given}
use Rattle.sync_drill.proofs.Settlings.{may-as, up-as}
use Rattle.sync_drill.proofs.following.settle_each.Goals as goal

pub loop-following-init : goal.loop-following-init
loop-following-init g c = record {
  first = record { its_home = refl; its_state = refl };
  up = subst (AllZip (IsBroughtUp g.P.Port.home g.P.Port.state (g.P.Port.state c.args.first)) []) (sym c.in_ok-settled.ensures.items) tt;
  all = sym c.into_iter-following-iterator.ensures.into_iter_gives.0;
}

pub settled_by-requires : goal.settled_by-requires
settled_by-requires g c =
    let inv = c.loop-following.invariant in
    let home = g.P.Port.home in
    let state = g.P.Port.state in
    may-as home state c.args.first c.loop-following.seen c.in-Some.following inv.first.its_home
    (is_given (MaySettle home state c.args.first) c.args.followings.items c.loop-following.yielded c.loop-following.following-iterator.rest.items
    c.next.new.self.rest.items c.in-Some.following inv.all c.in-Some.ensures.steps.0 c.requires)

pub loop-following-preserved : goal.loop-following-preserved
loop-following-preserved g c =
    let inv = c.loop-following.invariant in
    let home = g.P.Port.home in
    let state = g.P.Port.state in
    let yielded = c.loop-following.yielded in
    let following = c.in-Some.following in
    let this = state c.args.first in
    record {
      first = record {
        its_home = c.settled_by.ensures.first.its_home ∙ inv.first.its_home;
        its_state = c.settled_by.ensures.first.its_state ∙ inv.first.its_state;
      };
      up = subst (AllZip (IsBroughtUp home state this) (yielded ++ following ∷ [])) (sym c.in_ok-push.ensures.items)
          (all_zipped_more (IsBroughtUp home state this) yielded c.loop-following.settled.items following c.in_ok-settled_by.field-0 inv.up
          (up-as home state this (state c.loop-following.seen) following c.in_ok-settled_by.field-0 inv.first.its_state c.in_ok-settled_by.ensures.up));
      all = one_given c.args.followings.items yielded c.loop-following.following-iterator.rest.items c.next.new.self.rest.items following inv.all
          c.in-Some.ensures.steps.0;
    }

pub returns-clause-first : goal.returns-clause-first
returns-clause-first g c = c.loop-following.invariant.first

pub returns-clause-up : goal.returns-clause-up
returns-clause-up g c =
    let inv = c.loop-following.invariant in
    let left = c.loop-following.following-iterator.rest in
    subst (λ followings. AllZip (IsBroughtUp g.P.Port.home g.P.Port.state (g.P.Port.state c.args.first)) followings c.loop-following.settled.items)
    (all_given c.args.followings.items c.loop-following.yielded left.items inv.all (sym left.ok.0 ∙ c.in-None.ensures.steps.0))
    inv.up
