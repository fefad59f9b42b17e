use Rattle.std.proofs.Common.{◌≡◌, ◌+◌, ◌∷◌, [], ◌++◌, length, refl, sym, ap, ◌∙◌, subst, arith, length-append}
use Rattle.std.specs.List.{AllZip}
use Rattle.std.proofs.lemmas.Slice.Zip.{AllZip-long, all_zipped_more}
use Rattle.sync_drill.specs.Drilled.{EachAt}
use Rattle.sync_drill.specs.Following.{BeginsAt, IsFollowing, IsUnused}
use Rattle.sync_drill.proofs.Lists.{all_given, is_given, one_given}
use Rattle.sync_drill.proofs.Places.{each-push}
use Rattle.sync_drill.proofs.preparing.followings_of.Goals as goal

pub loop-port-init : goal.loop-port-init
loop-port-init g c = record {
  place = refl;
  begin = subst (AllZip (BeginsAt g.P.Port.home g.P.Port.state) []) (sym c.in_ok-followings.ensures.items) tt;
  follow = subst (EachAt (IsFollowing g.P.Port.state) 0) (sym c.in_ok-followings.ensures.items) tt;
  all = sym c.into_iter-port-iterator.ensures.into_iter_gives.0;
}

pub following_at-requires : goal.following_at-requires
following_at-requires g c =
    is_given (λ port. IsUnused (g.P.Port.state port)) c.args.ports.items c.loop-port.yielded c.loop-port.port-iterator.rest.items
    c.next.new.self.rest.items c.in-Some.port c.loop-port.invariant.all c.in-Some.ensures.steps.0 c.requires.unused

pub overflow_add-consumer : goal.overflow_add-consumer
overflow_add-consumer g c =
    let inv = c.loop-port.invariant in
    omega (arith, inv.place, ap length inv.all, length-append c.loop-port.yielded c.loop-port.port-iterator.rest.items, c.requires.few)

pub loop-port-preserved : goal.loop-port-preserved
loop-port-preserved g c =
    let inv = c.loop-port.invariant in
    let home = g.P.Port.home in
    let state = g.P.Port.state in
    let yielded = c.loop-port.yielded in
    let before = c.loop-port.followings.items in
    let port = c.in-Some.port in
    let following = c.in_ok-following_at.field-0 in
    let count : length before ≡ length yielded = AllZip-long (BeginsAt home state) yielded before inv.begin in
    let here : c.loop-port.consumer ≡ 0 + length before = omega (arith, inv.place, count) in
    record {
      place = let more = length-append yielded (port ∷ []) in omega (arith, inv.place, more);
      begin = subst (AllZip (BeginsAt home state) (yielded ++ port ∷ [])) (sym c.in_ok-push.ensures.items)
          (all_zipped_more (BeginsAt home state) yielded before port following inv.begin c.in_ok-following_at.ensures.begins);
      follow = subst (EachAt (IsFollowing state) 0) (sym c.in_ok-push.ensures.items)
          (each-push (IsFollowing state) 0 before following inv.follow
          (subst (λ n. IsFollowing state n following) here c.in_ok-following_at.ensures.follows));
      all = one_given c.args.ports.items yielded c.loop-port.port-iterator.rest.items c.next.new.self.rest.items port inv.all c.in-Some.ensures.steps.0;
    }

pub returns-clause-begin : goal.returns-clause-begin
returns-clause-begin g c =
    let inv = c.loop-port.invariant in
    let left = c.loop-port.port-iterator.rest in
    subst (λ ports. AllZip (BeginsAt g.P.Port.home g.P.Port.state) ports c.loop-port.followings.items)
    (all_given c.args.ports.items c.loop-port.yielded left.items inv.all (sym left.ok.0 ∙ c.in-None.ensures.steps.0))
    inv.begin

pub returns-clause-follow : goal.returns-clause-follow
returns-clause-follow g c = c.loop-port.invariant.follow
