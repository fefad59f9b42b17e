use Rattle.std.proofs.Common.{◌≡◌, List, ◌∷◌, [], ◌++◌, map, sym, ap, ◌∙◌}
use Rattle.std.proofs.lemmas.List.{map-append}
use Rattle.sync_drill.specs.Followed.{copy_of, ends_of, port_of}
use Rattle.sync_drill.proofs.Lists.{all_given, one_given}
use Rattle.sync_drill.proofs.drilling.taken_apart.Goals as goal

-- one more part
part-more : {X Y : Type 0} (f : X → Y) (before after : List Y) (given : List X) (x : X) (y : Y) → before ≡ map f given → y ≡ f x → after ≡ before ++ y ∷ []
    → after ≡ map f (given ++ x ∷ [])
part-more f before after given x y so_far is more =
    more ∙ (λ i. so_far i ++ is i ∷ []) ∙ sym (map-append f given (x ∷ []))

pub loop-following-init : goal.loop-following-init
loop-following-init g c = record {
  ports = c.in_ok-ports.ensures.items;
  copies = c.in_ok-copies.ensures.items;
  rings = c.in_ok-rings.ensures.items;
  all = sym c.into_iter-following-iterator.ensures.into_iter_gives.0;
}

pub loop-following-preserved : goal.loop-following-preserved
loop-following-preserved g c =
    let inv = c.loop-following.invariant in
    let yielded = c.loop-following.yielded in
    let following = c.in-Some.following in
    record {
      ports =
          part-more port_of c.loop-following.ports.items _ yielded following c.parts_of-port.result.0 inv.ports c.parts_of-port.ensures.port
          c.in_ok-push.ensures.items;
      copies =
          part-more copy_of c.loop-following.copies.items _ yielded following c.parts_of-port.result.1 inv.copies c.parts_of-port.ensures.copy
          c.in_ok-push-2.ensures.items;
      rings =
          part-more ends_of c.loop-following.rings.items _ yielded following c.parts_of-port.result.2 inv.rings c.parts_of-port.ensures.ends
          c.in_ok-push-3.ensures.items;
      all = one_given c.args.followings.items yielded c.loop-following.following-iterator.rest.items c.next.new.self.rest.items following inv.all
          c.in-Some.ensures.steps.0;
    }

pub returns-clause-ports : goal.returns-clause-ports
returns-clause-ports g c =
    let inv = c.loop-following.invariant in
    let left = c.loop-following.following-iterator.rest in
    inv.ports
    ∙ ap (map port_of) (all_given c.args.followings.items c.loop-following.yielded left.items inv.all (sym left.ok.0 ∙ c.in-None.ensures.steps.0))

pub returns-clause-copies : goal.returns-clause-copies
returns-clause-copies g c =
    let inv = c.loop-following.invariant in
    let left = c.loop-following.following-iterator.rest in
    inv.copies
    ∙ ap (map copy_of) (all_given c.args.followings.items c.loop-following.yielded left.items inv.all (sym left.ok.0 ∙ c.in-None.ensures.steps.0))

pub returns-clause-rings : goal.returns-clause-rings
returns-clause-rings g c =
    let inv = c.loop-following.invariant in
    let left = c.loop-following.following-iterator.rest in
    inv.rings
    ∙ ap (map ends_of) (all_given c.args.followings.items c.loop-following.yielded left.items inv.all (sym left.ok.0 ∙ c.in-None.ensures.steps.0))
