use Rattle.std.proofs.Common.{◌≡◌, ◌+◌, ◌-◌, length, [], ◌∷◌, sym, refl, ap, ◌∙◌, subst, arith, length-append}
use Rattle.turn_cell.specs.Rule.{first_pass, idle, new_pass, new_passes}
use Rattle.turn_cell.specs.Steps.{dealt, undealt}
use Rattle.turn_cell.specs.Passes.{AreNew}
use Rattle.turn_cell.proofs.Dealt.{deals}
use Rattle.turn_cell.proofs.Passing.{new_passes-next, AreNew-snoc}
use Rattle.turn_cell.proofs.making.deal.Goals as goal

pub loop-place-init : goal.loop-place-init
loop-place-init g c = record {
  table = refl;
  dealer = let whole : c.args.seats ≡ c.args.seats - 0 = omega arith in
      c.requires.dealer
      ∙ ap (λ n. (
        idle (new_passes c.args.seats (g.D.Journalled.journal c.args.words.now.key.value.value)
            (g.D.Journalled.share c.args.words.now.key.value.value) 1 n),
        [],
      )) whole;
  dealt = rw c.requires.room.0 tt;
  count = rw c.requires.room.0 refl;
  len = c.requires.room.1;
  room = c.requires.room.2;
}

pub split_seat-seat-requires : goal.split_seat-seat-requires
split_seat-seat-requires g c =
    let seen = g.D.Journalled.journal c.args.words.now.key.value.value in
    let share = g.D.Journalled.share c.args.words.now.key.value.value in
    let inv = c.loop-place.invariant in
    let place = c.loop-place.place in (
      inv.table ∙ c.requires.table.0,
      omega (arith, c.requires.table.1),
      rw inv.dealer (deals g.D.Journalled.journal g.D.Journalled.share _ _ _ (new_passes c.args.seats seen share (place + 1) (c.args.seats - place))),
    )

pub invariant_of-push_reserved : goal.invariant_of-push_reserved
invariant_of-push_reserved g c =
    let seen = g.D.Journalled.journal c.args.words.now.key.value.value in
    let share = g.D.Journalled.share c.args.words.now.key.value.value in
    let place = c.loop-place.place in
    let next = new_passes-next seen share place c.args.seats c.loop-place-test.true in
    let new : c.split_seat-seat.result.me ≡ (idle (new_pass c.args.seats seen share (place + 1) ∷ []), []) =
    c.split_seat-seat.ensures.4 ∙ ap (λ m. (dealt m.0, [])) (c.loop-place.invariant.dealer ∙ ap (λ passes. (idle passes, [])) next) in
    record { idle = rw new refl; numbered = rw new refl; looked = rw new (sym c.requires.seen) }

pub push_reserved-requires : goal.push_reserved-requires
push_reserved-requires g c = let inv = c.loop-place.invariant in omega (arith, inv.len, inv.room, c.loop-place-test.true)

pub loop-place-preserved : goal.loop-place-preserved
loop-place-preserved g c =
    let seen = g.D.Journalled.journal c.args.words.now.key.value.value in
    let share = g.D.Journalled.share c.args.words.now.key.value.value in
    let inv = c.loop-place.invariant in
    let place = c.loop-place.place in
    let next = new_passes-next seen share place c.args.seats c.loop-place-test.true in
    let before : c.loop-place.dealer.me ≡ (idle (new_pass c.args.seats seen share (place + 1) ∷ new_passes c.args.seats seen share (place + 1 + 1) (c.args.seats - (place + 1))), []) =
    inv.dealer ∙ ap (λ passes. (idle passes, [])) next in
    let new : c.split_seat-seat.result.me ≡ (idle (new_pass c.args.seats seen share (place + 1) ∷ []), []) =
    c.split_seat-seat.ensures.4 ∙ ap (λ m. (dealt m.0, [])) before in
    record {
      table = c.split_seat-seat.ensures.0 ∙ inv.table;
      dealer = c.split_seat-seat.ensures.2 ∙ ap (λ m. (undealt m.0, m.1)) before;
      dealt = subst (AreNew c.args.dealer.now.table_id c.args.seats seen share 1) (sym c.push_reserved.ensures.items)
          (AreNew-snoc c.args.dealer.now.table_id c.args.seats seen share 1 (place + 1) c.loop-place.passes.items _ inv.dealt (omega (arith, inv.count))
          (c.split_seat-seat.ensures.3 ∙ inv.table, ap (λ m. first_pass m.0.passes) new));
      count = ap length c.push_reserved.ensures.items ∙ (length-append c.loop-place.passes.items _ ∙ ap (λ n. n + 1) inv.count);
      len = c.push_reserved.ensures.len ∙ ap (λ n. n + 1) inv.len;
      room = rw c.push_reserved.ensures.capacity inv.room;
    }

pub returns-clause-passes : goal.returns-clause-passes
returns-clause-passes g c = c.loop-place.invariant.dealt

pub returns-clause-count : goal.returns-clause-count
returns-clause-count g c =
    let all : c.loop-place.place ≡ c.args.seats = omega (arith, c.loop-place-test.false, c.loop-place.auto.place-end) in
    c.loop-place.invariant.count ∙ all
