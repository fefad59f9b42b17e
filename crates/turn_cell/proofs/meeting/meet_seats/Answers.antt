use Rattle.std.proofs.Common.{◌≡◌, [], ◌∷◌, ap, ◌∙◌, subst, arith}
use Rattle.turn_cell.specs.Journals.{Every}
use Rattle.turn_cell.specs.Rule.{first_pass, idle, HasSeen}
use Rattle.turn_cell.specs.Steps.{dealt, undealt, joined, first_shown, IsShown}
use Rattle.turn_cell.proofs.Dealt.{deals}
use Rattle.turn_cell.proofs.Merged.{merges}
use Rattle.turn_cell.proofs.Shown.{meets}
use Rattle.turn_cell.proofs.meeting.meet_seats.Goals as goal

pub join_seat-requires : goal.join_seat-requires
join_seat-requires g c =
    let pass = first_pass c.args.seat.now.me.0.passes in
    let other = first_pass c.args.other.me.0.passes in (
      c.requires.table.0,
      c.requires.table.1,
      ap (λ m. m.1) c.requires.other,
      omega (arith, c.requires.table.2),
      rw (c.requires.seat, c.requires.other)
          (merges g.D.Journalled.journal g.D.Journalled.share _ _ _ _ (pass ∷ []) (other ∷ [])),
    )

pub load-seen-requires : goal.load-seen-requires
load-seen-requires g c =
    let pass = first_pass c.args.seat.now.me.0.passes in
    let other = first_pass c.args.other.me.0.passes in
    let both : c.join_seat.new.seat.me ≡ (idle (pass ∷ other ∷ []), []) =
    c.join_seat.ensures.2
    ∙ (ap (λ m. (joined m.0 c.args.other.me.0, m.1)) c.requires.seat
    ∙ ap (λ m. (joined (idle (pass ∷ [])) m.0, [])) c.requires.other) in (
      c.join_seat.ensures.0 ∙ c.requires.table.0,
      omega (arith, c.requires.table.2),
      rw both (meets g.D.Journalled.journal g.D.Journalled.share _ _ _ _ (pass ∷ other ∷ [])),
    )

pub split_seat-mine-requires : goal.split_seat-mine-requires
split_seat-mine-requires g c =
    let pass = first_pass c.args.seat.now.me.0.passes in
    let other = first_pass c.args.other.me.0.passes in
    let both : c.join_seat.new.seat.me ≡ (idle (pass ∷ other ∷ []), []) =
    c.join_seat.ensures.2
    ∙ (ap (λ m. (joined m.0 c.args.other.me.0, m.1)) c.requires.seat
    ∙ ap (λ m. (joined (idle (pass ∷ [])) m.0, [])) c.requires.other) in
    let shown : IsShown c.join_seat.new.seat.me c.load-seen.result c.load-seen.new.seat.me = c.load-seen.ensures.2 in
    let after : c.load-seen.new.seat.me ≡ (idle (first_shown shown.journal (pass ∷ other ∷ [])), []) =
    shown.seat ∙ ap (λ m. (idle (first_shown shown.journal m.0.passes), m.1)) both in (
      c.load-seen.ensures.0 ∙ (c.join_seat.ensures.0 ∙ c.requires.table.0),
      omega (arith, c.requires.table.2),
      rw after (deals g.D.Journalled.journal g.D.Journalled.share _ _ _ (first_shown shown.journal (pass ∷ other ∷ []))),
    )

pub returns-clause-met : goal.returns-clause-met
returns-clause-met g c =
    let pass = first_pass c.args.seat.now.me.0.passes in
    let other = first_pass c.args.other.me.0.passes in
    let both : c.join_seat.new.seat.me ≡ (idle (pass ∷ other ∷ []), []) =
    c.join_seat.ensures.2
    ∙ (ap (λ m. (joined m.0 c.args.other.me.0, m.1)) c.requires.seat
    ∙ ap (λ m. (joined (idle (pass ∷ [])) m.0, [])) c.requires.other) in
    let shown : IsShown c.join_seat.new.seat.me c.load-seen.result c.load-seen.new.seat.me = c.load-seen.ensures.2 in
    let after : c.load-seen.new.seat.me ≡ (idle (first_shown shown.journal (pass ∷ other ∷ [])), []) =
    shown.seat ∙ ap (λ m. (idle (first_shown shown.journal m.0.passes), m.1)) both in
    let seen = subst (Every (λ view. HasSeen shown.journal view.share view)) (ap (λ m. m.0.passes) both) shown.seen in
    record {
      journal = shown.journal;
      count = shown.count;
      mine_is = c.split_seat-mine.ensures.4 ∙ ap (λ m. (dealt m.0, [])) after;
      theirs_is = c.split_seat-mine.ensures.2 ∙ ap (λ m. (undealt m.0, m.1)) after;
      seen = seen.0;
      seen_beside = seen.1.0;
    }
