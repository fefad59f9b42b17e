use Rattle.std.proofs.Common.{◌≡◌, [], ◌∷◌, sym, refl, ap, ◌∙◌, subst, arith}
use Rattle.turn_cell.specs.Rule.{first_pass, idle, HasSeen}
use Rattle.turn_cell.specs.Steps.{dealt, first_shown}
use Rattle.turn_cell.specs.Passes.{view_of}
use Rattle.turn_cell.proofs.Dealt.{deals}
use Rattle.turn_cell.proofs.Placing.{continues}
use Rattle.turn_cell.proofs.cell.TurnCell.meet.Goals as goal

pub split_seat-theirs-requires : goal.split_seat-theirs-requires
split_seat-theirs-requires g c =
    let other = c.args.other.now in (
      c.requires.other,
      omega (arith, c.args.self.now.sized.0),
      rw other.idle (deals g.D.Journalled.journal g.D.Journalled.share _ _ _ (view_of other ∷ [])),
    )

pub meet_seats-mine-requires-clause-table : goal.meet_seats-mine-requires-clause-table
meet_seats-mine-requires-clause-table g c =
    (c.requires.pass, c.split_seat-theirs.ensures.3 ∙ c.requires.other, c.args.self.now.sized.0)

pub meet_seats-mine-requires-clause-seat : goal.meet_seats-mine-requires-clause-seat
meet_seats-mine-requires-clause-seat g c = c.args.pass.now.idle

pub meet_seats-mine-requires-clause-other : goal.meet_seats-mine-requires-clause-other
meet_seats-mine-requires-clause-other g c =
    let theirs : c.split_seat-theirs.result.me ≡ (idle (view_of c.args.other.now ∷ []), []) =
    c.split_seat-theirs.ensures.4 ∙ ap (λ m. (dealt m.0, [])) c.args.other.now.idle in
    rw theirs refl

-- ---- the other pass is as it was

pub invariant_of-other : goal.invariant_of-other
invariant_of-other g c =
    let other = c.args.other.now in
    let theirs : c.split_seat-theirs.result.me ≡ (idle (view_of other ∷ []), []) =
    c.split_seat-theirs.ensures.4 ∙ ap (λ m. (dealt m.0, [])) other.idle in
    let kept : c.replace-rest.result.me ≡ (idle (view_of other ∷ []), []) =
    ap (λ s. s.me) c.replace-rest.ensures.value
    ∙ (c.meet_seats-mine.ensures.met.theirs_is ∙ ap (λ m. (idle (first_pass m.0.passes ∷ []), [])) theirs) in
    record { idle = rw kept refl; numbered = rw kept other.numbered; looked = rw kept other.looked }

pub returns-clause-other : goal.returns-clause-other
returns-clause-other g c =
    let other = c.args.other.now in
    let theirs : c.split_seat-theirs.result.me ≡ (idle (view_of other ∷ []), []) =
    c.split_seat-theirs.ensures.4 ∙ ap (λ m. (dealt m.0, [])) other.idle in
    let kept : c.replace-rest.result.me ≡ (idle (view_of other ∷ []), []) =
    ap (λ s. s.me) c.replace-rest.ensures.value
    ∙ (c.meet_seats-mine.ensures.met.theirs_is ∙ ap (λ m. (idle (first_pass m.0.passes ∷ []), [])) theirs) in
    rw kept refl

-- ---- the pass has seen the journal

pub invariant_of-pass : goal.invariant_of-pass
invariant_of-pass g c =
    let pass = c.args.pass.now in
    let met = c.meet_seats-mine.ensures.met in
    let mine : c.replace-rest.new.dest.me ≡ (idle (first_shown met.journal (view_of pass ∷ [])), []) =
    ap (λ s. s.me) c.replace-rest.ensures.after ∙ met.mine_is in
    record { idle = rw mine refl; numbered = rw mine pass.numbered; looked = rw mine (sym met.count) }

pub returns-clause-passes : goal.returns-clause-passes
returns-clause-passes g c =
    let pass = c.args.pass.now in
    let met = c.meet_seats-mine.ensures.met in
    let mine : c.replace-rest.new.dest.me ≡ (idle (first_shown met.journal (view_of pass ∷ [])), []) =
    ap (λ s. s.me) c.replace-rest.ensures.after ∙ met.mine_is in
    rw mine refl

pub returns-clause-seen : goal.returns-clause-seen
returns-clause-seen g c =
    let pass = c.args.pass.now in
    let met = c.meet_seats-mine.ensures.met in
    let mine : c.replace-rest.new.dest.me ≡ (idle (first_shown met.journal (view_of pass ∷ [])), []) =
    ap (λ s. s.me) c.replace-rest.ensures.after ∙ met.mine_is in
    rw mine (continues met.journal (view_of pass).share (view_of pass) met.seen)

pub returns-clause-seen_beside : goal.returns-clause-seen_beside
returns-clause-seen_beside g c =
    let pass = c.args.pass.now in
    let other = c.args.other.now in
    let met = c.meet_seats-mine.ensures.met in
    let mine : c.replace-rest.new.dest.me ≡ (idle (first_shown met.journal (view_of pass ∷ [])), []) =
    ap (λ s. s.me) c.replace-rest.ensures.after ∙ met.mine_is in
    let theirs : c.split_seat-theirs.result.me ≡ (idle (view_of other ∷ []), []) =
    c.split_seat-theirs.ensures.4 ∙ ap (λ m. (dealt m.0, [])) other.idle in
    let seen : HasSeen met.journal (view_of other).share (view_of other) =
    subst (λ view. HasSeen met.journal view.share view) (ap (λ m. first_pass m.0.passes) theirs) met.seen_beside in
    rw mine (continues met.journal (view_of other).share (view_of other) seen)
