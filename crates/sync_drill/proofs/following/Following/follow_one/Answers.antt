use Rattle.std.proofs.Common.{sym, ◌∙◌}
use Rattle.std.proofs.lemmas.Bool.{false≢true}
use Rattle.sync_drill.proofs.FollowingSteps.{following-twice, handing_goes, ring_goes}
use Rattle.sync_drill.proofs.HandingSteps.{nothing_fine, offered_fine}
use Rattle.sync_drill.proofs.following.Following.follow_one.Goals as goal

pub step-requires : goal.step-requires
step-requires g c = c.requires.halves.0

-- one was handed out, and it is taken

pub take_what_is_left-requires : goal.take_what_is_left-requires
take_what_is_left-requires g c =
    let old = c.args.self.now in
    let new = c.step.new.self in
    record {
      ring =
          ring_goes g.P.Port.home g.P.Port.state old (record old { handing = new })
          (handing_goes g.P.Port.home g.P.Port.state old new c.step.ensures.goes c.requires.halves.1) c.requires.ring;
      halves = (c.step.ensures.handing (offered_fine c.step.result c.in-Offered.is), c.requires.halves.1);
    }

pub returns-in_err-take_what_is_left-in-Offered-clause-goes : goal.returns-in_err-take_what_is_left-in-Offered-clause-goes
returns-in_err-take_what_is_left-in-Offered-clause-goes g c =
    let old = c.args.self.now in
    let mid = record old { handing = c.step.new.self } in
    following-twice g.P.Port.home g.P.Port.state old mid c.take_what_is_left.new.self
    (handing_goes g.P.Port.home g.P.Port.state old c.step.new.self c.step.ensures.goes c.requires.halves.1) c.take_what_is_left.ensures.goes

pub returns-in_ok-take_what_is_left-in-Offered-clause-goes : goal.returns-in_ok-take_what_is_left-in-Offered-clause-goes
returns-in_ok-take_what_is_left-in-Offered-clause-goes g c =
    let old = c.args.self.now in
    let mid = record old { handing = c.step.new.self } in
    following-twice g.P.Port.home g.P.Port.state old mid c.take_what_is_left.new.self
    (handing_goes g.P.Port.home g.P.Port.state old c.step.new.self c.step.ensures.goes c.requires.halves.1) c.take_what_is_left.ensures.goes

pub returns-in_ok-take_what_is_left-in-Offered-clause-done : goal.returns-in_ok-take_what_is_left-in-Offered-clause-done
returns-in_ok-take_what_is_left-in-Offered-clause-done g c = λ none. absurd (false≢true (sym none))

-- nothing was handed out

pub returns-in-Full-clause-goes : goal.returns-in-Full-clause-goes
returns-in-Full-clause-goes g c = handing_goes g.P.Port.home g.P.Port.state c.args.self.now c.step.new.self c.step.ensures.goes c.requires.halves.1

pub returns-in-Nothing-clause-goes : goal.returns-in-Nothing-clause-goes
returns-in-Nothing-clause-goes g c = handing_goes g.P.Port.home g.P.Port.state c.args.self.now c.step.new.self c.step.ensures.goes c.requires.halves.1

pub returns-in-Nothing-clause-even : goal.returns-in-Nothing-clause-even
returns-in-Nothing-clause-even g c =
    let old = c.args.self.now in
    let new = c.step.new.self in
    record {
      ring =
          ring_goes g.P.Port.home g.P.Port.state old (record old { handing = new })
          (handing_goes g.P.Port.home g.P.Port.state old new c.step.ensures.goes c.requires.halves.1) c.requires.ring;
      halves = (c.step.ensures.handing (nothing_fine c.step.result c.in-Nothing.is), c.requires.halves.1);
      taken_is = c.requires.taken_is ∙ sym (c.step.ensures.still c.in-Nothing.is);
    }

pub returns-in-Nothing-clause-done : goal.returns-in-Nothing-clause-done
returns-in-Nothing-clause-done g c = λ none. c.step.ensures.nothing c.in-Nothing.is

pub returns-in-Failed-clause-goes : goal.returns-in-Failed-clause-goes
returns-in-Failed-clause-goes g c = handing_goes g.P.Port.home g.P.Port.state c.args.self.now c.step.new.self c.step.ensures.goes c.requires.halves.1
