-- What each step of the end asks for, and what all of them leave.
use Rattle.std.proofs.Common.{length, ap, ◌∙◌, subst, arith}
use Rattle.std.proofs.lemmas.List.{length-map}
use Rattle.std.proofs.lemmas.Slice.Zip.{AllZip-long}
use Rattle.sync_drill.specs.Followed.{copy_of}
use Rattle.sync_drill.specs.Following.{IsBroughtUp}
use Rattle.sync_drill.specs.Summing.{IsSummary}
use Rattle.sync_drill.proofs.Ends.{AreSteps, beside_homes, beside_ports, is_drilled, is_printed, met_homes, met_shared, others_homes, others_ports, ports_homes, settle_may, settled_shared}
use Rattle.sync_drill.proofs.Summings.{whole-came}
use Rattle.sync_drill.proofs.drilling.finish.Goals as goal

pub meet_each-requires : goal.meet_each-requires
meet_each-requires g c = record {
  shared =
      met_shared g.P.Port.home g.P.Port.state c.args.plan.now c.requires.plan c.args.first c.args.others.items c.args.followings.items
      c.requires.worked;
  homes =
      met_homes g.P.Port.home g.P.Port.state c.args.plan.now c.requires.plan c.args.first c.args.others.items c.args.followings.items
      c.requires.worked;
}

pub settle_each-requires : goal.settle_each-requires
settle_each-requires g c =
    settle_may g.P.Port.home g.P.Port.state c.args.plan.now c.requires.plan c.args.first c.args.others.items c.args.followings.items
    c.requires.worked c.in_ok-pair.pair.0 c.in_ok-pair.ensures.home

pub meet_each-requires-2 : goal.meet_each-requires-2
meet_each-requires-2 g c =
    let met = c.in_ok-pair.pair.0 in
    let settled = c.in_ok-brought.brought.0 in
    record {
      shared =
          settled_shared g.P.Port.home g.P.Port.state c.args.plan.now c.requires.plan c.args.first c.args.others.items
          c.args.followings.items c.requires.worked met settled c.in_ok-pair.ensures.came c.in_ok-brought.ensures.first;
      homes =
          ports_homes g.P.Port.home g.P.Port.state c.args.plan.now c.requires.plan c.args.first c.args.others.items
          c.args.followings.items c.requires.worked met settled c.in_ok-brought.brought.1.items c.in_ok-parts.parts.0.items
          (c.in_ok-brought.ensures.first.its_home ∙ c.in_ok-pair.ensures.home) c.in_ok-brought.ensures.up c.in_ok-parts.ensures.ports;
    }

pub sum_up-requires : goal.sum_up-requires
sum_up-requires g c =
    omega (
      arith,
      ap length c.as_slice.ensures.value,
      ap length c.in_ok-parts.ensures.copies,
      length-map c.in_ok-brought.brought.1.items copy_of,
      AllZip-long (IsBroughtUp g.P.Port.home g.P.Port.state (g.P.Port.state c.in_ok-pair.pair.0)) c.args.followings.items c.in_ok-brought.brought.1.items
          c.in_ok-brought.ensures.up,
      c.requires.worked.counts.1,
      c.requires.plan.consumers.1,
    )

pub show_each-requires : goal.show_each-requires
show_each-requires g c =
    let home = c.sum_up.ensures.home ∙ c.in_ok-joined.ensures.home ∙ c.in_ok-brought.ensures.first.its_home ∙ c.in_ok-pair.ensures.home in
    record {
      shared =
          others_ports g.P.Port.home g.P.Port.state c.args.plan.now c.requires.plan c.args.first c.args.others.items
          c.args.followings.items c.requires.worked (g.P.Port.state c.in_ok-pair.pair.0) c.in_ok-pair.pair.1.items c.in_ok-pair.ensures.seen;
      homes =
          others_homes g.P.Port.home g.P.Port.state c.args.plan.now c.requires.plan c.args.first c.args.others.items
          c.args.followings.items c.requires.worked (g.P.Port.state c.in_ok-pair.pair.0) c.in_ok-pair.pair.1.items c.sum_up.new.first home
          c.in_ok-pair.ensures.seen;
    }

pub show_each-requires-2 : goal.show_each-requires-2
show_each-requires-2 g c =
    let home = c.in_ok-first_round.ensures.first.its_home ∙ c.sum_up.ensures.home ∙ c.in_ok-joined.ensures.home ∙ c.in_ok-brought.ensures.first.its_home
    ∙ c.in_ok-pair.ensures.home in
    record {
      shared =
          beside_ports g.P.Port.home g.P.Port.state c.args.plan.now c.requires.plan c.args.first c.args.others.items
          c.args.followings.items c.requires.worked c.in_ok-pair.pair.0 c.in_ok-joined.joined.0 c.in_ok-brought.brought.1.items
          c.in_ok-parts.parts.0.items c.in_ok-joined.joined.1.items c.in_ok-brought.ensures.up c.in_ok-parts.ensures.ports c.in_ok-joined.ensures.seen;
      homes =
          beside_homes g.P.Port.home g.P.Port.state c.args.plan.now c.requires.plan c.args.first c.args.others.items
          c.args.followings.items c.requires.worked c.in_ok-pair.pair.0 c.in_ok-joined.joined.0 c.in_ok-first_round.first_round.0
          c.in_ok-brought.brought.1.items c.in_ok-parts.parts.0.items c.in_ok-joined.joined.1.items home c.in_ok-brought.ensures.up
          c.in_ok-parts.ensures.ports c.in_ok-joined.ensures.seen;
    }

pub returns-clause-summary : goal.returns-clause-summary
returns-clause-summary g c =
    let home = g.P.Port.home in
    let state = g.P.Port.state in
    let pair = c.in_ok-pair.pair in
    let brought = c.in_ok-brought.brought in
    let parts = c.in_ok-parts.parts in
    let joined = c.in_ok-joined.joined in
    let summed = c.sum_up.new.first in
    let first_round = c.in_ok-first_round.first_round in
    let second_round = c.in_ok-second_round.second_round in
    let steps : AreSteps home state c.args.first pair.0 brought.0 joined.0 summed first_round.0 second_round.0 c.args.others.items pair.1.items first_round.1.items
    c.args.followings.items brought.1.items parts.0.items joined.1.items second_round.1.items =
    record {
      met_home = c.in_ok-pair.ensures.home;
      met_came = c.in_ok-pair.ensures.came;
      met_seen = c.in_ok-pair.ensures.seen;
      settled_same = c.in_ok-brought.ensures.first;
      settled_up = c.in_ok-brought.ensures.up;
      ports_are = c.in_ok-parts.ensures.ports;
      seen_home = c.in_ok-joined.ensures.home;
      seen_came = c.in_ok-joined.ensures.came;
      seen_seen = c.in_ok-joined.ensures.seen;
      summed_home = c.sum_up.ensures.home;
      summed_came = whole-came (state joined.0) (state summed) c.in_ok-summary.ensures.text.line c.in_ok-summary.ensures.text.first;
      shown_same = c.in_ok-first_round.ensures.first;
      shown_met = c.in_ok-first_round.ensures.others;
      last_same = c.in_ok-second_round.ensures.first;
      last_met = c.in_ok-second_round.ensures.others;
    } in
    is_printed home state c.args.plan.now c.requires.plan c.args.first c.args.others.items c.args.followings.items c.requires.worked
    pair.0 brought.0 joined.0 summed first_round.0 second_round.0 pair.1.items first_round.1.items brought.1.items parts.0.items joined.1.items
    second_round.1.items steps c.in_ok-summary.summary.text parts.1.items
    (subst (λ copies. IsSummary (state joined.0) (state summed) copies c.in_ok-summary.summary.text) c.as_slice.ensures.value c.in_ok-summary.ensures.text)
    c.in_ok-parts.ensures.copies

pub returns-clause-drilled : goal.returns-clause-drilled
returns-clause-drilled g c =
    let home = g.P.Port.home in
    let state = g.P.Port.state in
    let pair = c.in_ok-pair.pair in
    let brought = c.in_ok-brought.brought in
    let parts = c.in_ok-parts.parts in
    let joined = c.in_ok-joined.joined in
    let summed = c.sum_up.new.first in
    let first_round = c.in_ok-first_round.first_round in
    let second_round = c.in_ok-second_round.second_round in
    let steps : AreSteps home state c.args.first pair.0 brought.0 joined.0 summed first_round.0 second_round.0 c.args.others.items pair.1.items first_round.1.items
    c.args.followings.items brought.1.items parts.0.items joined.1.items second_round.1.items =
    record {
      met_home = c.in_ok-pair.ensures.home;
      met_came = c.in_ok-pair.ensures.came;
      met_seen = c.in_ok-pair.ensures.seen;
      settled_same = c.in_ok-brought.ensures.first;
      settled_up = c.in_ok-brought.ensures.up;
      ports_are = c.in_ok-parts.ensures.ports;
      seen_home = c.in_ok-joined.ensures.home;
      seen_came = c.in_ok-joined.ensures.came;
      seen_seen = c.in_ok-joined.ensures.seen;
      summed_home = c.sum_up.ensures.home;
      summed_came = whole-came (state joined.0) (state summed) c.in_ok-summary.ensures.text.line c.in_ok-summary.ensures.text.first;
      shown_same = c.in_ok-first_round.ensures.first;
      shown_met = c.in_ok-first_round.ensures.others;
      last_same = c.in_ok-second_round.ensures.first;
      last_met = c.in_ok-second_round.ensures.others;
    } in
    is_drilled home state c.args.plan.now c.requires.plan c.args.first c.args.others.items c.args.followings.items c.requires.worked
    pair.0 brought.0 joined.0 summed first_round.0 second_round.0 pair.1.items first_round.1.items brought.1.items parts.0.items joined.1.items
    second_round.1.items steps c.in_ok-summary.summary.text parts.1.items
    (subst (λ copies. IsSummary (state joined.0) (state summed) copies c.in_ok-summary.summary.text) c.as_slice.ensures.value c.in_ok-summary.ensures.text)
    _ parts.2.items c.in_ok-insert.ensures.items
    c.in_ok-parts.ensures.copies c.in_ok-parts.ensures.rings
