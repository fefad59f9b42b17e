-- The ports are fresh, and they may go to other threads.
use denote.Exit.{yes}
use denote.Param.{param}
use denote.Param.Send.{IsSend, arg_send, param_send, sendable, shr_send}
use denote.Param.SendFields.{as_row_send, declared_send}
use denote.RattleType.{RattleType}
use denote.Ref.{NamedLft}
use denote.Struct.Field.{row_field, shr_ref_field, u64-field}
use Rattle.std.proofs.Common.{◌≡◌, ℕ, List, length, ap, sym, ◌∙◌, subst}
use Rattle.std.specs.List.{AllZip}
use Rattle.std.proofs.lemmas.Slice.Zip.{AllZip-long}
use Rattle.shared_directory.proofs.Sent.{desk_send}
use Rattle.sync_provider.specs.Ports.{PortState}
use Rattle.sync_drill.proofs.Lists.{each-zip}
use Rattle.sync_drill.specs.Drilled.{AreFresh, IsFreshPort}
use Rattle.desk_tests.specs.contracts.meeting_port.Meeting as Meeting
use Rattle.desk_tests.specs.contracts.meeting_port.MeetingPort as MeetingPort
use Rattle.desk_tests.specs.contracts.meeting_port.Role as Role
use Rattle.drill_directory.proofs.FreshPorts.{all_fresh}
use Rattle.desk_tests.proofs.meeting_port.Meeting.TheSendSync as meetings
use Rattle.desk_tests.proofs.meeting_port.Role.TheSendSync as roles
use Rattle.desk_tests.proofs.sync_drill_tests.drilled_meeting_at.Goals as goal
use Rattle.desk_tests.proofs.sync_drill_tests.drilled_meeting_at.Lts as lts

-- ports that know what fresh ones know are fresh
fresh_again : {P W H : Type 0} (home : P → H) (state : P → PortState) (around : W → H) (around_state : W → PortState) (ports : List P) (rounds : List W)
    → AllZip (λ port round. (around round ≡ home port) × (around_state round ≡ state port)) ports rounds → AreFresh home state ports → AreFresh around around_state rounds
fresh_again {P} {W} {H} home state around around_state ports rounds all fresh =
    let many : length rounds ≡ length ports = AllZip-long (λ (port : P) (round : W). (around round ≡ home port) × (around_state round ≡ state port)) ports rounds all in
    record {
      one_home = fresh.one_home;
      homes = each-zip (λ (n : ℕ) (port : P). home port ≡ fresh.one_home) (λ (port : P) (round : W). (around round ≡ home port) × (around_state round ≡ state port))
          (λ (n : ℕ) (round : W). around round ≡ fresh.one_home) 0 ports rounds (λ n port round is same. same.0 ∙ is) fresh.homes all;
      states = each-zip (λ (n : ℕ) (port : P). IsFreshPort n (length ports) (state port)) (λ (port : P) (round : W). (around round ≡ home port) × (around_state round ≡ state port))
          (λ (n : ℕ) (round : W). IsFreshPort n (length rounds) (around_state round)) 1 ports rounds
          (λ n port round is same. subst (λ (k : ℕ). IsFreshPort n k (around_state round)) (sym many) (subst (IsFreshPort n (length ports)) (sym same.1) is)) fresh.states all;
    }

-- a port at which writers meet may go to another thread, where the port may
meeting_port_send : (a : NamedLft) (P : RattleType) → IsSend P → IsSend (MeetingPort.the_row a P)
meeting_port_send a P p =
    declared_send (MeetingPort.the_type a P) (
      as_row_send (row_field P) p,
      (
        as_row_send (shr_ref_field a Meeting.the_row tt) (shr_send a.mir a.lft Meeting.the_row meetings.the_sync),
        (as_row_send Role.the_field roles.the_field_send, (as_row_send u64-field (search sendable depth 20), tt)),
      ),
    )

pub desks_of-requires : goal.desks_of-requires
desks_of-requires g c = c.requires.new

pub drilled_at-requires-send-P : goal.drilled_at-requires-send-P
drilled_at-requires-send-P g c κs within =
    param_send 1 (lts.arg-5-1 g.row.R g.R.laws g.R.Threads-dict g.R.Wait-dict κs)
    (arg_send _ yes _ (meeting_port_send _ _ (desk_send _ (param 0 g.row.R) c.type_bounds.sync-R)))

pub drilled_at-requires-clause-plan : goal.drilled_at-requires-clause-plan
drilled_at-requires-clause-plan g c κs within = c.requires.plan

pub drilled_at-requires-clause-count : goal.drilled_at-requires-clause-count
drilled_at-requires-clause-count g c κs within =
    AllZip-long _ c.in_ok-desks.desks.items c.in_ok-ports.ports.items c.in_ok-ports.ensures
    ∙ AllZip-long _ c.args.passes.items c.in_ok-desks.desks.items c.in_ok-desks.ensures ∙ c.requires.count

pub drilled_at-requires-clause-fresh : goal.drilled_at-requires-clause-fresh
drilled_at-requires-clause-fresh g c κs within =
    let many = AllZip-long _ c.args.passes.items c.in_ok-desks.desks.items c.in_ok-desks.ensures in
    fresh_again _ _ _ _ c.in_ok-desks.desks.items c.in_ok-ports.ports.items c.in_ok-ports.ensures
    (all_fresh _ _ c.args.directory.now c.args.passes.items c.in_ok-desks.desks.items many c.requires.new c.in_ok-desks.ensures)
