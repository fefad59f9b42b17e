-- A consumer of a drill and its half that takes may go to other threads: this is shown of each from
-- its fields.
use denote.RattleType.{RattleType}
use denote.Param.{param}
use denote.Ref.{NamedLft}
use denote.Struct.Declared.{Declared, row}
use denote.Struct.Field.{bool-field, shr_ref_field, u32-field}
use denote.Struct.Tuple.{type_at}
use denote.Param.Send.{IsSend, IsSync, sendable, shr_send}
use denote.Param.SendFields.{as_row_send, declared_send}
use Rattle.std.proofs.Common.{ℕ, List, [], ◌∷◌}
use Rattle.std.specs.contracts.alloc.Global as Global
use Rattle.link_rings.proofs.ends.RingConsumer.TheSendSync as ends
use Rattle.sync_consumer.proofs.Sent.{consumer_send}
use Rattle.sync_drill.proofs.events.DrillEvents.TheSendSync as events
use Rattle.sync_drill.proofs.handing_out.HandingOut.TheSendSync as handings
use Rattle.sync_drill.specs.contracts.events.DrillEvents as DrillEvents
use Rattle.sync_drill.specs.contracts.following.Following as Following
use Rattle.sync_drill.specs.contracts.handing_out.HandingOut as HandingOut
use Rattle.sync_drill.specs.contracts.taking.Taking as Taking

-- ---- a consumer of a drill

-- its half that takes may go to another thread
pub taking_send : IsSend Taking.the_row
taking_send =
    declared_send Taking.the_type (
      as_row_send Global.the_field (search sendable depth 20),
      (
        as_row_send u32-field (search sendable depth 20),
        (consumer_send, (ends.the_send, (as_row_send bool-field (search sendable depth 20), tt))),
      ),
    )

-- so may all of it, where its port may
pub following_send : (P : RattleType) → IsSend P → IsSend (Following.the_row P)
following_send P port =
    declared_send (Following.the_type P) (as_row_send (HandingOut.the_field P) (handings.the_field_send P port), (taking_send, tt))

module _ (R : RattleType) (r : IsSync (param 0 R)) (name : List ℕ) (a b : NamedLft) where
  -- what the closure has that takes: its half, the runtime, and what the threads let each other know
  abbrev taking_given : Declared
  taking_given = type_at name (Taking.the_row ∷ (shr_ref_field a (param 0 R) tt).row ∷ (shr_ref_field b DrillEvents.the_row tt).row ∷ [])

  -- what the thread that takes is given may go there
  pub taking_given_send : IsSend (row taking_given)
  taking_given_send =
      declared_send taking_given (taking_send, (shr_send a.mir a.lft (param 0 R) r, (shr_send b.mir b.lft DrillEvents.the_row events.the_sync, tt)))
