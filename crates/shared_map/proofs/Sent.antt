-- A map may go to another thread, where its keys and values may, and threads may share them.
--
-- Its nodes hold themselves, so no fact beside them says so of them: here it is shown from their
-- fields.
use denote.RattleType.{RattleType}
use denote.Param.Send.{IsSend, IsSync, sendable}
use Rattle.std.specs.declared.cmp.Ord as ord
use Rattle.std.specs.declared.cmp.PartialEq as eq
use Rattle.std.specs.declared.cmp.PartialOrd as partial
use Rattle.std.proofs.Crossing.{Arc-send, Arc-sync}
use Rattle.shared_map.proofs.nodes.Nodes.TheLaws.TheKnot as nodes
use Rattle.shared_map.proofs.nodes.MapPair.TheSendSync as pairs
use Rattle.shared_map.specs.contracts.nodes.Nodes as Nodes
use Rattle.shared_map.specs.contracts.ordered.SharedMap as SharedMap

module _ (K V : RattleType) (sk : IsSend K) (yk : IsSync K) (sv : IsSend V) (yv : IsSync V) where
  nodes_send : IsSend (Nodes.the_field K V).row
  nodes_send = search (nodes.both_send-Nodes, pairs.the_field_send, pairs.the_field_sync, Arc-send, Arc-sync, sendable) depth 20

  -- a map may go to another thread
  pub map_send : (o : ord.Ghosts K.Denot) (e : eq.Ghosts K.Denot) (p : partial.Ghosts K.Denot) → IsSend (SharedMap.the_row K V o e p)
  map_send o e p = search (nodes_send, sendable) depth 20
