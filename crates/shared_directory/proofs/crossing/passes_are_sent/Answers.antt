use denote.Param.Send.{sendable}
use Rattle.std.proofs.Crossing.{crosses}
use Rattle.shared_directory.proofs.Sent.{pass_send}
use Rattle.shared_directory.proofs.crossing.passes_are_sent.Goals as goal

pub sends-requires-send-T : goal.sends-requires-send-T
sends-requires-send-T c = search (pass_send, crosses, sendable) depth 20
