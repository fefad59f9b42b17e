use denote.Param.Send.{sendable}
use Rattle.std.proofs.Crossing.{crosses}
use Rattle.shared_directory.proofs.Sent.{directory_sync}
use Rattle.shared_directory.proofs.crossing.directories_are_shared.Goals as goal

pub shares-requires-sync-T : goal.shares-requires-sync-T
shares-requires-sync-T c = search (directory_sync, crosses, sendable) depth 20
