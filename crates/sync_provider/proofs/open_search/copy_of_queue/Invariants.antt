use Rattle.std.proofs.Common.{◌≡◌, take}
use Rattle.sync_provider.proofs.open_search.copy_of_queue.Given as goal

-- the messages so far are copied
abbrev pub invariant-loop-place : goal.invariant-loop-place
invariant-loop-place l = l.items.items ≡ take l.place l.queue.items
