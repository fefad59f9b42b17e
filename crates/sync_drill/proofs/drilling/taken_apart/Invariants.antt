use Rattle.std.proofs.Common.{◌≡◌, ◌++◌, map}
use Rattle.sync_drill.specs.Followed.{copy_of, ends_of, port_of}
use Rattle.sync_drill.proofs.drilling.taken_apart.Given as goal

-- the parts of those so far
abbrev pub invariant-loop-following : goal.invariant-loop-following
invariant-loop-following g l = record {
  ports : l.ports.items ≡ map port_of l.yielded;
  copies : l.copies.items ≡ map copy_of l.yielded;
  rings : l.rings.items ≡ map ends_of l.yielded;
  all : l.fn.followings.items ≡ l.yielded ++ l.following-iterator.rest.items;
}
