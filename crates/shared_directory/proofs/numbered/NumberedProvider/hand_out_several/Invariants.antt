use Rattle.std.proofs.Common.{◌≡◌, ◌≤◌, vec_len, vec_capacity}
use Rattle.shared_directory.proofs.Together.{AreMessages}
use Rattle.shared_directory.proofs.numbered.NumberedProvider.hand_out_several.Given as goal

-- each reply so far was a message
abbrev pub invariant-loop : goal.invariant-loop
invariant-loop l = record {
  len : vec_len l.messages ≡ l.counter;
  fits : l.most ≤ vec_capacity l.messages;
  given : AreMessages l.number l.search l.fn.self l.messages.items l.self;
}
