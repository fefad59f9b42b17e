use Rattle.std.proofs.Common.{◌≡◌, ◌≤◌, None, vec_len, vec_capacity}
use Rattle.sync_provider.specs.Journal.{port_state}
use Rattle.sync_provider.specs.Ports.{MessagesReply}
use Rattle.sync_provider.proofs.provider.Provider.hand_out_several.Given as goal

-- each reply so far was a message
abbrev pub invariant-loop : goal.invariant-loop
invariant-loop l = record {
  len : vec_len l.messages ≡ l.counter;
  fits : l.most ≤ vec_capacity l.messages;
  replies : MessagesReply (port_state l.fn.self) l.number l.messages.items None (port_state l.self);
}
