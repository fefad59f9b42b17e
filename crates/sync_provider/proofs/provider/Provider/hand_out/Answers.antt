-- What a hand-out leaves of the journal.
use Rattle.std.proofs.Common.{refl, sym, subst}
use Rattle.sync_provider.specs.Journal.{port_state}
use Rattle.sync_provider.specs.Ports.{HandOutReplies}
use Rattle.sync_provider.specs.declared.handed.Handed.TheVariants as turns
use Rattle.sync_provider.proofs.JournalHandOuts.{full_leaves, quiet_seen, message_seen, end_seen}
use Rattle.sync_provider.proofs.provider.Provider.hand_out.Goals as goal

pub returns-then-not-can_count-clause-journal : goal.returns-then-not-can_count-clause-journal
returns-then-not-can_count-clause-journal c =
    let p = c.self.inside.directory in
    subst (λ v. HandOutReplies (port_state c.args.self.now) c.args.number turns.NoMemory (port_state v)) c.self.view_is
    (quiet_seen c.args.self.now p c.self.inside.journal c.self.view_is c.self.invariant c.args.number turns.NoMemory p (full_leaves p c.args.number (sym c.if-has_message.ensures)) refl).replies

pub invariant_of-self : goal.invariant_of-self
invariant_of-self c =
    (message_seen c.args.self.now c.self.inside.directory c.self.inside.journal c.self.view_is c.self.invariant c.args.number _ _ c.in-Message.ensures.leaves _ refl _ c.count.ensures).kept

pub returns-in-Message-clause-journal : goal.returns-in-Message-clause-journal
returns-in-Message-clause-journal c =
    (message_seen c.args.self.now c.self.inside.directory c.self.inside.journal c.self.view_is c.self.invariant c.args.number _ _ c.in-Message.ensures.leaves _ refl _ c.count.ensures).replies

pub invariant_of-self-in-Ended : goal.invariant_of-self-in-Ended
invariant_of-self-in-Ended c =
    (end_seen c.args.self.now c.self.inside.directory c.self.inside.journal c.self.view_is c.self.invariant c.args.number _ _ c.in-Ended.ensures.leaves _ _ refl
    c.in-Ended.ensures.gone _ _ _ c.handed-handed.ensures c.over_at-over.ensures c.writes-writes.ensures.value _ c.end.ensures).kept

pub returns-in-Ended-clause-journal : goal.returns-in-Ended-clause-journal
returns-in-Ended-clause-journal c =
    (end_seen c.args.self.now c.self.inside.directory c.self.inside.journal c.self.view_is c.self.invariant c.args.number _ _ c.in-Ended.ensures.leaves _ _ refl
    c.in-Ended.ensures.gone _ _ _ c.handed-handed.ensures c.over_at-over.ensures c.writes-writes.ensures.value _ c.end.ensures).replies

pub returns-in-Nothing-clause-journal : goal.returns-in-Nothing-clause-journal
returns-in-Nothing-clause-journal c =
    (quiet_seen c.args.self.now c.self.inside.directory c.self.inside.journal c.self.view_is c.self.invariant c.args.number turns.Nothing _ c.in-Nothing.ensures.leaves refl).replies

pub returns-in-NoMemory-clause-journal : goal.returns-in-NoMemory-clause-journal
returns-in-NoMemory-clause-journal c =
    (quiet_seen c.args.self.now c.self.inside.directory c.self.inside.journal c.self.view_is c.self.invariant c.args.number turns.NoMemory _ c.in-NoMemory.ensures.leaves refl).replies
