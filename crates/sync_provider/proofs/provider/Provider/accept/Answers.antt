-- What a search that is asked for leaves of the journal.
use Rattle.std.proofs.Common.{arith}
use Rattle.entry_tree.specs.Selection.{search_of}
use Rattle.sync_provider.proofs.JournalReplies.{opened_is_open, opened_spec, unopened_seen, refused_seen, opened_seen}
use Rattle.sync_provider.proofs.provider.Provider.accept.Goals as goal

pub opened-opened-requires-clause-is_open : goal.opened-opened-requires-clause-is_open
opened-opened-requires-clause-is_open c = opened_is_open c.self.inside.directory c.args.ask _ _ _ c.in-Opened.ensures.leaves

pub opened-opened-requires-clause-spec : goal.opened-opened-requires-clause-spec
opened-opened-requires-clause-spec c = opened_spec c.self.inside.directory c.args.ask _ _ _ c.in-Opened.ensures.leaves (search_of c.in-Ok.spec) c.in-Ok.ensures

pub invariant_of-self-in-Opened : goal.invariant_of-self-in-Opened
invariant_of-self-in-Opened c =
    (opened_seen c.args.self.now c.self.inside.directory c.self.inside.journal c.reserve.new.self c.self.view_is c.self.invariant c.in-Ok-reserve.ensures.same c.args.ask _ _ _
    c.in-Opened.ensures.leaves _ _ c.opened-opened.ensures c.open.ensures
    (omega (arith, c.most_open.ensures, c.in-Ok-reserve.ensures.room))).kept

pub returns-in-Opened-clause-journal : goal.returns-in-Opened-clause-journal
returns-in-Opened-clause-journal c =
    (opened_seen c.args.self.now c.self.inside.directory c.self.inside.journal c.reserve.new.self c.self.view_is c.self.invariant c.in-Ok-reserve.ensures.same c.args.ask _ _ _
    c.in-Opened.ensures.leaves _ _ c.opened-opened.ensures c.open.ensures
    (omega (arith, c.most_open.ensures, c.in-Ok-reserve.ensures.room))).replies

pub invariant_of-self-in-Refused : goal.invariant_of-self-in-Refused
invariant_of-self-in-Refused c =
    (refused_seen c.args.self.now c.self.inside.directory c.self.inside.journal c.reserve.new.self c.self.view_is c.self.invariant c.in-Ok-reserve.ensures.same c.args.ask _ _
    c.in-Refused.ensures.leaves).kept

pub returns-in-Refused-clause-journal : goal.returns-in-Refused-clause-journal
returns-in-Refused-clause-journal c =
    (refused_seen c.args.self.now c.self.inside.directory c.self.inside.journal c.reserve.new.self c.self.view_is c.self.invariant c.in-Ok-reserve.ensures.same c.args.ask _ _
    c.in-Refused.ensures.leaves).replies

pub invariant_of-self-in-NoMemory : goal.invariant_of-self-in-NoMemory
invariant_of-self-in-NoMemory c =
    (unopened_seen c.args.self.now c.self.inside.directory c.self.inside.journal c.reserve.new.self c.self.view_is c.self.invariant c.in-Ok-reserve.ensures.same c.args.ask _
    c.in-NoMemory.ensures.leaves.state).kept

pub returns-in-NoMemory-clause-journal : goal.returns-in-NoMemory-clause-journal
returns-in-NoMemory-clause-journal c =
    (unopened_seen c.args.self.now c.self.inside.directory c.self.inside.journal c.reserve.new.self c.self.view_is c.self.invariant c.in-Ok-reserve.ensures.same c.args.ask _
    c.in-NoMemory.ensures.leaves.state).replies
