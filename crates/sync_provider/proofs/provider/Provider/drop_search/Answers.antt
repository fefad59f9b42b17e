-- What the end of a search that is dropped leaves of the journal.
use Rattle.sync_provider.proofs.JournalHandOuts.{undropped_seen, dropped_seen}
use Rattle.sync_provider.proofs.provider.Provider.drop_search.Goals as goal

pub invariant_of-self : goal.invariant_of-self
invariant_of-self c =
    (undropped_seen c.args.self.now c.self.inside.directory c.self.inside.journal c.self.view_is c.self.invariant c.args.number _ c.if-not-drop_search.ensures.leaves).kept

pub returns-then-not-drop_search-clause-journal : goal.returns-then-not-drop_search-clause-journal
returns-then-not-drop_search-clause-journal c =
    (undropped_seen c.args.self.now c.self.inside.directory c.self.inside.journal c.self.view_is c.self.invariant c.args.number _ c.if-not-drop_search.ensures.leaves).replies

pub invariant_of-self-2 : goal.invariant_of-self-2
invariant_of-self-2 c =
    (dropped_seen c.args.self.now c.self.inside.directory c.self.inside.journal c.self.view_is c.self.invariant c.args.number _ c.if-not-drop_search.ensures.leaves
    c.if-not-drop_search.ensures.gone _ _ _ c.handed-handed.ensures c.over_at-over.ensures c.writes-writes.ensures.value _ c.end.ensures).kept

pub returns-clause-journal : goal.returns-clause-journal
returns-clause-journal c =
    (dropped_seen c.args.self.now c.self.inside.directory c.self.inside.journal c.self.view_is c.self.invariant c.args.number _ c.if-not-drop_search.ensures.leaves
    c.if-not-drop_search.ensures.gone _ _ _ c.handed-handed.ensures c.over_at-over.ensures c.writes-writes.ensures.value _ c.end.ensures).replies
