-- The entry's CSN is counted up to.
use Rattle.std.proofs.Common.{◌≡◌, Some, None, ap, ◌∙◌}
use Rattle.csn_cookie.specs.Csn.{upto}
use Rattle.entry_tree.specs.declared.entry.Entry.{Entry}
use Rattle.entry_tree.specs.State.{entry_at}
use Rattle.directory_writes.specs.Directory.{csns}
use Rattle.directory_writes.proofs.directory.Directory.written_upto.Goals as goal

pub returns-in-Some : goal.returns-in-Some
returns-in-Some c = λ (e : Entry) found.
    let same : Some c.in-Some.entry.now ≡ Some e = c.in-Some.ensures.value ∙ ap (λ entries. entry_at entries c.args.uuid) c.tree.ensures ∙ found in
    let is : c.in-Some.entry.now ≡ e = cc in
    c.upto.ensures ∙ ap (λ (x : Entry). upto (csns c.args.self.now.state.writes) x.csn) is

pub returns-in-None : goal.returns-in-None
returns-in-None c = λ (e : Entry) found.
    let never : None ≡ Some e = c.in-None.ensures.value ∙ ap (λ entries. entry_at entries c.args.uuid) c.tree.ensures ∙ found in
    absurd (cc)
