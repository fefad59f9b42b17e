-- What is shared is the entry.
use Rattle.std.proofs.Common.{◌∙◌, sym}
use Rattle.std.proofs.lemmas.Bool.{eqb-true}
use Rattle.std.proofs.lemmas.Result.{on_ok_weaker}
use Rattle.std.specs.BTreeMap.{insert_entry}
use Rattle.std.specs.Cmp.{unsigned_ties}
use Rattle.std.specs.Ordering.{nat_cmp}
use Rattle.entry_writes.proofs.Same.{one_entry-true}
use Rattle.entry_tree.proofs.put.put_entry.Goals as goal

pub returns-in-Some-clause-ok : goal.returns-in-Some-clause-ok
returns-in-Some-clause-ok c =
    let uuid = sym (eqb-true _ _ (unsigned_ties c.args.entry.now.uuid c.in-Some.pair.now.key.value ∙ c.in-Some.ensures.key)) in
    let same = sym c.value.ensures ∙ one_entry-true _ _ (sym c.is_one_entry.ensures ∙ c.if-is_one_entry.true) in
    on_ok_weaker c.insert_shared.result
    (λ is. is ∙ (λ i. insert_entry nat_cmp c.args.entries.now (uuid i) (same i)))
    c.insert_shared.ensures.ok
