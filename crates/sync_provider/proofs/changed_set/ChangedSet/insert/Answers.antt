-- A key more.
use Rattle.std.proofs.Common.{◌≡◌, ◌∙◌, ap}
use Rattle.std.specs.BTreeMap.{insert_entry}
use Rattle.std.specs.BTreeSet.{insert_key}
use Rattle.std.specs.Map.{keys_of}
use Rattle.std.specs.Ordering.{nat_cmp}
use Rattle.std.proofs.lemmas.Result.{on_ok_weaker}
use Rattle.sync_provider.proofs.KeptChanges.{key_put}
use Rattle.sync_provider.proofs.changed_set.ChangedSet.insert.Goals as goal

pub returns : goal.returns
returns c =
    let was = c.self.inside.uuids in
    on_ok_weaker c.insert.result
    (λ (is : c.insert.new.self ≡ insert_entry nat_cmp was c.args.uuid tt). ap keys_of is ∙ key_put was c.args.uuid tt ∙ ap (λ keys. insert_key nat_cmp keys c.args.uuid) c.self.view_is)
    c.insert.ensures.ok
