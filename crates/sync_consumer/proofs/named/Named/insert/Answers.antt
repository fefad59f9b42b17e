-- The identities with one more.
use Rattle.std.proofs.Common.{◌∙◌, ap}
use Rattle.std.specs.BTreeSet.{insert_key}
use Rattle.std.specs.Map.{keys_of}
use Rattle.std.specs.Ordering.{nat_cmp}
use Rattle.sync_consumer.proofs.Keyed.{keys-staged_each}
use Rattle.sync_consumer.proofs.named.Named.insert.Goals as goal

pub returns : goal.returns
returns c =
    ap keys_of c.in_ok-insert.ensures.ok
    ∙ keys-staged_each c.self.inside.uuids c.args.uuid _
    ∙ ap (λ uuids. insert_key nat_cmp uuids c.args.uuid) c.self.view_is
