-- What is at an identity is what is among them.
use Rattle.std.proofs.Common.{ap, ◌∙◌}
use Rattle.sync_model.specs.Stream.{among}
use Rattle.sync_consumer.proofs.Keyed.{has_key}
use Rattle.sync_consumer.proofs.named.Named.has.Goals as goal

pub returns : goal.returns
returns c = c.is_some.ensures ∙ has_key c.self.inside.uuids c.args.uuid c.get.result c.get.ensures ∙ ap (among c.args.uuid) c.self.view_is
