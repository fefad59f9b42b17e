-- As many as the map has pairs.
use Rattle.std.proofs.Common.{◌∙◌, ap, length, sym}
use Rattle.std.proofs.lemmas.Map.Entries.{length-keys_of}
use Rattle.sync_provider.proofs.changed_set.ChangedSet.len.Goals as goal

pub returns : goal.returns
returns c = c.len.ensures.value ∙ sym (length-keys_of c.self.inside.uuids) ∙ ap length c.self.view_is
