use Rattle.std.proofs.Common.{rules, ◌≡◌, [], ◌∷◌, ◌++◌, ap}
use Rattle.sync_provider.specs.Gathering.{Gathered}
use Rattle.sync_provider.specs.Search.{messages_of}
use Rattle.sync_provider.specs.declared.refresh_item.RefreshItem.TheVariants as part
use Rattle.sync_provider.proofs.Sets.{gathers_entry, message_more}
use Rattle.sync_provider.proofs.gathering.Gathering.send.Goals as goal

pub returns : goal.returns
returns c =
    let was = c.self.inside in
    let new : Gathered = record { deletes = was.deletes; messages = messages_of c.push.new.self.items; names = was.names.items } in
    let parts : c.push.new.self.items ≡ was.parts.items ++ part.Whole c.args.entry ∷ [] = search rules in
    gathers_entry c.args.self.now new c.args.entry (ap (λ (g : Gathered). g.deletes) c.self.view_is)
    (message_more was.parts.items c.push.new.self.items (part.Whole c.args.entry) c.args.self.now.messages parts (ap (λ (g : Gathered). g.messages) c.self.view_is))
    (ap (λ (g : Gathered). g.names) c.self.view_is)
