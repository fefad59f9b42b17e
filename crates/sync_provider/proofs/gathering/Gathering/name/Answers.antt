-- The name waits with the others, or goes with them.
use Rattle.std.proofs.Common.{rules, ◌≡◌, ◌<◌, ◌≤◌, [], ◌∷◌, ◌++◌, None, length, ap, ◌∙◌}
use Rattle.sync_model.specs.Message.SyncMessage.{IdSet}
use Rattle.sync_model.specs.Stream.{most_names}
use Rattle.sync_provider.specs.Gathering.{Gathered}
use Rattle.sync_provider.specs.Search.{messages_of}
use Rattle.sync_provider.specs.declared.refresh_item.RefreshItem.TheVariants as part
use Rattle.sync_provider.proofs.Sets.{gathers_name, gathers_set, message_more}
use Rattle.sync_provider.proofs.gathering.Gathering.name.Goals as goal

pub returns-in_ok-push-2 : goal.returns-in_ok-push-2
returns-in_ok-push-2 c =
    let was = c.self.inside in
    let parts = c.push-then-len-ge-MOST_NAMES.new.self.items in
    let new : Gathered = record { deletes = was.deletes; messages = messages_of parts; names = c.replace-full.new.dest.items } in
    let set : c.push.new.self.items ≡ was.names.items ++ c.args.uuid ∷ [] = search rules in
    let full : most_names ≤ length c.push.new.self.items = search rules in
    let more : parts ≡ was.parts.items ++ part.Names was.deletes c.push.new.self ∷ [] = search rules in
    let none : c.replace-full.new.dest.items ≡ [] = search rules in
    gathers_set c.args.self.now new c.args.uuid c.push.new.self.items (set ∙ ap (λ (g : Gathered). g.names ++ c.args.uuid ∷ []) c.self.view_is) full
    (ap (λ (g : Gathered). g.deletes) c.self.view_is)
    (message_more was.parts.items parts (part.Names was.deletes c.push.new.self) c.args.self.now.messages more (ap (λ (g : Gathered). g.messages) c.self.view_is)
    ∙ ap (λ (g : Gathered). c.args.self.now.messages ++ IdSet g.deletes c.push.new.self.items None ∷ []) c.self.view_is) none

pub returns-else-len-ge-MOST_NAMES : goal.returns-else-len-ge-MOST_NAMES
returns-else-len-ge-MOST_NAMES c =
    let was = c.self.inside in
    let new : Gathered = record { deletes = was.deletes; messages = messages_of was.parts.items; names = c.push.new.self.items } in
    let names : c.push.new.self.items ≡ was.names.items ++ c.args.uuid ∷ [] = search rules in
    let few : length c.push.new.self.items < most_names = search rules in
    gathers_name c.args.self.now new c.args.uuid (ap (λ (g : Gathered). g.deletes) c.self.view_is) (ap (λ (g : Gathered). g.messages) c.self.view_is)
    (names ∙ ap (λ (g : Gathered). g.names ++ c.args.uuid ∷ []) c.self.view_is) few
