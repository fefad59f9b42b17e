use Rattle.std.proofs.Common.{rules, ◌≡◌, true, [], ◌∷◌, ◌++◌, refl, ap, sym, ◌∙◌}
use Rattle.sync_provider.specs.Gathering.{Gathered}
use Rattle.sync_provider.specs.Search.{messages_of}
use Rattle.sync_provider.specs.declared.refresh_item.RefreshItem.TheVariants as part
use Rattle.sync_provider.proofs.Sets.{turned, turned_already, message_more}
use Rattle.sync_provider.proofs.gathering.Gathering.turn_to_deletes.Goals as goal

pub returns-then-self : goal.returns-then-self
returns-then-self c = turned_already c.args.self.now (ap (λ (g : Gathered). g.deletes) (sym c.self.view_is) ∙ c.if-self.true) c.requires

pub returns : goal.returns
returns c =
    let was = c.self.inside in
    let new : Gathered = record { deletes = true; messages = messages_of c.push.new.self.items; names = was.names.items } in
    let parts : c.push.new.self.items ≡ was.parts.items ++ part.PresentPhaseEnds ∷ [] = search rules in
    turned c.args.self.now new (ap (λ (g : Gathered). g.deletes) (sym c.self.view_is) ∙ c.if-self.false) c.requires refl
    (message_more was.parts.items c.push.new.self.items part.PresentPhaseEnds c.args.self.now.messages parts (ap (λ (g : Gathered). g.messages) c.self.view_is))
    (ap (λ (g : Gathered). g.names) c.self.view_is)
