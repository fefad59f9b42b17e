-- None is left, or all of them go.
use Rattle.std.proofs.Common.{rules, ◌≡◌, [], ◌∷◌, ◌++◌, None, arith, length, ap, sym, ◌∙◌}
use Rattle.std.specs.Prelude.{vec_len}
use Rattle.std.proofs.lemmas.Bool.{eqb-false, eqb-true}
use Rattle.sync_model.specs.Message.SyncMessage.{IdSet}
use Rattle.sync_provider.specs.Gathering.{Gathered}
use Rattle.sync_provider.specs.Search.{messages_of}
use Rattle.sync_provider.specs.declared.refresh_item.RefreshItem.TheVariants as part
use Rattle.sync_provider.proofs.Sets.{adds_names, adds_none, message_more}
use Rattle.sync_provider.proofs.gathering.Gathering.send_names.Goals as goal

pub returns-then-is_empty : goal.returns-then-is_empty
returns-then-is_empty c =
    let names = c.self.inside.names in
    let empty : vec_len names ≡ 0 = eqb-true (vec_len names) 0 (sym c.is_empty.ensures ∙ c.if-is_empty.true) in
    let same = ap (λ (g : Gathered). length g.names) c.self.view_is in
    adds_none c.args.self.now (omega (arith, empty, same, names.ok.0))

pub returns : goal.returns
returns c =
    let was = c.self.inside in
    let parts = c.push.new.self.items in
    let new : Gathered = record { deletes = was.deletes; messages = messages_of parts; names = c.replace-rest.new.dest.items } in
    let some = eqb-false (vec_len was.names) 0 (sym c.is_empty.ensures ∙ c.if-is_empty.false) in
    let same = ap (λ (g : Gathered). length g.names) c.self.view_is in
    let more : parts ≡ was.parts.items ++ part.Names was.deletes was.names ∷ [] = search rules in
    let none : c.replace-rest.new.dest.items ≡ [] = search rules in
    adds_names c.args.self.now new (omega (arith, some, same, was.names.ok.0)) (ap (λ (g : Gathered). g.deletes) c.self.view_is)
    (message_more was.parts.items parts (part.Names was.deletes was.names) c.args.self.now.messages more (ap (λ (g : Gathered). g.messages) c.self.view_is)
    ∙ ap (λ (g : Gathered). c.args.self.now.messages ++ IdSet g.deletes g.names None ∷ []) c.self.view_is) none
