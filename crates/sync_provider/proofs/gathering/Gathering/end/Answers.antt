use Rattle.std.proofs.Common.{rules, ◌≡◌, [], ◌∷◌, ◌++◌, ap, ◌∙◌}
use Rattle.sync_model.specs.Message.{SyncMessage}
use Rattle.sync_model.specs.Stream.{end_of}
use Rattle.csn_cookie.specs.Cookie.{cookie_text}
use Rattle.sync_provider.specs.Gathering.{Gathered}
use Rattle.sync_provider.specs.declared.refresh_item.RefreshItem.TheVariants as part
use Rattle.sync_provider.proofs.Sets.{message_more}
use Rattle.sync_provider.proofs.gathering.Gathering.end.Goals as goal

pub returns : goal.returns
returns c =
    let was = c.self.inside in
    let deletes = ap (λ (g : Gathered). g.deletes) c.self.view_is in
    let parts : c.push.new.self.items ≡ was.parts.items ++ part.Ends c.new-end.result ∷ [] = search rules in
    record {
      deletes = deletes;
      messages =
          message_more was.parts.items c.push.new.self.items (part.Ends c.new-end.result) c.args.self.now.messages parts (ap (λ (g : Gathered). g.messages) c.self.view_is)
          ∙ ap (λ (m : SyncMessage). c.args.self.now.messages ++ m ∷ []) (c.new-end.ensures ∙ ap (λ b. end_of c.args.persists b (cookie_text c.args.cookie)) deletes);
      names = ap (λ (g : Gathered). g.names) c.self.view_is ∙ c.requires.names;
    }
