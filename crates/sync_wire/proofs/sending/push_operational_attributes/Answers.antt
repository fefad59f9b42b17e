use Rattle.std.proofs.Common.{◌≡◌, [], ◌∷◌, ◌++◌, codes, append_assoc, ap, ◌∙◌}
use Rattle.std.proofs.lemmas.Result.{on_ok_weaker}
use Rattle.sync_wire.specs.Sending.{single, uuid_text}
use Rattle.sync_wire.proofs.sending.push_operational_attributes.Goals as goal

pub returns : goal.returns
returns c =
    let list = c.args.list.now in
    let identity = c.in_ok-uuid_attribute.field-0 in
    let is_csn = c.in_ok-single.field-0 in
    let pushed : c.push.new.self ≡ list ++ identity ∷ [] = c.in_ok-push.ensures.ok in
    let uuid : identity ≡ single (codes "entryUUID") (uuid_text c.args.entry.now.uuid) = c.in_ok-uuid_attribute.ensures in
    on_ok_weaker c.push-2.result
    (λ then. then ∙ ap (λ xs. xs ++ is_csn ∷ []) pushed ∙ append_assoc list (identity ∷ []) (is_csn ∷ [])
    ∙ ap (λ made. list ++ made ∷ is_csn ∷ []) uuid
    ∙ ap (λ mark. list ++ single (codes "entryUUID") (uuid_text c.args.entry.now.uuid) ∷ mark ∷ [])
    (c.in_ok-single.ensures ∙ ap (single (codes "entryCSN")) c.write.ensures.text))
    c.push-2.ensures.ok
