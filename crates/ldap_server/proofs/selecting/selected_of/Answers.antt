use Rattle.std.proofs.Common.{◌≡◌, ◌++◌, ◌∙◌, ◌∷◌, List, [], codes, map, append_assoc, sym, ap, take_all}
use Rattle.csn_cookie.specs.Csn.{csn_text}
use Rattle.schema_rules.specs.declared.raw.RawAttribute.{RawAttribute}
use Rattle.schema_rules.specs.Attributes.{raw_of}
use Rattle.sync_wire.specs.Sending.{operational_attributes_of, single, uuid_text}
use Rattle.ldap_server.specs.Selecting.{sent_of}
use Rattle.ldap_server.proofs.Selections.{sent_of-append, sent_of-next}
use Rattle.ldap_server.proofs.selecting.selected_of.Goals as goal

pub loop-attribute-preserved : goal.loop-attribute-preserved
loop-attribute-preserved c =
    let selection = c.args.selection in
    let sent : List RawAttribute → List RawAttribute = sent_of selection.selectors.now selection.types_only in
    c.in_ok-push_held.ensures
    ∙ ap (λ xs. xs ++ sent (raw_of c.attribute-item.result ∷ [])) c.loop-attribute.invariant
    ∙ sym (sent_of-next raw_of selection.selectors.now selection.types_only _ c.loop-attribute.attribute-index _ c.loop-attribute-test.true c.attribute-item.is)

-- the attributes that are held, and the operational ones
pub returns : goal.returns
returns c =
    let selection = c.args.selection in
    let e = c.args.entry.now in
    let sent : List RawAttribute → List RawAttribute = sent_of selection.selectors.now selection.types_only in
    let identity = single (codes "entryUUID") (uuid_text e.uuid) in
    let csn = single (codes "entryCSN") (csn_text e.csn) in
    let held : List RawAttribute = map raw_of e.attrs in
    let before : c.loop-attribute.list ≡ sent held =
    c.loop-attribute.invariant ∙ ap (λ xs. sent (map raw_of xs)) (take_all c.loop-attribute.attribute-index _ c.loop-attribute-test.false)
    ∙ ap (λ xs. sent (map raw_of xs)) c.list-held.ensures.value in
    let all : sent held ++ (sent (identity ∷ []) ++ sent (csn ∷ [])) ≡ sent (held ++ operational_attributes_of e) =
    ap (λ xs. sent held ++ xs) (sym (sent_of-append selection.selectors.now selection.types_only (identity ∷ []) (csn ∷ [])))
    ∙ sym (sent_of-append selection.selectors.now selection.types_only held (operational_attributes_of e)) in
    c.in_ok-push_csn.ensures
    ∙ ap (λ xs. xs ++ sent (csn ∷ [])) c.in_ok-push_identity.ensures
    ∙ ap (λ xs. (xs ++ sent (identity ∷ [])) ++ sent (csn ∷ [])) before
    ∙ append_assoc (sent held) (sent (identity ∷ [])) (sent (csn ∷ []))
    ∙ all
