-- The path key goes, or its identities are written, or what the other index has there.
use Rattle.std.proofs.Common.{◌≡◌, ◌<◌, ◌∙◌, ℕ, Vec, Global, nat_eq, length, ap, subst, sym, arith}
use Rattle.std.specs.Vec.{vec_len}
use Rattle.std.proofs.lemmas.Result.{on_ok_weaker}
use Rattle.entry_tree.specs.NameIndex.{Writes}
use Rattle.entry_tree.proofs.NameKeys.{key_is, same_bytes, writes_some, some_written, writes_none, some_without, some_items, no_items}
use Rattle.entry_tree.proofs.names.write.Goals as goal

long : (ids : Vec ℕ Global) → vec_len ids ≡ length ids.items
long ids = omega (arith, ids.ok.0)

pub returns-then-is_empty-clause-written : goal.returns-then-is_empty-clause-written
returns-then-is_empty-clause-written c =
    on_ok_weaker c.remove.result
    (λ is. writes_none c.args.names.now c.remove.new.self c.args.path.now c.args.uuids.items (no_items c.args.uuids.items c.is_empty.result (c.is_empty.ensures ∙ ap (λ n. nat_eq n 0) (long c.args.uuids)) c.if-is_empty.true) c.len.ensures.ordered is)
    c.remove.ensures.ok

pub returns-then-is_empty-clause-some : goal.returns-then-is_empty-clause-some
returns-then-is_empty-clause-some c =
    on_ok_weaker c.remove.result
    (λ is. some_without c.args.names.now c.remove.new.self c.args.path.now c.args.uuids.items (no_items c.args.uuids.items c.is_empty.result (c.is_empty.ensures ∙ ap (λ n. nat_eq n 0) (long c.args.uuids)) c.if-is_empty.true) c.len.ensures.ordered is c.requires)
    c.remove.ensures.ok

pub returns-in-Some : goal.returns-in-Some
returns-in-Some c =
    let pair = c.in-Some.pair.now in
    let names = c.insert_shared.new.self in
    let path = sym (key_is c.args.path.now pair.key.value c.in-Some.ensures.key) in
    let ids : pair.value.value.items ≡ c.args.uuids.items =
    sym (ap (λ (v : Vec ℕ Global). v.items) c.value.ensures) ∙ same_bytes _ _ (sym c.are_same.ensures ∙ c.if-are_same.true) in
    let some = some_items c.args.uuids.items c.is_empty.result (c.is_empty.ensures ∙ ap (λ n. nat_eq n 0) (long c.args.uuids)) c.if-is_empty.false in
    record {
      written = on_ok_weaker c.insert_shared.result
          (λ is. subst (Writes c.args.names.now names c.args.path.now) ids (writes_some c.args.names.now names c.args.path.now pair.key.value pair.value.value path is))
          c.insert_shared.ensures.ok;
      some = on_ok_weaker c.insert_shared.result
          (λ is. some_written c.args.names.now names c.args.path.now pair.key.value pair.value.value path is (subst (λ ids. 0 < length ids) (sym ids) some) c.requires)
          c.insert_shared.ensures.ok;
    }

pub write_anew-requires-clause-some : goal.write_anew-requires-clause-some
write_anew-requires-clause-some c =
    some_items c.args.uuids.items c.is_empty.result (c.is_empty.ensures ∙ ap (λ n. nat_eq n 0) (long c.args.uuids)) c.if-is_empty.false
