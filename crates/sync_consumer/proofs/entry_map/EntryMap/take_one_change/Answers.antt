-- One change is made where the entries stand, and its name is noted.
use Rattle.std.proofs.Common.{◌≡◌, ◌∙◌, false, List, [], ◌∷◌, length, sym, ap, subst, arith}
use Rattle.entry_tree.specs.declared.entry.Entry.{Entry}
use Rattle.entry_tree.specs.State.{exceeds_limits, same_named}
use Rattle.sync_model.specs.Copy.{Stage, effected}
use Rattle.sync_consumer.specs.Holding.{IsIndexOf}
use Rattle.sync_consumer.specs.Staging.{change_of, changes_in}
use Rattle.sync_consumer.proofs.Effecting.{light_alone, mapped_after, only}
use Rattle.sync_consumer.proofs.Opposing.{unopposed_apart}
use Rattle.sync_consumer.proofs.entry_map.EntryMap.take_one_change.Goals as goal

pub apply-requires : goal.apply-requires
apply-requires c =
    let stage = c.args.stage.now in
    let change = c.index.result.now in
    let alone : length c.in_ok-changes.changes.items ≡ 1 = omega (arith, c.len.ensures, c.if-len-ne1.false, c.in_ok-changes.changes.ok.0) in
    let one : stage ≡ change_of change.now ∷ [] = sym c.in_ok-changes.ensures.value ∙ only c.in_ok-changes.changes.items change alone c.index.ensures in
    light_alone c.self.inside.entries stage (change_of change.now) one c.self.invariant.held.1 c.in_ok-changes.ensures.light

pub invariant_of-self-2 : goal.invariant_of-self-2
invariant_of-self-2 c =
    let held = c.self.inside.entries in
    let stage = c.args.stage.now in
    let change = c.index.result.now in
    let names = c.in_ok-names.names in
    let alone : length c.in_ok-changes.changes.items ≡ 1 = omega (arith, c.len.ensures, c.if-len-ne1.false, c.in_ok-changes.changes.ok.0) in
    let one : stage ≡ change_of change.now ∷ [] = sym c.in_ok-changes.ensures.value ∙ only c.in_ok-changes.changes.items change alone c.index.ensures in
    let all : changes_in c.deref.result.now ≡ stage = ap changes_in c.deref.ensures.value ∙ c.in_ok-changes.ensures.value in
    let room : exceeds_limits (effected held stage) ≡ false = ap (λ (es : List Entry). exceeds_limits (effected es stage)) c.self.view_is ∙ c.has_room.ensures c.if-not-has_room.false in
    let apart = c.in_ok-names.ensures.unique_names c.if-not-has_unique_names.false in
    mapped_after held c.apply.new.self names stage (change_of change.now) one c.self.invariant.held.0 room
    (ap (λ (s : Stage). same_named (effected held s)) (sym all) ∙ apart)
    (subst (λ (s : Stage). IsIndexOf names (effected held s)) all (c.in_ok-names.ensures.index apart))
    c.in_ok-apply.ensures.ok

pub returns-clause-made : goal.returns-clause-made
returns-clause-made c = λ made.
    let held = c.self.inside.entries in
    let stage = c.args.stage.now in
    let change = c.index.result.now in
    let alone : length c.in_ok-changes.changes.items ≡ 1 = omega (arith, c.len.ensures, c.if-len-ne1.false, c.in_ok-changes.changes.ok.0) in
    let one : stage ≡ change_of change.now ∷ [] = sym c.in_ok-changes.ensures.value ∙ only c.in_ok-changes.changes.items change alone c.index.ensures in
    c.in_ok-apply.ensures.ok ∙ sym (ap (effected held) one) ∙ ap (λ (es : List Entry). effected es stage) c.self.view_is

pub returns-clause-within : goal.returns-clause-within
returns-clause-within c = λ made.
    let held = c.self.inside.entries in
    let stage = c.args.stage.now in
    let all : changes_in c.deref.result.now ≡ stage = ap changes_in c.deref.ensures.value ∙ c.in_ok-changes.ensures.value in
    let apart = c.in_ok-names.ensures.unique_names c.if-not-has_unique_names.false in
    unopposed_apart (effected c.args.self.now stage) (c.has_room.ensures c.if-not-has_room.false)
    (ap (λ (es : List Entry). same_named (effected es stage)) (sym c.self.view_is) ∙ ap (λ (s : Stage). same_named (effected held s)) (sym all) ∙ apart)
