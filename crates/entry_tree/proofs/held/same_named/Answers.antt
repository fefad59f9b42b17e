-- One more entry, before those that are noted.
use Rattle.std.proofs.Common.{◌≡◌, ◌<◌, ◌∙◌, map, reverse, option_map, length, ap, sym, subst, refl, List, [], ◌∷◌, None, Bor, Vec, Global, ℕ, rules, arith}
use Rattle.std.specs.BTreeMap.{get}
use Rattle.std.specs.Cmp.Lexicographic.{slice_cmp}
use Rattle.std.specs.Option.{option_or}
use Rattle.std.specs.Ordering.{nat_cmp}
use Rattle.std.proofs.lemmas.Iterator.Adapters.{YieldsList-from_rev_slice}
use Rattle.std.proofs.lemmas.Iterator.Consumers.{YieldsList-end}
use Rattle.entry_writes.specs.declared.entry.Entry.{Entry}
use Rattle.entry_writes.specs.State.{same_named}
use Rattle.entry_tree.proofs.Naming.{Notes, notes-cons, pair-cons}
use Rattle.entry_tree.proofs.Naming.{noted_more, noted_all}
use Rattle.entry_tree.proofs.held.same_named.Goals as goal

-- one entry alone has no other's name
alone : (entries : List (Bor Entry)) → length entries < 2 → None ≡ same_named (map (λ (e : Bor Entry). e.now) entries)
alone [] few = refl
alone (e ∷ []) few = refl
alone (e ∷ d ∷ entries) few = absurd (omega (arith, few))

pub returns-then-entries-lt2 : goal.returns-then-entries-lt2
returns-then-entries-lt2 c = alone c.args.entries.now c.if-entries-lt2.true

pub loop-entry-preserved : goal.loop-entry-preserved
loop-entry-preserved c =
    let x = c.in-Some.entry in
    let entry = x.now.now in
    let so_far = c.loop-entry.yielded in
    let noted = reverse (map (λ (e : Bor (Bor Entry)). e.now.now) so_far) in
    let is = c.loop-entry.invariant in
    let key = c.in_ok-key_of.field-0 in
    let own = c.in_ok-key_of.ensures.key in
    let sound = c.in_ok-key_of.ensures.sound in
    let later = c.in_ok-later.later in
    let more = noted_more (λ (e : Bor (Bor Entry)). e.now.now) so_far x in
    let found = c.in_ok-later.ensures.old ∙ is.notes key entry.dn sound own in
    record {
      pair = c.first_pair-pair.ensures
          ∙ (λ i. option_or (option_map (λ other. (entry.uuid, other)) later) (is.pair i))
          ∙ sym (pair-cons entry noted later found)
          ∙ ap same_named (sym more);
      notes = subst (Notes (λ (k : Vec ℕ Global). k.items) (get (λ (one other : Vec ℕ Global). slice_cmp nat_cmp one.items other.items) c.insert.new.self)) (sym more)
          (notes-cons (λ (k : Vec ℕ Global). k.items) (get (λ (one other : Vec ℕ Global). slice_cmp nat_cmp one.items other.items) c.loop-entry.names)
          (get (λ (one other : Vec ℕ Global). slice_cmp nat_cmp one.items other.items) c.insert.new.self) noted key entry sound own c.in_ok-later.ensures.updates.0 is.notes);
    }

pub returns : goal.returns
returns c =
    let end = YieldsList-end (YieldsList-from_rev_slice c.args.entries.now (search rules)) c.loop-entry.yielded c.loop-entry.entry-iterator c.loop-entry.yielded_by
    c.next.result c.next.new.self c.in-None.is c.next.ensures.steps in
    c.loop-entry.invariant.pair ∙ ap same_named (noted_all (λ (e : Bor Entry). e.now) c.loop-entry.yielded c.args.entries.now end.0)
