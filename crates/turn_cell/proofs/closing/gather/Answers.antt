use Rattle.std.proofs.Common.{◌≡◌, [], ◌∷◌, ◌++◌, map, sym, refl, ap, ◌∙◌, subst, arith, append_assoc, append-nil}
use Rattle.std.proofs.lemmas.List.{map-append}
use Rattle.turn_cell.specs.Journals.{Every}
use Rattle.turn_cell.specs.Rule.{idle}
use Rattle.turn_cell.specs.Steps.{joined}
use Rattle.turn_cell.specs.Passes.{view_of}
use Rattle.std.proofs.lemmas.List.{nil_from_length}
use Rattle.turn_cell.proofs.Each.{every-at}
use Rattle.turn_cell.proofs.Merged.{merges}
use Rattle.turn_cell.proofs.closing.gather.Goals as goal

pub loop-pass-init : goal.loop-pass-init
loop-pass-init g c = record {
  table = refl;
  seat = c.requires.seat ∙ ap (λ passes. (idle passes, [])) (sym (append-nil c.args.seat.now.me.0.passes));
  all = sym c.into_iter-pass-iterator.ensures.into_iter_gives.0;
}

pub join_seat-requires : goal.join_seat-requires
join_seat-requires g c =
    let inv = c.loop-pass.invariant in
    let pass = c.in-Some.pass in
    let table = c.args.words.now.table_id in
    let theirs : c.into_parts-other.result.0.me ≡ (idle (view_of pass ∷ []), []) = ap (λ s. s.me) c.into_parts-other.ensures.0 ∙ pass.idle in
    let all : Every (λ p. p.seat.table_id ≡ table) (c.loop-pass.yielded ++ pass ∷ c.next.new.self.rest.items) =
    subst (Every (λ p. p.seat.table_id ≡ table)) (inv.all ∙ ap (λ more. c.loop-pass.yielded ++ more) c.in-Some.ensures.steps.0) c.requires.passes in (
      inv.table ∙ c.requires.table.0,
      ap (λ s. s.table_id) c.into_parts-other.ensures.0
          ∙ every-at (λ p. p.seat.table_id ≡ table) c.loop-pass.yielded c.next.new.self.rest.items pass all,
      ap (λ m. m.1) theirs,
      omega (arith, c.requires.table.1),
      rw (inv.seat, theirs) (merges g.D.Journalled.journal g.D.Journalled.share _ _ _ _ (c.args.seat.now.me.0.passes ++ map view_of c.loop-pass.yielded) (view_of pass ∷ [])),
    )

pub loop-pass-preserved : goal.loop-pass-preserved
loop-pass-preserved g c =
    let inv = c.loop-pass.invariant in
    let pass = c.in-Some.pass in
    let passes = c.args.seat.now.me.0.passes in
    let theirs : c.into_parts-other.result.0.me ≡ (idle (view_of pass ∷ []), []) = ap (λ s. s.me) c.into_parts-other.ensures.0 ∙ pass.idle in record {
      table = c.join_seat.ensures.0 ∙ inv.table;
      seat = c.join_seat.ensures.2
          ∙ (ap (λ m. (joined m.0 c.into_parts-other.result.0.me.0, m.1)) inv.seat
          ∙ (ap (λ m. (joined (idle (passes ++ map view_of c.loop-pass.yielded)) m.0, [])) theirs
          ∙ ap (λ all. (idle all, []))
          (append_assoc passes (map view_of c.loop-pass.yielded) (view_of pass ∷ [])
          ∙ ap (λ more. passes ++ more) (sym (map-append view_of c.loop-pass.yielded (pass ∷ []))))));
      all = inv.all
          ∙ (ap (λ more. c.loop-pass.yielded ++ more) c.in-Some.ensures.steps.0
          ∙ sym (append_assoc c.loop-pass.yielded (pass ∷ []) c.next.new.self.rest.items));
    }

pub returns-clause-table : goal.returns-clause-table
returns-clause-table g c = c.loop-pass.invariant.table

pub returns-clause-seat : goal.returns-clause-seat
returns-clause-seat g c =
    let inv = c.loop-pass.invariant in
    let left = c.loop-pass.pass-iterator.rest in
    let none : left.items ≡ [] = nil_from_length left.items (sym left.ok.0 ∙ c.in-None.ensures.steps.0) in
    let same : c.loop-pass.yielded ≡ c.args.passes.items =
    sym (inv.all ∙ (ap (λ more. c.loop-pass.yielded ++ more) none ∙ append-nil c.loop-pass.yielded)) in
    inv.seat ∙ ap (λ passes. (idle (c.args.seat.now.me.0.passes ++ map view_of passes), [])) same
