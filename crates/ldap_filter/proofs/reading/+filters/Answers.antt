-- A filter takes a level, and one more filter of a list stands after those so far.
use Rattle.std.proofs.Common.{◌≡◌, ◌+◌, length, map, ap, sym, ◌∙◌, arith}
use Rattle.std.proofs.lemmas.List.{length_push, map_push}
use Rattle.ldap_filter.specs.Grammar.{begins_with}
use Rattle.ldap_filter.specs.Reading.{filter_in}
use Rattle.ldap_filter.specs.FilterTree.{tree_of}
use Rattle.ldap_filter.proofs.Many.{many_next, filter_in-some}
use Rattle.ldap_filter.proofs.reading.+filters.Goals as goal

pub filter_in-returns-clause-read : goal.filter_in-returns-clause-read
filter_in-returns-clause-read t c =
    rw (filter_in-some c.args.levels c.args.cursor.now.stop c.args.cursor.now.left c.if-levels-eq0.false) c.enclosed.ensures.read

pub filters-loop-alloc-preserved : goal.filters-loop-alloc-preserved
filters-loop-alloc-preserved t c =
    let before = c.loop-alloc in
    let one : length c.push.new.self.items ≡ length before.items.items + 1 = ap (λ xs. length xs) c.in_ok-push.ensures.items ∙ length_push _ _ in
    let shorter = c.in_ok-filter_in.ensures.shorter in
    record {
      stop = c.filter_in.ensures.stop ∙ before.invariant.stop;
      room = omega arith;
      read = many_next (begins_with 40) (filter_in c.args.levels) _ _ _ _ _ _ _ before.cursor.left _ _ _ (ap (map tree_of) c.in_ok-push.ensures.items ∙ map_push tree_of before.items.items c.in_ok-filter_in.field-0) one c.filter_in.ensures.stop shorter before.invariant.room (sym c.loop-alloc-test.ensures.value) c.in_ok-filter_in.ensures.read before.invariant.read;
    }
