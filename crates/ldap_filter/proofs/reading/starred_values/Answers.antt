-- One more value after a star.
use Rattle.std.proofs.Common.{◌≡◌, ◌+◌, length, ap, sym, ◌∙◌, arith}
use Rattle.std.proofs.lemmas.List.{length_push}
use Rattle.ldap_filter.specs.Grammar.{begins_with}
use Rattle.ldap_filter.specs.Reading.{starred_at}
use Rattle.ldap_filter.proofs.Many.{many_next}
use Rattle.ldap_filter.proofs.reading.starred_values.Goals as goal

pub loop-alloc-preserved : goal.loop-alloc-preserved
loop-alloc-preserved c =
    let before = c.loop-alloc in
    let one : length c.push.new.self.items ≡ length before.values.items + 1 = ap (λ xs. length xs) c.in_ok-push.ensures.items ∙ length_push _ _ in
    let shorter = c.in_ok-starred.ensures.shorter in
    record {
      stop = c.starred.ensures.stop ∙ before.invariant.stop;
      room = omega arith;
      read = many_next (begins_with 42) starred_at _ _ _ _ _ _ _ before.cursor.left _ _ _ c.in_ok-push.ensures.items one c.starred.ensures.stop shorter before.invariant.room (sym c.loop-alloc-test.ensures.value) c.in_ok-starred.ensures.read before.invariant.read;
    }
