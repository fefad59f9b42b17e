-- One more byte of the value.
use Rattle.std.proofs.Common.{◌≡◌, ◌+◌, length, ap, sym, ◌∙◌, arith}
use Rattle.std.proofs.lemmas.List.{length_push}
use Rattle.ldap_filter.specs.Reading.{value_goes_on, value_byte_at}
use Rattle.ldap_filter.proofs.Many.{many_next}
use Rattle.ldap_filter.proofs.reading.value.Goals as goal

pub loop-bytes-preserved : goal.loop-bytes-preserved
loop-bytes-preserved c =
    let before = c.loop-bytes in
    let one : length c.push.new.self.items ≡ length before.bytes.items + 1 = ap (λ xs. length xs) c.in_ok-push.ensures.items ∙ length_push _ _ in
    let shorter = c.in_ok-value_byte.ensures.shorter in
    record {
      stop = c.value_byte.ensures.stop ∙ before.invariant.stop;
      room = omega arith;
      read = many_next value_goes_on value_byte_at _ _ _ _ _ _ _ before.cursor.left _ _ _ c.in_ok-push.ensures.items one c.value_byte.ensures.stop shorter before.invariant.room (sym c.loop-bytes-test.ensures.value) c.in_ok-value_byte.ensures.read before.invariant.read;
    }
