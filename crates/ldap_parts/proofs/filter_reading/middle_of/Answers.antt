-- One more piece stands after those so far, or the pieces end, or one is refused.
use Rattle.std.proofs.Common.{◌∙◌}
use Rattle.ldap_parts.proofs.FilterLemmas.{middle_goes_on, middle_ends}
use Rattle.ldap_parts.proofs.filter_reading.middle_of.Goals as goal

pub loop-alloc-preserved : goal.loop-alloc-preserved
loop-alloc-preserved c =
    let before = c.loop-alloc in
    record {
      pieces = middle_goes_on before.pieces _ before.reader.stop _ before.reader.left _ _ _ c.loop-alloc-test.ensures c.in_ok-piece.ensures.exact c.in_ok-push.ensures.ok c.in_ok-piece.ensures.stop before.invariant.pieces;
      stop = c.in_ok-piece.ensures.stop ∙ before.invariant.stop;
    }

pub returns-clause-exact : goal.returns-clause-exact
returns-clause-exact c = middle_ends c.loop-alloc.pieces c.loop-alloc.reader.stop c.loop-alloc.reader.left _ c.loop-alloc-test.ensures c.loop-alloc.invariant.pieces
