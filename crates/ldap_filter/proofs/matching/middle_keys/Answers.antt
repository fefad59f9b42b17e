-- One more piece that has a key gives it.
use Rattle.std.proofs.Common.{◌≡◌, ◌∷◌, [], ◌++◌, Some, is_some, ap, sym, ◌∙◌}
use Rattle.schema_rules.proofs.Lists.{filter_map_some}
use Rattle.ldap_filter.specs.Matching.{middle_key}
use Rattle.ldap_filter.proofs.Lists.{list_all_next}
use Rattle.ldap_filter.proofs.matching.middle_keys.Goals as goal

pub loop-piece-preserved : goal.loop-piece-preserved
loop-piece-preserved c =
    let rule = c.args.rule in
    let piece = c.piece-item.result in
    let has : middle_key rule piece ≡ Some c.in-Some.key =
    ap (middle_key rule) (sym c.as_slice.ensures) ∙ sym c.in_ok-key.ensures ∙ c.in-Some.is in
    record {
      all = list_all_next (λ p. is_some (middle_key rule p)) c.args.pieces.now _ piece c.loop-piece-test.true c.piece-item.is c.loop-piece.invariant.all (ap (λ k. is_some k) has);
      keys = c.in_ok-push.ensures.ok ∙ ap (λ xs. xs ++ c.in-Some.key ∷ []) c.loop-piece.invariant.keys
          ∙ sym (filter_map_some (middle_key rule) c.args.pieces.now _ piece _ c.loop-piece-test.true c.piece-item.is has);
    }
