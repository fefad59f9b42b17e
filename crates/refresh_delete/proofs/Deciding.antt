-- What a delete phase reports, and in which order.
use Rattle.std.proofs.Common.{◌≡◌, refl, sym, ap, ◌∙◌, ℕ, Bool, true, false, cond, List, [], ◌∷◌, ◌++◌, subst}
use Rattle.std.specs.Prelude.{map, not, Some, None, if◌then◌else◌}
use Rattle.std.specs.List.{flat_map, cons_option}
use Rattle.std.specs.List.Sorted.{IsStrictlySortedBy}
use Rattle.std.specs.Ordering.{nat_cmp}
use Rattle.std.proofs.lemmas.List.Elements.{filter_map-append}
use Rattle.refresh_present.specs.declared.item.Item.{Item}
use Rattle.refresh_present.specs.declared.decision.Decision.TheVariants.{Send, Delete}
use Rattle.refresh_present.specs.Item.{identities}
use Rattle.refresh_present.specs.Decision.{identity_of}
use Rattle.refresh_present.proofs.Ascending.{ascends-filter}
use Rattle.refresh_delete.specs.Delete.{is_touched_after, touched_after, decided, planned}

-- each touched item once, and no other
pub identities_of-planned : (after : ℕ) (items : List Item)
    → map identity_of (planned after items) ≡ identities (touched_after after items)
identities_of-planned after [] = refl
identities_of-planned after (item ∷ items) =
    step (is_touched_after after item) item.selected (identities_of-planned after items)
  where
    step : (touched selected : Bool) → map identity_of (planned after items) ≡ identities (touched_after after items)
        → map identity_of (cons_option (if not touched then None else if selected then Some (Send item.uuid) else Some (Delete item.uuid)) (planned after items))
        ≡ identities (cond touched (item ∷ touched_after after items) (touched_after after items))
    step false selected rest = rest
    step true true rest = ap (λ uuids. item.uuid ∷ uuids) rest
    step true false rest = ap (λ uuids. item.uuid ∷ uuids) rest

-- in ascending order
pub ascends-planned : (after : ℕ) (items : List Item) → IsStrictlySortedBy nat_cmp (identities items)
    → IsStrictlySortedBy nat_cmp (map identity_of (planned after items))
ascends-planned after items ascends =
    subst (IsStrictlySortedBy nat_cmp) (sym (identities_of-planned after items)) (ascends-filter (is_touched_after after) items ascends)

-- piece after piece
pub planned-pieces : (after : ℕ) (pieces : List (List Item))
    → flat_map (planned after) pieces ≡ planned after (flat_map (λ piece. piece) pieces)
planned-pieces after [] = refl
planned-pieces after (piece ∷ pieces) =
    ap (λ rest. planned after piece ++ rest) (planned-pieces after pieces)
    ∙ sym (filter_map-append (decided after) piece (flat_map (λ piece. piece) pieces))
