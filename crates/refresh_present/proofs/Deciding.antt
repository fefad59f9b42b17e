-- What a present phase reports, and in which order.
use Rattle.std.proofs.Common.{◌≡◌, refl, sym, ap, ◌∙◌, ℕ, Bool, true, false, cond, Option, List, [], ◌∷◌, ◌++◌, subst}
use Rattle.std.specs.Prelude.{map, not, Some, None, if◌then◌else◌}
use Rattle.std.specs.List.{flat_map, filter_map, cons_option}
use Rattle.std.specs.List.Sorted.{IsStrictlySortedBy}
use Rattle.std.specs.Ordering.{nat_cmp}
use Rattle.std.proofs.lemmas.List.Elements.{filter_map-append}
use Rattle.refresh_present.specs.declared.item.Item.{Item}
use Rattle.refresh_present.specs.declared.decision.Decision.TheVariants.{Send, Present}
use Rattle.refresh_present.specs.Item.{identities, selected_of}
use Rattle.refresh_present.specs.Decision.{identity_of}
use Rattle.refresh_present.specs.Present.{is_new_to_client, decided, planned}
use Rattle.refresh_present.proofs.Ascending.{ascends-filter}

-- each selected item once, and no other
pub identities_of-planned : (after : Option ℕ) (items : List Item)
    → map identity_of (planned after items) ≡ identities (selected_of items)
identities_of-planned after [] = refl
identities_of-planned after (item ∷ items) = step item.selected (is_new_to_client after item) (identities_of-planned after items) where
  step : (selected news : Bool) → map identity_of (planned after items) ≡ identities (selected_of items)
      → map identity_of (cons_option (if not selected then None else if news then Some (Send item.uuid) else Some (Present item.uuid)) (planned after items))
      ≡ identities (cond selected (item ∷ selected_of items) (selected_of items))
  step false news rest = rest
  step true true rest = ap (λ uuids. item.uuid ∷ uuids) rest
  step true false rest = ap (λ uuids. item.uuid ∷ uuids) rest

-- in ascending order
pub ascends-planned : (after : Option ℕ) (items : List Item) → IsStrictlySortedBy nat_cmp (identities items)
    → IsStrictlySortedBy nat_cmp (map identity_of (planned after items))
ascends-planned after items ascends =
    subst (IsStrictlySortedBy nat_cmp) (sym (identities_of-planned after items)) (ascends-filter (λ item. item.selected) items ascends)

-- piece after piece
pub planned-pieces : (after : Option ℕ) (pieces : List (List Item))
    → flat_map (planned after) pieces ≡ planned after (flat_map (λ piece. piece) pieces)
planned-pieces after [] = refl
planned-pieces after (piece ∷ pieces) =
    ap (λ rest. planned after piece ++ rest) (planned-pieces after pieces)
    ∙ sym (filter_map-append (decided after) piece (flat_map (λ piece. piece) pieces))
