-- Whose the open searches of a provider are.
use Rattle.std.proofs.Common.{refl, ◌≡◌, ◌≢◌, ℕ, Bool, true, false, Option, Some, None, nat_eq, eq-eqb, eqb-true, ap, sym, ◌∙◌, inl, inr}
use Rattle.std.specs.Prelude.{◌⊎◌}
use Rattle.std.specs.BTreeMap.{insert_entry}
use Rattle.std.specs.Ordering.{nat_cmp}
use Rattle.std.proofs.lemmas.Bool.{cases_Bool, true≢false}
use Rattle.std.proofs.lemmas.Option.{same_Some}
use Rattle.sync_model.specs.Stream.{among}
use Rattle.directory_writes.proofs.Keyed.{opened-other}
use Rattle.sync_provider.specs.HandingOut.{search_at}
use Rattle.sync_provider.specs.Machine.{ProviderState}
use Rattle.sync_provider.specs.Search.{SearchState}
use Rattle.sync_provider.proofs.Advanced.{Searches, with_searches}
use Rattle.cascade_report.specs.Origins.{Lineage}
use Rattle.cascade_nodes.specs.declared.node.ConsumerNode.{ConsumerNode}
use Rattle.cascade_nodes.proofs.Fed.{HasRoom}
use Rattle.cascade_exchange.specs.Exchange.{Agreement, agreement_of}

-- each search that is open then is that of the consumer, or was open before and was another's
abbrev pub OwnsNew : Agreement → Agreement → Type 0
OwnsNew before after =
    (at : ℕ) (s : SearchState) → search_at after.provider.searches at ≡ Some s
    → (after.consumer_node.search ≡ Some at)
    ⊎ ((was : SearchState) × (search_at before.provider.searches at ≡ Some was) × (before.consumer_node.search ≡ Some at → ⊥))

-- ---- the searches of others

-- a number of a search is this one or another
pub cases_Some : (found : Option ℕ) (at : ℕ) → (found ≡ Some at) ⊎ (found ≡ Some at → ⊥)
cases_Some None at = inr (λ same. let never : ⊥ = cc in never)
cases_Some (Some k) at = elim (cases_Bool (nat_eq k at)) [
  | inl here ↦ inl (ap Some (eqb-true k at here))
  | inr miss ↦ inr (λ same. let one : k ≡ at = cc in let bad : true ≡ false = sym (eq-eqb k at one) ∙ miss in let never : ⊥ = cc in never)
]

-- those that are open are few still
pub room_after : (one two : Agreement) → OwnsNew one two → HasRoom one.provider one.consumer_node → HasRoom two.provider two.consumer_node
room_after one two owns room = record {
  others = room.others;
  few = room.few;
  each = λ at s found. by at (owns at s found);
}
  where
    left : (at : ℕ) → (one.consumer_node.search ≡ Some at → ⊥) → (one.consumer_node.search ≡ Some at) ⊎ (among at room.others ≡ true) → among at room.others ≡ true
    left at other (inl mine) = absurd (other mine)
    left at other (inr there) = there

    by : (at : ℕ) → (two.consumer_node.search ≡ Some at) ⊎ ((was : SearchState) × (search_at one.provider.searches at ≡ Some was) × (one.consumer_node.search ≡ Some at → ⊥))
        → (two.consumer_node.search ≡ Some at) ⊎ (among at room.others ≡ true)
    by at (inl mine) = inl mine
    by at (inr was) = inr (left at was.2 (room.each at was.0 was.1))

-- and so it is through two parts
pub owns-then : (one two three : Agreement) → OwnsNew one two → OwnsNew two three → OwnsNew one three
owns-then one two three first then at s found = by (then at s found)
  where
    before : (two.consumer_node.search ≡ Some at → ⊥) → (two.consumer_node.search ≡ Some at) ⊎ ((was : SearchState) × (search_at one.provider.searches at ≡ Some was) × (one.consumer_node.search ≡ Some at → ⊥))
        → (was : SearchState) × (search_at one.provider.searches at ≡ Some was) × (one.consumer_node.search ≡ Some at → ⊥)
    before other (inl mine) = absurd (other mine)
    before other (inr was) = was

    by : (three.consumer_node.search ≡ Some at) ⊎ ((was : SearchState) × (search_at two.provider.searches at ≡ Some was) × (two.consumer_node.search ≡ Some at → ⊥))
        → (three.consumer_node.search ≡ Some at) ⊎ ((was : SearchState) × (search_at one.provider.searches at ≡ Some was) × (one.consumer_node.search ≡ Some at → ⊥))
    by (inl mine) = inl mine
    by (inr was) = inr (before was.2 (first at was.0 was.1))

-- ---- a part that changes nothing, and a line that reports nothing of what is known

-- where no search is opened, those that are open were open before
pub owns-still : (lin : Lineage) (p : ProviderState) (f g : ConsumerNode) (own : (at : ℕ) → f.search ≡ Some at → g.search ≡ Some at) → OwnsNew (agreement_of p f lin) (agreement_of p g lin)
owns-still lin p f g own at s found = by f.search refl
  where
    by : (search : Option ℕ) → f.search ≡ search → (g.search ≡ Some at) ⊎ ((was : SearchState) × (search_at p.searches at ≡ Some was) × (f.search ≡ Some at → ⊥))
    by search is = elim (cases_Some search at) [
      | inl mine ↦ inl (own at (is ∙ mine))
      | inr other ↦ inr (s, found, λ mine. other (sym is ∙ mine))
    ]

-- ---- and which searches are open then

-- an open search is the own one, or was open before and was not
abbrev pub Owned : ProviderState → ConsumerNode → Option ℕ → ℕ → Type 0
Owned p f own at = (own ≡ Some at) ⊎ ((was : SearchState) × (search_at p.searches at ≡ Some was) × (f.search ≡ Some at → ⊥))

-- no other search is changed
pub owns-changed : (lin : Lineage) (p : ProviderState) (later : Searches) (before after : ConsumerNode) (at : ℕ) → before.search ≡ Some at
    → ((k : ℕ) → k ≢ at → search_at later k ≡ search_at p.searches k) → ((s : SearchState) → search_at later at ≡ Some s → after.search ≡ Some at)
    → OwnsNew (agreement_of p before lin) (agreement_of (with_searches p later) after lin)
owns-changed lin p later before after at own elsewhere here k s found = by (nat_eq k at) refl
  where
    by : (same : Bool) → nat_eq k at ≡ same → Owned p before after.search k
    by true is =
        let one : k ≡ at = eqb-true k at is in
        inl (here s (ap (search_at later) (sym one) ∙ found) ∙ ap Some (sym one))
    by false is =
        let far : k ≢ at = λ same. true≢false (sym (eq-eqb k at same) ∙ is) in
        inr (s, sym (elsewhere k far) ∙ found, λ mine. far (let same : Some k ≡ Some at = sym mine ∙ own in same_Some k at same))

-- the search that is new is the consumer's
pub owns-opened : (lin : Lineage) (p : ProviderState) (before after : ConsumerNode) (at : ℕ) (new : SearchState) → before.search ≡ None → after.search ≡ Some at
    → OwnsNew (agreement_of p before lin) (agreement_of (with_searches p (insert_entry nat_cmp p.searches at new)) after lin)
owns-opened lin p before after at new none now k s found = by (nat_eq k at) refl
  where
    by : (same : Bool) → nat_eq k at ≡ same → Owned p before after.search k
    by true is = let one : k ≡ at = eqb-true k at is in inl (now ∙ ap Some (sym one))
    by false is =
        let far : k ≢ at = λ same. true≢false (sym (eq-eqb k at same) ∙ is) in
        inr (s, sym (opened-other p.searches at k new far) ∙ found, λ mine. let bad : None ≡ Some k = sym none ∙ mine in let never : ⊥ = cc in never)
