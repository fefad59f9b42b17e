-- What the consumers of a provider are fed while the search of another one changes.
use Rattle.std.proofs.Common.{◌≡◌, ◌≢◌, ℕ, Some, None, List, ◌++◌, ap, sym, ◌∙◌, inl, inr}
use Rattle.std.specs.Prelude.{◌⊎◌}
use Rattle.std.specs.BTreeMap.{insert_entry}
use Rattle.std.specs.Ordering.{nat_cmp}
use Rattle.directory_writes.proofs.Keyed.{opened-other}
use Rattle.entry_tree.specs.declared.entry.Entry.{Entry}
use Rattle.sync_provider.specs.HandingOut.{search_at}
use Rattle.sync_provider.specs.Machine.{ProviderState}
use Rattle.sync_provider.specs.Search.{SearchState}
use Rattle.sync_provider.proofs.Advanced.{Searches, with_searches}
use Rattle.cascade_nodes.specs.declared.node.ConsumerNode.{ConsumerNode}
use Rattle.cascade_nodes.proofs.Fed.{IsAtRest, OwnStays, pending-other, own_search}
use Rattle.cascade_world.specs.Exchange.{agreement_of}
use Rattle.cascade_laws.specs.Headline.{ReportedOpening, Known}
use Rattle.cascade_world.specs.Origins.{Lineage}
use Rattle.cascade_laws.proofs.Feeding.{far_of, GoesOn, IsGoing, IsFed, KeepsOthers}

going-other : (number : ℕ) (p : ProviderState) (later : Searches) (g : ConsumerNode) (opening : ReportedOpening) (entries : List Entry) → OwnStays p.searches later g.search
    → GoesOn number p g opening entries → GoesOn number (with_searches p later) g opening entries
going-other number p later g opening entries stays goes = record {
  session = goes.session;
  link = goes.link;
  search = pending-other p.directory p.searches later g.consumer.spec opening.persists goes.session.cut (far_of goes.session.start opening goes.session.count (goes.session.taken ++ goes.session.linked)) g.search goes.session.pending stays goes.search;
  place = goes.place;
}

fed-other : (number : ℕ) (p : ProviderState) (later : Searches) (g : ConsumerNode) (known : Known) → OwnStays p.searches later g.search
    → IsFed number p g known → IsFed number (with_searches p later) g known
fed-other number p later g known stays fed = record {
  held = fed.held;
  ascending = fed.ascending;
  cookie = fed.cookie;
  promised = fed.promised;
  below = fed.below;
  state = by fed.state;
}
  where
    by : IsAtRest g ⊎ IsGoing number p g known → IsAtRest g ⊎ IsGoing number (with_searches p later) g known
    by (inl rest) = inl rest
    by (inr going) = inr (record { opening = going.opening; latest = going.latest; goes = going-other number p later g going.opening known.entries stays going.goes })

fed_search : (number : ℕ) (p : ProviderState) (g : ConsumerNode) (known : Known) (at : ℕ) → g.search ≡ Some at → IsFed number p g known
    → (s : SearchState) × (search_at p.searches at ≡ Some s)
fed_search number p g known at is fed = by fed.state
  where
    by : IsAtRest g ⊎ IsGoing number p g known → (s : SearchState) × (search_at p.searches at ≡ Some s)
    by (inl rest) = let none = rest.search in let never : ⊥ = cc in absurd never
    by (inr going) =
        let goes = going.goes in
        own_search p.directory p.searches g.consumer.spec going.opening.persists goes.session.cut (far_of goes.session.start going.opening goes.session.count (goes.session.taken ++ goes.session.linked)) g.search at goes.session.pending is goes.search

-- ---- what a change of one search keeps

-- a consumer without a search keeps none
pub others-none : (lin : Lineage) (number : ℕ) (p : ProviderState) (before after : ConsumerNode) → before.search ≡ after.search → KeepsOthers number (agreement_of p before lin) (agreement_of p after lin)
others-none lin number p before after same g known fed apart = (fed, λ at mine. apart at (same ∙ mine))

-- the search of a consumer changes, and is its own still or over
pub others-changed : (lin : Lineage) (number : ℕ) (p : ProviderState) (later : Searches) (before after : ConsumerNode) (at : ℕ) → before.search ≡ Some at
    → ((k : ℕ) → k ≢ at → search_at later k ≡ search_at p.searches k) → ((k : ℕ) → after.search ≡ Some k → k ≡ at)
    → KeepsOthers number (agreement_of p before lin) (agreement_of (with_searches p later) after lin)
others-changed lin number p later before after at own elsewhere only g known fed apart = (
  fed-other number p later g known (λ k is s found. elsewhere k (λ same. apart k (own ∙ ap Some (sym same)) is) ∙ found) fed,
  λ k mine. apart k (own ∙ ap Some (sym (only k mine))),
)

-- a search with a number that was free is that of a consumer that had none
pub others-opened : (lin : Lineage) (number : ℕ) (p : ProviderState) (before after : ConsumerNode) (at : ℕ) (s : SearchState) → search_at p.searches at ≡ None → after.search ≡ Some at
    → KeepsOthers number (agreement_of p before lin) (agreement_of (with_searches p (insert_entry nat_cmp p.searches at s)) after lin)
others-opened lin number p before after at s free now g known fed apart = (
  fed-other number p (insert_entry nat_cmp p.searches at s) g known (λ k is was found. opened-other p.searches at k s (taken k was found) ∙ found) fed,
  λ k mine yours.
      let there = fed_search number p g known k yours fed in
      let same : k ≡ at = own k mine in
      taken k there.0 there.1 same,
)
  where
    taken : (k : ℕ) (was : SearchState) → search_at p.searches k ≡ Some was → k ≢ at
    taken k was found same = let here : search_at p.searches k ≡ None = ap (search_at p.searches) same ∙ free in cc

    own : (k : ℕ) → after.search ≡ Some k → k ≡ at
    own k mine = cc
