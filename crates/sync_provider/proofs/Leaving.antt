-- What a hand-out leaves of the open searches, by what the search that hands out says.
use Rattle.std.proofs.Common.{◌≡◌, ℕ, Bool, true, false, List, Some, ap, sym, ◌∙◌, subst}
use Rattle.std.specs.Prelude.{IfSome}
use Rattle.std.specs.BTreeMap.{insert_entry}
use Rattle.std.specs.Ordering.{nat_cmp}
use Rattle.directory_writes.specs.Directory.{DirectoryState}
use Rattle.directory_writes.proofs.Keyed.{kept_at, closed_at, put_on}
use Rattle.sync_provider.specs.Answering.{HandOutLeaves}
use Rattle.sync_provider.specs.HandingOut.{turn_of, turn_of_pending, turn_at, has_message, is_closing, after_own_turn}
use Rattle.sync_provider.specs.Machine.{ProviderState}
use Rattle.sync_provider.specs.Search.{pending}
use Rattle.sync_provider.specs.Staging.{HeldSearch, searches_of}
use Rattle.sync_provider.specs.declared.handed.Handed.{Handed}
use Rattle.sync_provider.specs.declared.handed.Handed.TheVariants as handed
use Rattle.sync_provider.specs.declared.provider.Kind.{Kind}
use Rattle.sync_provider.proofs.Delivery.{view_of}
use Rattle.sync_provider.proofs.Held.{turn_found}
use Rattle.sync_provider.proofs.Turns.{found_has_message, closed_after, open_after}

module _ (kind : Kind) (limit : ℕ) (d : DirectoryState) (es : List (ℕ × HeldSearch)) (k : ℕ) (held : HeldSearch) (found : kept_at es k ≡ Some held) where
  -- the provider with these searches
  abbrev view : List (ℕ × HeldSearch) → ProviderState
  view now = view_of kind d now limit

  -- whether it has a message
  pub message_at : (b : Bool) → ((e : DirectoryState) → b ≡ has_message (turn_of_pending held.search.id (pending e held.search))) → b ≡ has_message (turn_at (view es).directory (view es).searches k)
  message_at b is = is d ∙ ap has_message (sym (turn_found d es k held found))

  -- ---- it is taken out, and put back where it goes on

  module _ (result : Handed) (turn : IfSome (turn_of result) (λ turn. turn ≡ turn_of_pending held.search.id (pending d held.search)))
      (memory : result ≡ handed.NoMemory → has_message (turn_of_pending held.search.id (pending d held.search)) ≡ true) where
    its_turn : IfSome (turn_of result) (λ turn. turn ≡ turn_at d (searches_of es) k)
    its_turn = subst (λ t. IfSome (turn_of result) (λ turn. turn ≡ t)) (sym (turn_found d es k held found)) turn

    -- its last message closes it
    pub closing_leaves : (after : List (ℕ × HeldSearch)) → is_closing (turn_of result) ≡ true → after ≡ closed_at es k → HandOutLeaves (view es) k result (view after)
    closing_leaves after closes is = record {
      turn = its_turn;
      memory = λ none. found_has_message d es k held found (memory none);
      state = ap view is ∙ ap (λ searches. record (view es) { searches = searches }) (closed_after d es k (turn_of result) closes);
    }

    -- after another it is open
    pub open_leaves : (out after : List (ℕ × HeldSearch)) (new : HeldSearch) → new.search ≡ after_own_turn d held.search (turn_of result)
        → ((other : HeldSearch) → insert_entry nat_cmp (closed_at es k) k other ≡ put_on es k other) → is_closing (turn_of result) ≡ false → out ≡ closed_at es k → after ≡ insert_entry nat_cmp out k new
        → HandOutLeaves (view es) k result (view after)
    open_leaves out after new state again goes taken_out is = record {
      turn = its_turn;
      memory = λ none. found_has_message d es k held found (memory none);
      state =
          ap view (is ∙ ap (λ xs. insert_entry nat_cmp xs k new) taken_out)
          ∙ ap (λ searches. record (view es) { searches = searches }) (open_after d es k held new (turn_of result) found again state goes);
    }
