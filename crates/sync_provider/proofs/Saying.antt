-- What is said of one touch, and the cookie of the last message.
use Rattle.std.proofs.Common.{◌≡◌, ℕ, ◌+◌, ◌-◌, ◌<◌, ◌≤◌, ◌^◌, min, Bool, true, false, cond, List, [], ◌∷◌, ◌++◌, Option, Some, None, refl, ap, sym, ◌∙◌, arith, inl, inr, ◌⊎◌}
use Rattle.std.specs.Prelude.{is_some, sum_by}
use Rattle.std.proofs.lemmas.Bool.{cases_lt, false≢true, true≢false}
use Rattle.std.proofs.lemmas.List.Sums.{sum_by-cons}
use Rattle.entry_tree.specs.declared.entry.Entry.{Entry}
use Rattle.entry_tree.specs.Selection.{Search, is_selected}
use Rattle.sync_model.specs.Message.{CookieText, SyncMessage}
use Rattle.sync_model.specs.Stream.{notified}
use Rattle.sync_provider.specs.Queueing.{message_weight}
use Rattle.sync_provider.specs.Search.{is_end}
use Rattle.sync_provider.specs.Staging.{message_of_change, messages_of_change, change_to, change_from, if_selected, with_cookie, last_with_cookie, counted_weight}
use Rattle.sync_provider.specs.declared.content_change.ContentChange.{ContentChange}
use Rattle.sync_provider.specs.declared.content_change.ContentChange.TheVariants.{Added, Modified, Deleted}

-- ---- one touch

-- an entry that is selected now
pub said_still : (search : Search) (uuid : ℕ) (was : Option Entry) (entry : Entry) (was_in : Bool) → is_some (if_selected search was) ≡ was_in → is_some (if_selected search (Some entry)) ≡ true
    → messages_of_change (Some (change_to was_in entry)) ≡ notified None uuid (if_selected search was) (if_selected search (Some entry))
said_still search uuid was entry was_in before now = by (is_selected search entry) refl
  where
    found : (o : Option Entry) → is_some o ≡ was_in → messages_of_change (Some (change_to was_in entry)) ≡ notified None uuid o (Some entry)
    found None is = ap (λ b. messages_of_change (Some (change_to b entry))) (sym is)
    found (Some e) is = ap (λ b. messages_of_change (Some (change_to b entry))) (sym is)

    by : (b : Bool) → is_selected search entry ≡ b → messages_of_change (Some (change_to was_in entry)) ≡ notified None uuid (if_selected search was) (if_selected search (Some entry))
    by true on = found (if_selected search was) before ∙ ap (λ c. notified None uuid (if_selected search was) (cond c (Some entry) None)) (sym on)
    by false off = absurd (false≢true (sym (ap (λ c. is_some (cond c (Some entry) None)) off) ∙ now))

-- none is selected now
pub said_left : (search : Search) (uuid : ℕ) (was now : Option Entry) (was_in : Bool) → is_some (if_selected search was) ≡ was_in → is_some (if_selected search now) ≡ false
    → messages_of_change (change_from was_in uuid was) ≡ notified None uuid (if_selected search was) (if_selected search now)
said_left search uuid was now was_in before after = by was before ∙ none (if_selected search now) after
  where
    none : (o : Option Entry) → is_some o ≡ false → notified None uuid (if_selected search was) None ≡ notified None uuid (if_selected search was) o
    none None is = refl
    none (Some e) is = absurd (true≢false is)

    by : (found : Option Entry) → is_some (if_selected search found) ≡ was_in → messages_of_change (change_from was_in uuid found) ≡ notified None uuid (if_selected search found) None
    by None is = refl
    by (Some e) is = step (is_selected search e) is
      where
        step : (b : Bool) → is_some (cond b (Some e) None) ≡ was_in → messages_of_change (cond was_in (Some (Deleted uuid e.dn)) None) ≡ notified None uuid (cond b (Some e) None) None
        step true on = ap (λ c. messages_of_change (cond c (Some (Deleted uuid e.dn)) None)) (sym on)
        step false off = ap (λ c. messages_of_change (cond c (Some (Deleted uuid e.dn)) None)) (sym off)

-- ---- the cookie

-- it stands on the last message alone
pub last_push : (cookie : CookieText) (messages : List SyncMessage) (last : SyncMessage) → last_with_cookie cookie (messages ++ last ∷ []) ≡ messages ++ with_cookie cookie last ∷ []
last_push cookie [] last = refl
last_push cookie (m ∷ []) last = refl
last_push cookie (m ∷ n ∷ ms) last = ap (λ l. m ∷ l) (last_push cookie (n ∷ ms) last)

-- a message of a change with another cookie
pub change_marked : (change : ContentChange) (cookie : CookieText) (old : Option CookieText) → with_cookie cookie (message_of_change change old) ≡ message_of_change change (Some cookie)
change_marked (Added entry) cookie old = refl
change_marked (Modified entry) cookie old = refl
change_marked (Deleted uuid name) cookie old = refl

-- the search goes on after it
pub change_goes : (change : ContentChange) (cookie : Option CookieText) → is_end (message_of_change change cookie) ≡ false
change_goes (Added entry) cookie = refl
change_goes (Modified entry) cookie = refl
change_goes (Deleted uuid name) cookie = refl

-- a cookie weighs nothing
pub change_weight : (change : ContentChange) (cookie : Option CookieText) → counted_weight (message_of_change change cookie) ≡ counted_weight (message_of_change change None)
change_weight (Added entry) cookie = refl
change_weight (Modified entry) cookie = refl
change_weight (Deleted uuid name) cookie = refl

-- ---- weights as they are counted

-- the counted sum is the sum, or above what any search may have pending
pub counted_sum : (messages : List SyncMessage) → (sum_by counted_weight messages ≡ sum_by message_weight messages)
    ⊎ ((2 ^ 64 - 1 ≤ sum_by counted_weight messages) × (2 ^ 64 - 1 ≤ sum_by message_weight messages))
counted_sum [] = inl refl
counted_sum (m ∷ ms) = by (counted_sum ms) (cases_lt (message_weight m) (2 ^ 64 - 1))
  where
    counted : sum_by counted_weight (m ∷ ms) ≡ counted_weight m + sum_by counted_weight ms
    counted = sum_by-cons counted_weight m ms

    whole : sum_by message_weight (m ∷ ms) ≡ message_weight m + sum_by message_weight ms
    whole = sum_by-cons message_weight m ms

    one : counted_weight m ≡ min (message_weight m) (2 ^ 64 - 1)
    one = refl

    by : (sum_by counted_weight ms ≡ sum_by message_weight ms) ⊎ ((2 ^ 64 - 1 ≤ sum_by counted_weight ms) × (2 ^ 64 - 1 ≤ sum_by message_weight ms))
        → (message_weight m < 2 ^ 64 - 1) ⊎ (2 ^ 64 - 1 ≤ message_weight m)
        → (sum_by counted_weight (m ∷ ms) ≡ sum_by message_weight (m ∷ ms)) ⊎ ((2 ^ 64 - 1 ≤ sum_by counted_weight (m ∷ ms)) × (2 ^ 64 - 1 ≤ sum_by message_weight (m ∷ ms)))
    by (inl same) (inl light) = inl (omega (arith, counted, whole, one, same, light))
    by (inl same) (inr heavy) = inr (omega (arith, counted, one, heavy), omega (arith, whole, heavy))
    by (inr far) light = inr (omega (arith, counted, far.0), omega (arith, whole, far.1))
