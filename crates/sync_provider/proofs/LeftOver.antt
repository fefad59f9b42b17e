-- What is left of a list without its first elements.
use Rattle.std.proofs.Common.{◌≡◌, ◌+◌, ◌<◌, Bor, ℕ, zero, suc, Bool, true, false, nat_le, List, [], ◌∷◌, length, drop, Option, Some, None, refl, ap, sym, ◌∙◌, arith}
use Rattle.std.specs.Prelude.{is_none, option_map, slice_get, unwrap_or}
use Rattle.std.specs.Option.{option_copied}
use Rattle.std.proofs.lemmas.Bool.{leb-false, false≢true}
use Rattle.std.proofs.lemmas.Bool.Decides.{nat_tests}
use Rattle.sync_model.specs.Law.{is_nil}
use Rattle.sync_model.specs.Message.{SyncMessage}
use Rattle.sync_provider.specs.Search.{message_of, messages_of}
use Rattle.sync_provider.specs.declared.refresh_item.RefreshItem.{RefreshItem}

-- none is left after all
pub end_is : {X : Type 0} (xs : List X) (k : ℕ) → nat_le (length xs) k ≡ is_nil (drop k xs)
end_is [] zero = refl
end_is [] (suc k) = grind (arith, nat_tests)
end_is (x ∷ xs) zero = grind (arith, nat_tests)
end_is (x ∷ xs) (suc k) = grind (arith, nat_tests, end_is xs k)

-- it has not where one is
pub not_end : {X : Type 0} (xs : List X) (k : ℕ) → is_nil (drop k xs) ≡ false → k < length xs
not_end xs k h = by (nat_le (length xs) k) refl
  where
    by : (b : Bool) → nat_le (length xs) k ≡ b → k < length xs
    by true is = absurd (false≢true (sym h ∙ sym (end_is xs k) ∙ is))
    by false is = leb-false (length xs) k is

-- nothing is left of nothing
pub drop_none : {X : Type 0} (k : ℕ) → drop {A = X} k [] ≡ []
drop_none zero = refl
drop_none (suc k) = refl

-- one part fewer is left
pub drop_one : {X : Type 0} (xs : List X) (k : ℕ) → drop (k + 1) xs ≡ drop 1 (drop k xs)
drop_one [] k = drop_none (k + 1) ∙ sym (ap (λ l. drop 1 l) (drop_none k))
drop_one (x ∷ xs) zero = refl
drop_one (x ∷ xs) (suc k) = let more : suc k + 1 ≡ suc (k + 1) = omega arith in ap (λ n. drop n (x ∷ xs)) more ∙ drop_one xs k

-- ---- messages of parts

-- the message of the first part that is left
first_left : (items : List RefreshItem) (k : ℕ) → option_map message_of (slice_get items k) ≡ slice_get (messages_of (drop k items)) 0
first_left [] zero = refl
first_left [] (suc k) = refl
first_left (item ∷ items) zero = refl
first_left (item ∷ items) (suc k) = first_left items k

-- the part is lent
pub first_lent : (found : Option (Bor RefreshItem)) (items : List RefreshItem) (k : ℕ) → option_copied found ≡ slice_get items k
    → option_map (λ (item : Bor RefreshItem). message_of item.now) found ≡ slice_get (messages_of (drop k items)) 0
first_lent found items k is = by found ∙ ap (option_map message_of) is ∙ first_left items k
  where
    by : (found : Option (Bor RefreshItem)) → option_map (λ (item : Bor RefreshItem). message_of item.now) found ≡ option_map message_of (option_copied found)
    by None = refl
    by (Some item) = refl

-- none is left where there is none
pub none_lent : (found : Option (Bor RefreshItem)) (messages : List SyncMessage) → option_map (λ (item : Bor RefreshItem). message_of item.now) found ≡ slice_get messages 0 → is_none found ≡ is_nil messages
none_lent None [] is = refl
none_lent (Some item) (m ∷ messages) is = refl
none_lent None (m ∷ messages) is = absurd (cc)
none_lent (Some item) [] is = absurd (cc)

-- one message fewer is left
pub one_fewer : (items : List RefreshItem) (k : ℕ) → messages_of (drop (k + 1) items) ≡ drop 1 (messages_of (drop k items))
one_fewer items k = ap messages_of (drop_one items k) ∙ by (drop k items)
  where
    by : (left : List RefreshItem) → messages_of (drop 1 left) ≡ drop 1 (messages_of left)
    by [] = refl
    by (item ∷ left) = refl

-- so where they are kept in something
pub one_fewer_held : {X : Type 0} → (of : X → List RefreshItem) (held : Option X) (k : ℕ)
    → unwrap_or (option_map (λ items. messages_of (drop (k + 1) (of items))) held) [] ≡ drop 1 (unwrap_or (option_map (λ items. messages_of (drop k (of items))) held) [])
one_fewer_held of None k = refl
one_fewer_held of (Some items) k = one_fewer (of items) k

-- a message is left where a part is
pub part_left : (items : List RefreshItem) (k : ℕ) → is_nil (messages_of (drop k items)) ≡ false → k < length items
part_left items k some = not_end items k (by (drop k items) some)
  where
    by : (left : List RefreshItem) → is_nil (messages_of left) ≡ false → is_nil left ≡ false
    by [] some = some
    by (item ∷ left) some = refl
