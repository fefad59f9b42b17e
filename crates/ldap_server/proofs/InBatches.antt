-- Entries in batches, which are sent one after the other.
use Rattle.std.proofs.Common.{◌≡◌, ◌≤◌, ℕ, Bool, List, [], ◌∷◌, ◌++◌, length, take, drop, reverse, Result, Vec, Global, refl, sym, ap, ◌∙◌, subst, append_assoc, arith, length-take}
use Rattle.std.specs.List.{flat_map}
use Rattle.std.proofs.lemmas.List.{append-nil, drop_all, drop-append-le, reverse-append, take-append-drop}
use Rattle.std.proofs.lemmas.List.Concat.{flat_map-append}
use Rattle.entry_tree.specs.declared.entry.Entry.{Entry}
use Rattle.ldap_server.specs.Points.{Point, Sends}
use Rattle.ldap_server.specs.Selecting.{entry_octets}
use Rattle.ldap_server.proofs.Performing.{with_sent}

-- a batch of entries, and what is sent of it
abbrev pub entries_in : Vec Entry Global → List Entry
entries_in batch = batch.items

abbrev pub batch_octets : ℕ → List (List ℕ) → Bool → Vec Entry Global → List ℕ
batch_octets id selectors types_only batch = flat_map (entry_octets id selectors types_only) batch.items

-- ---- lists whose items stand in batches

-- a list from one place on is what is before another place of it, and what is from there on
parted : {X : Type 0} (place at : ℕ) (xs : List X) → place ≤ at → at ≤ length xs → drop place xs ≡ drop place (take at xs) ++ drop at xs
parted place at xs before within =
    let inside : place ≤ length (take at xs) = omega (arith, before, length-take at xs, within) in
    ap (drop place) (sym (take-append-drop at xs)) ∙ drop-append-le place (take at xs) (drop at xs) inside

-- a batch more is cut from the end
pub one_batched : {X Y : Type 0} (f : X → List Y) (place at : ℕ) (all left : List Y) (batches : List X) (batch : X) → place ≤ at → at ≤ length left
    → all ≡ drop place left ++ flat_map f (reverse batches) → f batch ≡ drop at left
    → all ≡ drop place (take at left) ++ flat_map f (reverse (batches ++ batch ∷ []))
one_batched f place at all left batches batch before within is made =
    let more : drop at left ++ flat_map f (reverse batches) ≡ flat_map f (reverse (batches ++ batch ∷ [])) =
    ap (λ ys. ys ++ flat_map f (reverse batches)) (sym made) ∙ sym (ap (flat_map f) (reverse-append batches (batch ∷ []))) in
    is ∙ ap (λ ys. ys ++ flat_map f (reverse batches)) (parted place at left before within)
    ∙ append_assoc (drop place (take at left)) (drop at left) (flat_map f (reverse batches))
    ∙ ap (λ ys. drop place (take at left) ++ ys) more

-- all are in batches
pub all_batched : {X Y : Type 0} (f : X → List Y) (place : ℕ) (all left : List Y) (batches turned : List X) → length left ≤ place
    → all ≡ drop place left ++ flat_map f (reverse batches) → turned ≡ reverse batches → flat_map f turned ≡ all
all_batched f place all left batches turned none is same =
    ap (flat_map f) same ∙ sym (is ∙ ap (λ ys. ys ++ flat_map f (reverse batches)) (drop_all place left none))

-- what is made of the items of each batch is what is made of all
flat_map-batches : {X Y Z : Type 0} (items : X → List Y) (f : Y → List Z) (batches : List X)
    → flat_map (λ batch. flat_map f (items batch)) batches ≡ flat_map f (flat_map items batches)
flat_map-batches items f [] = refl
flat_map-batches items f (batch ∷ batches) =
    ap (λ zs. flat_map f (items batch) ++ zs) (flat_map-batches items f batches) ∙ sym (flat_map-append f (items batch) (flat_map items batches))

-- ---- batches that are sent

-- none adds nothing to what was sent
pub no_batch : {X : Type 0} (octets : X → List ℕ) (p : Point) → p ≡ with_sent p (p.sent ++ flat_map octets [])
no_batch octets p = ap (λ sent. with_sent p sent) (sym (append-nil p.sent))

-- one more
pub one_batch : {X : Type 0} (octets : X → List ℕ) (batches : List X) (batch : X) (old mid new : Point)
    → mid ≡ with_sent old (old.sent ++ flat_map octets batches) → new ≡ with_sent mid (mid.sent ++ octets batch)
    → new ≡ with_sent old (old.sent ++ flat_map octets (batches ++ batch ∷ []))
one_batch octets batches batch old mid new before one =
    let more : flat_map octets (batches ++ batch ∷ []) ≡ flat_map octets batches ++ octets batch =
    flat_map-append octets batches (batch ∷ []) ∙ ap (λ ys. flat_map octets batches ++ ys) (append-nil (octets batch)) in
    one ∙ ap (λ p. with_sent p (p.sent ++ octets batch)) before
    ∙ ap (λ sent. with_sent old sent) (append_assoc old.sent (flat_map octets batches) (octets batch) ∙ ap (λ ys. old.sent ++ ys) (sym more))

-- who sends all batches sends all entries
pub sends_batches : {X Y T E : Type 0} (items : X → List Y) (f : Y → List ℕ) (batches : List X) (all : List Y) (old new : Point) (r : Result T E)
    → flat_map items batches ≡ all → Sends (flat_map (λ batch. flat_map f (items batch)) batches) old r new → Sends (flat_map f all) old r new
sends_batches items f batches all old new r made sends =
    let same : flat_map (λ batch. flat_map f (items batch)) batches ≡ flat_map f all = flat_map-batches items f batches ∙ ap (flat_map f) made in
    subst (λ octets. Sends octets old r new) same sends
