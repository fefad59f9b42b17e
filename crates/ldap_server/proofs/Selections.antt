-- Entries that a search is sent.
use Rattle.std.proofs.Common.{◌≡◌, ℕ, ◌+◌, ◌<◌, ◌≤◌, Bool, true, false, List, [], ◌∷◌, ◌++◌, length, map, filter, take, get_or, take_all, Result, refl, sym, ap, ◌∙◌, subst, append_assoc}
use Rattle.std.specs.List.{flat_map}
use Rattle.std.proofs.lemmas.List.{append-nil, map-append, take_more}
use Rattle.std.proofs.lemmas.List.Concat.{flat_map-append}
use Rattle.std.proofs.lemmas.List.Elements.{filter-append}
use Rattle.ldap_messages.specs.Operation.{IsOfGrammar}
use Rattle.ldap_messages.specs.Whole.{MessageValue}
use Rattle.schema_rules.specs.declared.raw.RawAttribute.{RawAttribute}
use Rattle.ldap_server.specs.Points.{Point, Sends}
use Rattle.ldap_server.specs.Selecting.{as_sent, is_selected, sent_of}
use Rattle.ldap_server.proofs.Performing.{IsPart, part_more, sends_more, with_sent}

-- one item more is taken
next_taken : {X : Type 0} (xs : List X) (i : ℕ) (x : X) → i < length xs → x ≡ get_or xs i x → take (i + 1) xs ≡ take i xs ++ x ∷ []
next_taken xs i x less is = take_more xs i x less ∙ ap (λ y. take i xs ++ y ∷ []) (sym is)

-- what is sent of some attributes, and then of others
pub sent_of-append : (selectors : List (List ℕ)) (types_only : Bool) (xs ys : List RawAttribute)
    → sent_of selectors types_only (xs ++ ys) ≡ sent_of selectors types_only xs ++ sent_of selectors types_only ys
sent_of-append selectors types_only xs ys =
    ap (map (as_sent types_only)) (filter-append (is_selected selectors) xs ys)
    ∙ map-append (as_sent types_only) (filter (is_selected selectors) xs) (filter (is_selected selectors) ys)

-- one attribute more
pub sent_of-next : {X : Type 0} (f : X → RawAttribute) (selectors : List (List ℕ)) (types_only : Bool) (xs : List X) (i : ℕ) (x : X) → i < length xs → x ≡ get_or xs i x
    → sent_of selectors types_only (map f (take (i + 1) xs)) ≡ sent_of selectors types_only (map f (take i xs)) ++ sent_of selectors types_only (f x ∷ [])
sent_of-next f selectors types_only xs i x less is =
    ap (λ ys. sent_of selectors types_only (map f ys)) (next_taken xs i x less is)
    ∙ ap (sent_of selectors types_only) (map-append f (take i xs) (x ∷ []))
    ∙ sent_of-append selectors types_only (map f (take i xs)) (f x ∷ [])

-- an attribute that is selected, and one that is not
pub sent_of-chosen : (selectors : List (List ℕ)) (types_only : Bool) (a : RawAttribute)
    → is_selected selectors a ≡ true → sent_of selectors types_only (a ∷ []) ≡ as_sent types_only a ∷ []
sent_of-chosen selectors types_only a yes' = rw yes' refl

-- an attribute that is not selected is not sent
pub sent_of-other : (selectors : List (List ℕ)) (types_only : Bool) (a : RawAttribute)
    → is_selected selectors a ≡ false → sent_of selectors types_only (a ∷ []) ≡ []
sent_of-other selectors types_only a no' = rw no' refl

-- ---- entries that are sent one after the other

-- at first no entry is sent
pub sent_none : {X : Type 0} (f : X → List ℕ) (xs : List X) (p : Point) → p ≡ with_sent p (p.sent ++ flat_map f (take 0 xs))
sent_none f xs p = ap (λ sent. with_sent p sent) (sym (append-nil p.sent))

-- one more
pub sent_one : {X : Type 0} (f : X → List ℕ) (xs : List X) (i : ℕ) (x : X) (old mid new : Point) → i < length xs → x ≡ get_or xs i x
    → mid ≡ with_sent old (old.sent ++ flat_map f (take i xs)) → new ≡ with_sent mid (mid.sent ++ f x)
    → new ≡ with_sent old (old.sent ++ flat_map f (take (i + 1) xs))
sent_one f xs i x old mid new less is before one =
    let more : flat_map f (take (i + 1) xs) ≡ flat_map f (take i xs) ++ f x =
    ap (flat_map f) (next_taken xs i x less is) ∙ flat_map-append f (take i xs) (x ∷ []) ∙ ap (λ ys. flat_map f (take i xs) ++ ys) (append-nil (f x)) in
    one ∙ ap (λ p. with_sent p (p.sent ++ f x)) before
    ∙ ap (λ sent. with_sent old sent) (append_assoc old.sent (flat_map f (take i xs)) (f x) ∙ ap (λ ys. old.sent ++ ys) (sym more))

-- all
pub sent_whole : {X : Type 0} (f : X → List ℕ) (xs : List X) (i : ℕ) (old new : Point) → length xs ≤ i
    → new ≡ with_sent old (old.sent ++ flat_map f (take i xs)) → new ≡ with_sent old (old.sent ++ flat_map f xs)
sent_whole f xs i old new all sent = sent ∙ ap (λ ys. with_sent old (old.sent ++ flat_map f ys)) (take_all i xs all)

-- the first ones, then the others, and then what follows
pub sent_then : {X T E : Type 0} (f : X → List ℕ) (first rest xs : List X) (later : List ℕ) (old mid between new : Point) (r : Result T E) → xs ≡ first ++ rest
    → mid ≡ with_sent old (old.sent ++ flat_map f first) → between ≡ with_sent mid (mid.sent ++ flat_map f rest) → Sends later between r new
    → Sends (flat_map f xs ++ later) old r new
sent_then f first rest xs later old mid between new r parts before after sends =
    let P : Point → Type 0 = λ p. between ≡ with_sent p (p.sent ++ flat_map f rest) in
    let both : flat_map f first ++ flat_map f rest ≡ flat_map f xs = sym (flat_map-append f first rest) ∙ ap (flat_map f) (sym parts) in
    let all : between ≡ with_sent old (old.sent ++ flat_map f xs) =
    subst P before after ∙ ap (λ sent. with_sent old sent) (append_assoc old.sent (flat_map f first) (flat_map f rest) ∙ ap (λ ys. old.sent ++ ys) both) in
    sends_more (flat_map f xs) later old between new r all sends

-- memory ran out at one of them
pub sent_part : {X : Type 0} (f : X → List ℕ) (xs : List X) (i : ℕ) (old mid new : Point)
    → mid ≡ with_sent old (old.sent ++ flat_map f (take i xs)) → IsPart mid new → IsPart old new
sent_part f xs i old mid new before part = part_more (flat_map f (take i xs)) old mid new before part

-- an entry is of the grammar
pub entry_spelled : (whole : MessageValue) (sent : MessageValue) → whole ≡ sent → IsOfGrammar sent.1.0 → IsOfGrammar whole.1.0
entry_spelled whole sent is spelled = subst (λ (w : MessageValue). IsOfGrammar w.1.0) (sym is) spelled
