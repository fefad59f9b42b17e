-- Digests of entries, of which some stay.
use Rattle.std.proofs.Common.{◌≡◌, ◌+◌, ◌<◌, ℕ, List, [], ◌∷◌, ◌++◌, length, map, take, get_or, Bor, Option, Some, None, sym, ap, ◌∙◌, subst}
use Rattle.std.specs.Prelude.{IfSome, IfNone}
use Rattle.std.specs.List.{flat_map}
use Rattle.std.proofs.lemmas.Grind.{flat_map-append}
use Rattle.std.proofs.lemmas.List.{flat_map_more, map-append, take_more}
use Rattle.entry_tree.specs.declared.entry.Entry.{Entry}
use Rattle.sha2.specs.Hashers.{Holds256}
use Rattle.sha2.specs.Sha256.{sha256}
use Rattle.sha2.specs.declared.Sha256.{Sha256}
use Rattle.sync_consumer.specs.Staging.{up_to}
use Rattle.cascade_report.specs.Digests.{prefix, HasDigested}
use Rattle.cascade_report.specs.ReportLines.{entry_text, text_of}

-- a hasher that has taken nothing has taken the text of no entries
pub nothing_digested : (hasher : Sha256) → Holds256 hasher [] → Holds256 hasher (text_of [])
unfolding text_of
nothing_digested hasher has = has

-- what is digested stays so where those entries stay
pub digested_on : (hasher : Sha256) (reached : Option ℕ) (before after : List Entry) → prefix reached after ≡ prefix reached before
    → HasDigested hasher reached before → HasDigested hasher reached after
digested_on hasher reached before after same has = subst (λ (es : List Entry). Holds256 hasher (text_of es)) (sym same) has

-- the text of the entries up to an identity, and that of those after it
joined : (reached : Option ℕ) (held rest : List Entry) → prefix reached held ++ rest ≡ held → text_of (prefix reached held) ++ text_of rest ≡ text_of held
unfolding text_of
joined reached held rest split = sym (flat_map-append entry_text (prefix reached held) rest) ∙ ap text_of split

-- all entries are up to the greatest identity
pub whole_prefix : (reached : Option ℕ) (held : List Entry) → IfSome reached (λ uuid. up_to uuid held ≡ held) → IfNone reached (held ≡ []) → prefix reached held ≡ held
whole_prefix None held some none = sym none
whole_prefix (Some uuid) held some none = some

-- with the text of those after it, that of all entries is digested
pub all_digested : (old new : Sha256) (reached greatest : Option ℕ) (held rest : List Entry) → HasDigested old reached held → prefix reached held ++ rest ≡ held
    → ((m : List ℕ) → Holds256 old m → Holds256 new (m ++ text_of rest))
    → IfSome greatest (λ uuid. up_to uuid held ≡ held) → IfNone greatest (held ≡ []) → HasDigested new greatest held
all_digested old new reached greatest held rest has split more some none =
    subst (Holds256 new) (joined reached held rest split ∙ sym (ap text_of (whole_prefix greatest held some none))) (more (text_of (prefix reached held)) has)

-- what a hasher has taken of the first entries, with the text of the others, gives the digest of
-- all
pub digest_is : (old : Sha256) (reached : Option ℕ) (held rest : List Entry) (digest : List ℕ) → HasDigested old reached held → prefix reached held ++ rest ≡ held
    → ((m : List ℕ) → Holds256 old m → digest ≡ sha256 (m ++ text_of rest)) → digest ≡ sha256 (text_of held)
digest_is old reached held rest digest has split more = more (text_of (prefix reached held)) has ∙ ap sha256 (joined reached held rest split)

-- an equal hasher has taken the same text
pub same_digested : (old new : Sha256) (reached : Option ℕ) (held : List Entry) → new ≡ old → HasDigested old reached held → HasDigested new reached held
same_digested old new reached held same has = subst (λ (h : Sha256). HasDigested h reached held) (sym same) has

-- ---- texts that are taken one after another

-- entries that are lent
abbrev lent : List (Bor Entry) → List Entry
lent es = map (λ (e : Bor Entry). e.now) es

lent_more : (es : List (Bor Entry)) (i : ℕ) (e : Bor Entry) → i < length es → e ≡ get_or es i e → lent (take (i + 1) es) ≡ lent (take i es) ++ e.now ∷ []
lent_more es i e low is =
    ap lent (take_more es i e low)
    ∙ map-append (λ (x : Bor Entry). x.now) (take i es) (get_or es i e ∷ [])
    ∙ ap (λ (x : Bor Entry). lent (take i es) ++ x.now ∷ []) (sym is)

-- with the text of one entry more, that of one more is taken
pub taken_more : (old new : Sha256) (m text : List ℕ) (es : List (Bor Entry)) (i : ℕ) (e : Bor Entry) → i < length es → e ≡ get_or es i e → text ≡ entry_text e.now
    → Holds256 old (m ++ flat_map entry_text (lent (take i es))) → ((m : List ℕ) → Holds256 old m → Holds256 new (m ++ text))
    → Holds256 new (m ++ flat_map entry_text (lent (take (i + 1) es)))
taken_more old new m text es i e low is same has more =
    subst (Holds256 new)
    (ap (λ (t : List ℕ). (m ++ flat_map entry_text (lent (take i es))) ++ t) same
    ∙ flat_map_more entry_text m (lent (take i es)) e.now
    ∙ ap (λ (xs : List Entry). m ++ flat_map entry_text xs) (sym (lent_more es i e low is)))
    (more (m ++ flat_map entry_text (lent (take i es))) has)
