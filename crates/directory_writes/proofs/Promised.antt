-- What a cookie promises of entries, and that more writes break no promise.
use Rattle.std.proofs.Common.{◌≡◌, ℕ, ◌≤◌, Option, Some, None, List, [], ◌∷◌, ◌++◌, length, take, ap, sym, ◌∙◌, inl, inr, arith, append_assoc, append-nil, subst}
use Rattle.std.specs.Prelude.{true}
use Rattle.std.proofs.lemmas.Bool.{cases_lt}
use Rattle.std.proofs.lemmas.List.{take-append-le, take_all, length-append}
use Rattle.csn_cookie.specs.Csn.{CsnValue, start, is_upto}
use Rattle.csn_cookie.specs.declared.cookie.Cookie.{Cookie}
use Rattle.entry_tree.specs.Selection.{Search, select}
use Rattle.entry_tree.specs.declared.entry.Entry.{Entry}
use Rattle.entry_tree.specs.declared.op.Write.{Write}
use Rattle.directory_writes.specs.Directory.{entries_after, last_csn}

-- what is selected after n of these writes
abbrev pub content_at : ℕ → Search → List Write → ℕ → List Entry
content_at number search writes count = select search (entries_after number (take count writes))

-- ---- what a cookie promises

-- the entries are the content after n writes, of which the last CSN is not below this one
pub record IsContent (number : ℕ) (search : Search) (writes : List Write) (entries : List Entry) (csn : CsnValue) : Type 0 where
  pub count : ℕ
  pub within : count ≤ length writes
  pub not_below : is_upto csn (last_csn (start number) (take count writes)) ≡ true
  pub same : entries ≡ content_at number search writes count

-- a cookie of the history of this number promises that its writes are no more than those that led to the entries
abbrev pub IsPromised : ℕ → Search → List Write → List Entry → Option Cookie → Type 0
IsPromised number search writes entries None = Unit {0}
IsPromised number search writes entries (Some cookie) = cookie.history ≡ number → IsContent number search writes entries cookie.csn

-- what is promised of some writes is promised where more follow; and without writes of what is empty
abbrev pub PromisesLast : Type 0
PromisesLast =
    (number : ℕ) (search : Search) (writes more : List Write) (entries : List Entry) (cookie : Option Cookie)
    → IsPromised number search writes entries cookie → IsPromised number search (writes ++ more) entries cookie

-- ---- one more write

-- the first writes are as they were
pub prefix-push : (writes : List Write) (w : Write) (count : ℕ) → count ≤ length writes → take count (writes ++ w ∷ []) ≡ take count writes
prefix-push writes w count within = take-append-le count writes (w ∷ []) within

-- what holds of the prefixes of some writes, and of all with one more, holds of all prefixes then
pub prefixes-push : (P : List Write → Type 0) (writes : List Write) (w : Write) → ((count : ℕ) → P (take count writes)) → P (writes ++ w ∷ []) → (count : ℕ) → P (take count (writes ++ w ∷ []))
prefixes-push P writes w each whole count = elim (cases_lt (length writes) count) [
  | inl beyond ↦ subst P (sym (take_all count (writes ++ w ∷ []) (omega (arith, beyond, length-append writes (w ∷ []))))) whole
  | inr within ↦ subst P (sym (prefix-push writes w count within)) (each count)
]

-- cookies promise what they promised
content-push : (number : ℕ) (search : Search) (writes : List Write) (w : Write) (entries : List Entry) (csn : CsnValue) → IsContent number search writes entries csn → IsContent number search (writes ++ w ∷ []) entries csn
content-push number search writes w entries csn is = record {
  count = is.count;
  within = omega (arith, is.within, length-append writes (w ∷ []));
  not_below = ap (λ (prefix : List Write). is_upto csn (last_csn (start number) prefix)) (prefix-push writes w is.count is.within) ∙ is.not_below;
  same = is.same ∙ ap (λ (prefix : List Write). select search (entries_after number prefix)) (sym (prefix-push writes w is.count is.within));
}

-- what a cookie promises of some writes it promises where one more follows
pub promised-push : (number : ℕ) (search : Search) (writes : List Write) (w : Write) (entries : List Entry) (cookie : Option Cookie) → IsPromised number search writes entries cookie
    → IsPromised number search (writes ++ w ∷ []) entries cookie
promised-push number search writes w entries None promised = tt
promised-push number search writes w entries (Some cookie) promised = λ own. content-push number search writes w entries cookie.csn (promised own)

promised-more : (number : ℕ) (search : Search) (writes more : List Write) (entries : List Entry) (cookie : Option Cookie) → IsPromised number search writes entries cookie
    → IsPromised number search (writes ++ more) entries cookie
promised-more number search writes [] entries cookie promised = subst (λ ws. IsPromised number search ws entries cookie) (sym (append-nil writes)) promised
promised-more number search writes (w ∷ more) entries cookie promised =
    subst (λ ws. IsPromised number search ws entries cookie) (append_assoc writes (w ∷ []) more)
    (promised-more number search (writes ++ w ∷ []) more entries cookie (promised-push number search writes w entries cookie promised))

-- and where any number follow
pub promises_last : PromisesLast
promises_last = promised-more
