-- What a longer history leaves: the cookies, and what a write sends.
use Rattle.std.proofs.Common.{◌≡◌, ◌≤◌, ℕ, ◌+◌, Bool, List, ◌++◌, length, refl, sym, ap, ◌∙◌, arith}
use Rattle.std.proofs.lemmas.List.{take-append-le}
use Rattle.entry_tree.specs.declared.entry.Entry.{Entry}
use Rattle.entry_tree.specs.declared.op.Write.{Write}
use Rattle.csn_cookie.specs.Csn.{start}
use Rattle.csn_cookie.specs.Cookie.{cookie_text}
use Rattle.entry_tree.specs.History.{state_of}
use Rattle.entry_tree.specs.Selection.{Search, select}
use Rattle.entry_tree.specs.Touched.{touched}
use Rattle.sync_model.specs.Message.{CookieText}
use Rattle.sync_model.specs.Stream.{SyncOperation, notified_all, group}
use Rattle.directory_writes.specs.Directory.{cookie_at, last_csn}
use Rattle.directory_writes.proofs.Notified.{Agree, agree-longer}
use Rattle.sync_provider.specs.Search.{cookie_after, session_of}

-- what a write sends, where two histories agree up to it
module _ (persists : Bool) (spec : Search) (f g : ℕ → List Entry) (c d : ℕ → CookieText) (count : ℕ) (same : Agree f g count) (cookie : c count ≡ d count) where
  abbrev one : SyncOperation
  one = record { persists = persists; selection = spec; states = f; cookies = c }

  abbrev other : SyncOperation
  other = record { persists = persists; selection = spec; states = g; cookies = d }

  group-agrees : (before : ℕ) → before + 1 ≡ count → group one before ≡ group other before
  group-agrees before next =
      let was : f before ≡ g before = same before (omega (arith, next)) in
      let cookies : c (before + 1) ≡ d (before + 1) = ap c next ∙ cookie ∙ sym (ap d next) in
      let is : f (before + 1) ≡ g (before + 1) = ap f next ∙ same count (omega arith) ∙ sym (ap g next) in
      λ i. notified_all (cookies i) (touched (select spec (was i)) (select spec (is i)))

-- a longer history has the same cookies
pub cookie-longer : (sid history : ℕ) (writes more : List Write) (count : ℕ) → count ≤ length writes → cookie_after sid history (writes ++ more) count ≡ cookie_after sid history writes count
cookie-longer sid history writes more count low = ap (λ ws. cookie_text (cookie_at sid history (last_csn (start sid) ws))) (take-append-le count writes more low)

-- the messages of a write do not depend on later ones
pub group-longer : (persists : Bool) (sid history : ℕ) (spec : Search) (writes more whole : List Write) (before : ℕ) → writes ++ more ≡ whole → before + 1 ≤ length writes
    → group (session_of persists sid history spec whole) before ≡ group (session_of persists sid history spec writes) before
group-longer persists sid history spec writes more whole before is low =
    ap (λ ws. group (session_of persists sid history spec ws) before) (sym is)
    ∙ group-agrees persists spec (state_of history (writes ++ more)) (state_of history writes) (cookie_after sid history (writes ++ more)) (cookie_after sid history writes) (before + 1)
    (λ n least. agree-longer history writes more n (omega (arith, least, low))) (cookie-longer sid history writes more (before + 1) low) before refl
