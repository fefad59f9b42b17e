-- The answer to a plain search, by whether its base has an entry, and by its limit.
use Rattle.std.proofs.Common.{◌≡◌, ◌<◌, ◌≤◌, ℕ, Bool, true, false, cond, List, length, take, Option, Some, None, ap, arith}
use Rattle.std.specs.Prelude.{is_some, nat_lt}
use Rattle.std.proofs.lemmas.Bool.{and_parts, ltb-true}
use Rattle.entry_tree.specs.declared.entry.Entry.{Entry}
use Rattle.entry_tree.specs.Selection.{search_of, select}
use Rattle.entry_tree.specs.State.{entry_named}
use Rattle.sync_provider.specs.Searching.{is_over, limited, reply_to}
use Rattle.sync_provider.specs.declared.searching.PlainSearch.{PlainSearch}
use Rattle.sync_provider.specs.declared.searching.SearchReply.TheVariants.{Found, Over, NoSuchBase}

-- ---- the base

by_base : (entries : List Entry) (ask : PlainSearch) (found : Option Entry) → entry_named entries ask.spec.base ≡ found
    → reply_to entries ask ≡ cond (is_some found) (limited ask.size_limit (select (search_of ask.spec) entries)) NoSuchBase
by_base entries ask found is = ap (λ e. cond (is_some e) (limited ask.size_limit (select (search_of ask.spec) entries)) NoSuchBase) is

-- it has no entry
pub no_base : (entries : List Entry) (ask : PlainSearch) → entry_named entries ask.spec.base ≡ None → reply_to entries ask ≡ NoSuchBase
no_base entries ask none = by_base entries ask None none

-- it has one
pub with_base : (entries : List Entry) (ask : PlainSearch) (e : Entry) → entry_named entries ask.spec.base ≡ Some e
    → reply_to entries ask ≡ limited ask.size_limit (select (search_of ask.spec) entries)
with_base entries ask e there = by_base entries ask (Some e) there

-- ---- the limit

by_limit : (limit : ℕ) (found : List Entry) (over : Bool) → is_over limit found ≡ over → limited limit found ≡ cond over (Over (take limit found)) (Found found)
by_limit limit found over is = ap (λ b. cond b (Over (take limit found)) (Found found)) is

-- not too many are found
pub within_limit : (limit : ℕ) (found : List Entry) → is_over limit found ≡ false → limited limit found ≡ Found found
within_limit limit found within = by_limit limit found false within

-- too many are found
pub over_limit : (limit : ℕ) (found : List Entry) → is_over limit found ≡ true → limited limit found ≡ Over (take limit found)
over_limit limit found over = by_limit limit found true over

-- that many entries were found
pub over_low : (limit : ℕ) (found : List Entry) → is_over limit found ≡ true → limit ≤ length found
over_low limit found over =
    let more : limit < length found = ltb-true limit (length found) (and_parts (nat_lt 0 limit) (nat_lt limit (length found)) over).1 in
    omega (arith, more)
