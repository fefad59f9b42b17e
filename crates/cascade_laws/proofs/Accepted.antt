-- The accepted writes and the time after one more order.
use Rattle.std.proofs.Common.{◌≡◌, ℕ, false, List, [], ◌∷◌, ◌++◌, refl, ap, ◌∙◌, append_assoc}
use Rattle.std.proofs.lemmas.List.Sums.{fold-append}
use Rattle.std.specs.Prelude.{None}
use Rattle.std.specs.Str.{bytes_eq}
use Rattle.dn_names.specs.Names.{TypeAndValue}
use Rattle.entry_tree.specs.declared.op.Write.{Write}
use Rattle.cascade_laws.specs.Headline.{time_after, time_from, with_accepted, accepted_from, IsDeclared, followed, follows_now}
use Rattle.cascade_script.specs.Orders.{Order}
use Rattle.cascade_script.specs.Orders.{Order as asks}

-- the time after one order more
pub time_from-push : (time : ℕ) (orders : List Order) (order : Order) → time_from time (orders ++ order ∷ []) ≡ time_after (time_from time orders) order
time_from-push time [] order = refl
time_from-push time (o ∷ orders) order = time_from-push (time_after time o) orders order

-- the time after some orders, and then others
pub time_from-append : (time : ℕ) (orders more : List Order) → time_from time (orders ++ more) ≡ time_from (time_from time orders) more
time_from-append time [] more = refl
time_from-append time (o ∷ orders) more = time_from-append (time_after time o) orders more

-- the writes that a root has accepted after one order more
pub accepted_from-push : (history : ℕ) (suffix : List (List TypeAndValue)) (name : List ℕ) (time : ℕ) (writes : List Write) (orders : List Order) (order : Order)
    → accepted_from history suffix name time writes (orders ++ order ∷ [])
    ≡ with_accepted history suffix name (time_from time orders) (accepted_from history suffix name time writes orders) order
accepted_from-push history suffix name time writes [] order = refl
accepted_from-push history suffix name time writes (o ∷ orders) order =
    accepted_from-push history suffix name (time_after time o) (with_accepted history suffix name time writes o) orders order

-- an order that is no write to the directory of that name
abbrev pub Untouched : Order → List ℕ → Type 0
Untouched (asks.Write target change) name = bytes_eq target name ≡ false
Untouched _ name = Unit {0}

-- an order that is no write to a root leaves its writes
pub with_accepted-untouched : (history : ℕ) (suffix : List (List TypeAndValue)) (name : List ℕ) (time : ℕ) (writes : List Write) (order : Order)
    → Untouched order name → with_accepted history suffix name time writes order ≡ writes
with_accepted-untouched history suffix name time writes (asks.Provider other base) h = refl
with_accepted-untouched history suffix name time writes (asks.Consumer other source search reload) h = refl
with_accepted-untouched history suffix name time writes (asks.Replica other source search reload) h = refl
with_accepted-untouched history suffix name time writes (asks.Clock new) h = refl
with_accepted-untouched history suffix name time writes (asks.Write target change) h = rw h refl
with_accepted-untouched history suffix name time writes (asks.OpenOnce other) h = refl
with_accepted-untouched history suffix name time writes (asks.OpenStay other) h = refl
with_accepted-untouched history suffix name time writes (asks.Send other count) h = refl
with_accepted-untouched history suffix name time writes (asks.Take other count) h = refl
with_accepted-untouched history suffix name time writes (asks.Cut other) h = refl
with_accepted-untouched history suffix name time writes (asks.Settle other) h = refl
with_accepted-untouched history suffix name time writes (asks.Lose other) h = refl
with_accepted-untouched history suffix name time writes (asks.Cookie other text) h = refl
with_accepted-untouched history suffix name time writes (asks.Repoint other source) h = refl
with_accepted-untouched history suffix name time writes (asks.Respec other search) h = refl
with_accepted-untouched history suffix name time writes (asks.Log other limit) h = refl
with_accepted-untouched history suffix name time writes (asks.Queue other limit) h = refl
with_accepted-untouched history suffix name time writes (asks.Show other) h = refl

-- a declaration stays one, and a new one is one
abbrev pub declared-push : (before : List Order) (n : ℕ) (d : Order) (later : List Order) (order : Order) → IsDeclared before n d later → IsDeclared (before ++ order ∷ []) n d (later ++ order ∷ [])
declared-push before n d later order is = record {
  earlier = is.earlier;
  whole = ap (λ b. b ++ order ∷ []) is.whole ∙ append_assoc is.earlier (d ∷ later) (order ∷ []);
  numbered = is.numbered;
}

-- what a consumer follows after one more order
pub follows-push : (before : List Order) (order : Order) (consumer : List ℕ) → follows_now (before ++ order ∷ []) consumer ≡ followed consumer (follows_now before consumer) order
follows-push before order consumer = fold-append (followed consumer) None before (order ∷ [])
