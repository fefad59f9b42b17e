-- Questions to a port, one after the other.
use Rattle.std.proofs.Common.{◌≡◌, ℕ, suc, ◌+◌, ◌<◌, Bool, List, [], ◌∷◌, ◌++◌, length, drop, get_or, refl, sym, ap, ◌∙◌, subst, add-one, drop-cons}
use Rattle.std.proofs.lemmas.List.{append-nil}
use Rattle.sync_provider.specs.Ports.{PortState, IsReplied}
use Rattle.ldap_server.specs.PortCalls.{PortCall, Dropped, Exchanged, Replies}
use Rattle.ldap_server.specs.Table.{Drops, DropsAll}
use Rattle.ldap_server.specs.declared.session_search.SessionSearch.{SessionSearch}

-- some questions, and then others
pub exchanged-append : (xs ys : List PortCall) (old between new : PortState)
    → Exchanged old xs between → Exchanged between ys new → Exchanged old (xs ++ ys) new
exchanged-append [] ys old between new first later = subst (λ p. Exchanged p ys new) first later
exchanged-append (x ∷ xs) ys old between new first later =
    (first.0, first.1, exchanged-append xs ys first.0 between new first.2 later)

-- one question
pub exchanged_one : (one : PortCall) (old new : PortState) → IsReplied old (λ p. Replies one p new) → Exchanged old (one ∷ []) new
exchanged_one one old new replied = (new, replied, refl)

-- one question after others
pub exchanged_more : (asked : List PortCall) (one : PortCall) (old between new : PortState)
    → Exchanged old asked between → IsReplied between (λ p. Replies one p new) → Exchanged old (asked ++ one ∷ []) new
exchanged_more asked one old between new first replied =
    exchanged-append asked (one ∷ []) old between new first (exchanged_one one between new replied)

-- ---- searches that are dropped one after the other

-- the first of the items that are left
pub left_is : {X : Type 0} (xs : List X) (i : ℕ) (x : X) → i < length xs → x ≡ get_or xs i x → drop i xs ≡ x ∷ drop (i + 1) xs
left_is xs i x less is = rw add-one (drop-cons xs i x less ∙ ap (λ y. y ∷ drop (suc i) xs) (sym is))

-- the first ones were dropped, and these are left
pub record Dropping (searches left : List SessionSearch) (old now : PortState) : Type 0 where
  pub asked : List PortCall
  pub exchanged : Exchanged old asked now
  pub goes_on : (more : List PortCall) → Drops left more → Drops searches (asked ++ more)

-- at first all searches are still to be dropped
pub dropping_none : (searches : List SessionSearch) (port : PortState) → Dropping searches searches port port
dropping_none searches port = record { asked = []; exchanged = refl; goes_on = λ more drops. drops }

append-one : (xs ys : List PortCall) (x : PortCall) → (xs ++ x ∷ []) ++ ys ≡ xs ++ x ∷ ys
append-one [] ys x = refl
append-one (y ∷ xs) ys x = ap (λ zs. y ∷ zs) (append-one xs ys x)

-- one more is dropped
pub dropping_one : (searches left : List SessionSearch) (search : SessionSearch) (was_open : Bool) (old between new : PortState)
    → Dropping searches (search ∷ left) old between
    → IsReplied between (λ p. Replies (Dropped search.number was_open) p new) → Dropping searches left old new
dropping_one searches left search was_open old between new d replied =
    let one : PortCall = Dropped search.number was_open in
    record {
      asked = d.asked ++ one ∷ [];
      exchanged = exchanged_more d.asked one old between new d.exchanged replied;
      goes_on = λ more drops.
          subst (λ asked. Drops searches asked) (sym (append-one d.asked more one))
          (d.goes_on (one ∷ more) (was_open, more, refl, drops));
    }

-- where none is left, all are dropped
pub dropping_all : (searches : List SessionSearch) (old new : PortState) → Dropping searches [] old new → DropsAll searches old new
dropping_all searches old new d = record {
  asked = d.asked;
  drops = subst (λ asked. Drops searches asked) (append-nil d.asked) (d.goes_on [] refl);
  exchanged = d.exchanged;
}
