-- Messages that are handed out of searches.
use Rattle.std.proofs.Common.{◌≡◌, ℕ, ◌+◌, ◌<◌, ◌≤◌, Bool, true, false, List, [], ◌∷◌, ◌++◌, length, suc, take, drop, get_or, refl, sym, ap, ◌∙◌, subst, append_assoc, arith, length-append, length-take, length-drop, ◌-◌}
use Rattle.std.proofs.lemmas.List.{append-nil}
use Rattle.ldap_server.specs.PortCalls.{PortCall, Exchanged}
use Rattle.ldap_server.specs.HandOuts.{HandsOutAll, HasTurn, Turns, left_open, place_after, searches_after}
use Rattle.ldap_server.specs.Points.{Point, Begun, IsPerformed}
use Rattle.ldap_server.specs.SessionState.{SessionState}
use Rattle.ldap_server.specs.declared.session_search.SessionSearch.{SessionSearch}
use Rattle.ldap_server.proofs.Exchanging.{exchanged-append}

-- ---- all searches

-- the searches before a place had their turns; whoever goes on with those that are left has all had
-- theirs
pub record HaveTurned (place : ℕ) (old new : Point) : Type 0 where
  pub kept : List SessionSearch
  pub left : List SessionSearch
  pub place_is : length kept ≡ place
  pub searches_are : new.session.searches ≡ kept ++ left
  pub bound_is : new.session.bound ≡ old.session.bound
  pub asked : List PortCall
  pub octets : List ℕ
  pub exchanged : Exchanged old.port asked new.port
  pub sent_is : new.sent ≡ old.sent ++ octets
  pub goes_on : (more : List PortCall) (later : List ℕ) (rest : List SessionSearch) → Turns left more later rest
      → Turns old.session.searches (asked ++ more) (octets ++ later) (kept ++ rest)

-- at first no search has had its turn
pub turned_none : (p : Point) → HaveTurned 0 p p
turned_none p = record {
  kept = [];
  left = p.session.searches;
  place_is = refl;
  searches_are = refl;
  bound_is = refl;
  asked = [];
  octets = [];
  exchanged = refl;
  sent_is = sym (append-nil p.sent);
  goes_on = λ more later rest turns. turns;
}

at_here : (kept more : List SessionSearch) (search d : SessionSearch) → get_or (kept ++ search ∷ more) (length kept) d ≡ search
at_here [] more search d = refl
at_here (first ∷ kept) more search d = at_here kept more search d

without_here : (kept more : List SessionSearch) (search : SessionSearch)
    → take (length kept) (kept ++ search ∷ more) ++ drop (length kept + 1) (kept ++ search ∷ more) ≡ kept ++ more
without_here [] more search = refl
without_here (first ∷ kept) more search =
    let next : suc (length kept + 1) ≡ suc (length kept) + 1 = omega arith in
    subst (λ n. take (suc (length kept)) (first ∷ (kept ++ search ∷ more)) ++ drop n (first ∷ (kept ++ search ∷ more)) ≡ first ∷ (kept ++ more)) next
    (ap (λ xs. first ∷ xs) (without_here kept more search))

-- the search at the place is the first of those that are left
first_left : (place : ℕ) (old mid : Point) (search : SessionSearch) (h : HaveTurned place old mid)
    → place < length mid.session.searches → search ≡ get_or mid.session.searches place search
    → (more : List SessionSearch) × (h.left ≡ search ∷ more)
first_left place old mid search h low is = step h.left refl
  where
    step : (left : List SessionSearch) → h.left ≡ left → (more : List SessionSearch) × (h.left ≡ search ∷ more)
    step [] none =
        let all : mid.session.searches ≡ h.kept = h.searches_are ∙ ap (λ xs. h.kept ++ xs) none ∙ append-nil h.kept in
        absurd (omega (arith, low, ap length all, h.place_is))
    step (first ∷ more) some =
        let all : mid.session.searches ≡ h.kept ++ first ∷ more = h.searches_are ∙ ap (λ xs. h.kept ++ xs) some in
        let here : search ≡ first = is ∙ ap (λ xs. get_or xs place search) all ∙ ap (λ n. get_or (h.kept ++ first ∷ more) n search) (sym h.place_is) ∙ at_here h.kept more first search in
        (more, some ∙ ap (λ s. s ∷ more) (sym here))

-- the turn of one search, after which these are kept of it
turned_by : (place next : ℕ) (old mid after new : Point) (search : SessionSearch) (stays : Bool) (more : List SessionSearch) (h : HaveTurned place old mid)
    → h.left ≡ search ∷ more → HasTurn search mid stays after
    → length (h.kept ++ left_open search stays) ≡ next → new.session.searches ≡ (h.kept ++ left_open search stays) ++ more
    → new.session.bound ≡ after.session.bound → new.port ≡ after.port → new.sent ≡ after.sent
    → HaveTurned next old new
turned_by place next old mid after new search stays more h is t count searches bound port sent = record {
  kept = h.kept ++ left_open search stays;
  left = more;
  place_is = count;
  searches_are = searches;
  bound_is = bound ∙ ap (λ (s : SessionState). s.bound) t.same ∙ h.bound_is;
  asked = h.asked ++ t.asked;
  octets = h.octets ++ t.octets;
  exchanged = subst (λ p. Exchanged old.port (h.asked ++ t.asked) p) (sym port) (exchanged-append h.asked t.asked old.port mid.port after.port h.exchanged t.exchanged);
  sent_is = sent ∙ t.sent_is ∙ ap (λ xs. xs ++ t.octets) h.sent_is ∙ append_assoc old.sent h.octets t.octets;
  goes_on = λ asked later rest turns.
      let all : Turns (search ∷ more) (t.asked ++ asked) (t.octets ++ later) (left_open search stays ++ rest) =
      (t.asked, asked, t.octets, later, stays, rest, t.turn, turns, refl, refl, refl) in
      rw (append_assoc h.asked t.asked asked, append_assoc h.octets t.octets later, append_assoc h.kept (left_open search stays) rest)
      (h.goes_on (t.asked ++ asked) (t.octets ++ later) (left_open search stays ++ rest) (subst (λ xs. Turns xs (t.asked ++ asked) (t.octets ++ later) (left_open search stays ++ rest)) (sym is) all));
}

-- the search stays open
pub turned_on : (place : ℕ) (old mid after : Point) (search : SessionSearch) → HaveTurned place old mid
    → place < length mid.session.searches → search ≡ get_or mid.session.searches place search
    → HasTurn search mid true after → HaveTurned (place + 1) old after
turned_on place old mid after search h low is t =
    let first = first_left place old mid search h low is in
    turned_by place (place + 1) old mid after after search true first.0 h first.1 t
    (omega (arith, length-append h.kept (search ∷ []), h.place_is))
    (ap (λ (s : SessionState). s.searches) t.same ∙ h.searches_are ∙ ap (λ xs. h.kept ++ xs) first.1 ∙ sym (append_assoc h.kept (search ∷ []) first.0))
    refl refl refl

-- it is over, and taken out of the list
pub turned_off : (place : ℕ) (old mid after : Point) (search : SessionSearch) (left : List SessionSearch) → HaveTurned place old mid
    → place < length mid.session.searches → search ≡ get_or mid.session.searches place search
    → HasTurn search mid false after → left ≡ take place after.session.searches ++ drop (place + 1) after.session.searches
    → HaveTurned place old (record { port = after.port; session = record { bound = after.session.bound; searches = left }; sent = after.sent })
turned_off place old mid after search left h low is t out =
    let first = first_left place old mid search h low is in
    let all : after.session.searches ≡ h.kept ++ search ∷ first.0 = ap (λ (s : SessionState). s.searches) t.same ∙ h.searches_are ∙ ap (λ xs. h.kept ++ xs) first.1 in
    let gone : left ≡ h.kept ++ first.0 =
    out ∙ ap (λ xs. take place xs ++ drop (place + 1) xs) all
    ∙ ap (λ n. take n (h.kept ++ search ∷ first.0) ++ drop (n + 1) (h.kept ++ search ∷ first.0)) (sym h.place_is)
    ∙ without_here h.kept first.0 search in
    turned_by place place old mid after (record { port = after.port; session = record { bound = after.session.bound; searches = left }; sent = after.sent }) search false first.0 h first.1 t
    (ap length (append-nil h.kept) ∙ h.place_is)
    (gone ∙ ap (λ xs. xs ++ first.0) (sym (append-nil h.kept)))
    refl refl refl

-- whichever
pub turned_next : (place next : ℕ) (old mid after : Point) (search : SessionSearch) (stays : Bool) (left : List SessionSearch) → HaveTurned place old mid
    → place < length mid.session.searches → search ≡ get_or mid.session.searches place search
    → HasTurn search mid stays after → next ≡ place_after stays place → left ≡ searches_after stays place after.session.searches
    → HaveTurned next old (record { port = after.port; session = record { bound = after.session.bound; searches = left }; sent = after.sent })
turned_next place next old mid after search true left h low is t at all =
    let P : List SessionSearch → Type 0 = λ xs. HaveTurned (place + 1) old (record { port = after.port; session = record { bound = after.session.bound; searches = xs }; sent = after.sent }) in
    subst (λ n. HaveTurned n old (record { port = after.port; session = record { bound = after.session.bound; searches = left }; sent = after.sent })) (sym at)
    (subst P (sym all) (turned_on place old mid after search h low is t))
turned_next place next old mid after search false left h low is t at all =
    subst (λ n. HaveTurned n old (record { port = after.port; session = record { bound = after.session.bound; searches = left }; sent = after.sent })) (sym at)
    (turned_off place old mid after search left h low is t all)

-- fewer searches are left
pub turned_smaller : (stays : Bool) (place next : ℕ) (searches left : List SessionSearch) → place < length searches → next ≡ place_after stays place → left ≡ searches_after stays place searches
    → length left - next < length searches - place
turned_smaller true place next searches left low at all = omega (arith, low, at, ap length all)
turned_smaller false place next searches left low at all =
    omega (arith, low, at, ap length all, length-append (take place searches) (drop (place + 1) searches), length-take place searches, length-drop (place + 1) searches)

-- all had their turns
pub turned_all : (place : ℕ) (old new : Point) → HaveTurned place old new → length new.session.searches ≤ place → IsPerformed HandsOutAll old new
turned_all place old new h all = step h.left refl
  where
    step : (left : List SessionSearch) → h.left ≡ left → IsPerformed HandsOutAll old new
    step [] none =
        let kept : new.session.searches ≡ h.kept = h.searches_are ∙ ap (λ xs. h.kept ++ xs) none ∙ append-nil h.kept in
        let turns : Turns old.session.searches (h.asked ++ []) (h.octets ++ []) (h.kept ++ []) =
        h.goes_on [] [] [] (subst (λ xs. Turns xs [] [] []) (sym none) (refl, refl, refl)) in
        let there : Turns old.session.searches h.asked h.octets h.kept = rw (append-nil h.asked, append-nil h.octets, append-nil h.kept) at turns in
        record {
          asked = h.asked;
          octets = h.octets;
          act = record {
            turns = subst (λ xs. Turns old.session.searches h.asked h.octets xs) (sym kept) there;
            bound_is = h.bound_is;
          };
          exchanged = h.exchanged;
          sent_is = h.sent_is;
        }
    step (first ∷ more) some =
        absurd (omega (arith, all, h.place_is, ap length (h.searches_are ∙ ap (λ xs. h.kept ++ xs) some), length-append h.kept (first ∷ more)))

-- memory ran out in the turn of one search
pub turned_begun : (place : ℕ) (old mid new : Point) → HaveTurned place old mid → Begun mid new → Begun old new
turned_begun place old mid new h b = record {
  asked = h.asked ++ b.asked;
  exchanged = exchanged-append h.asked b.asked old.port mid.port new.port h.exchanged b.exchanged;
  octets = h.octets ++ b.octets;
  sent_is = b.sent_is ∙ ap (λ xs. xs ++ b.octets) h.sent_is ∙ append_assoc old.sent h.octets b.octets;
}
