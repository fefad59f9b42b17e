-- A list of calls that were made, of which some count: the provider after these, and what becomes of it where the calls of
-- one number count as at an earlier stage.
use Rattle.std.proofs.Common.{◌≡◌, ◌≢◌, ◌<◌, ◌≤◌, ◌⊎◌, ℕ, Bool, true, false, cond, nat_eq, List, [], ◌∷◌, ◌++◌, length, Option, Some, None, refl, ap, sym, subst, ◌∙◌, inl, inr, arith, eqb-true}
use Rattle.std.specs.Prelude.{⊤, is_some}
use Rattle.std.proofs.lemmas.Bool.{cases_eq, false≢true, eqb-false}
use Rattle.sync_messages.specs.Request.{request_of}
use Rattle.directory_writes.specs.Directory.{DirectoryState}
use Rattle.sync_provider.specs.Accepting.{free_number, answer_to}
use Rattle.sync_provider.specs.HandingOut.{search_at}
use Rattle.sync_provider.specs.Machine.{ProviderState, ProviderCall, called, run}
use Rattle.sync_provider.specs.Machine.ProviderCall.{Writes, Commits, Accepts, HandsOut, Drops, SetsLogLimit, SetsQueueLimit}
use Rattle.sync_provider.specs.Placing.{Ascends}
use Rattle.sync_provider.specs.Ports.{answer_by}
use Rattle.sync_provider.specs.Returning.{MadeCall, number_of_answer, number_of_call, made, has_number, calls_back, counted}
use Rattle.sync_provider.specs.Search.{SearchState}
use Rattle.sync_provider.proofs.FreeNumbers.{IsOpenAt, IsRefused, taken_below, free_again, none_free, number_by_free, opened_free_number, full_or_refused, none_opened}
use Rattle.sync_provider.proofs.SearchCalls.{without_searches, called_alike, numbered_alike, call_other, call_own, call_all, call_ascends, call_low, call_quiet}

-- ---- the number that a call takes

-- of the numbers that are open, a search that was opened had all below its own; and where one was refused, all are open, or
-- it is refused whatever number is free
abbrev pub Takes : (ℕ → Type 0) → DirectoryState → ProviderCall → Option ℕ → Type 0
Takes Open d (Writes op now) number = ⊤
Takes Open d (Commits puts drops now) number = ⊤
Takes Open d (Accepts ask) (Some number) = (n : ℕ) → 1 ≤ n → n < number → Open n
Takes Open d (Accepts ask) None = ((n : ℕ) → 1 ≤ n → n < 65 → Open n) ⊎ IsRefused d ask
Takes Open d (HandsOut other) number = ⊤
Takes Open d (Drops other) number = ⊤
Takes Open d (SetsLogLimit limit) number = ⊤
Takes Open d (SetsQueueLimit limit) number = ⊤

-- what is open where it is open in two
takes_both : (One Other Both : ℕ → Type 0) → ((n : ℕ) → One n → Other n → Both n) → (d : DirectoryState) (call : ProviderCall) (number : Option ℕ)
    → Takes One d call number → Takes Other d call number → Takes Both d call number
takes_both One Other Both both d (Writes op now) number one other = tt
takes_both One Other Both both d (Commits puts drops now) number one other = tt
takes_both One Other Both both d (Accepts ask) (Some number) one other = λ n low high. both n (one n low high) (other n low high)
takes_both One Other Both both d (Accepts ask) None one other = by one other
  where
    by : ((n : ℕ) → 1 ≤ n → n < 65 → One n) ⊎ IsRefused d ask → ((n : ℕ) → 1 ≤ n → n < 65 → Other n) ⊎ IsRefused d ask → ((n : ℕ) → 1 ≤ n → n < 65 → Both n) ⊎ IsRefused d ask
    by (inl one) (inl other) = inl (λ n low high. both n (one n low high) (other n low high))
    by (inr refused) other = inr refused
    by (inl one) (inr refused) = inr refused
takes_both One Other Both both d (HandsOut other) number one other' = tt
takes_both One Other Both both d (Drops other) number one other' = tt
takes_both One Other Both both d (SetsLogLimit limit) number one other = tt
takes_both One Other Both both d (SetsQueueLimit limit) number one other = tt

-- where a call is made
made_takes : (p : ProviderState) (call : ProviderCall) → Takes (IsOpenAt p.searches) p.directory call (number_of_call p call)
made_takes p (Writes op now) = tt
made_takes p (Commits puts drops now) = tt
made_takes p (Accepts ask) = by (number_of_call p (Accepts ask)) refl
  where
    by : (number : Option ℕ) → number_of_answer (answer_to p.directory p.searches ask) ≡ number → Takes (IsOpenAt p.searches) p.directory (Accepts ask) number
    by (Some number) is = taken_below p.searches (Some number) (opened_free_number p.directory p.searches ask number is)
    by None is = full_or_refused p.directory p.searches ask is
made_takes p (HandsOut number) = tt
made_takes p (Drops number) = tt
made_takes p (SetsLogLimit limit) = tt
made_takes p (SetsQueueLimit limit) = tt

-- two providers have the same under a number
abbrev pub IsSameAt : Option ℕ → ProviderState → ProviderState → Type 0
IsSameAt None p q = ⊤
IsSameAt (Some number) p q = search_at p.searches number ≡ search_at q.searches number

-- a call that takes a number in one provider takes it in another that has the same under it, where those below are taken
number_again : (p q : ProviderState) (call : ProviderCall) (number : Option ℕ) → without_searches p ≡ without_searches q → number_of_call p call ≡ number
    → Takes (IsOpenAt q.searches) q.directory call number → IsSameAt number p q → number_of_call q call ≡ number
number_again p q (Writes op now) number alike is takes same = is
number_again p q (Commits puts drops now) number alike is takes same = is
number_again p q (Accepts ask) (Some number) alike is takes same =
    let free : free_number p.searches ≡ Some number = opened_free_number p.directory p.searches ask number is in
    let again : free_number q.searches ≡ Some number = free_again p.searches q.searches number free same takes in
    number_by_same q.directory p.directory q.searches p.searches (ap (λ s. s.directory) (sym alike)) (again ∙ sym free) ∙ is
  where
    number_by_same : (d e : DirectoryState) (es fs : List (ℕ × SearchState)) → d ≡ e → free_number es ≡ free_number fs → number_of_answer (answer_to d es ask) ≡ number_of_answer (answer_to e fs ask)
    number_by_same d e es fs same free =
        number_by_free d es ask ∙ (λ i. number_of_answer (answer_by (same i) (free i) ask (request_of ask.control))) ∙ sym (number_by_free e fs ask)
number_again p q (Accepts ask) None alike is takes same = by takes
  where
    by : ((n : ℕ) → 1 ≤ n → n < 65 → IsOpenAt q.searches n) ⊎ IsRefused q.directory ask → number_of_answer (answer_to q.directory q.searches ask) ≡ None
    by (inl all) = none_opened q.directory q.searches ask (none_free q.searches all)
    by (inr refused) = number_by_free q.directory q.searches ask ∙ refused (free_number q.searches)
number_again p q (HandsOut other) number alike is takes same = is
number_again p q (Drops other) number alike is takes same = is
number_again p q (SetsLogLimit limit) number alike is takes same = is
number_again p q (SetsQueueLimit limit) number alike is takes same = is

-- ---- a list of calls that were made

-- a call that was made does here what it did then, where it counts; one of no search counts
pub record Fits (p : ProviderState) (call : MadeCall) : Type 0 where
  pub takes : Takes (IsOpenAt p.searches) p.directory call.call call.number
  pub number : call.counts ≡ true → number_of_call p call.call ≡ call.number
  pub always : call.number ≡ None → call.counts ≡ true

abbrev pub after_made : ProviderState → MadeCall → ProviderState
after_made p call = cond call.counts (called p call.call) p

-- each of the calls fits, and those that count lead to a provider
abbrev pub Follows : ProviderState → List MadeCall → ProviderState → Type 0
Follows p [] last = p ≡ last
Follows p (call ∷ calls) last = Fits p call × Follows (after_made p call) calls last

-- a call fits where it is made
pub made_fits : (p : ProviderState) (call : ProviderCall) → Fits p (made p call)
made_fits p call = record { takes = made_takes p call; number = λ counts. refl; always = λ none. refl }

-- the provider after those that count is the last one
pub follows_run : (calls : List MadeCall) (p last : ProviderState) → Follows p calls last → run p (counted calls) ≡ last
follows_run [] p last is = is
follows_run (call ∷ calls) p last is = by call.counts ∙ follows_run calls (after_made p call) last is.1
  where
    by : (b : Bool) → run p (cond b (call.call ∷ counted calls) (counted calls)) ≡ run (cond b (called p call.call) p) (counted calls)
    by true = refl
    by false = refl

-- one call more
pub follows_more : (calls : List MadeCall) (p last : ProviderState) (call : MadeCall) → Follows p calls last → Fits last call → Follows p (calls ++ call ∷ []) (after_made last call)
follows_more [] p last call is fits = (subst (λ s. Fits s call) (sym is) fits, ap (λ s. after_made s call) is)
follows_more (first ∷ calls) p last call is fits = (is.0, follows_more calls (after_made p first) last call is.1 fits)

-- no call takes a write back
made_low : (p : ProviderState) (call : MadeCall) → length p.directory.writes ≤ length (after_made p call).directory.writes
made_low p call = by call.counts
  where
    by : (b : Bool) → length p.directory.writes ≤ length (cond b (called p call.call) p).directory.writes
    by true = call_low p call.call
    by false = omega arith

follows_low : (calls : List MadeCall) (p last : ProviderState) → Follows p calls last → length p.directory.writes ≤ length last.directory.writes
follows_low [] p last is = let same : length p.directory.writes ≡ length last.directory.writes = ap (λ s. length s.directory.writes) is in omega (arith, same)
follows_low (call ∷ calls) p last is =
    let one : length p.directory.writes ≤ length (after_made p call).directory.writes = made_low p call in
    let rest : length (after_made p call).directory.writes ≤ length last.directory.writes = follows_low calls (after_made p call) last is.1 in
    omega (arith, one, rest)

-- ---- two providers that agree

-- they have the same beside their searches, and the same searches of some numbers
record Agree (P : ℕ → Type 0) (p q : ProviderState) : Type 0 where
  alike : without_searches p ≡ without_searches q
  same : (n : ℕ) → P n → search_at p.searches n ≡ search_at q.searches n
  one : Ascends 0 p.searches
  other : Ascends 0 q.searches

agree_sym : (P : ℕ → Type 0) (p q : ProviderState) → Agree P p q → Agree P q p
agree_sym P p q agree = record {
  alike = sym agree.alike;
  same = λ n here. sym (agree.same n here);
  one = agree.other;
  other = agree.one;
}

-- they do after a call that takes the same number in both
agree_call : (P : ℕ → Type 0) (p q : ProviderState) (call : ProviderCall) (number : Option ℕ) → number_of_call p call ≡ number → number_of_call q call ≡ number → Agree P p q → Agree P (called p call) (called q call)
agree_call P p q call number one other agree = record {
  alike = called_alike p q call agree.alike;
  same = λ n here. by number one other n (agree.same n here);
  one = call_ascends p call agree.one;
  other = call_ascends q call agree.other;
}
  where
    at : (k : ℕ) → number_of_call p call ≡ Some k → number_of_call q call ≡ Some k → (n : ℕ) → search_at p.searches n ≡ search_at q.searches n → (n ≡ k) ⊎ (n ≢ k)
        → search_at (called p call).searches n ≡ search_at (called q call).searches n
    at k one other n same (inl here) =
        subst (λ m. search_at (called p call).searches m ≡ search_at (called q call).searches m) (sym here)
        (call_own p q call k agree.one agree.other agree.alike one other (subst (λ m. search_at p.searches m ≡ search_at q.searches m) here same))
    at k one other n same (inr far) = call_other p call k n one far ∙ same ∙ sym (call_other q call k n other far)

    by : (number : Option ℕ) → number_of_call p call ≡ number → number_of_call q call ≡ number → (n : ℕ) → search_at p.searches n ≡ search_at q.searches n
        → search_at (called p call).searches n ≡ search_at (called q call).searches n
    by None one other n same = call_all p q call n agree.alike one other same
    by (Some k) one other n same = at k one other n same (cases_eq n k)

-- where it counts in both or in none
agree_step : (P : ℕ → Type 0) (p q : ProviderState) (call : ProviderCall) (number : Option ℕ) (counts : Bool) → (counts ≡ true → number_of_call p call ≡ number) → (counts ≡ true → number_of_call q call ≡ number)
    → Agree P p q → Agree P (cond counts (called p call) p) (cond counts (called q call) q)
agree_step P p q call number true one other agree = agree_call P p q call number (one refl) (other refl) agree
agree_step P p q call number false one other agree = agree

-- they do after a call in one of them, of another number
agree_apart : (P : ℕ → Type 0) (p q : ProviderState) (call : ProviderCall) (number : ℕ) (counts : Bool) → (P number → ⊥) → (counts ≡ true → number_of_call p call ≡ Some number)
    → Agree P p q → Agree P (cond counts (called p call) p) q
agree_apart P p q call number true apart is agree = record {
  alike = numbered_alike p call number (is refl) ∙ agree.alike;
  same = λ n here. call_other p call number n (is refl) (λ same. apart (subst P same here)) ∙ agree.same n here;
  one = call_ascends p call agree.one;
  other = agree.other;
}
agree_apart P p q call number false apart is agree = agree

-- they do after a call of another number, whether it counts in one of them or not
agree_aside : (P : ℕ → Type 0) (p q : ProviderState) (call : ProviderCall) (number : ℕ) (here there : Bool) → (P number → ⊥) → (here ≡ true → number_of_call p call ≡ Some number)
    → (there ≡ true → number_of_call q call ≡ Some number) → Agree P p q → Agree P (cond here (called p call) p) (cond there (called q call) q)
agree_aside P p q call number here there apart one other agree =
    let first : Agree P (cond here (called p call) p) q = agree_apart P p q call number here apart one agree in
    agree_sym P (cond there (called q call) q) (cond here (called p call) p)
    (agree_apart P q (cond here (called p call) p) call number there apart other (agree_sym P (cond here (called p call) p) q first))

-- ---- calls of one number that count as at an earlier stage

-- a provider that is as one at a number, and as another at the others
record IsMixed (number : ℕ) (earlier now mixed : ProviderState) : Type 0 where
  own : Agree (λ n. n ≡ number) earlier mixed
  others : Agree (λ n. n ≢ number) now mixed

-- a call that counts by its number as it did earlier, or as it does now
record HasMixed (number : ℕ) (earlier now mixed : ProviderState) (was call one : MadeCall) : Type 0 where
  fits : Fits mixed one
  is : IsMixed number (after_made earlier was) (after_made now call) (after_made mixed one)

module _ (number : ℕ) (earlier now mixed : ProviderState) (call : MadeCall) (counts : Bool)
    (was_fits : Fits earlier (record call { counts = counts })) (now_fits : Fits now call) (is : IsMixed number earlier now mixed) where
  open_in_both : (n : ℕ) → IsOpenAt earlier.searches n → IsOpenAt now.searches n → IsOpenAt mixed.searches n
  open_in_both n then_open now_open = by (cases_eq n number)
    where
      by : (n ≡ number) ⊎ (n ≢ number) → IsOpenAt mixed.searches n
      by (inl here) = ap is_some (sym (is.own.same n here)) ∙ then_open
      by (inr far) = ap is_some (sym (is.others.same n far)) ∙ now_open

  mixed_takes : Takes (IsOpenAt mixed.searches) mixed.directory call.call call.number
  mixed_takes =
      takes_both (IsOpenAt earlier.searches) (IsOpenAt now.searches) (IsOpenAt mixed.searches) open_in_both mixed.directory call.call call.number
      (subst (λ d. Takes (IsOpenAt earlier.searches) d call.call call.number) (ap (λ s. s.directory) is.own.alike) was_fits.takes)
      (subst (λ d. Takes (IsOpenAt now.searches) d call.call call.number) (ap (λ s. s.directory) is.others.alike) now_fits.takes)

  -- where it counts as it did earlier
  as_then : (counts ≡ true → IsSameAt call.number earlier mixed) → Fits mixed (record call { counts = counts })
  as_then same = record {
    takes = mixed_takes;
    number = λ on. number_again earlier mixed call.call call.number is.own.alike (was_fits.number on) mixed_takes (same on);
    always = was_fits.always;
  }

  -- where it counts as it does now
  as_now : (call.counts ≡ true → IsSameAt call.number now mixed) → Fits mixed call
  as_now same = record {
    takes = mixed_takes;
    number = λ on. number_again now mixed call.call call.number is.others.alike (now_fits.number on) mixed_takes (same on);
    always = now_fits.always;
  }

  -- a call of no search
  mixed_none : call.number ≡ None → HasMixed number earlier now mixed (record call { counts = counts }) call call
  mixed_none none =
      let fits : Fits mixed call = as_now (λ on. subst (λ o. IsSameAt o now mixed) (sym none) tt) in
      let both : counts ≡ call.counts = was_fits.always none ∙ sym (now_fits.always none) in
      record {
        fits = fits;
        is = record {
          own = subst (λ b. Agree (λ n. n ≡ number) (cond counts (called earlier call.call) earlier) (cond b (called mixed call.call) mixed)) both
              (agree_step (λ n. n ≡ number) earlier mixed call.call call.number counts was_fits.number (λ on. fits.number (sym both ∙ on)) is.own);
          others = agree_step (λ n. n ≢ number) now mixed call.call call.number call.counts now_fits.number fits.number is.others;
        };
      }

  -- a call of this number
  mixed_own : (k : ℕ) → call.number ≡ Some k → k ≡ number → HasMixed number earlier now mixed (record call { counts = counts }) call (record call { counts = counts })
  mixed_own k some at =
      let fits : Fits mixed (record call { counts = counts }) = as_then (λ on. subst (λ o. IsSameAt o earlier mixed) (sym some) (is.own.same k at)) in
      record {
        fits = fits;
        is = record {
          own = agree_step (λ n. n ≡ number) earlier mixed call.call call.number counts was_fits.number fits.number is.own;
          others = agree_aside (λ n. n ≢ number) now mixed call.call k call.counts counts (λ far. far at) (λ on. now_fits.number on ∙ some) (λ on. fits.number on ∙ some) is.others;
        };
      }

  -- a call of another number
  mixed_other : (k : ℕ) → call.number ≡ Some k → k ≢ number → HasMixed number earlier now mixed (record call { counts = counts }) call call
  mixed_other k some far =
      let fits : Fits mixed call = as_now (λ on. subst (λ o. IsSameAt o now mixed) (sym some) (is.others.same k far)) in
      record {
        fits = fits;
        is = record {
          own = agree_aside (λ n. n ≡ number) earlier mixed call.call k counts call.counts far (λ on. was_fits.number on ∙ some) (λ on. fits.number on ∙ some) is.own;
          others = agree_step (λ n. n ≢ number) now mixed call.call call.number call.counts now_fits.number fits.number is.others;
        };
      }

  mixed_call : HasMixed number earlier now mixed (record call { counts = counts }) call (cond (has_number number call.number) (record call { counts = counts }) call)
  mixed_call = by call.number refl
    where
      at : (k : ℕ) → call.number ≡ Some k → (b : Bool) → nat_eq k number ≡ b → HasMixed number earlier now mixed (record call { counts = counts }) call (cond b (record call { counts = counts }) call)
      at k some true same = mixed_own k some (eqb-true k number same)
      at k some false far = mixed_other k some (eqb-false k number far)

      by : (o : Option ℕ) → call.number ≡ o → HasMixed number earlier now mixed (record call { counts = counts }) call (cond (has_number number o) (record call { counts = counts }) call)
      by None none = mixed_none none
      by (Some k) some = at k some (nat_eq k number) refl

-- ---- calls of one number that count no more

-- a provider that has a search at a number, and is as another at the others
pub record IsBeside (number : ℕ) (s : SearchState) (now back : ProviderState) : Type 0 where
  pub own : search_at back.searches number ≡ Some s
  pub alike : without_searches now ≡ without_searches back
  pub others : (n : ℕ) → n ≢ number → search_at now.searches n ≡ search_at back.searches n
  pub one : Ascends 0 now.searches
  pub other : Ascends 0 back.searches

agree_beside : (number : ℕ) (s : SearchState) (now back : ProviderState) → IsBeside number s now back → Agree (λ n. n ≢ number) now back
agree_beside number s now back is = record { alike = is.alike; same = is.others; one = is.one; other = is.other }

beside_agree : (number : ℕ) (s : SearchState) (now back : ProviderState) → search_at back.searches number ≡ Some s → Agree (λ n. n ≢ number) now back → IsBeside number s now back
beside_agree number s now back own agree = record { own = own; alike = agree.alike; others = agree.same; one = agree.one; other = agree.other }

record StaysBeside (number : ℕ) (s : SearchState) (now back : ProviderState) (call one : MadeCall) : Type 0 where
  fits : Fits back one
  is : IsBeside number s (after_made now call) (after_made back one)

module _ (number : ℕ) (s : SearchState) (now back : ProviderState) (call : MadeCall) (now_fits : Fits now call) (is : IsBeside number s now back)
    (still : length (after_made now call).directory.writes ≡ length now.directory.writes) where
  agree : Agree (λ n. n ≢ number) now back
  agree = agree_beside number s now back is

  open_beside : (n : ℕ) → IsOpenAt now.searches n → IsOpenAt now.searches n → IsOpenAt back.searches n
  open_beside n used again = by (cases_eq n number)
    where
      by : (n ≡ number) ⊎ (n ≢ number) → IsOpenAt back.searches n
      by (inl here) = ap (λ m. is_some (search_at back.searches m)) here ∙ ap is_some is.own
      by (inr far) = ap is_some (sym (is.others n far)) ∙ used

  beside_takes : Takes (IsOpenAt back.searches) back.directory call.call call.number
  beside_takes =
      let here : Takes (IsOpenAt now.searches) back.directory call.call call.number =
      subst (λ d. Takes (IsOpenAt now.searches) d call.call call.number) (ap (λ s. s.directory) is.alike) now_fits.takes in
      takes_both (IsOpenAt now.searches) (IsOpenAt now.searches) (IsOpenAt back.searches) open_beside back.directory call.call call.number here here

  fits_beside : (call.counts ≡ true → IsSameAt call.number now back) → Fits back call
  fits_beside same = record {
    takes = beside_takes;
    number = λ on. number_again now back call.call call.number is.alike (now_fits.number on) beside_takes (same on);
    always = now_fits.always;
  }

  -- no write comes
  still_back : (b : Bool) → length (cond b (called now call.call) now).directory.writes ≡ length now.directory.writes → (b ≡ true → number_of_call back call.call ≡ None)
      → search_at (cond b (called back call.call) back).searches number ≡ Some s
  still_back false same none = is.own
  still_back true same none =
      let after : length (called back call.call).directory.writes ≡ length back.directory.writes =
      ap (λ s. length s.directory.writes) (sym (called_alike now back call.call is.alike)) ∙ same ∙ ap (λ s. length s.directory.writes) is.alike in
      ap (λ es. search_at es number) (call_quiet back call.call (none refl) after) ∙ is.own

  beside_none : call.number ≡ None → StaysBeside number s now back call call
  beside_none none =
      let fits : Fits back call = fits_beside (λ on. subst (λ o. IsSameAt o now back) (sym none) tt) in
      record {
        fits = fits;
        is = beside_agree number s (after_made now call) (after_made back call) (still_back call.counts still (λ on. fits.number on ∙ none))
            (agree_step (λ n. n ≢ number) now back call.call call.number call.counts now_fits.number fits.number agree);
      }

  beside_own : (k : ℕ) → call.number ≡ Some k → k ≡ number → StaysBeside number s now back call (record call { counts = false })
  beside_own k some at = record {
    fits = record {
      takes = beside_takes;
      number = λ on. absurd (false≢true on);
      always = λ none. absurd (some_none k (sym some ∙ none));
    };
    is = beside_agree number s (after_made now call) back is.own
        (agree_apart (λ n. n ≢ number) now back call.call k call.counts (λ far. far at) (λ on. now_fits.number on ∙ some) agree);
  }
    where
      some_none : (k : ℕ) → Some k ≡ None → ⊥
      some_none k same = cc

  beside_other : (k : ℕ) → call.number ≡ Some k → k ≢ number → StaysBeside number s now back call call
  beside_other k some far =
      let fits : Fits back call = fits_beside (λ on. subst (λ o. IsSameAt o now back) (sym some) (is.others k far)) in
      record {
        fits = fits;
        is = beside_agree number s (after_made now call) (after_made back call) (kept call.counts (λ on. fits.number on ∙ some))
            (agree_step (λ n. n ≢ number) now back call.call call.number call.counts now_fits.number fits.number agree);
      }
    where
      kept : (b : Bool) → (b ≡ true → number_of_call back call.call ≡ Some k) → search_at (cond b (called back call.call) back).searches number ≡ Some s
      kept false at = is.own
      kept true at = call_other back call.call k number (at refl) (λ same. far (sym same)) ∙ is.own

  beside_call : StaysBeside number s now back call (cond (has_number number call.number) (record call { counts = false }) call)
  beside_call = by call.number refl
    where
      at : (k : ℕ) → call.number ≡ Some k → (b : Bool) → nat_eq k number ≡ b → StaysBeside number s now back call (cond b (record call { counts = false }) call)
      at k some true same = beside_own k some (eqb-true k number same)
      at k some false far = beside_other k some (eqb-false k number far)

      by : (o : Option ℕ) → call.number ≡ o → StaysBeside number s now back call (cond (has_number number o) (record call { counts = false }) call)
      by None none = beside_none none
      by (Some k) some = at k some (nat_eq k number) refl

-- ---- all calls

-- the earlier calls are the first of those of now, and may count where these do not
abbrev pub AreFirst : (earlier now : List MadeCall) → Type 0
AreFirst [] now = ⊤
AreFirst (was ∷ earlier) [] = ⊥
AreFirst (was ∷ earlier) (call ∷ now) = (was ≡ record call { counts = was.counts }) × AreFirst earlier now

-- calls that lead from a provider to one that has a search at a number, and is as another at the others
pub record LeadsBeside (number : ℕ) (s : SearchState) (now first : ProviderState) (calls : List MadeCall) : Type 0 where
  pub last : ProviderState
  pub follows : Follows first calls last
  pub beside : IsBeside number s now last

none_since : (number : ℕ) (s : SearchState) (calls : List MadeCall) (now back last : ProviderState) → Follows now calls last → length now.directory.writes ≡ length last.directory.writes
    → IsBeside number s now back → LeadsBeside number s last back (calls_back number [] calls)
none_since number s [] now back last is still beside = record {
  last = back;
  follows = refl;
  beside = subst (λ q. IsBeside number s q back) is beside;
}
none_since number s (call ∷ calls) now back last is still beside =
    let low : length now.directory.writes ≤ length (after_made now call).directory.writes = made_low now call in
    let high : length (after_made now call).directory.writes ≤ length last.directory.writes = follows_low calls (after_made now call) last is.1 in
    let here : length (after_made now call).directory.writes ≡ length now.directory.writes = omega (arith, low, high, still) in
    let step = beside_call number s now back call is.0 beside here in
    let rest = none_since number s calls (after_made now call) (after_made back (cond (has_number number call.number) (record call { counts = false }) call)) last is.1 (here ∙ still) step.is in
    record { last = rest.last; follows = (step.fits, rest.follows); beside = rest.beside }

-- where the search of a number is that of an earlier stage, since which no write came
calls_mixed : (number : ℕ) (s : SearchState) (earlier calls : List MadeCall) (was now mixed stage last : ProviderState) → AreFirst earlier calls → Follows was earlier stage → Follows now calls last
    → search_at stage.searches number ≡ Some s → length stage.directory.writes ≡ length last.directory.writes → IsMixed number was now mixed → LeadsBeside number s last mixed (calls_back number earlier calls)
calls_mixed number s [] calls was now mixed stage last first is goes found still mix =
    let own : search_at mixed.searches number ≡ Some s = sym (mix.own.same number refl) ∙ ap (λ p. search_at p.searches number) is ∙ found in
    let same : length now.directory.writes ≡ length stage.directory.writes =
    ap (λ p. length p.directory.writes) (mix.others.alike ∙ sym mix.own.alike) ∙ ap (λ p. length p.directory.writes) is in
    none_since number s calls now mixed last goes (same ∙ still) (beside_agree number s now mixed own mix.others)
calls_mixed number s (call' ∷ earlier) [] was now mixed stage last first is goes found still mix = absurd first
calls_mixed number s (call' ∷ earlier) (call ∷ calls) was now mixed stage last first is goes found still mix =
    let one : MadeCall = record call { counts = call'.counts } in
    let back : MadeCall = cond (has_number number call.number) one call in
    let follows : Follows (after_made was one) earlier stage = subst (λ c. Follows (after_made was c) earlier stage) first.0 is.1 in
    let step : HasMixed number was now mixed one call back = mixed_call number was now mixed call call'.counts (subst (λ c. Fits was c) first.0 is.0) goes.0 mix in
    let rest : LeadsBeside number s last (after_made mixed back) (calls_back number earlier calls) =
    calls_mixed number s earlier calls (after_made was one) (after_made now call) (after_made mixed back) stage last first.1 follows goes.1 found still step.is in
    let all : LeadsBeside number s last mixed (back ∷ calls_back number earlier calls) = record { last = rest.last; follows = (step.fits, rest.follows); beside = rest.beside } in
    subst (λ c. LeadsBeside number s last mixed (cond (has_number number call.number) c call ∷ calls_back number earlier calls)) (sym first.0) all

itself_mixed : (number : ℕ) (p : ProviderState) → Ascends 0 p.searches → IsMixed number p p p
itself_mixed number p ascends = record {
  own = record { alike = refl; same = λ n here. refl; one = ascends; other = ascends };
  others = record { alike = refl; same = λ n here. refl; one = ascends; other = ascends };
}

-- the calls up to now, where the search of a number comes back from an earlier stage, since which no write came
pub calls_lead : (number : ℕ) (s : SearchState) (earlier calls : List MadeCall) (first stage last : ProviderState) → Ascends 0 first.searches → AreFirst earlier calls → Follows first earlier stage
    → Follows first calls last → search_at stage.searches number ≡ Some s → length stage.directory.writes ≡ length last.directory.writes → LeadsBeside number s last first (calls_back number earlier calls)
calls_lead number s earlier calls first stage last ascends are is goes found still =
    calls_mixed number s earlier calls first first first stage last are is goes found still (itself_mixed number first ascends)
