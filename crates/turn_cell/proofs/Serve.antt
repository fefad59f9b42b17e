-- A seat with a ticket reads which ticket is served.
use Rattle.std.proofs.Common.{◌≡◌, ◌≢◌, ℕ, ◌%◌, ◌^◌, ◌<◌, List, [], ◌∷◌, set, get_or, Option, Some, IfSome, sym, refl, ap, ◌∙◌, subst, ⊎_elim, inr, arith, le_refl}
use Rattle.std.proofs.lemmas.Bool.{cases_eq}
use Rattle.std.proofs.lemmas.Option.{IfSome_then, none-some}
use mathlib.Core.Option.{none, some, some-injective}
use lib.ListN.{get_elem?}
use Rattle.atomic_table.specs.Table.{State, Act, step, keeps, takes, stepped, Allows, Valid, carried_after}
use Rattle.atomic_table.proofs.Lists.{set_here, set_again, one_turn}
use Rattle.turn_cell.specs.declared.table.PassView.{PassView}
use Rattle.turn_cell.specs.declared.table.SeatView.{SeatView}
use Rattle.turn_cell.specs.Rule.{tickets_at, waiting, in_turn, Fits, TakesTurns}
use Rattle.turn_cell.specs.Steps.{Serves}
use Rattle.turn_cell.proofs.Sums.{each-set, place-low}
use Rattle.turn_cell.proofs.Tickets.{dealt-set, apart-set, few_tickets, one_seat}

module _ {D N X : Type 0} (journal : D → List (N × ℕ)) (share : D → ℕ → List X) (opened : List (N × ℕ)) (seats : ℕ) where
  abbrev Rule : State (Option D) (SeatView D N X) → Type 0
  Rule = TakesTurns journal share opened seats

  -- another ticket is served: nothing changes
  unchanged : (state : State (Option D) (SeatView D N X)) → Rule state → (id : ℕ) (view : SeatView D N X)
      → get_elem? state.views id ≡ some view → Rule (stepped state 1 (get_or state.words 1 0) id [] view keeps)
  unchanged state rule id view at =
      let words : set state.words 1 (get_or state.words 1 0) ≡ state.words =
      ap (λ words. set words 1 (get_or words 1 0)) rule.words ∙ sym rule.words in
      subst (λ (now : List ℕ × List (SeatView D N X)). Rule (record { words = now.0; homes = state.homes; views = now.1 }))
      (λ j. (sym words j, sym (set_again state.views id view at) j)) rule

  -- where a seat waits with the ticket that is served, no other one has the value
  at_home : (state : State (Option D) (SeatView D N X)) (rule : Rule state) (id : ℕ) (passes : List (PassView N X))
      → get_elem? state.views id ≡ some (waiting passes rule.served) → state.homes ≡ some (Some rule.value) ∷ []
  at_home state rule id passes at =
      ⊎_elim
      (λ home. home)
      (λ out.
      let its : SeatView D N X = out.1.1 in
      let fits = subst (λ (taken : Option D).
      IfSome taken (λ value. (value ≡ rule.value) × (its.ticket ≡ Some rule.served) × (state.homes ≡ none ∷ [])))
      out.1.3 (rule.each out.1.0 its out.1.2).taken in
      let other : id ≢ out.1.0 = λ same.
      let seat : some (waiting passes rule.served) ≡ some its = sym at ∙ (ap (λ n. get_elem? state.views n) same ∙ out.1.2) in
      none-some rule.value
      (ap (λ (view : SeatView D N X). view.taken) (some-injective (waiting passes rule.served) its seat) ∙ out.1.3) in
      absurd (one_seat journal share opened seats state rule id out.1.0 (waiting passes rule.served) its rule.served
      at out.1.2 refl fits.1 other))
      rule.placed

  -- its ticket is served: it takes the slot
  served : (slots id : ℕ) (passes : List (PassView N X)) (ticket : ℕ) (state : State (Option D) (SeatView D N X))
      (rule : Rule state) (at : get_elem? state.views id ≡ some (waiting passes ticket)) → rule.served ≡ ticket
      → (new : SeatView D N X) × (act : Act (Option D)) × Valid state.homes [] act
      × Rule (stepped state 1 (get_or state.words 1 0) id [] new act)
      × Serves journal share (step slots 1 0 0 none) (waiting passes ticket, []) (rule.served % 2 ^ 64)
      (new, carried_after [] act)
  served slots id passes ticket state rule at is =
      let old : SeatView D N X = waiting passes ticket in
      let new : SeatView D N X = in_turn passes ticket rule.value in
      let mine = rule.each id old at in
      let home : state.homes ≡ some (Some rule.value) ∷ [] =
      at_home state rule id passes (subst (λ n. get_elem? state.views id ≡ some (waiting passes n)) (sym is) at) in
      let gone : set state.homes 0 none ≡ none ∷ [] = ap (λ homes. set homes 0 none) home in (
        new,
        takes 0 (Some rule.value),
        ap (λ homes. get_elem? homes 0) home,
        record {
          value = rule.value;
          served = rule.served;
          drawn = rule.drawn;
          words = ap (λ words. set words 1 (get_or words 1 0)) rule.words;
          few = rule.few;
          grown = rule.grown;
          dealt = dealt-set rule.served rule.drawn seats state.views id old new rule.served rule.drawn rule.dealt at
              refl (λ number. refl) refl
              (apart-set rule.served rule.drawn seats state.views id old new rule.dealt at
              (λ this. le_refl (tickets_at this (Some ticket))));
          placed = inr (gone, (id, new, set_here state.views id new (place-low state.views id old at), refl));
          each = each-set (Fits journal share seats rule.served rule.drawn rule.value (set state.homes 0 none))
              state.views id new
              (record { seen = mine.seen; numbers = mine.numbers; ticket = mine.ticket; taken = (refl, ap Some (sym is), gone) })
              (λ other view _ there. let fits = rule.each other view there in record {
                seen = fits.seen;
                numbers = fits.numbers;
                ticket = fits.ticket;
                taken = IfSome_then view.taken fits.taken (λ value fact. (fact.0, fact.1, gone));
              });
        },
        (λ this same. let its : ticket ≡ this = cc in (
          (λ hit. record {
            value = rule.value;
            seat = ap (λ n. (in_turn passes n rule.value, (0, Some rule.value) ∷ [])) its;
            seen = mine.seen;
          }),
          λ miss. absurd (miss (ap (λ n. n % 2 ^ 64) (is ∙ its))),
        )),
      )

  -- the rule holds after a seat reads which ticket is served, and gets its turn if it is its own
  pub serves : (slots id : ℕ) (passes : List (PassView N X)) (ticket : ℕ)
      → Allows Rule slots id (waiting passes ticket, []) 1 (λ n. n)
      (Serves journal share (step slots 1 0 0 none) (waiting passes ticket, []))
  serves slots id passes ticket state rule _ at _ =
      let old : SeatView D N X = waiting passes ticket in
      let found : get_or state.words 1 0 ≡ rule.served % 2 ^ 64 = ap (λ words. get_or words 1 0) rule.words in
      let mine = rule.each id old at in
      ⊎_elim
      (λ (equal : rule.served % 2 ^ 64 ≡ ticket % 2 ^ 64).
      let near = few_tickets journal share opened seats state rule in
      let is : rule.served ≡ ticket =
      one_turn rule.served ticket (2 ^ 64) mine.ticket.0 (let low : ticket < rule.drawn = mine.ticket.1 in omega arith) equal in
      let now = served slots id passes ticket state rule at is in (
        now.0,
        now.1,
        now.2,
        now.3,
        subst (λ n. Serves journal share (step slots 1 0 0 none) (old, []) n (now.0, carried_after [] now.1)) (sym found) now.4,
      ))
      (λ (differ : rule.served % 2 ^ 64 ≡ ticket % 2 ^ 64 → ⊥). (
        old,
        keeps,
        tt,
        unchanged state rule id old at,
        λ this same. let its : ticket ≡ this = cc in (
          (λ hit. absurd (differ (sym found ∙ (hit ∙ ap (λ n. n % 2 ^ 64) (sym its))))),
          λ miss. refl,
        ),
      ))
      (cases_eq (rule.served % 2 ^ 64) (ticket % 2 ^ 64))
