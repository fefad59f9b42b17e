-- What is left does not depend on the order between the writers.
use Rattle.std.proofs.Common.{◌≡◌, ◌≢◌, ℕ, zero, suc, ◌+◌, ◌<◌, ◌≤◌, ◌^◌, ◌==◌, Bool, true, false, not, ◌&&◌, nat_lt, if◌then◌else◌, List, [], ◌∷◌, ◌++◌, map, filter, fold, length, refl, sym, ap, ◌∙◌, subst, ⊎_elim, arith, append-nil}
use Rattle.std.specs.List.Sorted.{IsPermutation}
use Rattle.std.proofs.lemmas.Bool.{and_from, or_from, or_left, or_right, false≢true, cases_eq, lt-ltb}
use Rattle.std.proofs.lemmas.List.{map-append, length-map}
use Rattle.ldap_filter.specs.Truth.{truth_on, is_true}
use Rattle.entry_writes.specs.declared.entry.Entry.{Entry}
use Rattle.entry_writes.specs.declared.op.Op.{Op}
use Rattle.entry_writes.specs.declared.op.Write.{Write}
use Rattle.entry_writes.specs.Effects.{effect}
use Rattle.entry_tree.proofs.IdentityNumbers.{identity_rises}
use Rattle.entry_tree.specs.History.{identity, state_from}
use Rattle.entry_tree.specs.Selection.{Search, is_in_scope, is_selected, select}
use Rattle.sync_model.proofs.Gather.{Each}
use Rattle.drill_plan.specs.declared.plan.DrillPlan.{DrillPlan}
use Rattle.drill_plan.specs.Ending.{history, entries_after, write_with, writes_in_turn, end_of, AreOf, IsSchedule, SchedulesEndAlike}
use Rattle.drill_plan.specs.Names.{suffix, suffix_attributes}
use Rattle.drill_plan.specs.Operations.{add_suffix, writer_operations, operations_of_first, all_operations}
use Rattle.drill_plan.specs.Plain.{PlainEntry, plain}
use Rattle.drill_plan.specs.Schedule.{NumberedWrites, writes_of, operations_by}
use Rattle.drill_plan.proofs.Firsts.{filter_mapped}
use Rattle.drill_plan.proofs.Filtered.{filter_no, filter_swap}
use Rattle.drill_plan.proofs.Counted.{lower, own_by, other_by, as_many, few_operations}
use Rattle.drill_plan.proofs.Gathered.{among, all_pass, alike_among}
use Rattle.drill_plan.proofs.Plainly.{Name, plain_effect}
use Rattle.drill_plan.proofs.Planned.{writer_within}
use Rattle.drill_plan.proofs.Regions.{IsWithin, part}
use Rattle.drill_plan.proofs.Runs.{IsReady, part_runs, others_run}
use Rattle.drill_plan.proofs.Units.{own, is_short, own_region, own_apart, own_long}

-- ---- operations by the numbers of their writers

by-append : (writer : ℕ) (xs ys : NumberedWrites)
    → operations_by writer (xs ++ ys) ≡ operations_by writer xs ++ operations_by writer ys
by-append writer [] ys = refl
by-append writer (w ∷ xs) ys =
    let rest = by-append writer xs ys in
    elim (w.0 == writer) as (λ b.
    (if b then w.1.op ∷ operations_by writer (xs ++ ys) else operations_by writer (xs ++ ys))
    ≡ (if b then w.1.op ∷ operations_by writer xs else operations_by writer xs) ++ operations_by writer ys)
    [ true ↦ ap (λ ops. w.1.op ∷ ops) rest | false ↦ rest ]

-- each write is in the part of its writer, where each writer's writes are in its part
all_within : (writers : ℕ) (numbered : NumberedWrites)
    → ((writer : ℕ) → writer < writers → Each (IsWithin (own writer)) (operations_by writer numbered))
    → AreOf writers numbered → Each (λ w. IsWithin (own w.0) w.1.op) numbered
all_within writers [] within of = tt
all_within writers (w ∷ numbered) within of =
    let mine : Each (IsWithin (own w.0)) (w.1.op ∷ operations_by w.0 numbered) =
    subst (Each (IsWithin (own w.0))) (own_by w.0 w numbered refl) (within w.0 of.0) in
    (mine.0, all_within writers numbered (λ writer low. later writer (within writer low)) of.1)
  where
    later : (writer : ℕ) → Each (IsWithin (own writer)) (operations_by writer (w ∷ numbered))
        → Each (IsWithin (own writer)) (operations_by writer numbered)
    later writer all = by (w.0 == writer) refl
      where
        by : (b : Bool) → (w.0 == writer) ≡ b → Each (IsWithin (own writer)) (operations_by writer numbered)
        by true is =
            (subst (Each (IsWithin (own writer)))
            (ap (λ b. if b then w.1.op ∷ operations_by writer numbered else operations_by writer numbered) is) all).1
        by false far =
            subst (Each (IsWithin (own writer)))
            (ap (λ b. if b then w.1.op ∷ operations_by writer numbered else operations_by writer numbered) far) all

-- ---- one writer after the other

abbrev tag : ℕ → Op → ℕ × Write
tag writer op = (writer, write_with op)

abbrev tagged : ℕ → List Op → NumberedWrites
tagged writer ops = map (tag writer) ops

abbrev in_turn : DrillPlan → ℕ → NumberedWrites
in_turn plan zero = []
in_turn plan (suc n) = in_turn plan n ++ tagged n (writer_operations plan n)

writes_tagged : (writer : ℕ) (ops : List Op) → writes_of (tagged writer ops) ≡ map write_with ops
writes_tagged writer [] = refl
writes_tagged writer (op ∷ ops) = ap (λ ws. write_with op ∷ ws) (writes_tagged writer ops)

tagged_writes : (plan : DrillPlan) (n : ℕ) → writes_of (in_turn plan n) ≡ map write_with (operations_of_first plan n)
tagged_writes plan zero = refl
tagged_writes plan (suc n) =
    map-append (λ (w : ℕ × Write). w.1) (in_turn plan n) (tagged n (writer_operations plan n))
    ∙ ap (λ ws. ws ++ writes_of (tagged n (writer_operations plan n))) (tagged_writes plan n)
    ∙ ap (λ ws. map write_with (operations_of_first plan n) ++ ws) (writes_tagged n (writer_operations plan n))
    ∙ sym (map-append write_with (operations_of_first plan n) (writer_operations plan n))

tagged_own : (writer : ℕ) (ops : List Op) → operations_by writer (tagged writer ops) ≡ ops
tagged_own writer [] = refl
tagged_own writer (op ∷ ops) =
    own_by writer (tag writer op) (tagged writer ops) refl
    ∙ ap (λ rest. op ∷ rest) (tagged_own writer ops)

tagged_other : (writer other : ℕ) (ops : List Op) → other ≢ writer → operations_by writer (tagged other ops) ≡ []
tagged_other writer other [] far = refl
tagged_other writer other (op ∷ ops) far =
    other_by writer (tag other op) (tagged other ops) far
    ∙ tagged_other writer other ops far

in_turn_none : (plan : DrillPlan) (n writer : ℕ) → n ≤ writer → operations_by writer (in_turn plan n) ≡ []
in_turn_none plan zero writer high = refl
in_turn_none plan (suc n) writer high =
    by-append writer (in_turn plan n) (tagged n (writer_operations plan n))
    ∙ ap (λ ops. ops ++ operations_by writer (tagged n (writer_operations plan n))) (in_turn_none plan n writer (omega (arith, high)))
    ∙ tagged_other writer n (writer_operations plan n) (λ same. absurd (omega (arith, high, same)))

in_turn_by : (plan : DrillPlan) (n writer : ℕ) → writer < n → operations_by writer (in_turn plan n) ≡ writer_operations plan writer
in_turn_by plan zero writer low = absurd (omega (arith, low))
in_turn_by plan (suc n) writer low =
    by-append writer (in_turn plan n) (tagged n (writer_operations plan n))
    ∙ ⊎_elim
    (λ (same : writer ≡ n).
    subst (λ v. operations_by v (in_turn plan n) ++ operations_by v (tagged n (writer_operations plan n)) ≡ writer_operations plan v) (sym same)
    (ap (λ ops. ops ++ operations_by n (tagged n (writer_operations plan n))) (in_turn_none plan n n (omega arith))
    ∙ tagged_own n (writer_operations plan n)))
    (λ (far : writer ≡ n → ⊥).
    ap (λ ops. operations_by writer (in_turn plan n) ++ ops) (tagged_other writer n (writer_operations plan n) (λ same. far (sym same)))
    ∙ append-nil (operations_by writer (in_turn plan n))
    ∙ in_turn_by plan n writer (lower writer n low far))
    (cases_eq writer n)

of_tagged : (n writer : ℕ) (ops : List Op) → writer < n → AreOf n (tagged writer ops)
of_tagged n writer [] low = tt
of_tagged n writer (op ∷ ops) low = (low, of_tagged n writer ops low)

of_append : (n : ℕ) (xs ys : NumberedWrites) → AreOf n xs → AreOf n ys → AreOf n (xs ++ ys)
of_append n [] ys first second = second
of_append n (x ∷ xs) ys first second = (first.0, of_append n xs ys first.1 second)

of_more : (n : ℕ) (xs : NumberedWrites) → AreOf n xs → AreOf (suc n) xs
of_more n [] of = tt
of_more n (x ∷ xs) of = (let low : x.0 < n = of.0 in omega (arith, low), of_more n xs of.1)

in_turn_of : (plan : DrillPlan) (n : ℕ) → AreOf n (in_turn plan n)
in_turn_of plan zero = tt
in_turn_of plan (suc n) =
    of_append (suc n) (in_turn plan n) (tagged n (writer_operations plan n)) (of_more n (in_turn plan n) (in_turn_of plan n))
    (of_tagged (suc n) n (writer_operations plan n) (omega arith))

-- it is one of the schedules
in_turn_schedule : (plan : DrillPlan) → IsSchedule plan (writes_in_turn plan)
in_turn_schedule plan = record {
  first = write_with add_suffix;
  numbered = in_turn plan plan.writers;
  is = ap (λ ws. write_with add_suffix ∷ ws) (sym (tagged_writes plan plan.writers));
  suffix_first = refl;
  writers = in_turn_of plan plan.writers;
  each = λ writer low. in_turn_by plan plan.writers writer low;
}

-- ---- one schedule

-- the entry that is added first
abbrev first_entry : Write → Entry
first_entry write = record { uuid = identity history 1; csn = write.csn; dn = suffix; attrs = suffix_attributes }

-- the names of no part and not short
abbrev is_foreign : ℕ → Name → Bool
is_foreign n name = not (among own is_short n name)

module _ (plan : DrillPlan) (few : plan.writers ≤ 8) (writes : List Write) (short : length writes < 1000000) (schedule : IsSchedule plan writes) where
  abbrev rest : NumberedWrites
  rest = schedule.numbered

  abbrev begun : List Entry
  begun = first_entry schedule.first ∷ []

  within : Each (λ w. IsWithin (own w.0) w.1.op) rest
  within =
      all_within plan.writers rest
      (λ writer low. subst (Each (IsWithin (own writer))) (sym (schedule.each writer low)) (writer_within writer (omega (arith, few, low)) plan))
      schedule.writers

  counted : 1 + length rest + 1 < 2 ^ 62
  counted =
      let same : length writes ≡ suc (length (writes_of rest)) = ap length schedule.is in
      let numbers : length (writes_of rest) ≡ length rest = length-map rest (λ (w : ℕ × Write). w.1) in
      omega (arith, short, same, numbers)

  ready : IsReady own own_region history 1 begun
  ready = record { rises = refl; low = below }
    where
      below : (nat_lt (identity history 1) (identity history (1 + 1)) && true) ≡ true
      below =
          and_from (nat_lt (identity history 1) (identity history (1 + 1))) true
          (lt-ltb (identity history 1) (identity history (1 + 1)) (identity_rises history 1 (omega arith))) refl

  -- the entries are those after the first operation and the others
  goes_on : entries_after writes ≡ state_from history begun 1 (writes_of rest)
  unfolding state_from
  goes_on =
      ap entries_after schedule.is
      ∙ ap (λ op. state_from history (effect [] op (identity history 1) schedule.first.csn) 1 (writes_of rest)) schedule.suffix_first

  -- what is left in the part of a writer is what its operations leave
  pub own_left : (writer : ℕ) → writer < plan.writers
      → map plain (part (own writer) (entries_after writes)) ≡ fold plain_effect [] (writer_operations plan writer)
  own_left writer low =
      ap (λ es. map plain (part (own writer) es)) goes_on
      ∙ part_runs own own_region history writer (λ v far name is. own_apart v writer far name is) rest begun 1 within ready counted
      ∙ ap (λ es. fold plain_effect (map plain es) (operations_by writer rest)) nothing
      ∙ ap (fold plain_effect []) (schedule.each writer low)
    where
      nothing : part (own writer) begun ≡ []
      nothing = filter_no (λ (e : Entry). own writer e.dn) (first_entry schedule.first) [] (short_is_other (own writer suffix) refl)
        where
          short_is_other : (b : Bool) → own writer suffix ≡ b → own writer suffix ≡ false
          short_is_other false failing = failing
          short_is_other true passing = absurd (false≢true (sym (own_long writer suffix passing)))

  -- of short names the suffix alone is left
  pub short_left : map plain (part is_short (entries_after writes)) ≡ record { dn = suffix; attrs = suffix_attributes } ∷ []
  short_left =
      ap (λ es. map plain (part is_short es)) goes_on
      ∙ ap (map plain) (others_run own own_region history is_short rest begun 1 (each_long rest) within ready counted)
    where
      each_long : (ws : NumberedWrites) → Each (λ w. (name : Name) → own w.0 name ≡ true → is_short name ≡ false) ws
      each_long [] = tt
      each_long (w ∷ ws) = ((λ name is. own_long w.0 name is), each_long ws)

  -- in no part nothing is left
  pub none_left : part (is_foreign plan.writers) (entries_after writes) ≡ []
  none_left =
      ap (part (is_foreign plan.writers)) goes_on
      ∙ others_run own own_region history (is_foreign plan.writers) rest begun 1 (each_known rest schedule.writers) within ready counted
      ∙ filter_no (λ (e : Entry). is_foreign plan.writers e.dn) (first_entry schedule.first) [] (ap not (short_is_among plan.writers))
    where
      short_is_among : (n : ℕ) → among own is_short n suffix ≡ true
      short_is_among zero = refl
      short_is_among (suc n) = or_right (own n suffix) (among own is_short n suffix) (short_is_among n)

      own_is_among : (n writer : ℕ) (name : Name) → writer < n → own writer name ≡ true → among own is_short n name ≡ true
      own_is_among zero writer name low is = absurd (omega (arith, low))
      own_is_among (suc n) writer name low is =
          ⊎_elim
          (λ (same : writer ≡ n). or_left (own n name) (among own is_short n name) (subst (λ v. own v name ≡ true) same is))
          (λ (far : writer ≡ n → ⊥).
          or_right (own n name) (among own is_short n name) (own_is_among n writer name (lower writer n low far) is))
          (cases_eq writer n)

      each_known : (ws : NumberedWrites) → AreOf plan.writers ws
          → Each (λ w. (name : Name) → own w.0 name ≡ true → is_foreign plan.writers name ≡ false) ws
      each_known [] of = tt
      each_known (w ∷ ws) of = ((λ name is. ap not (own_is_among plan.writers w.0 name of.0 is)), each_known ws of.1)

-- ---- what a search selects

abbrev plain_selected : Search → PlainEntry → Bool
plain_selected wish p = is_in_scope wish.scope wish.base p.dn && is_true (truth_on p.attrs wish.filter)

selected_part : (wish : Search) (own_part : Name → Bool) (entries : List Entry)
    → map plain (part own_part (select wish entries)) ≡ filter (plain_selected wish) (map plain (part own_part entries))
selected_part wish own_part entries =
    ap (map plain) (filter_swap (λ (e : Entry). own_part e.dn) (is_selected wish) entries)
    ∙ filter_mapped plain (is_selected wish) (plain_selected wish) (λ e. refl) (part own_part entries)

-- no name is of two parts
apart_among : (n : ℕ) (name : Name) → own n name ≡ true → among own is_short n name ≡ false
apart_among n name is = below n (omega arith)
  where
    below : (k : ℕ) → k ≤ n → among own is_short k name ≡ false
    below zero low = own_long n name is
    below (suc k) low =
        or_from (own k name) (among own is_short k name)
        (own_apart n k (λ same. absurd (omega (arith, low, same))) name is)
        (below k (omega (arith, low)))

-- schedules of one plan leave the same
pub schedules_alike : SchedulesEndAlike
schedules_alike plan writes wish range schedule =
    let turn = in_turn_schedule plan in
    let others = writes_in_turn plan in
    let few : plan.writers ≤ 8 = range.writers in
    let few_planned = few_operations plan range in
    let many : length writes ≡ length (all_operations plan) = as_many plan writes schedule in
    let short : length writes < 1000000 = omega (arith, few_planned, many) in
    let many_others : length others ≡ length (all_operations plan) = as_many plan others turn in
    let counted : length others < 1000000 = omega (arith, few_planned, many_others) in
    let one = select wish (entries_after writes) in
    let other = select wish (end_of plan) in
    let all_of : (es : List Entry) → part (is_foreign plan.writers) es ≡ [] → part (among own is_short plan.writers) (select wish es) ≡ select wish es =
    λ es none.
    all_pass (λ (e : Entry). among own is_short plan.writers e.dn) (select wish es)
    (filter_swap (λ (e : Entry). is_foreign plan.writers e.dn) (is_selected wish) es ∙ ap (filter (is_selected wish)) none) in
    let alike : IsPermutation (map plain (part (among own is_short plan.writers) one)) (map plain (part (among own is_short plan.writers) other)) =
    alike_among own is_short apart_among plan.writers one other
    (λ k low.
    selected_part wish (own k) (entries_after writes)
    ∙ ap (filter (plain_selected wish)) (own_left plan few writes short schedule k low ∙ sym (own_left plan few others counted turn k low))
    ∙ sym (selected_part wish (own k) (end_of plan)))
    (selected_part wish is_short (entries_after writes)
    ∙ ap (filter (plain_selected wish)) (short_left plan few writes short schedule ∙ sym (short_left plan few others counted turn))
    ∙ sym (selected_part wish is_short (end_of plan))) in
    subst (λ es. IsPermutation (map plain es) (map plain other)) (all_of (entries_after writes) (none_left plan few writes short schedule))
    (subst (λ es. IsPermutation (map plain (part (among own is_short plan.writers) one)) (map plain es)) (all_of (end_of plan) (none_left plan few others counted turn)) alike)
