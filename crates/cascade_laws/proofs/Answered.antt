-- A search that a settling asks for is opened, by what its lines promise: a refusal takes the cookie, and without one nothing
-- is refused.
use Rattle.std.proofs.Common.{◌≡◌, ℕ, Bool, false, cond, None, List, [], ◌∷◌, ◌++◌, ap, sym, ◌∙◌, inl, inr, append_assoc, append-nil, subst}
use Rattle.std.specs.Prelude.{◌⊎◌, ◌&&◌, ◌==◌}
use Rattle.std.proofs.lemmas.List.Sums.{fold-append}
use Rattle.ldap_constants.specs.declared.result_codes.TheConstants.{E_SYNC_REFRESH_REQUIRED}
use Rattle.cascade_script.specs.Orders.{Order}
use Rattle.cascade_script.specs.Orders.{Order as asks}
use Rattle.cascade_world.specs.ReportLines.{ReportLine}
use Rattle.cascade_world.specs.ReportLines.{ReportLine as reported}
use Rattle.cascade_world.proofs.SameNames.{itself}
use Rattle.cascade_laws.specs.Headline.{Known, nothing_known, known_after, known_of, IsUnserved, ReportsRight, EachReportsRight}
use Rattle.cascade_laws.specs.Reports.{IsAnswer, IsAtMost, IsRefreshing, IsSettling}
use Rattle.cascade_laws.proofs.Gives.{IsFinal, HasRefreshed, MayRefresh, HasSettled}

-- ---- lines that are right, in parts

right_rest : (before : List Order) (order : Order) (said lines more : List ReportLine) → EachReportsRight before order said (lines ++ more) → EachReportsRight before order (said ++ lines) more
right_rest before order said [] more right = subst (λ s. EachReportsRight before order s more) (sym (append-nil said)) right
right_rest before order said (line ∷ lines) more right =
    subst (λ s. EachReportsRight before order s more) (append_assoc said (line ∷ []) lines) (right_rest before order (said ++ line ∷ []) lines more right.1)

right_prefix : (before : List Order) (order : Order) (said lines more : List ReportLine) → EachReportsRight before order said (lines ++ more) → EachReportsRight before order said lines
right_prefix before order said [] more right = tt
right_prefix before order said (line ∷ lines) more right = (right.0, right_prefix before order (said ++ line ∷ []) lines more right.1)

right_first : (before : List Order) (order : Order) (said : List ReportLine) (line : ReportLine) (lines : List ReportLine) → EachReportsRight before order said (line ∷ lines) → ReportsRight before order said line
right_first before order said line lines right = right.0

right_later : (before : List Order) (order : Order) (said : List ReportLine) (line : ReportLine) (lines : List ReportLine) → EachReportsRight before order said (line ∷ lines) → EachReportsRight before order (said ++ line ∷ []) lines
right_later before order said line lines right = right.1

-- ---- a refusal takes the cookie

refusal_takes : (name : List ℕ) (said : List ReportLine) → (known_of name (said ++ reported.Refused name false E_SYNC_REFRESH_REQUIRED ∷ [])).cookie ≡ None
refusal_takes name said =
    let before = known_of name said in
    ap (λ (k : Known). k.cookie)
    (fold-append (known_after name) nothing_known said (reported.Refused name false E_SYNC_REFRESH_REQUIRED ∷ []) ∙ ap (λ same. cond (same && E_SYNC_REFRESH_REQUIRED == E_SYNC_REFRESH_REQUIRED) (record before { cookie = None }) before) (itself name))

module _ (before : List Order) (name : List ℕ) where
  abbrev Settle : Order
  Settle = asks.Settle name

  -- an answer that is right, and no refusal, is an opening
  abbrev IsOpened : ReportLine → Type 0
  IsOpened answer = (writes : ℕ) × (answer ≡ reported.Opened name false writes)

  named : (node : List ℕ) (persists : Bool) (writes : ℕ) → node ≡ name → persists ≡ false → reported.Opened node persists writes ≡ reported.Opened name false writes
  named node persists writes same ends = ap (λ n. reported.Opened n persists writes) same ∙ ap (λ b. reported.Opened name b writes) ends

  first_opens : (said : List ReportLine) (answer : ReportLine) → IsAnswer name answer → IsFinal answer → ReportsRight before Settle said answer → IsOpened answer
  first_opens said (reported.Opened node persists writes) same final right = (writes, named node persists writes same right.0)
  first_opens said (reported.Refused node persists code) same final right = absurd (final right.1)
  first_opens said (reported.Wrote node code writes) answers final right = absurd answers
  first_opens said (reported.Sent node message) answers final right = absurd answers
  first_opens said (reported.Taken node) answers final right = absurd answers
  first_opens said (reported.Stored node stored) answers final right = absurd answers
  first_opens said (reported.Ended node code) answers final right = absurd answers
  first_opens said (reported.Faulted node fault) answers final right = absurd answers
  first_opens said (reported.Cut node) answers final right = absurd answers
  first_opens said (reported.Nothing node) answers final right = absurd answers
  first_opens said (reported.Settled node writes) answers final right = absurd answers
  first_opens said (reported.Holds node cookie) answers final right = absurd answers
  first_opens said (reported.Clocked time) answers final right = absurd answers
  first_opens said (reported.Shown node entries) answers final right = absurd answers

  -- without a cookie there is no refusal
  then_opens : (said : List ReportLine) (answer : ReportLine) → IsAnswer name answer → ReportsRight before Settle (said ++ reported.Refused name false E_SYNC_REFRESH_REQUIRED ∷ []) answer → IsOpened answer
  then_opens said (reported.Opened node persists writes) same right = (writes, named node persists writes same right.0)
  then_opens said (reported.Refused node persists code) same right =
      let of = right.2 in
      let none : (known_of node (said ++ reported.Refused name false E_SYNC_REFRESH_REQUIRED ∷ [])).cookie ≡ None =
      ap (λ n. (known_of n (said ++ reported.Refused name false E_SYNC_REFRESH_REQUIRED ∷ [])).cookie) same ∙ refusal_takes name said in
      absurd (subst (IsUnserved of.follows.reload of.follows.history of.follows.writes) none of.says)
  then_opens said (reported.Wrote node code writes) answers right = absurd answers
  then_opens said (reported.Sent node message) answers right = absurd answers
  then_opens said (reported.Taken node) answers right = absurd answers
  then_opens said (reported.Stored node stored) answers right = absurd answers
  then_opens said (reported.Ended node code) answers right = absurd answers
  then_opens said (reported.Faulted node fault) answers right = absurd answers
  then_opens said (reported.Cut node) answers right = absurd answers
  then_opens said (reported.Nothing node) answers right = absurd answers
  then_opens said (reported.Settled node writes) answers right = absurd answers
  then_opens said (reported.Holds node cookie) answers right = absurd answers
  then_opens said (reported.Clocked time) answers right = absurd answers
  then_opens said (reported.Shown node entries) answers right = absurd answers

  -- ---- all that is asked

  record Asked (first : List ReportLine) (answer : ReportLine) : Type 0 where
    refuses : IsAtMost (reported.Refused name false E_SYNC_REFRESH_REQUIRED) first
    opens' : IsOpened answer

  asked_by : (said first : List ReportLine) (code : ℕ) (answer : ReportLine) (passed : List ReportLine) → IsAtMost (reported.Refused name false code) first → IsAnswer name answer → (first ≡ [] → IsFinal answer)
      → EachReportsRight before Settle said (first ++ answer ∷ passed) → Asked first answer
  asked_by said first code answer passed (inl none) answers final right =
      let there : EachReportsRight before Settle said (answer ∷ passed) = subst (λ ls. EachReportsRight before Settle said (ls ++ answer ∷ passed)) none right in
      record { refuses = inl none; opens' = first_opens said answer answers (final none) (right_first before Settle said answer passed there) }
  asked_by said first code answer passed (inr one) answers final right =
      let there : EachReportsRight before Settle said (reported.Refused name false code ∷ answer ∷ passed) = subst (λ ls. EachReportsRight before Settle said (ls ++ answer ∷ passed)) one right in
      let refused = reported.Refused name false code in
      let required : code ≡ E_SYNC_REFRESH_REQUIRED = (right_first before Settle said refused (answer ∷ passed) there).1 in
      let later : ReportsRight before Settle (said ++ refused ∷ []) answer =
      right_first before Settle (said ++ refused ∷ []) answer passed (right_later before Settle said refused (answer ∷ passed) there) in
      record {
        refuses = inr (one ∙ ap (λ c. reported.Refused name false c ∷ []) required);
        opens' = then_opens said answer answers (subst (λ c. ReportsRight before Settle (said ++ reported.Refused name false c ∷ []) answer) required later);
      }

  refreshing_right : (said lines : List ReportLine) → HasRefreshed name lines → EachReportsRight before Settle said lines → IsRefreshing name lines
  refreshing_right said lines is right = record {
    cut = is.cut';
    drops = is.drops;
    first = is.first;
    refuses = asked.refuses;
    writes = asked.opens'.0;
    passed = is.passed;
    passes = is.passes;
    whole = is.whole ∙ ap (λ a. is.cut' ++ (is.first ++ a ∷ is.passed)) asked.opens'.1;
  }
    where
      there : EachReportsRight before Settle (said ++ is.cut') (is.first ++ is.answer ∷ is.passed)
      there = right_rest before Settle said is.cut' (is.first ++ is.answer ∷ is.passed) (subst (EachReportsRight before Settle said) is.whole right)

      asked : Asked is.first is.answer
      asked = asked_by (said ++ is.cut') is.first is.code is.answer is.passed is.refuses is.answers is.final there

  again_right : (said lines : List ReportLine) → MayRefresh name lines → EachReportsRight before Settle said lines → (lines ≡ []) ⊎ IsRefreshing name lines
  again_right said lines (inl none) right = inl none
  again_right said lines (inr is) right = inr (refreshing_right said lines is right)

  -- the lines of a settling, each of them right, are a settling as the headline has it
  pub settling_right : (said lines : List ReportLine) → HasSettled name lines → EachReportsRight before Settle said lines → IsSettling name lines
  settling_right said lines is right = record {
    taken = is.taken;
    takes = is.takes';
    passed = is.passed;
    passes = is.passes;
    again = is.again;
    refreshes = again_right ((said ++ is.taken) ++ is.passed) is.again is.refreshes' there;
    writes = is.writes;
    whole = is.whole;
  }
    where
      last : List ReportLine
      last = reported.Settled name is.writes ∷ []

      there : EachReportsRight before Settle ((said ++ is.taken) ++ is.passed) is.again
      there =
          right_prefix before Settle ((said ++ is.taken) ++ is.passed) is.again last
          (right_rest before Settle (said ++ is.taken) is.passed (is.again ++ last)
          (right_rest before Settle said is.taken (is.passed ++ (is.again ++ last)) (subst (EachReportsRight before Settle said) is.whole right)))
