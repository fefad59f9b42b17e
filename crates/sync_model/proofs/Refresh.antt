-- A refresh ends in the content at its last mark.
use Rattle.std.proofs.Common.{◌≡◌, ℕ, ◌-◌, ◌≤◌, Bool, true, false, nat_eq, List, [], ◌∷◌, ◌++◌, refl, sym, ap, ◌∙◌, arith, Some, None, Option, inl, inr, ⊎_elim, subst}
use Rattle.std.specs.Prelude.{◌||◌, is_some, flat_map}
use Rattle.std.specs.Option.{unwrap_or}
use Rattle.std.proofs.lemmas.Map.Entries.{option_filter}
use Rattle.std.proofs.lemmas.Bool.{cases_Bool, eqb-true, or_parts, or_cases, false≢true, true≢false}
use Rattle.std.proofs.Math.Bool.{or-false}
use Rattle.entry_tree.specs.declared.entry.Entry.{Entry}
use Rattle.entry_tree.specs.State.{ascends, entry_at}
use Rattle.entry_tree.specs.Selection.{is_selected}
use Rattle.entry_tree.specs.Touched.{identities}
use Rattle.entry_tree.specs.History.{differing_over}
use Rattle.entry_tree.proofs.Directory.{ascends_filter}
use Rattle.sync_model.specs.Message.{CookieText, SyncMessage}
use Rattle.sync_model.specs.Stream.{SyncOperation, Start, RefreshPiece, WalkDecision, content_after, among, is_delete_phase, walk, is_sent, decided, decide, decide_piece, decide_late, gathered, last_mark, end_of, after_walk, late_uuids, refresh}
use Rattle.sync_model.specs.Stream.Start.{InitialContent, DeletePhase, PresentPhase}
use Rattle.sync_model.specs.Message.SyncMessage.{RefreshPresent}
use Rattle.sync_model.specs.Copy.{Stage, Copy, Answer, slot, asked, taken_in, taken_all, effected, present_ended}
use Rattle.sync_model.specs.Law.{Ascending, MarksRise, IsCut, MayBegin, settled}
use Rattle.sync_model.proofs.Maps.{among-append}
use Rattle.entry_tree.proofs.Order.{entry_at-filter, same_entries}
use Rattle.entry_tree.proofs.Changing.{own_uuid}
use Rattle.entry_tree.proofs.Taking.{among_identities}
use Rattle.sync_model.proofs.Steps.{steady_within}
use Rattle.sync_model.proofs.Gather.{EachD, EachM, meant, meant_d, eachd-append, meant_d-append, each-gathered, meant-gathered}
use Rattle.sync_model.proofs.Taking.{refreshing, session_in, names_after, stage_after, taken-own, taken-part, at-effected, ascends-effected, IsKeyed, keyed-present_ended, keyed-stage_after, Fine, Right, fine_once, stage_untouched, names_untouched, staged_last, ended_fine, ended_clear}

-- the last mark of some pieces is no less than the mark before them
pub marks-last : (ps : List RefreshPiece) (r : ℕ) → MarksRise r ps → r ≤ last_mark r ps
marks-last [] r h = omega arith
marks-last (p ∷ ps) r h = omega (arith, h.0, marks-last ps p.mark h.1)

-- nothing is there where the test finds nothing
pub none_from_false : {X : Type 0} (x : Option X) → is_some x ≡ false → x ≡ None
none_from_false None h = refl
none_from_false (Some x) h = absurd (true≢false h)

module _ (operation : SyncOperation) (asc : Ascending operation) where
  -- what is selected of an identity after n writes
  abbrev pub found : ℕ → ℕ → Option Entry
  found n u = entry_at (content_after operation n) u

  -- each content of a session ascends by identity
  pub ascends-content : (n : ℕ) → ascends (content_after operation n) ≡ true
  ascends-content n = ascends_filter (is_selected operation.selection) (operation.states n) (asc n)

  -- what is found at a mark is what is selected of the state there
  pub found_in_state : (n u : ℕ) → found n u ≡ option_filter (is_selected operation.selection) (entry_at (operation.states n) u)
  found_in_state n u = entry_at-filter (is_selected operation.selection) (operation.states n) u (asc n)

  -- what a content has of an identity depends on the state's entry of it alone
  pub found_from_state : (m n u : ℕ) → entry_at (operation.states m) u ≡ entry_at (operation.states n) u → found m u ≡ found n u
  found_from_state m n u h = found_in_state m u ∙ ap (option_filter (is_selected operation.selection)) h ∙ sym (found_in_state n u)

  found_uuid : (n u : ℕ) (x : Entry) → found n u ≡ Some x → x.uuid ≡ u
  found_uuid n u x h = own_uuid (content_after operation n) u x h

  found_own : (n u : ℕ) (x : Entry) → found n u ≡ Some x → found n x.uuid ≡ Some x
  found_own n u x h = ap (found n) (found_uuid n u x h) ∙ h

  -- what is said in a walk between r and e
  pub record Sent (r e : ℕ) (x : Entry) : Type 0 where
    pub mark : ℕ
    pub from : r ≤ mark
    pub upto : mark ≤ e
    pub is : found mark x.uuid ≡ Some x

  abbrev pub NamedAt : Start → ℕ → ℕ → Type 0
  NamedAt InitialContent m u = ⊥
  NamedAt (DeletePhase a) m u = found m u ≡ None
  NamedAt (PresentPhase a) m u = (is_some (found m u) ≡ true) × (among u (differing_over operation.states a (m - a)) ≡ false)

  -- an identity is named as deleted, or as present, at the number of writes of some piece
  pub record Named (start : Start) (r e : ℕ) (u : ℕ) : Type 0 where
    pub mark : ℕ
    pub from : r ≤ mark
    pub upto : mark ≤ e
    pub is : NamedAt start mark u

  each-decide : (start : Start) (r e m u : ℕ) → r ≤ m → m ≤ e → EachD (Sent r e) (Named start r e) (decide operation start m u)
  each-decide InitialContent r e m u p q = step (found m u) refl where
    step : (x : Option Entry) → found m u ≡ x → EachD (Sent r e) (Named InitialContent r e) (decided false true u x)
    step None h = tt
    step (Some x) h = (record { mark = m; from = p; upto = q; is = found_own m u x h }, tt)
  each-decide (DeletePhase a) r e m u p q = step (found m u) refl where
    step : (x : Option Entry) → found m u ≡ x → EachD (Sent r e) (Named (DeletePhase a) r e) (decided true true u x)
    step None h = (record { mark = m; from = p; upto = q; is = h }, tt)
    step (Some x) h = (record { mark = m; from = p; upto = q; is = found_own m u x h }, tt)
  each-decide (PresentPhase a) r e m u p q = step (found m u) (among u (differing_over operation.states a (m - a))) refl refl where
    step : (x : Option Entry) (b : Bool) → found m u ≡ x → among u (differing_over operation.states a (m - a)) ≡ b → EachD (Sent r e) (Named (PresentPhase a) r e) (decided false b u x)
    step None b h k = tt
    step (Some x) true h k = (record { mark = m; from = p; upto = q; is = found_own m u x h }, tt)
    step (Some x) false h k = (record { mark = m; from = p; upto = q; is = (ap is_some h, k) }, tt)

  each-uuids : (us : List ℕ) (start : Start) (r e m : ℕ) → r ≤ m → m ≤ e → EachD (Sent r e) (Named start r e) (flat_map (decide operation start m) us)
  each-uuids [] start r e m p q = tt
  each-uuids (u ∷ us) start r e m p q = eachd-append (Sent r e) (Named start r e) (decide operation start m u) (flat_map (decide operation start m) us) (each-decide start r e m u p q) (each-uuids us start r e m p q)

  -- what the decisions of pieces send and name was there at one of their marks
  pub each-pieces : (ps : List RefreshPiece) (start : Start) (r e m : ℕ) → r ≤ m → MarksRise m ps → last_mark m ps ≤ e → EachD (Sent r e) (Named start r e) (flat_map (decide_piece operation start) ps)
  each-pieces [] start r e m p h q = tt
  each-pieces (s ∷ ps) start r e m p h q =
      eachd-append (Sent r e) (Named start r e) (decide_piece operation start s) (flat_map (decide_piece operation start) ps)
      (each-uuids s.uuids start r e s.mark (omega (arith, p, h.0)) (omega (arith, q, marks-last ps s.mark h.1)))
      (each-pieces ps start r e s.mark (omega (arith, p, h.0)) h.1 q)

  -- a delete phase says something of each identity of its walk
  meant-decided : (m u v : ℕ) (x : Option Entry) → found m v ≡ x → meant_d u (decided true true v x) ≡ nat_eq u v
  meant-decided m u v None h = or-false (nat_eq u v)
  meant-decided m u v (Some x) h = or-false (nat_eq u x.uuid) ∙ ap (nat_eq u) (found_uuid m v x h)

  meant-uuids : (us : List ℕ) (a m u : ℕ) → meant_d u (flat_map (decide operation (DeletePhase a) m) us) ≡ among u us
  meant-uuids [] a m u = refl
  meant-uuids (v ∷ us) a m u =
      meant_d-append u (decide operation (DeletePhase a) m v) (flat_map (decide operation (DeletePhase a) m) us)
      ∙ ap (λ b. b || meant_d u (flat_map (decide operation (DeletePhase a) m) us)) (meant-decided m u v (found m v) refl)
      ∙ ap (λ b. nat_eq u v || b) (meant-uuids us a m u)

  meant-pieces : (ps : List RefreshPiece) (a u : ℕ) → meant_d u (flat_map (decide_piece operation (DeletePhase a)) ps) ≡ among u (flat_map (λ p. p.uuids) ps)
  meant-pieces [] a u = refl
  meant-pieces (s ∷ ps) a u =
      meant_d-append u (decide_piece operation (DeletePhase a) s) (flat_map (decide_piece operation (DeletePhase a)) ps)
      ∙ ap (λ b. b || meant_d u (flat_map (decide_piece operation (DeletePhase a)) ps)) (meant-uuids s.uuids a s.mark u)
      ∙ ap (λ b. among u s.uuids || b) (meant-pieces ps a u)
      ∙ sym (among-append u s.uuids (flat_map (λ p. p.uuids) ps))

  meant-late : (us : List ℕ) (e u : ℕ) → meant_d u (flat_map (decide_late operation e) us) ≡ among u us
  meant-late us e u = meant-uuids us 0 e u

  -- another phase is silent about an identity of its walk only where it is not selected
  silent_decided : (m u v : ℕ) (covered sent : Bool) (x : Option Entry) → found m v ≡ x → nat_eq u v ≡ true → meant_d u (decided covered sent v x) ≡ false → found m u ≡ None
  silent_decided m u v covered sent None g here n = ap (found m) (eqb-true u v here) ∙ g
  silent_decided m u v covered true (Some x) g here n =
      let own : x.uuid ≡ v = found_uuid m v x g in
      absurd (true≢false (sym (ap (λ b. b || false) (ap (nat_eq u) own ∙ here)) ∙ n))
  silent_decided m u v covered false (Some x) g here n = absurd (true≢false (sym (ap (λ b. b || false) here) ∙ n))

  silent-uuids : (us : List ℕ) (start : Start) (m u : ℕ) → meant_d u (flat_map (decide operation start m) us) ≡ false → among u us ≡ true → found m u ≡ None
  silent-uuids [] start m u h k = absurd (false≢true k)
  silent-uuids (v ∷ us) start m u h k =
      let p = or_parts (meant_d u (decide operation start m v)) (meant_d u (flat_map (decide operation start m) us)) (sym (meant_d-append u (decide operation start m v) (flat_map (decide operation start m) us)) ∙ h) in
      elim (cases_Bool (nat_eq u v)) [
        | inl here ↦ silent_decided m u v (is_delete_phase start) (is_sent operation start m v) (found m v) refl here p.0
        | inr off ↦ silent-uuids us start m u p.1 (sym (ap (λ b. b || among u us) off) ∙ k)
      ]

  silent-pieces : (ps : List RefreshPiece) (start : Start) (r e m u : ℕ) → r ≤ m → MarksRise m ps → last_mark m ps ≤ e
      → meant_d u (flat_map (decide_piece operation start) ps) ≡ false → among u (flat_map (λ p. p.uuids) ps) ≡ true → (n : ℕ) × (r ≤ n) × (n ≤ e) × (found n u ≡ None)
  silent-pieces [] start r e m u p h q k j = absurd (false≢true j)
  silent-pieces (s ∷ ps) start r e m u p h q k j =
      let z = or_parts (meant_d u (decide_piece operation start s)) (meant_d u (flat_map (decide_piece operation start) ps))
      (sym (meant_d-append u (decide_piece operation start s) (flat_map (decide_piece operation start) ps)) ∙ k)
      in
      ⊎_elim
      (λ here. (s.mark, omega (arith, p, h.0), omega (arith, q, marks-last ps s.mark h.1), silent-uuids s.uuids start s.mark u z.0 here))
      (λ on. silent-pieces ps start r e s.mark u (omega (arith, p, h.0)) h.1 q z.1 on)
      (or_cases _ _ (sym (among-append u s.uuids (flat_map (λ p. p.uuids) ps)) ∙ j))

  -- the late part sends what is there at the last mark, and names what is not
  pub each-late : (us : List ℕ) (e : ℕ) → EachD (λ x. found e x.uuid ≡ Some x) (λ u. found e u ≡ None) (flat_map (decide_late operation e) us)
  each-late [] e = tt
  each-late (u ∷ us) e = eachd-append (λ x. found e x.uuid ≡ Some x) (λ v. found e v ≡ None) (decide_late operation e u) (flat_map (decide_late operation e) us) (step (found e u) refl) (each-late us e) where
    step : (x : Option Entry) → found e u ≡ x → EachD (λ y. found e y.uuid ≡ Some y) (λ v. found e v ≡ None) (decided true true u x)
    step None h = (h, tt)
    step (Some x) h = (found_own e u x h, tt)

  -- ---- right at each identity that does not change between r and e

  -- an identity that no write changed between two marks is found alike at both
  pub same_at_marks : (r e m u : ℕ) → r ≤ m → m ≤ e → among u (late_uuids operation r e) ≡ false → found m u ≡ found e u
  same_at_marks r e m u p q out =
      steady_within (λ n. content_after operation n) r e m u p q out ∙ sym (steady_within (λ n. content_after operation n) r e e u (omega (arith, p, q)) (omega arith) out)

  kept_in_state : (a n m u : ℕ) → a ≤ n → n ≤ m → among u (differing_over operation.states a (m - a)) ≡ false → entry_at (operation.states n) u ≡ entry_at (operation.states m) u
  kept_in_state a n m u from most off = steady_within operation.states a m n u from most off ∙ sym (steady_within operation.states a m m u (omega (arith, from, most)) (omega arith) off)

  right-walk : (start : Start) (r e u : ℕ) (held : List Entry) → MayBegin operation start r held → among u (late_uuids operation r e) ≡ false
      → Right (is_delete_phase start) (Sent r e) (Named start r e) held (found e u) u
  right-walk InitialContent r e u held b out = record {
    sent = λ x h own. sym (same_at_marks r e h.mark u h.from h.upto out) ∙ ap (found h.mark) (sym own) ∙ h.is;
    dropped = λ c h. absurd h.is;
    kept = λ c h. absurd h.is;
  }
  right-walk (DeletePhase a) r e u held b out = record {
    sent = λ x h own. sym (same_at_marks r e h.mark u h.from h.upto out) ∙ ap (found h.mark) (sym own) ∙ h.is;
    dropped = λ c h. sym (same_at_marks r e h.mark u h.from h.upto out) ∙ h.is;
    kept = λ c h. absurd (true≢false c);
  }
  right-walk (PresentPhase a) r e u held b out = record {
    sent = λ x h own. sym (same_at_marks r e h.mark u h.from h.upto out) ∙ ap (found h.mark) (sym own) ∙ h.is;
    dropped = λ c h. absurd (false≢true c);
    kept = λ c h. ap (λ m. entry_at m u) b.same ∙ found_from_state b.number h.mark u (kept_in_state a b.number h.mark u b.from (omega (arith, b.upto, h.from)) h.is.1) ∙ same_at_marks r e h.mark u h.from h.upto out;
  }

-- ---- what the end does

-- the stage after the end of the walk's phase
abbrev pub phase : (covered : Bool) → List ℕ → Stage → List Entry → Stage
phase true named stage held = stage
phase false named stage held = present_ended named stage held

-- the end of a refresh brings this stage into effect
abbrev pub Ends : ℕ → (persists : Bool) → CookieText → Copy → List Entry → Stage → Type 0
Ends id persists cookie after held stage = (ended : Bool) × (after ≡ settled id persists ended (effected held stage) (Some cookie))

-- the message takes effect as one of the search's own
taken-end : (id : ℕ) (held : List Entry) (old : Option CookieText) (persists ended : Bool) (named : List ℕ) (stage : Stage) (m : SyncMessage) (after : Copy)
    → (taken_in (refreshing id held old persists ended named stage) (session_in id persists ended named stage) m).0 ≡ after
    → taken_all id (refreshing id held old persists ended named stage) (m ∷ []) ≡ after
taken-end id held old persists ended named stage m after h =
    ap (λ (outcome : Copy × Answer). outcome.0) (taken-own (refreshing id held old persists ended named stage) (session_in id persists ended named stage) m refl) ∙ h

delete_ends : (id : ℕ) (held : List Entry) (old : Option CookieText) (persists ended : Bool) (named : List ℕ) (stage : Stage) (cookie : CookieText)
    → Ends id persists cookie (taken_all id (refreshing id held old persists ended named stage) (end_of persists true cookie ∷ [])) held stage
delete_ends id held old true ended named stage cookie = (ended, taken-end id held old true ended named stage (end_of true true cookie) (settled id true ended (effected held stage) (Some cookie)) refl)
delete_ends id held old false ended named stage cookie = (ended, taken-end id held old false ended named stage (end_of false true cookie) (settled id false ended (effected held stage) (Some cookie)) refl)

present_ends : (id : ℕ) (held : List Entry) (old : Option CookieText) (persists : Bool) (named : List ℕ) (stage : Stage) (cookie : CookieText)
    → Ends id persists cookie (taken_all id (refreshing id held old persists false named stage) (end_of persists false cookie ∷ [])) held (present_ended named stage held)
present_ends id held old true named stage cookie = (true, taken-end id held old true false named stage (end_of true false cookie) (settled id true true (effected held (present_ended named stage held)) (Some cookie)) refl)
present_ends id held old false named stage cookie = (true, taken-end id held old false false named stage (end_of false false cookie) (settled id false true (effected held (present_ended named stage held)) (Some cookie)) refl)

late_ends : (id : ℕ) (held : List Entry) (old : Option CookieText) (persists ended : Bool) (named : List ℕ) (stage : Stage) (cookie : CookieText) (ds : List WalkDecision) (P : Entry → Type 0) (Q : ℕ → Type 0)
    → EachD P Q ds
    → Ends id persists cookie (taken_all id (refreshing id held old persists ended named stage) (gathered true ds ++ end_of persists true cookie ∷ [])) held (stage_after stage (gathered true ds))
late_ends id held old persists ended named stage cookie ds P Q a =
    subst (λ c. Ends id persists cookie c held (stage_after stage (gathered true ds)))
    (sym (taken-part (gathered true ds) (end_of persists true cookie ∷ []) true P Q id held old persists ended named stage (each-gathered true P Q ds a) (λ c. absurd (true≢false c))))
    (delete_ends id held old persists ended (names_after named (gathered true ds)) (stage_after stage (gathered true ds)) cookie)

-- the end of a present phase that goes on
taken-break : (id : ℕ) (held : List Entry) (old : Option CookieText) (persists : Bool) (named : List ℕ) (stage : Stage) (ms : List SyncMessage)
    → taken_all id (refreshing id held old persists false named stage) (RefreshPresent false None ∷ ms) ≡ taken_all id (refreshing id held old persists true named (present_ended named stage held)) ms
taken-break id held old persists named stage ms =
    ap (λ (outcome : Copy × Answer). taken_all id outcome.0 ms)
    (taken-own (refreshing id held old persists false named stage) (session_in id persists false named stage) (RefreshPresent false None) refl)

after_walk_ends : (operation : SyncOperation) (covered : Bool) (e : ℕ) (us : List ℕ) (P : Entry → Type 0) (Q : ℕ → Type 0) (id : ℕ) (held : List Entry) (old : Option CookieText) (named : List ℕ) (stage : Stage)
    → EachD P Q (flat_map (decide_late operation e) us)
    → Ends id operation.persists (operation.cookies e) (taken_all id (refreshing id held old operation.persists false named stage) (after_walk operation covered e us)) held
    (stage_after (phase covered named stage held) (gathered true (flat_map (decide_late operation e) us)))
after_walk_ends operation true e [] P Q id held old named stage a = delete_ends id held old operation.persists false named stage (operation.cookies e)
after_walk_ends operation false e [] P Q id held old named stage a = present_ends id held old operation.persists named stage (operation.cookies e)
after_walk_ends operation true e (u ∷ us) P Q id held old named stage a =
    late_ends id held old operation.persists false named stage (operation.cookies e) (flat_map (decide_late operation e) (u ∷ us)) P Q a
after_walk_ends operation false e (u ∷ us) P Q id held old named stage a =
    let ds : List WalkDecision = flat_map (decide_late operation e) (u ∷ us) in
    subst (λ c. Ends id operation.persists (operation.cookies e) c held (stage_after (present_ended named stage held) (gathered true ds)))
    (sym (taken-break id held old operation.persists named stage (gathered true ds ++ end_of operation.persists true (operation.cookies e) ∷ [])))
    (late_ends id held old operation.persists true named (present_ended named stage held) (operation.cookies e) ds P Q a)

module _ (operation : SyncOperation) (asc : Ascending operation) where
  -- where no log covers the cookie, an identity that is named as present is held
  pub known : (start : Start) (r e : ℕ) (held : List Entry) → MayBegin operation start r held → is_delete_phase start ≡ false → (u : ℕ) → Named operation asc start r e u → is_some (entry_at held u) ≡ true
  known InitialContent r e held b c u h = absurd h.is
  known (DeletePhase a) r e held b c u h = absurd (true≢false c)
  known (PresentPhase a) r e held b c u h =
      ap (λ m. is_some (entry_at m u)) b.same
      ∙ ap is_some (found_from_state operation asc b.number h.mark u (kept_in_state operation asc a b.number h.mark u b.from (omega (arith, b.upto, h.from)) h.is.1))
      ∙ h.is.0

  not_walked : (start : Start) (r e u : ℕ) (ps : List RefreshPiece) → r ≤ e → MarksRise r ps → last_mark r ps ≤ e → walk operation start r ≡ identities (operation.states r)
      → flat_map (λ p. p.uuids) ps ≡ walk operation start r → among u (late_uuids operation r e) ≡ false
      → meant_d u (flat_map (decide_piece operation start) ps) ≡ false → found operation asc e u ≡ None
  not_walked start r e u ps le rise last same cut out quiet = elim (cases_Bool (among u (flat_map (λ p. p.uuids) ps))) [
    | inl here ↦ (let n : (n : ℕ) × (r ≤ n) × (n ≤ e) × (found operation asc n u ≡ None) = silent-pieces operation asc ps start r e r u (omega arith) rise last quiet here in
        sym (same_at_marks operation asc r e n.0 u n.1 n.2 out) ∙ n.3)
    | inr off ↦ (let gone : entry_at (operation.states r) u ≡ None = none_from_false _ (sym (among_identities (operation.states r) u) ∙ ap (among u) (sym (cut ∙ same)) ∙ off) in
        sym (same_at_marks operation asc r e r u (omega arith) le out) ∙ found_in_state operation asc r u ∙ ap (option_filter (is_selected operation.selection)) gone)
  ]

  -- the outcome at an identity of which the walk says nothing
  unsaid : (start : Start) (r e u : ℕ) (ps : List RefreshPiece) (held : List Entry) (named : List ℕ) (stage : Stage) → r ≤ e → MayBegin operation start r held → MarksRise r ps → last_mark r ps ≤ e
      → flat_map (λ p. p.uuids) ps ≡ walk operation start r → among u (late_uuids operation r e) ≡ false
      → meant_d u (flat_map (decide_piece operation start) ps) ≡ false → slot stage u ≡ None → among u named ≡ false
      → unwrap_or (slot (phase (is_delete_phase start) named stage held) u) (entry_at held u) ≡ found operation asc e u
  unsaid InitialContent r e u ps held named stage le b rise last cut out quiet clear bare =
      ended_clear held named stage u clear bare ∙ sym (not_walked InitialContent r e u ps le rise last refl cut out quiet)
  unsaid (PresentPhase a) r e u ps held named stage le b rise last cut out quiet clear bare =
      ended_clear held named stage u clear bare ∙ sym (not_walked (PresentPhase a) r e u ps le rise last refl cut out quiet)
  unsaid (DeletePhase a) r e u ps held named stage le b rise last cut out quiet clear bare =
      let off : among u (differing_over operation.states a (r - a)) ≡ false = ap (among u) (sym cut) ∙ sym (meant-pieces operation asc ps a u) ∙ quiet in
      ap (λ x. unwrap_or x (entry_at held u)) clear
      ∙ ap (λ m. entry_at m u) b.same
      ∙ found_from_state operation asc b.number r u (kept_in_state operation asc a b.number r u b.from b.upto off)
      ∙ same_at_marks operation asc r e r u (omega arith) le out

  said : (start : Start) (t : Option Entry) (held : List Entry) (named : List ℕ) (stage : Stage) (u : ℕ) → Fine held t named stage u
      → unwrap_or (slot (phase (is_delete_phase start) named stage held) u) (entry_at held u) ≡ t
  said InitialContent t held named stage u fine = ended_fine held t named stage u fine
  said (DeletePhase a) t held named stage u fine = fine.outcome
  said (PresentPhase a) t held named stage u fine = ended_fine held t named stage u fine

  -- the outcome at an identity that does not change between r and e
  walked : (start : Start) (r e u : ℕ) (ps : List RefreshPiece) (held : List Entry) → r ≤ e → MayBegin operation start r held → MarksRise r ps → last_mark r ps ≤ e
      → flat_map (λ p. p.uuids) ps ≡ walk operation start r → among u (late_uuids operation r e) ≡ false
      → (w : List SyncMessage) → w ≡ gathered (is_delete_phase start) (flat_map (decide_piece operation start) ps)
      → unwrap_or (slot (phase (is_delete_phase start) (names_after [] w) (stage_after [] w) held) u) (entry_at held u) ≡ found operation asc e u
  walked start r e u ps held le b rise last cut out w is =
      let all : EachM (is_delete_phase start) (Sent operation asc r e) (Named operation asc start r e) w =
      subst (EachM (is_delete_phase start) (Sent operation asc r e) (Named operation asc start r e)) (sym is)
      (each-gathered (is_delete_phase start) (Sent operation asc r e) (Named operation asc start r e) (flat_map (decide_piece operation start) ps) (each-pieces operation asc ps start r e r (omega arith) rise last)) in
      let right : Right (is_delete_phase start) (Sent operation asc r e) (Named operation asc start r e) held (found operation asc e u) u = right-walk operation asc start r e u held b out in
      elim (cases_Bool (meant u w)) [
        | inl here ↦ said start (found operation asc e u) held (names_after [] w) (stage_after [] w) u
            (fine_once (is_delete_phase start) (Sent operation asc r e) (Named operation asc start r e) held (found operation asc e u) u w [] [] right all refl here)
        | inr off ↦ unsaid start r e u ps held (names_after [] w) (stage_after [] w) le b rise last cut out (sym (meant-gathered u (is_delete_phase start) (flat_map (decide_piece operation start) ps)) ∙ ap (meant u) (sym is) ∙ off)
            (stage_untouched (is_delete_phase start) (Sent operation asc r e) (Named operation asc start r e) held (found operation asc e u) u w [] all off)
            (names_untouched (is_delete_phase start) (Sent operation asc r e) (Named operation asc start r e) held (found operation asc e u) u w [] all off)
      ]

  begins_ascending : (start : Start) (r : ℕ) (held : List Entry) → MayBegin operation start r held → ascends held ≡ true
  begins_ascending InitialContent r held b = b
  begins_ascending (DeletePhase a) r held b = ap ascends b.same ∙ ascends-content operation asc b.number
  begins_ascending (PresentPhase a) r held b = ap ascends b.same ∙ ascends-content operation asc b.number

  if_phase : (covered : Bool) (named : List ℕ) (stage : Stage) (held : List Entry) → IsKeyed stage → IsKeyed (phase covered named stage held)
  if_phase true named stage held keyed = keyed
  if_phase false named stage held keyed = keyed-present_ended named stage held keyed

  -- the outcome of the whole refresh, at each identity
  outcome : (r e u : ℕ) (held : List Entry) (s : Stage) → ascends held ≡ true → IsKeyed s
      → ((among u (late_uuids operation r e) ≡ false) → unwrap_or (slot s u) (entry_at held u) ≡ found operation asc e u)
      → entry_at (effected held (stage_after s (gathered true (flat_map (decide_late operation e) (late_uuids operation r e))))) u ≡ found operation asc e u
  outcome r e u held s held_asc keyed walk_right =
      let ds : List WalkDecision = flat_map (decide_late operation e) (late_uuids operation r e) in
      let w : List SyncMessage = gathered true ds in
      let all : EachM true (λ x. found operation asc e x.uuid ≡ Some x) (λ v. found operation asc e v ≡ None) w =
      each-gathered true (λ x. found operation asc e x.uuid ≡ Some x) (λ v. found operation asc e v ≡ None) ds (each-late operation asc (late_uuids operation r e) e) in
      let right : Right true (λ x. found operation asc e x.uuid ≡ Some x) (λ v. found operation asc e v ≡ None) held (found operation asc e u) u
      = record { sent = λ x h own. ap (found operation asc e) (sym own) ∙ h; dropped = λ c h. h; kept = λ c h. absurd (true≢false c) } in
      let same : meant u w ≡ among u (late_uuids operation r e) = meant-gathered u true ds ∙ meant-late operation asc (late_uuids operation r e) e u in
      at-effected (stage_after s w) held u held_asc (keyed-stage_after w s keyed) ∙ elim (cases_Bool (among u (late_uuids operation r e))) [
        | inl here ↦ ap (λ x. unwrap_or x (entry_at held u))
            (staged_last (λ x. found operation asc e x.uuid ≡ Some x) (λ v. found operation asc e v ≡ None) held (found operation asc e u) u w s right all (inl (same ∙ here)))
        | inr off ↦ ap (λ x. unwrap_or x (entry_at held u))
            (stage_untouched true (λ x. found operation asc e x.uuid ≡ Some x) (λ v. found operation asc e v ≡ None) held (found operation asc e u) u w s all (same ∙ off)) ∙ walk_right off
      ]

  -- the whole law of a refresh
  pub refresh_ends : (id : ℕ) (start : Start) (r : ℕ) (ps : List RefreshPiece) (copy : Copy) → IsCut operation start r ps → MayBegin operation start r copy.held
      → (ended : Bool) × (taken_all id (asked id operation.persists copy) (refresh operation start r ps)
      ≡ settled id operation.persists ended (content_after operation (last_mark r ps)) (Some (operation.cookies (last_mark r ps))))
  refresh_ends id start r ps copy pieces b =
      let e : ℕ = last_mark r ps in
      let le : r ≤ e = marks-last ps r pieces.rises in
      let w : List SyncMessage = gathered (is_delete_phase start) (flat_map (decide_piece operation start) ps) in
      let all : EachM (is_delete_phase start) (Sent operation asc r e) (Named operation asc start r e) w =
      each-gathered (is_delete_phase start) (Sent operation asc r e) (Named operation asc start r e) (flat_map (decide_piece operation start) ps)
      (each-pieces operation asc ps start r e r (omega arith) pieces.rises (omega arith)) in
      let late : List ℕ = late_uuids operation r e in
      let rest : List SyncMessage = after_walk operation (is_delete_phase start) e late in
      let s : Stage = phase (is_delete_phase start) (names_after [] w) (stage_after [] w) copy.held in
      let keyed : IsKeyed s = if_phase (is_delete_phase start) (names_after [] w) (stage_after [] w) copy.held (keyed-stage_after w [] tt) in
      let held_asc : ascends copy.held ≡ true = begins_ascending start r copy.held b in
      let final : Stage = stage_after s (gathered true (flat_map (decide_late operation e) late)) in
      let ends : Ends id operation.persists (operation.cookies e) (taken_all id (asked id operation.persists copy) (w ++ rest)) copy.held final =
      subst (λ c. Ends id operation.persists (operation.cookies e) c copy.held final)
      (sym (taken-part w rest (is_delete_phase start) (Sent operation asc r e) (Named operation asc start r e) id copy.held copy.cookie operation.persists false [] [] all (known start r e copy.held b)))
      (after_walk_ends operation (is_delete_phase start) e late (λ x. found operation asc e x.uuid ≡ Some x) (λ v. found operation asc e v ≡ None) id copy.held copy.cookie (names_after [] w) (stage_after [] w)
      (each-late operation asc late e)) in
      let same : effected copy.held final ≡ content_after operation e =
      same_entries (effected copy.held final) (content_after operation e) (ascends-effected final copy.held held_asc) (ascends-content operation asc e)
      (λ u. outcome r e u copy.held s held_asc keyed (λ out. walked start r e u ps copy.held le b pieces.rises (omega arith) pieces.cut out w refl)) in
      (ends.0, ends.1 ∙ ap (λ m. settled id operation.persists ends.0 m (Some (operation.cookies e))) same)
