-- Writes of several writers, each in a part of the names of its own.
use Rattle.std.proofs.Common.{◌≡◌, ◌≢◌, ℕ, ◌+◌, ◌^◌, ◌<◌, ◌==◌, Bool, true, false, not, ◌&&◌, nat_lt, if◌then◌else◌, List, [], ◌∷◌, ◌++◌, map, fold, length, Option, Some, None, refl, sym, ap, ◌∙◌, subst, arith}
use Rattle.std.specs.List.{list_all}
use Rattle.std.proofs.lemmas.Bool.{and_parts, and_from, false≢true, ltb-true, lt-ltb, eqb-true, eq-eqb}
use Rattle.csn_cookie.specs.Csn.{CsnValue}
use Rattle.dn_names.specs.Names.{TypeAndValue}
use Rattle.entry_writes.specs.declared.edit.Edit.{Edit}
use Rattle.entry_writes.specs.declared.entry.Entry.{Entry}
use Rattle.entry_writes.specs.declared.op.Op.{Op}
use Rattle.entry_writes.specs.declared.op.Op.TheVariants.{Add, Delete, Modify, Rename, Commit}
use Rattle.entry_writes.specs.declared.op.Write.{Write}
use Rattle.entry_writes.specs.Effects.{edited, modified, moved, new_name, new_attributes, renamed, effect}
use Rattle.entry_tree.proofs.IdentityNumbers.{identity_rises}
use Rattle.entry_tree.specs.History.{identity, state_from}
use Rattle.entry_writes.specs.Sound.{is_commit}
use Rattle.entry_writes.specs.State.{ascends, is_identified, is_named, entry_named}
use Rattle.entry_tree.proofs.Directory.{ascends_filter}
use Rattle.entry_tree.proofs.Moving.{moved_keeps}
use Rattle.entry_writes.proofs.Passing.{list_all-filter}
use Rattle.entry_tree.proofs.Replacing.{replaced_keeps}
use Rattle.sync_model.proofs.Gather.{Each}
use Rattle.sync_model.proofs.Histories.{ascends-effect}
use Rattle.drill_plan.specs.Plain.{plain}
use Rattle.drill_plan.specs.Schedule.{NumberedWrites, writes_of, operations_by}
use Rattle.drill_plan.proofs.Plainly.{Name, all_before, put_last, plain_effect, effect_plain}
use Rattle.drill_plan.proofs.Regions.{IsRegion, IsWithin, part, part_effect, other_effect}

-- ---- identities

-- the identities that are still free are those of later writes
all_mapped : (test : Entry → Bool) (f : Entry → Entry) → ((e : Entry) → test (f e) ≡ test e) → (entries : List Entry)
    → list_all test (map f entries) ≡ list_all test entries
all_mapped test f same [] = refl
all_mapped test f same (e ∷ entries) =
    ap (λ b. b && list_all test (map f entries)) (same e) ∙ ap (λ b. test e && b) (all_mapped test f same entries)

all_append : (test : Entry → Bool) (xs ys : List Entry) → list_all test xs ≡ true → list_all test ys ≡ true
    → list_all test (xs ++ ys) ≡ true
all_append test [] ys first second = second
all_append test (x ∷ xs) ys first second =
    let both = and_parts (test x) (list_all test xs) first in
    and_from (test x) (list_all test (xs ++ ys)) both.0 (all_append test xs ys both.1 second)

lower : (n u v : ℕ) → u < v → nat_lt n u ≡ true → nat_lt n v ≡ true
lower n u v less low = let under : n < u = ltb-true n u low in lt-ltb n v (omega (arith, less, under))

before_higher : (u v : ℕ) (entries : List Entry) → u < v → all_before u entries ≡ true → all_before v entries ≡ true
before_higher u v [] less low = refl
before_higher u v (e ∷ entries) less low =
    let both = and_parts (nat_lt e.uuid u) (all_before u entries) low in
    and_from (nat_lt e.uuid v) (all_before v entries) (lower e.uuid u v less both.0) (before_higher u v entries less both.1)

below_next : (u v : ℕ) → u < v → nat_lt u v ≡ true
below_next u v less = lt-ltb u v less

before_modified : (v : ℕ) (entries : List Entry) (found : Option Entry) (edits : List Edit) (csn : CsnValue)
    → all_before v entries ≡ true → all_before v (modified entries found edits csn) ≡ true
before_modified v entries None edits csn low = low
before_modified v entries (Some e) edits csn low =
    all_mapped (λ (x : Entry). nat_lt x.uuid v) (λ other. if is_identified e.uuid other then edited e edits csn else other)
    (λ other. ap (λ n. nat_lt n v) (replaced_keeps e.uuid (edited e edits csn) refl other)) entries
    ∙ low

before_renamed : (v : ℕ) (entries : List Entry) (found : Option Entry) (rdn : List TypeAndValue) (deletes : Bool) (superior : Option Name)
    (csn : CsnValue) → all_before v entries ≡ true → all_before v (renamed entries found rdn deletes superior csn) ≡ true
before_renamed v entries None rdn deletes superior csn low = low
before_renamed v entries (Some top) rdn deletes superior csn low =
    let to = new_name top rdn superior in
    let attrs = new_attributes top rdn deletes in
    all_mapped (λ (x : Entry). nat_lt x.uuid v) (moved top to attrs csn) (λ e. ap (λ n. nat_lt n v) (moved_keeps top to attrs csn e)) entries ∙ low

-- after a write, its identity is below all later ones
before_effect : (op : Op) (entries : List Entry) (u v : ℕ) (csn : CsnValue) → is_commit op ≡ false → u < v
    → all_before u entries ≡ true → all_before v (effect entries op u csn) ≡ true
before_effect (Add name attrs) entries u v csn asked less low =
    let e : Entry = record { uuid = u; csn = csn; dn = name; attrs = attrs } in
    subst (λ es. all_before v es ≡ true) (sym (put_last e entries low))
    (all_append (λ (x : Entry). nat_lt x.uuid v) entries (e ∷ []) (before_higher u v entries less low)
    (and_from (nat_lt u v) true (below_next u v less) refl))
before_effect (Delete name) entries u v csn asked less low =
    list_all-filter (λ (x : Entry). nat_lt x.uuid v) (λ (e : Entry). not (is_named name e)) entries (before_higher u v entries less low)
before_effect (Modify name edits) entries u v csn asked less low =
    before_modified v entries (entry_named entries name) edits csn (before_higher u v entries less low)
before_effect (Rename name rdn deletes superior) entries u v csn asked less low =
    before_renamed v entries (entry_named entries name) rdn deletes superior csn (before_higher u v entries less low)
before_effect (Commit puts drops) entries u v csn asked less low = absurd (false≢true (sym asked))

no_commit : (own : Name → Bool) (op : Op) → IsWithin own op → is_commit op ≡ false
no_commit own (Add name attrs) within = refl
no_commit own (Delete name) within = refl
no_commit own (Modify name edits) within = refl
no_commit own (Rename name rdn deletes superior) within = refl
no_commit own (Commit puts drops) within = absurd within

-- ---- all writes

module _ (own : ℕ → Name → Bool) (regions : (writer : ℕ) → IsRegion (own writer)) (history : ℕ) where
  -- each write is in the part of its writer
  abbrev pub AreWithin : NumberedWrites → Type 0
  AreWithin numbered = Each (λ w. IsWithin (own w.0) w.1.op) numbered

  -- entries in order, below the identity of the next write
  pub record IsReady (n : ℕ) (entries : List Entry) : Type 0 where
    pub rises : ascends entries ≡ true
    pub low : all_before (identity history (n + 1)) entries ≡ true

  -- after a write
  abbrev next : List Entry → ℕ → Write → List Entry
  next entries n write = effect entries write.op (identity history (n + 1)) write.csn

  ready_next : (n writer : ℕ) (write : Write) (entries : List Entry) → IsWithin (own writer) write.op → n + 2 < 2 ^ 62
      → IsReady n entries → IsReady (n + 1) (next entries n write)
  ready_next n writer write entries within small ready = record {
    rises = ascends-effect write.op entries (identity history (n + 1)) write.csn ready.rises;
    low = before_effect write.op entries (identity history (n + 1)) (identity history (n + 1 + 1)) write.csn
        (no_commit (own writer) write.op within) (identity_rises history (n + 1) (omega (arith, small))) ready.low;
  }

  -- a part that no writer has stays as it is
  pub others_run : (other : Name → Bool) (numbered : NumberedWrites) (entries : List Entry) (n : ℕ)
      → Each (λ w. (name : Name) → own w.0 name ≡ true → other name ≡ false) numbered
      → AreWithin numbered → IsReady n entries → n + length numbered + 1 < 2 ^ 62
      → part other (state_from history entries n (writes_of numbered)) ≡ part other entries
  unfolding state_from
  others_run other [] entries n apart within ready small = refl
  others_run other (w ∷ numbered) entries n apart within ready small =
      others_run other numbered (next entries n w.1) (n + 1) apart.1 within.1
      (ready_next n w.0 w.1 entries within.0 (omega (arith, small)) ready) (omega (arith, small))
      ∙ other_effect (own w.0) (regions w.0) other apart.0 w.1.op entries (identity history (n + 1)) w.1.csn within.0 ready.rises ready.low

  -- the part of a writer is what its own operations make of it
  pub part_runs : (writer : ℕ) → ((v : ℕ) → v ≢ writer → (name : Name) → own v name ≡ true → own writer name ≡ false)
      → (numbered : NumberedWrites) (entries : List Entry) (n : ℕ)
      → AreWithin numbered → IsReady n entries → n + length numbered + 1 < 2 ^ 62
      → map plain (part (own writer) (state_from history entries n (writes_of numbered)))
      ≡ fold plain_effect (map plain (part (own writer) entries)) (operations_by writer numbered)
  unfolding state_from
  part_runs writer apart [] entries n within ready small = refl
  part_runs writer apart (w ∷ numbered) entries n within ready small =
      by (part_runs writer apart numbered (next entries n w.1) (n + 1) within.1
      (ready_next n w.0 w.1 entries within.0 (omega (arith, small)) ready) (omega (arith, small))) (w.0 == writer) refl
    where
      chosen : (b : Bool) → (w.0 == writer) ≡ b
          → operations_by writer (w ∷ numbered) ≡ (if b then w.1.op ∷ operations_by writer numbered else operations_by writer numbered)
      chosen b is = ap (λ c. if c then w.1.op ∷ operations_by writer numbered else operations_by writer numbered) is

      same_number : (n m : ℕ) → (n == m) ≡ true → n ≡ m
      same_number n m is = eqb-true n m is

      other_number : (n m : ℕ) → (n == m) ≡ false → n ≢ m
      other_number n m far = λ same. false≢true (sym far ∙ eq-eqb n m same)

      by : map plain (part (own writer) (state_from history (next entries n w.1) (n + 1) (writes_of numbered)))
          ≡ fold plain_effect (map plain (part (own writer) (next entries n w.1))) (operations_by writer numbered)
          → (b : Bool) → (w.0 == writer) ≡ b
          → map plain (part (own writer) (state_from history (next entries n w.1) (n + 1) (writes_of numbered)))
          ≡ fold plain_effect (map plain (part (own writer) entries)) (operations_by writer (w ∷ numbered))
      by goes_on true is =
          let mine : IsWithin (own writer) w.1.op = subst (λ v. IsWithin (own v) w.1.op) (same_number w.0 writer is) within.0 in
          goes_on
          ∙ ap (λ es. fold plain_effect (map plain es) (operations_by writer numbered))
          (part_effect (own writer) (regions writer) w.1.op entries (identity history (n + 1)) w.1.csn mine ready.rises)
          ∙ ap (λ ps. fold plain_effect ps (operations_by writer numbered))
          (effect_plain w.1.op (part (own writer) entries) (identity history (n + 1)) w.1.csn (no_commit (own writer) w.1.op mine)
          (ascends_filter (λ (e : Entry). own writer e.dn) entries ready.rises)
          (list_all-filter (λ (x : Entry). nat_lt x.uuid (identity history (n + 1))) (λ (e : Entry). own writer e.dn) entries ready.low))
          ∙ ap (fold plain_effect (map plain (part (own writer) entries))) (sym (chosen true is))
      by goes_on false far =
          goes_on
          ∙ ap (λ es. fold plain_effect (map plain es) (operations_by writer numbered))
          (other_effect (own w.0) (regions w.0) (own writer) (apart w.0 (other_number w.0 writer far)) w.1.op entries
          (identity history (n + 1)) w.1.csn within.0 ready.rises ready.low)
          ∙ ap (fold plain_effect (map plain (part (own writer) entries))) (sym (chosen false far))
