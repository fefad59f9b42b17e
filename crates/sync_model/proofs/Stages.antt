-- A stage in effect is what a commit of its puts and drops leaves.
use Rattle.std.proofs.Common.{◌≡◌, ◌<◌, ℕ, Bool, true, false, cond, nat_eq, List, [], ◌∷◌, reverse, Option, Some, None, refl, sym, ap, ◌∙◌, arith}
use Rattle.std.specs.Prelude.{◌||◌, is_none}
use Rattle.std.specs.List.{cons_option}
use Rattle.std.specs.Option.{option_or, unwrap_or}
use Rattle.std.proofs.lemmas.Bool.{eqb-true, eqb-false, eq-eqb, ne_eqb, cond-false}
use Rattle.std.proofs.lemmas.List.{reverse-append}
use Rattle.std.proofs.lemmas.List.Folds.{find-append}
use Rattle.entry_tree.specs.Effects.{committed}
use Rattle.entry_tree.specs.State.{ascends, entry_at}
use Rattle.entry_tree.specs.declared.entry.Entry.{Entry}
use Rattle.entry_tree.specs.declared.touched.EntryChange.{EntryChange}
use Rattle.entry_tree.proofs.Committing.{ascends_committed, entry_at_committed}
use Rattle.entry_tree.proofs.Rising.{among}
use Rattle.sync_model.specs.Copy.{Stage, SyncSession, slot, staged, all_dropped, effected, puts_of, drops_of, unmentioned, ends_phase}
use Rattle.sync_model.specs.Message.{SyncMessage}
use Rattle.sync_model.specs.Message.SyncMessage.{AddOrModify, Delete, Present, IdSet, NewCookie, RefreshDelete, RefreshPresent, Done, Ignored}
use Rattle.sync_model.proofs.Gather.{Each}
use Rattle.sync_model.proofs.Later.{IsStep, staged_all}
use Rattle.sync_model.proofs.Limits.{Ordered, option_or-none, ordered-staged}
use Rattle.entry_tree.proofs.Order.{same_entries}
use Rattle.entry_tree.proofs.Changing.{or_none}
use Rattle.sync_model.proofs.Taking.{IsOwn, IsKeyed, keyed-staged, staged_by, stage_after, ascends-effected, at-effected}

-- ---- a stage is in ascending order, with each put under its entry's identity

pub record IsFine (stage : Stage) : Type 0 where
  pub ordered : Ordered stage
  pub keyed : IsKeyed stage

-- an empty stage is in order
pub fine-none : IsFine []
fine-none = record { ordered = tt; keyed = tt }

fine-staged : (stage : Stage) (v : ℕ) (change : Option Entry) → IsOwn v change → IsFine stage → IsFine (staged v change stage)
fine-staged stage v change own fine = record { ordered = ordered-staged stage v change fine.ordered; keyed = keyed-staged stage v change own fine.keyed }

fine-dropped : (us : List ℕ) (stage : Stage) → IsFine stage → IsFine (all_dropped stage us)
fine-dropped [] stage fine = fine
fine-dropped (u ∷ us) stage fine = fine-dropped us (staged u None stage) (fine-staged stage u None tt fine)

fine-if : (b : Bool) (one other : Stage) → IsFine one → IsFine other → IsFine (cond b one other)
fine-if true one other h k = h
fine-if false one other h k = k

fine-by : (m : SyncMessage) (stage : Stage) → IsFine stage → IsFine (staged_by stage m)
fine-by (AddOrModify adds entry c) stage fine = fine-staged stage entry.uuid (Some entry) refl fine
fine-by (IdSet d us c) stage fine = fine-if d (all_dropped stage us) stage (fine-dropped us stage fine) fine
fine-by (Delete u p c) stage fine = fine
fine-by (Present u c) stage fine = fine
fine-by (NewCookie c) stage fine = fine
fine-by (RefreshDelete done c) stage fine = fine
fine-by (RefreshPresent done c) stage fine = fine
fine-by (Done code c) stage fine = fine
fine-by Ignored stage fine = fine

-- after some messages of a refresh
pub fine-after : (ms : List SyncMessage) (stage : Stage) → IsFine stage → IsFine (stage_after stage ms)
fine-after [] stage fine = fine
fine-after (m ∷ ms) stage fine = fine-after ms (staged_by stage m) (fine-by m stage fine)

-- at the end of a phase
pub fine-ended : (held : List Entry) (session : SyncSession) (deletes : Bool) → IsFine session.stage → IsFine (ends_phase held session deletes).stage
fine-ended held session true fine = fine
fine-ended held session false fine = fine-dropped (unmentioned session.named session.stage held) session.stage fine

-- after some changes of a later write
pub fine-touched : (entry_changes : List EntryChange) (stage : Stage) → Each IsStep entry_changes → IsFine stage → IsFine (staged_all stage entry_changes)
fine-touched [] stage steps fine = fine
fine-touched (entry_change ∷ entry_changes) stage steps fine = fine-touched entry_changes (staged entry_change.uuid entry_change.after stage) steps.1 (fine-staged stage entry_change.uuid entry_change.after steps.0.own fine)

-- ---- what it leaves at one identity

-- what a commit leaves where this was
abbrev left_at : Stage → ℕ → Option Entry → Option Entry
left_at stage u was = option_or (entry_at (reverse (puts_of stage)) u) (cond (among u (drops_of stage)) None was)

at_last : (e : Entry) (puts : List Entry) (u : ℕ) → entry_at (reverse (e ∷ puts)) u ≡ option_or (entry_at (reverse puts) u) (cond (nat_eq e.uuid u) (Some e) None)
at_last e puts u = ap (λ xs. entry_at xs u) (reverse-append (e ∷ []) puts) ∙ find-append (λ x. nat_eq x.uuid u) (reverse puts) (e ∷ [])

none_above : (stage : Stage) (v : ℕ) → Each (λ (later : ℕ × Option Entry). v < later.0) stage → slot stage v ≡ None
none_above [] v above = refl
none_above (s ∷ stage) v above = cond-false _ _ _ (ne_eqb v s.0 (λ same. let never : ⊥ = omega (arith, same, above.0) in never)) ∙ none_above stage v above.1

slot_left : (stage : Stage) (u : ℕ) (was : Option Entry) → Ordered stage → IsKeyed stage → left_at stage u was ≡ unwrap_or (slot stage u) was
slot_left [] u was ordered keyed = refl
slot_left (s ∷ stage) u was ordered keyed = step s.1 (nat_eq u s.0) refl keyed.0 (slot_left stage u was ordered.1 keyed.1) (slot_left stage u None ordered.1 keyed.1)
  where
    puts : List Entry
    puts = puts_of stage

    drops : List ℕ
    drops = drops_of stage

    -- nothing further is at an identity below all those that follow
    nothing : nat_eq u s.0 ≡ true → left_at stage u None ≡ unwrap_or (slot stage u) None → entry_at (reverse puts) u ≡ None
    nothing here is =
        (option_or-none (entry_at (reverse puts) u) (cond (among u drops) None None)
        (is ∙ ap (λ found. unwrap_or found None) (ap (slot stage) (eqb-true u s.0 here) ∙ none_above stage s.0 ordered.0))).0

    step : (change : Option Entry) (here : Bool) → nat_eq u s.0 ≡ here → IsOwn s.0 change → left_at stage u was ≡ unwrap_or (slot stage u) was → left_at stage u None ≡ unwrap_or (slot stage u) None
        → option_or (entry_at (reverse (cons_option change puts)) u) (cond (among u (cons_option (cond (is_none change) (Some s.0) None) drops)) None was)
        ≡ unwrap_or (cond here (Some change) (slot stage u)) was
    step None true here own ih none = (λ i. option_or (nothing here none i) (cond (here i || among u drops) None was))
    step None false off own ih none = ap (λ b. option_or (entry_at (reverse puts) u) (cond (b || among u drops) None was)) off ∙ ih
    step (Some e) true here own ih none =
        let same : nat_eq e.uuid u ≡ true = eq-eqb e.uuid u (own ∙ sym (eqb-true u s.0 here)) in
        ap (λ found. option_or found (cond (among u drops) None was)) (at_last e puts u ∙ (λ i. option_or (nothing here none i) (cond (same i) (Some e) None)))
    step (Some e) false off own ih none =
        let other : nat_eq e.uuid u ≡ false = ne_eqb e.uuid u (λ same. eqb-false u s.0 off (sym same ∙ own)) in
        ap (λ found. option_or found (cond (among u drops) None was))
        (at_last e puts u ∙ ap (λ b. option_or (entry_at (reverse puts) u) (cond b (Some e) None)) other ∙ or_none (entry_at (reverse puts) u))
        ∙ ih

-- ---- as a whole

-- a commit of what a stage puts and drops leaves what the stage in effect leaves
pub stage_commits : (held : List Entry) (stage : Stage) → ascends held ≡ true → IsFine stage → committed held (puts_of stage) (drops_of stage) ≡ effected held stage
stage_commits held stage asc fine =
    same_entries (committed held (puts_of stage) (drops_of stage)) (effected held stage) (ascends_committed held (puts_of stage) (drops_of stage) asc) (ascends-effected stage held asc)
    (λ u. entry_at_committed held (puts_of stage) (drops_of stage) u asc ∙ slot_left stage u (entry_at held u) fine.ordered fine.keyed ∙ sym (at-effected stage held u asc fine.keyed))
