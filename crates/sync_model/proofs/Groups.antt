-- What a copy makes of the messages of a later write, one after another.
use Rattle.std.proofs.Common.{◌≡◌, Bool, true, false, List, [], ◌∷◌, ◌++◌, Option, Some, None, refl, ap, sym, ◌∙◌, subst}
use Rattle.entry_tree.specs.State.{ascends, entry_at}
use Rattle.entry_tree.specs.Touched.{touched}
use Rattle.entry_tree.specs.declared.entry.Entry.{Entry}
use Rattle.entry_tree.specs.declared.touched.EntryChange.{EntryChange}
use Rattle.sync_model.specs.Copy.{Stage, Copy, Answer, staged, puts_of, effected, commit_of, taken}
use Rattle.sync_model.specs.Copy.Answer.{Staged, Stored}
use Rattle.sync_model.specs.Law.{IsWithinLimits, settled}
use Rattle.sync_model.specs.Message.{CookieText}
use Rattle.sync_model.specs.Within.{exceeds_limits, puts_entry, against, limit_fault, refused_by, taken_within}
use Rattle.sync_model.proofs.Gather.{Each, each-prefix}
use Rattle.sync_model.proofs.Later.{IsStep, NotifiedOne, one_staged, one_stored, stepping, staged_all, each-touched, each-now, effected-touched}
use Rattle.sync_model.proofs.Limits.{nothing_against, Fits, fits-staged, fits-none, puts_fit, no_room_needed, among_now}

-- ---- lists

-- lists that are one begin with one element
pub heads : {X : Type 0} (x y : X) (xs ys : List X) → x ∷ xs ≡ y ∷ ys → x ≡ y
heads x y xs ys same = cc

-- and go on as one
pub tails : {X : Type 0} (x y : X) (xs ys : List X) → x ∷ xs ≡ y ∷ ys → xs ≡ ys
tails x y xs ys same = cc

each_after : {X : Type 0} (Q : X → Type 0) (prefix more : List X) → Each Q (prefix ++ more) → Each Q more
each_after Q [] more each = each
each_after Q (x ∷ prefix) more each = each_after Q prefix more each.1

-- what holds of each of some things holds of one among them
pub each_one : {X : Type 0} (Q : X → Type 0) (prefix more : List X) (x : X) → Each Q (prefix ++ x ∷ more) → Q x
each_one Q prefix more x each = (each_after Q prefix (x ∷ more) each).0

staged_all-push : (entry_changes : List EntryChange) (entry_change : EntryChange) (stage : Stage) → staged_all stage (entry_changes ++ entry_change ∷ []) ≡ staged entry_change.uuid entry_change.after (staged_all stage entry_changes)
staged_all-push [] entry_change stage = refl
staged_all-push (t ∷ entry_changes) entry_change stage = staged_all-push entry_changes entry_change (staged t.uuid t.after stage)

-- ---- no limit is met

fits-staged_all : (entry_changes : List EntryChange) (target : List Entry) (stage : Stage) → Each (λ (t : EntryChange). t.after ≡ entry_at target t.uuid) entry_changes → Fits target stage → Fits target (staged_all stage entry_changes)
fits-staged_all [] target stage each fits = fits
fits-staged_all (entry_change ∷ entry_changes) target stage each fits =
    fits-staged_all entry_changes target (staged entry_change.uuid entry_change.after stage) each.1 (fits-staged target stage entry_change.uuid entry_change.after (among_now target entry_change.uuid entry_change.after each.0) fits)

-- ---- the messages of one write

module _ (old new : List Entry) (earlier : ascends old ≡ true) (later : ascends new ≡ true) (within : IsWithinLimits new) where
  abbrev pub At : List EntryChange → List EntryChange → Type 0
  At before after = touched old new ≡ before ++ after

  steps : (before after : List EntryChange) → At before after → Each IsStep (before ++ after)
  steps before after is = subst (Each IsStep) is (each-touched old new)

  -- each touch of the write is a step
  pub step_is : (before after : List EntryChange) (entry_change : EntryChange) → At before (entry_change ∷ after) → IsStep entry_change
  step_is before after entry_change is = each_one IsStep before after entry_change (steps before (entry_change ∷ after) is)

  -- what is staged so far is of the entries to come
  fits_prefix : (before after : List EntryChange) → At before after → Fits new (staged_all [] before)
  fits_prefix before after is =
      fits-staged_all before new [] (each-prefix (λ (t : EntryChange). t.after ≡ entry_at new t.uuid) before after (subst (Each (λ (t : EntryChange). t.after ≡ entry_at new t.uuid)) is (each-now old new))) (fits-none new)

  room : (before after : List EntryChange) → At before after → exceeds_limits (puts_of (staged_all [] before)) ≡ false
  room before after is = puts_fit (staged_all [] before) new later within (fits_prefix before after is)

  pushed : (before after : List EntryChange) (entry_change : EntryChange) → At before (entry_change ∷ after) → At (before ++ entry_change ∷ []) after
  pushed before after entry_change is = is ∙ sym (beyond before entry_change after)
    where
      beyond : (xs : List EntryChange) (x : EntryChange) (ys : List EntryChange) → (xs ++ x ∷ []) ++ ys ≡ xs ++ x ∷ ys
      beyond [] x ys = refl
      beyond (y ∷ xs) x ys = ap (λ zs. y ∷ zs) (beyond xs x ys)

  -- a copy that took the messages of some touches
  abbrev pub midway : Bool → Option CookieText → List EntryChange → Copy
  midway ended cookie before = stepping 1 ended old cookie (staged_all [] before)

  -- a message that is not the last one is staged
  pub midway_staged : (before after : List EntryChange) (entry_change : EntryChange) (one : NotifiedOne None entry_change) (ended : Bool) (cookie : Option CookieText) → At before (entry_change ∷ after)
      → taken_within 1 (midway ended cookie before) one.message ≡ (midway ended cookie (before ++ entry_change ∷ []), Staged)
  midway_staged before after entry_change one ended cookie is =
      ap (λ fault. refused_by fault (midway ended cookie before) (taken 1 (midway ended cookie before) one.message))
      (ap (λ (outcome : Copy × Answer). limit_fault (puts_entry one.message) outcome.0 outcome.1) taken_is ∙ no_room_needed (puts_entry one.message) (staged_all [] (before ++ entry_change ∷ [])) None (room (before ++ entry_change ∷ []) after (pushed before after entry_change is)) refl)
      ∙ taken_is
    where
      taken_is : taken 1 (midway ended cookie before) one.message ≡ (midway ended cookie (before ++ entry_change ∷ []), Staged)
      taken_is =
          one_staged entry_change one 1 ended old cookie (staged_all [] before)
          ∙ ap (λ stage. (stepping 1 ended old cookie stage, Staged)) (sym (staged_all-push before entry_change []))

  -- the last one brings the entries to come into effect, with its cookie
  pub last_stored : (before : List EntryChange) (entry_change : EntryChange) (text : CookieText) (one : NotifiedOne (Some text) entry_change) (ended : Bool) (cookie : Option CookieText) → At before (entry_change ∷ [])
      → taken_within 1 (midway ended cookie before) one.message ≡ (settled 1 true ended new (Some text), Stored (commit_of (staged_all [] (before ++ entry_change ∷ [])) (Some text)))
  last_stored before entry_change text one ended cookie is =
      ap (λ fault. refused_by fault (midway ended cookie before) (taken 1 (midway ended cookie before) one.message))
      (ap (λ (outcome : Copy × Answer). limit_fault (puts_entry one.message) outcome.0 outcome.1) taken_is
      ∙ no_room_needed (puts_entry one.message) (staged_all [] all) (against new) (room all [] (pushed before [] entry_change is)) (nothing_against new within))
      ∙ taken_is
    where
      all : List EntryChange
      all = before ++ entry_change ∷ []

      taken_is : taken 1 (midway ended cookie before) one.message ≡ (settled 1 true ended new (Some text), Stored (commit_of (staged_all [] all) (Some text)))
      taken_is =
          one_stored entry_change text one 1 ended old cookie (staged_all [] before)
          ∙ ap (λ stage. (settled 1 true ended (effected old stage) (Some text), Stored (commit_of stage (Some text)))) (sym (staged_all-push before entry_change []))
          ∙ ap (λ held. (settled 1 true ended held (Some text), Stored (commit_of (staged_all [] all) (Some text))))
          (ap (λ entry_changes. effected old (staged_all [] entry_changes)) (sym is) ∙ effected-touched old new earlier later)
