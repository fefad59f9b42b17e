-- One more change, from the last to the first: in effect, its name taken away, and noted.
use Rattle.std.proofs.Common.{◌≡◌, ◌<◌, ℕ, suc, Bool, true, false, ◌&&◌, cond, nat_eq, List, [], ◌∷◌, length, drop, get_or, Bor, Some, None, sym, ap, subst, ◌∙◌}
use Rattle.std.specs.Map.{keys_of}
use Rattle.std.specs.Option.{option_and_then}
use Rattle.entry_tree.specs.declared.entry.Entry.{Entry}
use Rattle.sync_model.specs.Copy.{Stage, effected, put_or_dropped, slot}
use Rattle.sync_consumer.specs.declared.stage.StagedChange.{StagedChange}
use Rattle.entry_tree.specs.NameIndex.{HasPathKey}
use Rattle.sync_consumer.specs.Holding.{HeldNames, stays, ForgetsFor, Notes, NotesAll}
use Rattle.entry_tree.specs.Touched.{rises}
use Rattle.sync_consumer.specs.Staging.{change_of, changes_in, entry_staged}
use Rattle.sync_consumer.proofs.Effecting.{changes_from, alone_from}
use Rattle.sync_consumer.proofs.Noting.{forgets_more, notes_more}

module _ (changes : List (Bor StagedChange)) (k left : ℕ) (change : Bor StagedChange) (one : left ≡ suc k) (low : k < length changes) (is : change ≡ get_or changes k change) where
  abbrev rest : Stage
  rest = changes_in (drop (suc k) changes)

  from : changes_in (drop k changes) ≡ change_of change.now ∷ rest
  from = changes_from changes k change low is

  later : changes_in (drop left changes) ≡ rest
  later = ap (λ n. changes_in (drop n changes)) one

  -- it is in effect
  pub effected_from : (held now new : List Entry) → now ≡ effected held (changes_in (drop left changes)) → new ≡ put_or_dropped now (change_of change.now).0 (change_of change.now).1
      → new ≡ effected held (changes_in (drop k changes))
  effected_from held now new was put =
      put
      ∙ ap (λ es. put_or_dropped es (change_of change.now).0 (change_of change.now).1) (was ∙ ap (effected held) later)
      ∙ sym (ap (effected held) from)

  module _ (up : rises (keys_of (changes_in changes)) ≡ true) where
    alone : slot rest (change_of change.now).0 ≡ None
    alone = alone_from changes k change up low is

    -- the name that its identity had is taken away, unless it stays
    pub forgets_from : (held : List Entry) (old new : HeldNames) → ForgetsFor held (change_of change.now) old new → Notes old (stays held (changes_in (drop left changes)))
        → Notes new (stays held (changes_in (drop k changes)))
    forgets_from held old new gone notes =
        subst (λ (s : Stage). Notes new (stays held s)) (sym from)
        (forgets_more held old new (change_of change.now) rest alone gone (subst (λ (s : Stage). Notes old (stays held s)) later notes))

    -- the name that it puts is noted
    pub notes_from : (held : List Entry) (old mid new : HeldNames) (others own : Bool) → NotesAll held old mid (changes_in (drop left changes)) others
        → NotesAll held mid new (change_of change.now ∷ []) own → NotesAll held old new (changes_in (drop k changes)) (others && own)
    notes_from held old mid new others own first last =
        subst (λ (s : Stage). NotesAll held old new s (others && own)) (sym from)
        (notes_more held old mid new (change_of change.now) rest others own alone (subst (λ (s : Stage). NotesAll held old mid s others) later first) last)

  -- and has a path key
  pub pathed_from : ((u : ℕ) → HasPathKey (entry_staged (changes_in (drop left changes)) u)) → HasPathKey (change_of change.now).1 → (u : ℕ) → HasPathKey (entry_staged (changes_in (drop k changes)) u)
  pathed_from others own u =
      subst (λ (s : Stage). HasPathKey (entry_staged s u)) (sym from) (by (nat_eq u (change_of change.now).0) (subst (λ (s : Stage). HasPathKey (entry_staged s u)) later (others u)))
    where
      by : (b : Bool) → HasPathKey (entry_staged rest u) → HasPathKey (option_and_then (λ entry. entry) (cond b (Some (change_of change.now).1) (slot rest u)))
      by true p = own
      by false p = p
