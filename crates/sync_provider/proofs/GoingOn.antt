-- A search that some writes reached, and what is staged for it before they did.
use Rattle.std.proofs.Common.{◌≡◌, ℕ, ◌+◌, Bool, true, false, cond, not, List, [], ◌∷◌, ◌++◌, length, map, refl, ap, sym, ◌∙◌}
use Rattle.std.specs.Prelude.{◌&&◌, ◌||◌, flat_map}
use Rattle.std.proofs.lemmas.Bool.{true≢false, or_right}
use Rattle.std.proofs.Math.Bool.{or-false}
use Rattle.entry_tree.specs.declared.op.Write.{Write}
use Rattle.entry_tree.specs.declared.touched.EntryChange.{EntryChange}
use Rattle.entry_tree.specs.Touched.{joined, touched}
use Rattle.sync_model.specs.Incremental.{about}
use Rattle.sync_model.specs.Law.{is_nil}
use Rattle.sync_model.specs.Message.{CookieText, SyncMessage}
use Rattle.sync_model.specs.Stream.{SyncOperation, content_after, group}
use Rattle.sync_model.proofs.Groups.{heads, tails}
use Rattle.sync_model.proofs.Incremental.{group_about}
use Rattle.sync_slices.specs.Slices.{SlicedRefresh, changed_by, messages_by, grows_too_much, sends_too_much, adds_too_much_by, adds_too_much, written_by, written}
use Rattle.directory_writes.specs.Directory.{DirectoryState, with_write}
use Rattle.sync_provider.specs.Queueing.{limits_of, group_of, noted_search, search_notified, overflowed, is_noting}
use Rattle.sync_provider.specs.Search.{SearchState, sliced}
use Rattle.sync_provider.specs.Staging.{messages_for, staged_for, queued, kept_changed, pushed_by, pushed_group}

-- it asks for the same; where a write was too much it stays so, and else as many pieces are left
pub record HasGoneOn (old new : SearchState) : Type 0 where
  pub spec : new.spec ≡ old.spec
  pub persists : new.persists ≡ old.persists
  pub over : old.over ≡ true → new.over ≡ true
  pub left : new.over ≡ false → new.progress.left ≡ old.progress.left

-- no write has reached it
pub gone_on-itself : (s : SearchState) → HasGoneOn s s
gone_on-itself s = record { spec = refl; persists = refl; over = λ holds. holds; left = λ holds. refl }

-- where it was over it is so after other writes, which nothing but true contradicts
open_before : (old new : SearchState) → HasGoneOn old new → new.over ≡ false → old.over ≡ false
open_before old new on off = by old.over refl
  where
    by : (b : Bool) → old.over ≡ b → old.over ≡ false
    by false is = is
    by true is = absurd (true≢false (sym (on.over is) ∙ off))

-- some writes, and then others
pub gone_on-both : (one two three : SearchState) → HasGoneOn one two → HasGoneOn two three → HasGoneOn one three
gone_on-both one two three first second = record {
  spec = second.spec ∙ first.spec;
  persists = second.persists ∙ first.persists;
  over = λ holds. second.over (first.over holds);
  left = λ off. second.left off ∙ first.left (open_before two three second off);
}

module _ (limit : ℕ) (d : DirectoryState) (w : Write) (s : SearchState) where
  abbrev r : SlicedRefresh
  r = sliced (with_write d w) s

  abbrev n : ℕ
  n = length d.writes

  left_written : (us : List ℕ) → (written_by us r n s.progress).left ≡ s.progress.left
  left_written [] = refl
  left_written (u ∷ us) = refl

  -- so it is after a write
  pub gone_on-search_notified : HasGoneOn s (search_notified limit d w s)
  gone_on-search_notified = by s.over refl (adds_too_much (limits_of limit) r n s.progress)
    where
      by : (over : Bool) → s.over ≡ over → (b : Bool) → HasGoneOn s (cond over s (noted_search b r n s))
      by true on b = gone_on-itself s
      by false off true = record { spec = refl; persists = refl; over = λ holds. refl; left = λ holds. absurd (true≢false holds) }
      by false off false = record { spec = refl; persists = refl; over = λ holds. holds; left = λ holds. left_written s.progress.left }

-- ---- what was staged is what the write reports

same_flat : (messages : List SyncMessage) (changes : List EntryChange) → map about messages ≡ map (λ (change : EntryChange). change.uuid ∷ []) changes → flat_map about messages ≡ map (λ (change : EntryChange). change.uuid) changes
same_flat [] [] e = refl
same_flat [] (c ∷ cs) e = let never : ⊥ = cc in absurd never
same_flat (m ∷ ms) [] e = let never : ⊥ = cc in absurd never
same_flat (m ∷ ms) (c ∷ cs) e =
    let first : about m ≡ c.uuid ∷ [] = heads (about m) (c.uuid ∷ []) (map about ms) (map (λ (change : EntryChange). change.uuid ∷ []) cs) e in
    let rest : flat_map about ms ≡ map (λ (change : EntryChange). change.uuid) cs = same_flat ms cs (tails (about m) (c.uuid ∷ []) (map about ms) (map (λ (change : EntryChange). change.uuid ∷ []) cs) e) in
    λ i. first i ++ rest i

-- the messages of a write are about what it changes
changed_is : (operation : SyncOperation) (before : ℕ) → flat_map about (group operation before) ≡ changed_by operation before
changed_is operation before = same_flat (group operation before) (touched (content_after operation before) (content_after operation (before + 1))) (group_about operation before)

module _ (limit : ℕ) (d : DirectoryState) (w : Write) (t : SearchState) where
  abbrev r' : SlicedRefresh
  r' = sliced (with_write d w) t

  abbrev n' : ℕ
  n' = length d.writes

  noted_as : (us : List ℕ) → t.progress.left ≡ us → (b : Bool) → cond b (overflowed t) (record t { progress = written_by us r' n' t.progress }) ≡ noted_search b r' n' t
  noted_as us is true = refl
  noted_as us is false = ap (λ left. record t { progress = written_by left r' n' t.progress }) (sym is)

  -- once all pieces are decided
  settled_group : t.progress.left ≡ [] → pushed_by [] limit (messages_by r'.operation n') t ≡ noted_search (adds_too_much (limits_of limit) r' n' t.progress) r' n' t
  settled_group none =
      noted_as [] none (sends_too_much (limits_of limit) (messages_by r'.operation n') (t.progress.due ++ messages_by r'.operation n'))
      ∙ ap (λ left. noted_search (adds_too_much_by left (limits_of limit) r' n' t.progress) r' n' t) (sym none)

  -- while some are left
  walking_group : (u : ℕ) (us : List ℕ) → t.progress.left ≡ u ∷ us → pushed_by (u ∷ us) limit (group_of d t w) t ≡ noted_search (adds_too_much (limits_of limit) r' n' t.progress) r' n' t
  walking_group u us some =
      ap (λ uuids. kept_changed limit (joined t.progress.changed uuids) t) (changed_is r'.operation n')
      ∙ noted_as (u ∷ us) some (grows_too_much (limits_of limit) (length t.progress.changed) (length (joined t.progress.changed (changed_by r'.operation n'))))
      ∙ ap (λ left. noted_search (adds_too_much_by left (limits_of limit) r' n' t.progress) r' n' t) (sym some)

  -- what the write sends to a search that is not over, by what is left
  pub group_noted : pushed_by t.progress.left limit (cond (t.persists || not (is_nil t.progress.left)) (group_of d t w) []) t ≡ noted_search (adds_too_much (limits_of limit) r' n' t.progress) r' n' t
  group_noted = by t.progress.left refl
    where
      by : (us : List ℕ) → t.progress.left ≡ us → pushed_by us limit (cond (t.persists || not (is_nil us)) (group_of d t w) []) t ≡ noted_search (adds_too_much (limits_of limit) r' n' t.progress) r' n' t
      by [] none = ap (λ b. pushed_by [] limit (cond b (group_of d t w) []) t) (or-false t.persists) ∙ settled_group none
      by (u ∷ us) some = ap (λ b. pushed_by (u ∷ us) limit (cond b (group_of d t w) []) t) (or_right t.persists true refl) ∙ walking_group u us some

-- what was staged before it went on is what a write then reports
pub group_search_notified : (limit : ℕ) (d : DirectoryState) (w : Write) (s t : SearchState) (entry_changes : List EntryChange) (cookie : CookieText) → messages_for t.spec entry_changes cookie ≡ group_of d t w → HasGoneOn s t
    → pushed_group limit (staged_for s entry_changes cookie) t ≡ search_notified limit d w t
group_search_notified limit d w s t entry_changes cookie is on = by t.over refl
  where
    by : (over : Bool) → t.over ≡ over
        → cond over t (pushed_by t.progress.left limit (staged_for s entry_changes cookie) t) ≡ cond over t (noted_search (adds_too_much (limits_of limit) (sliced (with_write d w) t) (length d.writes) t.progress) (sliced (with_write d w) t) (length d.writes) t)
    by true over = refl
    by false off =
        (λ i. pushed_by t.progress.left limit (cond (not (open_before s t on off i) && (sym on.persists i || not (is_nil (sym (on.left off) i)))) ((ap (λ spec. messages_for spec entry_changes cookie) (sym on.spec) ∙ is) i) []) t)
        ∙ group_noted limit d w t
