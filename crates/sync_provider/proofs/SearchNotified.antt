-- An open search after a write: what the write changes or sends is kept of it, or it is at its end.
use Rattle.std.proofs.Common.{◌≡◌, ℕ, Bool, true, false, cond, List, [], ◌∷◌, length, refl, ap, sym, ◌∙◌}
use Rattle.std.proofs.lemmas.Bool.{true≢false}
use Rattle.entry_tree.specs.declared.op.Write.{Write}
use Rattle.sync_model.specs.Message.{SyncMessage}
use Rattle.sync_slices.specs.Slices.{SliceProgress, pending_now, adds_too_much, given_up, written}
use Rattle.directory_writes.specs.Directory.{DirectoryState, with_write}
use Rattle.sync_provider.specs.Queueing.{limits_of, noted_search, search_notified}
use Rattle.sync_provider.specs.Search.{SearchState, sliced, busy_end, pending}

-- what is pending of a search that is not over, and of one that is
pub pending_open : (d : DirectoryState) (s : SearchState) → s.over ≡ false → pending d s ≡ pending_now (sliced d s) (length d.writes) s.progress
pending_open d s off = ap (λ o. cond o (busy_end ∷ []) (pending_now (sliced d s) (length d.writes) s.progress)) off

-- the end with busy is all that is pending of a search that is over
pub pending_over : (d : DirectoryState) (s : SearchState) → s.over ≡ true → pending d s ≡ busy_end ∷ []
pending_over d s on = ap (λ o. cond o (busy_end ∷ []) (pending_now (sliced d s) (length d.writes) s.progress)) on

-- ---- it is the same search

-- what a write leaves of a search as it was
pub record IsSame (s after : SearchState) : Type 0 where
  pub id : after.id ≡ s.id
  pub spec : after.spec ≡ s.spec
  pub start : after.start ≡ s.start
  pub accepted : after.accepted ≡ s.accepted
  pub persists : after.persists ≡ s.persists

-- however far it is, it is the same search
abbrev pub same_search : (s : SearchState) (progress : SliceProgress) (over : Bool) → IsSame s (record s { progress = progress; over = over })
same_search s progress over = record { id = refl; spec = refl; start = refl; accepted = refl; persists = refl }

-- it is, after two steps
pub same_then : (s between after : SearchState) → IsSame s between → IsSame between after → IsSame s after
same_then s between after one two = record {
  id = two.id ∙ one.id;
  spec = two.spec ∙ one.spec;
  start = two.start ∙ one.start;
  accepted = two.accepted ∙ one.accepted;
  persists = two.persists ∙ one.persists;
}

module _ (limit : ℕ) (d : DirectoryState) (w : Write) (s : SearchState) where
  -- what is kept of it where the write is not too much
  abbrev pub progress_then : SliceProgress
  progress_then = written (sliced (with_write d w) s) (length d.writes) s.progress

  abbrev too_much : Bool
  too_much = adds_too_much (limits_of limit) (sliced (with_write d w) s) (length d.writes) s.progress

  abbrev noted : Bool → SearchState
  noted b = noted_search b (sliced (with_write d w) s) (length d.writes) s

  -- a write leaves each search the same search
  pub search_notified_same : IsSame s (search_notified limit d w s)
  search_notified_same = by s.over too_much
    where
      by : (over b : Bool) → IsSame s (cond over s (noted b))
      by true b = same_search s s.progress s.over
      by false true = same_search s (given_up s.progress) true
      by false false = same_search s progress_then s.over

  -- where it is not over then, it was not before, and this is kept of it
  pub search_notified_open : (search_notified limit d w s).over ≡ false → (s.over ≡ false) × (search_notified limit d w s ≡ record s { progress = progress_then })
  search_notified_open = by s.over refl too_much
    where
      by : (over : Bool) → s.over ≡ over → (b : Bool) → (cond over s (noted b)).over ≡ false → (s.over ≡ false) × (cond over s (noted b) ≡ record s { progress = progress_then })
      by true on b still = absurd (true≢false (sym on ∙ still))
      by false off true still = absurd (true≢false still)
      by false off false still = (off, refl)
