-- What was handed out of a search is a prefix of what it sends up to each later number of writes.
use Rattle.std.proofs.Common.{◌≡◌, ℕ, zero, suc, ◌+◌, ◌-◌, ◌≤◌, List, [], ◌∷◌, ◌++◌, refl, ap, ◌∙◌, arith, subst}
use Rattle.sync_model.specs.Message.{SyncMessage}
use Rattle.sync_slices.specs.Law.{IsAt, IsPrefixOfStream}
use Rattle.sync_slices.specs.Slices.{SlicedRefresh, SliceProgress, stream_upto, written_by, written, pending_now}
use Rattle.sync_slices.proofs.Streams.{stream_is}
use Rattle.sync_slices.proofs.Writing.{write_is}

module _ (r : SlicedRefresh) where
  -- a write leaves the numbers of writes at the pieces
  pub marks_written : (now : ℕ) (s : SliceProgress) → (written r now s).marks ≡ s.marks
  marks_written now s = by s.left
    where
      by : (us : List ℕ) → (written_by us r now s).marks ≡ s.marks
      by [] = refl
      by (u ∷ us) = refl

  -- after some writes more
  after_writes : (count now : ℕ) (s : SliceProgress) (handed handed_later : List SyncMessage) → IsAt r now s handed handed_later → IsPrefixOfStream r s.marks (now + count) (handed ++ handed_later)
  after_writes zero now s handed handed_later at =
      let here : now ≡ now + 0 = omega arith in
      record { rest = pending_now r now s; split = stream_is r now s handed handed_later at ∙ ap (stream_upto r s.marks) here }
  after_writes (suc count) now s handed handed_later at =
      let there : now + 1 + count ≡ now + suc count = omega arith in
      let more : IsPrefixOfStream r (written r now s).marks (now + 1 + count) (handed ++ handed_later) =
      after_writes count (now + 1) (written r now s) handed handed_later (write_is r now s handed handed_later at)
      in
      record { rest = more.rest; split = more.split ∙ (λ i. stream_upto r (marks_written now s i) (there i)) }

  -- up to each number of writes from now on
  pub prefix_upto : (now : ℕ) (s : SliceProgress) (handed handed_later : List SyncMessage) → IsAt r now s handed handed_later
      → (later : ℕ) → now ≤ later → IsPrefixOfStream r s.marks later (handed ++ handed_later)
  prefix_upto now s handed handed_later at later low =
      let there : now + (later - now) ≡ later = omega (arith, low) in
      subst (λ n. IsPrefixOfStream r s.marks n (handed ++ handed_later)) there (after_writes (later - now) now s handed handed_later at)
