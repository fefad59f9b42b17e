-- A write of the directory: the search is at its place.
use Rattle.std.proofs.Common.{◌≡◌, ℕ, suc, ◌+◌, ◌-◌, ◌≤◌, Bool, true, false, cond, List, [], ◌∷◌, ◌++◌, refl, ap, sym, ◌∙◌, arith, inl, inr, ◌⊎◌, append_assoc}
use Rattle.entry_tree.specs.History.{differing_over}
use Rattle.entry_tree.specs.Touched.{joined}
use Rattle.entry_tree.specs.declared.entry.Entry.{Entry}
use Rattle.sync_model.specs.Law.{is_nil}
use Rattle.sync_model.specs.Message.{SyncMessage}
use Rattle.sync_model.specs.Stream.{content_after, late_uuids, group, later}
use Rattle.sync_model.proofs.Steps.{differing, over_more}
use Rattle.sync_slices.specs.Law.{IsAt, IsMarked, IsWalking, IsSettled}
use Rattle.sync_slices.specs.Slices.{SlicedRefresh, SliceProgress, last_of, later_upto, changed_by, messages_by, written_by, written}
use Rattle.sync_slices.proofs.Deciding.{some_left}

module _ (r : SlicedRefresh) where
  -- one write more sends its messages after those of the others
  pub later_grows : (marks : List ℕ) (now : ℕ) → last_of r marks ≤ now → later_upto r marks (now + 1) ≡ later_upto r marks now ++ messages_by r.operation now
  later_grows marks now low =
      let more : now + 1 - last_of r marks ≡ suc (now - last_of r marks) = omega (arith, low) in
      let here : last_of r marks + (now - last_of r marks) ≡ now = omega (arith, low) in
      ap (λ n. cond r.operation.persists (later r.operation (last_of r marks) n) []) more
      ∙ by r.operation.persists
      ∙ ap (λ n. later_upto r marks now ++ cond r.operation.persists (group r.operation n) []) here
    where
      count : ℕ
      count = now - last_of r marks

      by : (b : Bool)
          → cond b (later r.operation (last_of r marks) count ++ group r.operation (last_of r marks + count)) []
          ≡ cond b (later r.operation (last_of r marks) count) [] ++ cond b (group r.operation (last_of r marks + count)) []
      by true = refl
      by false = refl

  abbrev contents : ℕ → List Entry
  contents n = content_after r.operation n

  -- what one write more changes is added
  pub changed_grows : (now : ℕ) → r.accepted ≤ now → late_uuids r.operation r.accepted (now + 1) ≡ joined (late_uuids r.operation r.accepted now) (changed_by r.operation now)
  changed_grows now low =
      let more : now + 1 - r.accepted ≡ suc (now - r.accepted) = omega (arith, low) in
      let here : r.accepted + (now - r.accepted) ≡ now = omega (arith, low) in
      ap (differing_over contents r.accepted) more
      ∙ over_more contents r.accepted (now - r.accepted)
      ∙ ap (λ n. joined (late_uuids r.operation r.accepted now) (differing (contents n) (contents (n + 1)))) here

  module _ (now : ℕ) (s : SliceProgress) (handed handed_later : List SyncMessage) (at : IsAt r now s handed handed_later) where
    marked_then : IsMarked r (now + 1) s.marks s.left
    marked_then = record { low = omega (arith, at.marked.low); last = omega (arith, at.marked.last); rises = at.marked.rises; left = at.marked.left }

    -- a write keeps a search at its place
    pub write_is : IsAt r (now + 1) (written r now s) handed handed_later
    write_is = by s.left refl at.place
      where
        by : (us : List ℕ) → s.left ≡ us → ((is_nil s.left ≡ false) × IsWalking r now s handed handed_later) ⊎ ((s.left ≡ []) × IsSettled r now s handed handed_later)
            → IsAt r (now + 1) (written_by us r now s) handed handed_later
        by [] none (inl walks) = absurd (some_left s.left walks.0 none)
        by [] none (inr settled) = record {
          marked = marked_then;
          place =
              inr (
                none,
                record {
                  rest = settled.1.rest;
                  due =
                      sym (append_assoc handed_later s.due (messages_by r.operation now))
                      ∙ ap (λ ms. ms ++ messages_by r.operation now) settled.1.due
                      ∙ sym (later_grows s.marks now at.marked.last);
                  ordered = settled.1.ordered;
                },
              );
        }
        by (u ∷ us) some (inl walks) = record {
          marked = marked_then;
          place =
              inl (
                walks.0,
                record {
                  known = walks.1.known;
                  names = walks.1.names;
                  changed = ap (λ c. joined c (changed_by r.operation now)) walks.1.changed ∙ sym (changed_grows now at.marked.low);
                  due = walks.1.due;
                  later = walks.1.later;
                },
              );
        }
        by (u ∷ us) some (inr settled) = absurd (some_left (u ∷ us) refl (sym some ∙ settled.0))
