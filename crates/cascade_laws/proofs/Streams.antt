-- The messages of a search by their places: what each of them is.
use Rattle.std.proofs.Common.{◌≡◌, ℕ, ◌+◌, ◌-◌, ◌≤◌, Bool, true, false, cond, List, [], ◌∷◌, ◌++◌, length, refl, ap, sym, ◌∙◌, arith, subst}
use Rattle.sync_model.specs.Message.{SyncMessage}
use Rattle.sync_model.specs.Stream.{SyncOperation, Start, RefreshPiece, last_mark, refresh, later, stream}
use Rattle.sync_model.proofs.Gather.{Each}
use Rattle.sync_model.proofs.Groups.{each_one}
use Rattle.sync_model.proofs.LaterWrites.{IsAfter, place_after, IsOfWrite, of_write}
use Rattle.directory_writes.proofs.TouchedBy.{NamesChange, group_names}
use Rattle.cascade_laws.specs.Headline.{ReportsChange}
use Rattle.dn_names.proofs.KeyTexts.{not_empty}

-- ---- what it reports of a write

module _ (operation : SyncOperation) (start : Start) (opened : ℕ) (pieces : List RefreshPiece) (count : ℕ) where
  -- the number of writes at the last piece
  abbrev last : ℕ
  last = last_mark opened pieces

  abbrev refreshed : List SyncMessage
  refreshed = refresh operation start opened pieces

  abbrev Reports : List SyncMessage → SyncMessage → Type 0
  Reports earlier m = ReportsChange operation refreshed last (last + count) earlier m

  -- a message of a later write reports what it changed
  write_reports : (earlier over : List SyncMessage) (m : SyncMessage) → earlier ≡ refreshed ++ over → IsOfWrite operation last count over m → Reports earlier m
  write_reports earlier over m prefix is = record {
    number = last + is.passed;
    from = omega arith;
    upto = omega (arith, is.upto);
    prefix = is.prefix;
    place = prefix ∙ ap (λ ms. refreshed ++ ms) is.place ∙ ap (λ passed. refreshed ++ (later operation last passed ++ is.prefix)) since;
    rest = is.rest;
    reported = is.notified;
    uuid = names.uuid;
    named = names.named;
    changed = names.changed;
  }
    where
      since : is.passed ≡ last + is.passed - last
      since = omega arith

      names : NamesChange operation (last + is.passed) m
      names = each_one (λ x. NamesChange operation (last + is.passed) x) is.prefix is.rest m (subst (Each (λ x. NamesChange operation (last + is.passed) x)) (sym is.notified) (group_names operation (last + is.passed)))

  -- a message after the refresh is one
  pub stream_reports : (earlier rest : List SyncMessage) (m : SyncMessage) → earlier ++ m ∷ rest ≡ stream operation start opened pieces count → length refreshed ≤ length earlier → Reports earlier m
  stream_reports earlier rest m whole high = by operation.persists refl
    where
      beyond : IsAfter earlier rest refreshed (cond operation.persists (later operation last count) []) m
      beyond = place_after earlier rest refreshed (cond operation.persists (later operation last count) []) m whole high

      by : (persists : Bool) → operation.persists ≡ persists → Reports earlier m
      by true is = write_reports earlier beyond.over m beyond.prefix (of_write count operation last beyond.over rest m (beyond.place ∙ ap (λ b. cond b (later operation last count) []) is))
      by false is = absurd (not_empty beyond.over rest m (beyond.place ∙ ap (λ b. cond b (later operation last count) []) is))
