-- Each message of a later write is about an identity that the write changed.
use Rattle.std.proofs.Common.{◌≡◌, ℕ, ◌+◌, true, nat_eq, List, [], ◌∷◌, refl, ap, eq-eqb}
use Rattle.std.specs.Prelude.{◌||◌}
use Rattle.std.proofs.lemmas.Bool.{or_right}
use Rattle.entry_tree.specs.Touched.{touched}
use Rattle.entry_tree.specs.declared.entry.Entry.{Entry}
use Rattle.entry_tree.specs.declared.touched.EntryChange.{EntryChange}
use Rattle.sync_model.specs.Incremental.{about}
use Rattle.sync_model.specs.Message.{SyncMessage}
use Rattle.sync_model.specs.Stream.{SyncOperation, content_after, among, group}
use Rattle.sync_model.proofs.Gather.{Each, each_weaker}
use Rattle.sync_model.proofs.Later.{each-touched}
use Rattle.sync_model.proofs.LaterWrites.{about_touch, all_notified}
use Rattle.directory_writes.specs.Touches.{uuids_of}

each_own : (touches : List EntryChange) → Each (λ t. among t.uuid (uuids_of touches) ≡ true) touches
each_own [] = tt
each_own (t ∷ touches) = (
  ap (λ b. b || among t.uuid (uuids_of touches)) (eq-eqb t.uuid t.uuid refl),
  each_weaker (λ x. among x.uuid (uuids_of touches) ≡ true) (λ x. among x.uuid (uuids_of (t ∷ touches)) ≡ true) touches
      (λ x there. or_right (nat_eq x.uuid t.uuid) (among x.uuid (uuids_of touches)) there) (each_own touches),
)

-- a message is about one identity, which the write after n writes changed
pub record NamesChange (operation : SyncOperation) (number : ℕ) (m : SyncMessage) : Type 0 where
  pub uuid : ℕ
  pub named : about m ≡ uuid ∷ []
  pub changed : among uuid (uuids_of (touched (content_after operation number) (content_after operation (number + 1)))) ≡ true

-- each message of the write after n names an identity that this write changed
pub group_names : (operation : SyncOperation) (number : ℕ) → Each (λ m. NamesChange operation number m) (group operation number)
group_names operation number =
    all_notified (λ m. NamesChange operation number m) (λ t. among t.uuid (uuids_of (touched old new)) ≡ true) (touched old new) (operation.cookies (number + 1))
    (λ text t one step there. record { uuid = t.uuid; named = about_touch text t one step; changed = there })
    (each-touched old new) (each_own (touched old new))
  where
    old : List Entry
    old = content_after operation number

    new : List Entry
    new = content_after operation (number + 1)
