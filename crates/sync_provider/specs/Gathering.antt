-- How what is decided is gathered into messages (RFC 4533, section 3.3.2).
use Rattle.std.specs.Prelude.{◌≡◌, ℕ, Bool, true, false, cond, List, [], ◌∷◌, ◌++◌, None}
use Rattle.sync_model.specs.Message.{SyncMessage}
use Rattle.sync_model.specs.Message.SyncMessage.{RefreshPresent}
use Rattle.sync_model.specs.Stream.{WalkDecision, whole, left_over}

-- whether names are those of deleted entries, the messages so far, and the names that wait for a
-- set to be full
pub record Gathered : Type 0 where
  pub deletes : Bool
  pub messages : List SyncMessage
  pub names : List ℕ

-- the whole messages of these decisions come after those that are gathered
pub record Gathers (decisions : List WalkDecision) (old new : Gathered) : Type 0 where
  pub deletes : new.deletes ≡ old.deletes
  pub messages : new.messages ≡ old.messages ++ whole old.deletes old.names decisions
  pub names : new.names ≡ left_over old.names decisions

-- these messages come after them, and no name is left over
pub record Adds (more : List SyncMessage) (old new : Gathered) : Type 0 where
  pub deletes : new.deletes ≡ old.deletes
  pub messages : new.messages ≡ old.messages ++ more
  pub names : new.names ≡ []

-- names are those of deleted entries then; where they were those of present ones, the present phase
-- ends before
pub record TurnsToDeletes (old new : Gathered) : Type 0 where
  pub deletes : new.deletes ≡ true
  pub messages : new.messages ≡ old.messages ++ cond old.deletes [] (RefreshPresent false None ∷ [])
  pub names : new.names ≡ []

-- these messages come after those that are gathered, whatever names are those of then
pub record AddsLast (more : List SyncMessage) (old new : Gathered) : Type 0 where
  pub messages : new.messages ≡ old.messages ++ more
  pub names : new.names ≡ []
