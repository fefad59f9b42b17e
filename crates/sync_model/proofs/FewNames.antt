-- A set of names that is sent has at most 256 of them.
use Rattle.std.proofs.Common.{◌≡◌, ◌<◌, ◌≤◌, ◌+◌, ℕ, Bool, true, false, cond, List, [], ◌∷◌, ◌++◌, length, length-append, None, refl, arith}
use Rattle.std.specs.Prelude.{⊤, nat_lt}
use Rattle.std.proofs.lemmas.Bool.{ltb-true}
use Rattle.sync_model.specs.Message.{SyncMessage}
use Rattle.sync_model.specs.Message.SyncMessage.{IdSet}
use Rattle.sync_model.specs.Stream.{WalkDecision, most_names, whole, left_over, rest_of, gathered}
use Rattle.sync_model.specs.Stream.WalkDecision.{Sends, Names}
use Rattle.sync_model.proofs.Gather.{Each, each-append}

-- ---- sets have few identities

-- a set of names has at most 256 of them
abbrev pub IsFew : SyncMessage → Type 0
IsFew (IdSet deletes uuids cookie) = length uuids ≤ 256
IsFew _ = ⊤

few_whole : (ds : List WalkDecision) (deletes : Bool) (names : List ℕ) → length names < 256 → Each IsFew (whole deletes names ds)
few_whole [] deletes names room = tt
few_whole (Sends e ∷ ds) deletes names room = (tt, few_whole ds deletes names room)
few_whole (Names u ∷ ds) deletes names room = by (few_whole ds deletes (names ++ u ∷ [])) (few_whole ds deletes []) (nat_lt (length names + 1) most_names) refl
  where
    by : (length (names ++ u ∷ []) < 256 → Each IsFew (whole deletes (names ++ u ∷ []) ds)) → (0 < 256 → Each IsFew (whole deletes [] ds))
        → (b : Bool) → nat_lt (length names + 1) most_names ≡ b
        → Each IsFew (cond b (whole deletes (names ++ u ∷ []) ds) (IdSet deletes (names ++ u ∷ []) None ∷ whole deletes [] ds))
    by more fresh true fits = more (omega (arith, length-append names (u ∷ []), ltb-true (length names + 1) most_names fits))
    by more fresh false full = (omega (arith, length-append names (u ∷ []), room), fresh (omega arith))

few_left : (ds : List WalkDecision) (names : List ℕ) → length names < 256 → length (left_over names ds) < 256
few_left [] names room = room
few_left (Sends e ∷ ds) names room = few_left ds names room
few_left (Names u ∷ ds) names room = by (few_left ds (names ++ u ∷ [])) (few_left ds []) (nat_lt (length names + 1) most_names) refl
  where
    by : (length (names ++ u ∷ []) < 256 → length (left_over (names ++ u ∷ []) ds) < 256) → (0 < 256 → length (left_over [] ds) < 256)
        → (b : Bool) → nat_lt (length names + 1) most_names ≡ b → length (cond b (left_over (names ++ u ∷ []) ds) (left_over [] ds)) < 256
    by more fresh true fits = more (omega (arith, length-append names (u ∷ []), ltb-true (length names + 1) most_names fits))
    by more fresh false full = fresh (omega arith)

few_rest : (deletes : Bool) (names : List ℕ) → length names < 256 → Each IsFew (rest_of deletes names)
few_rest deletes [] room = tt
few_rest deletes (u ∷ us) room = (omega (arith, room), tt)

-- so it is with each message into which decisions are gathered
pub few_gathered : (deletes : Bool) (ds : List WalkDecision) → Each IsFew (gathered deletes ds)
few_gathered deletes ds =
    each-append IsFew (whole deletes [] ds) (rest_of deletes (left_over [] ds)) (few_whole ds deletes [] (omega arith))
    (few_rest deletes (left_over [] ds) (few_left ds [] (omega arith)))
