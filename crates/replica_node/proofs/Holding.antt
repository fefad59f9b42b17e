-- What the port's directory holds in the end: the content after a prefix, or nothing.
use Rattle.std.proofs.Common.{◌≡◌, ◌⊎◌, ℕ, List, [], ◌∷◌, ◌++◌, inl, inr, refl, sym, ap, subst, ◌∙◌}
use Rattle.std.specs.List.{AllByRecursion}
use Rattle.std.proofs.lemmas.List.Elements.{recursion_from_All}
use Rattle.directory_writes.specs.Directory.{entries_of}
use Rattle.sync_consumer.specs.Taking.{nothing}
use Rattle.sync_consumer.specs.declared.consumer.Taken.{Taken}
use Rattle.sync_consumer.specs.declared.consumer.Taken.TheVariants.{Staged, Stored, Copied, Over, Fault, NoMemory}
use Rattle.sync_model.specs.Copy.{Copy}
use Rattle.sync_model.specs.Stream.{SyncOperation}
use Rattle.sync_provider.specs.Ports.{PortState}
use Rattle.replica_node.specs.Prefixes.{CommitsPrefixes, HoldsPrefix, IsOwn, LeavePrefixes, LeavesPrefix, StepLeavesPrefix}
use Rattle.replica_node.specs.ReplicaRounds.{AreOver, DoesAll, LinkRound, OverLink, ReplicaRound, Unlinked}
use Rattle.replica_node.specs.Rounds.{EndedWith, EndsBy, Faulted, LinkFailed, OutOfMemory, ReadToEnd, Refused, RoundEnd, Uncommitted, Wanted, searching}
use Rattle.replica_node.specs.Steps.{GoesOn, ReplicaStep, TakesAll}
use Rattle.replica_node.proofs.Ports.{AllOwn, commit_made, refused_same}
use Rattle.replica_node.proofs.Prefixed.{CommitsLeave, does_own, ends_own, leaves_last, leaves_over, none_yet, steps_own}

-- the port, whose number is this one, has the content after some of the writes, or no entries
record IsHeld (operation : SyncOperation) (n : ℕ) (port : PortState) : Type 0 where
  holds : HoldsPrefix operation port ⊎ (entries_of port.directory ≡ [])
  number : port.number ≡ n

module _ (operation : SyncOperation) (n : ℕ) where
  same_held : (old new : PortState) → new.directory ≡ old.directory → HoldsPrefix operation old ⊎ (entries_of old.directory ≡ []) → HoldsPrefix operation new ⊎ (entries_of new.directory ≡ [])
  same_held old new same (inl prefix) = inl (record { number = prefix.number; same = ap entries_of same ∙ prefix.same })
  same_held old new same (inr none) = inr (ap entries_of same ∙ none)

  -- ---- one link

  goes_held : (took : Taken) (old new : PortState) → GoesOn old took new → LeavesPrefix operation took new → AllOwn n new.journal → IsHeld operation n old → IsHeld operation n new
  goes_held Staged old new goes leaves own held = subst (λ (p : PortState). IsHeld operation n p) (sym goes) held
  goes_held (Stored commit) old new goes leaves own held = record { holds = inl leaves; number = (commit_made n old new commit goes.0 goes.1 held.number own).number ∙ held.number }
  goes_held (Copied commit) old new goes leaves own held = record { holds = inl leaves; number = (commit_made n old new commit goes.0 goes.1 held.number own).number ∙ held.number }
  goes_held (Over code) old new goes leaves own held = absurd goes
  goes_held (Fault found) old new goes leaves own held = absurd goes
  goes_held NoMemory old new goes leaves own held = absurd goes

  steps_held : (steps : List ReplicaStep) (copy copy' : Copy) (port port' : PortState) → TakesAll copy port steps copy' port' → AllByRecursion (StepLeavesPrefix operation) steps → AllOwn n port'.journal
      → IsHeld operation n port → IsHeld operation n port'
  steps_held [] copy copy' port port' takes leaves own held = subst (λ (p : PortState). IsHeld operation n p) (sym takes.1) held
  steps_held (step ∷ steps) copy copy' port port' takes leaves own held =
      let own' = steps_own n steps step.copy copy' step.port port' takes.1 own in
      steps_held steps step.copy copy' step.port port' takes.1 leaves.1 own (goes_held step.taken port step.port takes.0.goes leaves.0 own' held)

  ends_held : (end : RoundEnd) (copy copy' : Copy) (port port' : PortState) → EndsBy end copy port copy' port' → AllOwn n port'.journal → IsHeld operation n port → IsHeld operation n port'
  ends_held ReadToEnd copy copy' port port' ends own held = subst (λ (p : PortState). IsHeld operation n p) (sym ends.1) held
  ends_held (Refused place) copy copy' port port' ends own held = subst (λ (p : PortState). IsHeld operation n p) (sym ends.1) held
  ends_held LinkFailed copy copy' port port' ends own held = subst (λ (p : PortState). IsHeld operation n p) (sym ends.1) held
  ends_held (EndedWith message code) copy copy' port port' ends own held = subst (λ (p : PortState). IsHeld operation n p) (sym ends.1) held
  ends_held (Faulted message found) copy copy' port port' ends own held = subst (λ (p : PortState). IsHeld operation n p) (sym ends.1) held
  ends_held (Uncommitted message commit found) copy copy' port port' ends own held =
      let same = refused_same n port port' commit found ends.1 held.number own in
      record { holds = same_held port port' same.directory held.holds; number = same.number ∙ held.number }
  ends_held OutOfMemory copy copy' port port' ends own held = subst (λ (p : PortState). IsHeld operation n p) (sym ends.1) held

  -- ---- one after another

  rounds_held : {L : Type 0} (wanted : Wanted) (done : List (ReplicaRound L)) (copy copy' : Copy) (port port' : PortState) → DoesAll wanted copy port done copy' port'
      → AllByRecursion (λ (round : ReplicaRound L). LeavePrefixes operation round) done → AllOwn n port'.journal → IsHeld operation n port → IsHeld operation n port'
  rounds_held wanted [] copy copy' port port' does leaves own held = subst (λ (p : PortState). IsHeld operation n p) (sym does.1) held
  rounds_held wanted (Unlinked ∷ done) copy copy' port port' does leaves own held =
      rounds_held wanted done does.0 copy' does.1 port' does.3 leaves.1 own (subst (λ (p : PortState). IsHeld operation n p) (sym does.2.1) held)
  rounds_held wanted (OverLink round ∷ done) copy copy' port port' does leaves own held =
      let follows = does.2.1 in
      let own' = does_own n wanted done does.0 copy' does.1 port' does.3 own in
      let own_between = ends_own n round.end follows.between follows.after follows.between_port does.1 follows.ends own' in
      let steps =
      steps_held round.steps (searching round.copy) follows.between port follows.between_port follows.takes (recursion_from_All (StepLeavesPrefix operation) round.steps leaves.0) own_between held in
      rounds_held wanted done does.0 copy' does.1 port' does.3 leaves.1 own (ends_held round.end follows.between follows.after follows.between_port does.1 follows.ends own' steps)

-- ---- the law

module _ {L : Type 0} (wanted : Wanted) (port port' : PortState) where
  -- where each commit leaves such a content, it is there in the end
  prefixes_held : (done : List (ReplicaRound L)) (copy' : Copy) → DoesAll wanted nothing port done copy' port' → CommitsLeave port port' done → CommitsPrefixes port port' done
  prefixes_held done copy' does commits operation dir alone of =
      let n = port.number in
      let leaves = commits operation dir alone of in
      let begun : IsHeld operation n port = record { holds = inr (none_yet port.directory alone.empty); number = refl } in
      let held =
      rounds_held operation n wanted done nothing copy' port port' does (recursion_from_All (λ (round : ReplicaRound L). LeavePrefixes operation round) done leaves)
      (recursion_from_All (IsOwn n) port'.journal alone.own) begun in
      (leaves, held.holds)

  -- after each of the rounds another one may come
  pub prefixes_over : (done : List (ReplicaRound L)) (copy' : Copy) → DoesAll wanted nothing port done copy' port' → AreOver done → CommitsPrefixes port port' done
  prefixes_over done copy' does over = prefixes_held done copy' does (leaves_over wanted port port' done copy' does over)

  -- the last one is not followed by another
  pub prefixes_last : (before : List (ReplicaRound L)) (last : LinkRound L) (done : List (ReplicaRound L)) (copy' : Copy) → done ≡ before ++ OverLink last ∷ []
      → DoesAll wanted nothing port done copy' port' → AreOver before → CommitsPrefixes port port' done
  prefixes_last before last done copy' is does over = prefixes_held done copy' does (leaves_last wanted port port' before last done copy' is does over)
