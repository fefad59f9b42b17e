-- What a replica of one directory commits is the content after a prefix of its writes.
use Rattle.std.proofs.Common.{◌≡◌, ◌⊎◌, ◌+◌, ℕ, Bool, true, false, cond, List, [], ◌∷◌, ◌++◌, map, Some, None, Ok, ⊎_elim, refl, sym, ap, subst, ◌∙◌, append_assoc, arith}
use Rattle.std.specs.List.{AllByRecursion, list_all}
use Rattle.std.specs.Ordering.{int_eq}
use Rattle.std.specs.Prelude.{All, pos}
use Rattle.std.proofs.lemmas.Bool.{and_parts}
use Rattle.std.proofs.lemmas.List.{append-nil}
use Rattle.std.proofs.lemmas.List.Elements.{All-from_recursion, recursion_from_All}
use Rattle.std.proofs.lemmas.Option.{same_Some}
use Rattle.directory_writes.proofs.Writes.{ascends_now}
use Rattle.directory_writes.specs.Directory.{DirectoryState, entries_after, entries_of}
use Rattle.entry_tree.specs.Effects.{committed}
use Rattle.entry_tree.specs.Fitting.{is_directory_content, is_within_entry_limit}
use Rattle.entry_tree.specs.History.{state_from}
use Rattle.entry_tree.specs.State.{ascends}
use Rattle.entry_tree.specs.declared.entry.Entry.{Entry}
use Rattle.entry_tree.specs.declared.op.Write.{Write}
use Rattle.ldap_constants.specs.declared.result_codes.TheConstants.{E_SYNC_REFRESH_REQUIRED}
use Rattle.ldap_messages.specs.declared.message.Message.{Message}
use Rattle.sync_consumer.proofs.Takings.{takes_keeps}
use Rattle.sync_consumer.specs.Committing.{CanBeCommitted, IsCommit}
use Rattle.sync_consumer.specs.Taking.{Takes, nothing, without_search}
use Rattle.sync_consumer.specs.declared.commit.Commit.{Commit}
use Rattle.sync_consumer.specs.declared.consumer.Taken.{Taken}
use Rattle.sync_consumer.specs.declared.consumer.Taken.TheVariants.{Staged, Stored, Copied, Over, Fault, NoMemory}
use Rattle.sync_model.proofs.Later.{taken_all-append}
use Rattle.sync_model.proofs.Prefixes.{AllQuiet, prefix_cases, quiet_all}
use Rattle.sync_model.specs.Copy.{Copy, asked, taken, taken_all}
use Rattle.sync_model.specs.Law.{MayBegin, ShowsContent}
use Rattle.sync_model.specs.Message.{SyncMessage}
use Rattle.sync_model.specs.Stream.{Start, SyncOperation, content_after, last_mark, stream}
use Rattle.sync_model.specs.Stream.Start.{InitialContent, DeletePhase, PresentPhase}
use Rattle.sync_provider.specs.Ports.{PortState}
use Rattle.sync_provider.specs.declared.provider.Kind.{Kind}
use Rattle.sync_provider.specs.declared.provider.Kind.TheVariants.{Root, Replica}
use Rattle.replica_node.specs.Following.{outcome_of}
use Rattle.replica_node.specs.Prefixes.{AreOfStreams, BeginsAfter, HoldsPrefix, IsAlone, IsDirectory, IsOfStream, IsOwn, LeavePrefixes, LeavesPrefix, Carries, CarriesAll, StepLeavesPrefix}
use Rattle.replica_node.specs.ReplicaRounds.{AreOver, DoesAll, LinkRound, OverLink, ReplicaRound, Unlinked, round_outcome}
use Rattle.replica_node.specs.Rounds.{EndedWith, EndsBy, Faulted, FollowsOver, LinkFailed, OutOfMemory, ReadToEnd, Refused, RoundEnd, Uncommitted, Wanted, search_id, searching}
use Rattle.replica_node.specs.Steps.{Commits, GoesOn, ReplicaStep, TakesAll}
use Rattle.replica_node.specs.declared.end.RoundOutcome.TheVariants as outcome
use Rattle.replica_node.proofs.Ports.{AllOwn, commit_made, made_own, never_made, never_refused, refused_kind, refused_own}
use Rattle.replica_node.proofs.Saying.{IsStep, effect_last, step_is, takes_effect}

-- ---- lists

all_front : {X : Type 0} (P : X → Type 0) (xs ys : List X) → AllByRecursion P (xs ++ ys) → AllByRecursion P xs
all_front P [] ys all = tt
all_front P (x ∷ xs) ys all = (all.0, all_front P xs ys all.1)

all_rest : {X : Type 0} (P : X → Type 0) (xs ys : List X) → AllByRecursion P (xs ++ ys) → AllByRecursion P ys
all_rest P [] ys all = all
all_rest P (x ∷ xs) ys all = all_rest P xs ys all.1

all_both : {X : Type 0} (P : X → Type 0) (xs ys : List X) → AllByRecursion P xs → AllByRecursion P ys → AllByRecursion P (xs ++ ys)
all_both P [] ys one other = other
all_both P (x ∷ xs) ys one other = (one.0, all_both P xs ys one.1 other)

-- ---- what holds of a replica

-- what a cookie names is held
abbrev Known : SyncOperation → Copy → Type 0
Known operation copy = (number : ℕ) → copy.cookie ≡ Some (operation.cookies number) → copy.held ≡ content_after operation number

-- the port, whose number is this one, has the copy's entries
record InStep (operation : SyncOperation) (n : ℕ) (copy : Copy) (port : PortState) : Type 0 where
  same : entries_of port.directory ≡ copy.held
  known : Known operation copy
  kind : port.kind ≡ Replica
  number : port.number ≡ n

-- after these messages of a round
record IsAt (operation : SyncOperation) (n : ℕ) (begun : Copy) (so_far : List SyncMessage) (copy : Copy) (port : PortState) : Type 0 where
  copy_is : copy ≡ taken_all search_id (asked search_id operation.persists begun) so_far
  same : entries_of port.directory ≡ copy.held
  kind : port.kind ≡ Replica
  number : port.number ≡ n

-- what a round leaves that is of a stream
record RoundHolds {L : Type 0} (operation : SyncOperation) (n : ℕ) (round : LinkRound L) (copy' : Copy) (port' : PortState) : Type 0 where
  leaves : AllByRecursion (StepLeavesPrefix operation) round.steps
  step : outcome_of round.end ≡ outcome.Over → InStep operation n copy' port'

-- what rounds leave after each of which another one may come
record RoundsHold {L : Type 0} (operation : SyncOperation) (n : ℕ) (done : List (ReplicaRound L)) (copy' : Copy) (port' : PortState) : Type 0 where
  leaves : AllByRecursion (λ (round : ReplicaRound L). LeavePrefixes operation round) done
  step : InStep operation n copy' port'

-- the first of some rounds, and the last
record IsSplit {L : Type 0} (wanted : Wanted) (front rest : List (ReplicaRound L)) (copy copy' : Copy) (port port' : PortState) : Type 0 where
  mid : Copy
  mid_port : PortState
  first : DoesAll wanted copy port front mid mid_port
  last : DoesAll wanted mid mid_port rest copy' port'

-- ---- what the port's journal had before

goes_own : (n : ℕ) (took : Taken) (old new : PortState) → GoesOn old took new → AllOwn n new.journal → AllOwn n old.journal
goes_own n Staged old new goes own = subst (λ (p : PortState). AllOwn n p.journal) goes own
goes_own n (Stored commit) old new goes own = made_own n old new commit goes.0 goes.1 own
goes_own n (Copied commit) old new goes own = made_own n old new commit goes.0 goes.1 own
goes_own n (Over code) old new goes own = absurd goes
goes_own n (Fault found) old new goes own = absurd goes
goes_own n NoMemory old new goes own = absurd goes

-- where no entry of the journal is another port's after some steps, none was before them
pub steps_own : (n : ℕ) (steps : List ReplicaStep) (copy copy' : Copy) (port port' : PortState) → TakesAll copy port steps copy' port' → AllOwn n port'.journal → AllOwn n port.journal
steps_own n [] copy copy' port port' takes own = subst (λ (p : PortState). AllOwn n p.journal) takes.1 own
steps_own n (step ∷ steps) copy copy' port port' takes own = goes_own n step.taken port step.port takes.0.goes (steps_own n steps step.copy copy' step.port port' takes.1 own)

-- nor before the end of a round
pub ends_own : (n : ℕ) (end : RoundEnd) (copy copy' : Copy) (port port' : PortState) → EndsBy end copy port copy' port' → AllOwn n port'.journal → AllOwn n port.journal
ends_own n ReadToEnd copy copy' port port' ends own = subst (λ (p : PortState). AllOwn n p.journal) ends.1 own
ends_own n (Refused place) copy copy' port port' ends own = subst (λ (p : PortState). AllOwn n p.journal) ends.1 own
ends_own n LinkFailed copy copy' port port' ends own = subst (λ (p : PortState). AllOwn n p.journal) ends.1 own
ends_own n (EndedWith message code) copy copy' port port' ends own = subst (λ (p : PortState). AllOwn n p.journal) ends.1 own
ends_own n (Faulted message found) copy copy' port port' ends own = subst (λ (p : PortState). AllOwn n p.journal) ends.1 own
ends_own n (Uncommitted message commit found) copy copy' port port' ends own = refused_own n port port' commit found ends.1 own
ends_own n OutOfMemory copy copy' port port' ends own = subst (λ (p : PortState). AllOwn n p.journal) ends.1 own

-- ---- at a root nothing is committed

goes_rooted : (operation : SyncOperation) (took : Taken) (old new : PortState) → GoesOn old took new → old.kind ≡ Root → LeavesPrefix operation took new × (new.kind ≡ Root)
goes_rooted operation Staged old new goes root = (tt, ap (λ (p : PortState). p.kind) goes ∙ root)
goes_rooted operation (Stored commit) old new goes root = absurd (never_made old new commit goes.0 goes.1 root)
goes_rooted operation (Copied commit) old new goes root = absurd (never_made old new commit goes.0 goes.1 root)
goes_rooted operation (Over code) old new goes root = absurd goes
goes_rooted operation (Fault found) old new goes root = absurd goes
goes_rooted operation NoMemory old new goes root = absurd goes

steps_rooted : (operation : SyncOperation) (steps : List ReplicaStep) (copy copy' : Copy) (port port' : PortState) → TakesAll copy port steps copy' port' → port.kind ≡ Root
    → AllByRecursion (StepLeavesPrefix operation) steps × (port'.kind ≡ Root)
steps_rooted operation [] copy copy' port port' takes root = (tt, ap (λ (p : PortState). p.kind) takes.1 ∙ root)
steps_rooted operation (step ∷ steps) copy copy' port port' takes root =
    let one = goes_rooted operation step.taken port step.port takes.0.goes root in
    let rest = steps_rooted operation steps step.copy copy' step.port port' takes.1 one.1 in
    ((one.0, rest.0), rest.1)

ends_rooted : (end : RoundEnd) (copy copy' : Copy) (port port' : PortState) → EndsBy end copy port copy' port' → port'.kind ≡ port.kind
ends_rooted ReadToEnd copy copy' port port' ends = ap (λ (p : PortState). p.kind) ends.1
ends_rooted (Refused place) copy copy' port port' ends = ap (λ (p : PortState). p.kind) ends.1
ends_rooted LinkFailed copy copy' port port' ends = ap (λ (p : PortState). p.kind) ends.1
ends_rooted (EndedWith message code) copy copy' port port' ends = ap (λ (p : PortState). p.kind) ends.1
ends_rooted (Faulted message found) copy copy' port port' ends = ap (λ (p : PortState). p.kind) ends.1
ends_rooted (Uncommitted message commit found) copy copy' port port' ends = refused_kind port port' commit found ends.1
ends_rooted OutOfMemory copy copy' port port' ends = ap (λ (p : PortState). p.kind) ends.1

module _ {L : Type 0} where
  rooted : (operation : SyncOperation) (wanted : Wanted) (done : List (ReplicaRound L)) (copy copy' : Copy) (port port' : PortState) → DoesAll wanted copy port done copy' port' → port.kind ≡ Root
      → AllByRecursion (λ round. LeavePrefixes operation round) done
  rooted operation wanted [] copy copy' port port' does root = tt
  rooted operation wanted (Unlinked ∷ done) copy copy' port port' does root =
      (tt, rooted operation wanted done does.0 copy' does.1 port' does.3 (ap (λ (p : PortState). p.kind) does.2.1 ∙ root))
  rooted operation wanted (OverLink round ∷ done) copy copy' port port' does root =
      let follows = does.2.1 in
      let steps = steps_rooted operation round.steps (searching round.copy) follows.between port follows.between_port follows.takes root in
      let after = ends_rooted round.end follows.between follows.after follows.between_port does.1 follows.ends ∙ steps.1 in (
        All-from_recursion (StepLeavesPrefix operation) round.steps steps.0,
        rooted operation wanted done does.0 copy' does.1 port' does.3 after,
      )

  -- ---- rounds, one after another

  -- nor before some rounds, where none is after them
  pub does_own : (n : ℕ) (wanted : Wanted) (done : List (ReplicaRound L)) (copy copy' : Copy) (port port' : PortState) → DoesAll wanted copy port done copy' port' → AllOwn n port'.journal → AllOwn n port.journal
  does_own n wanted [] copy copy' port port' does own = subst (λ (p : PortState). AllOwn n p.journal) does.1 own
  does_own n wanted (Unlinked ∷ done) copy copy' port port' does own =
      subst (λ (p : PortState). AllOwn n p.journal) does.2.1 (does_own n wanted done does.0 copy' does.1 port' does.3 own)
  does_own n wanted (OverLink round ∷ done) copy copy' port port' does own =
      let follows = does.2.1 in
      steps_own n round.steps (searching round.copy) follows.between port follows.between_port follows.takes
      (ends_own n round.end follows.between follows.after follows.between_port does.1 follows.ends (does_own n wanted done does.0 copy' does.1 port' does.3 own))

  -- the first of the rounds, and the last
  split_rounds : (wanted : Wanted) (front rest : List (ReplicaRound L)) (copy copy' : Copy) (port port' : PortState) → DoesAll wanted copy port (front ++ rest) copy' port'
      → IsSplit wanted front rest copy copy' port port'
  split_rounds wanted [] rest copy copy' port port' does = record { mid = copy; mid_port = port; first = (refl, refl); last = does }
  split_rounds wanted (round ∷ front) rest copy copy' port port' does =
      let s = split_rounds wanted front rest does.0 copy' does.1 port' does.3 in
      record { mid = s.mid; mid_port = s.mid_port; first = (does.0, does.1, does.2, s.first); last = s.last }

-- ---- a replica

module _ (operation : SyncOperation) (dir : IsDirectory operation) (n : ℕ) where
  known_same : (old new : Copy) → new.held ≡ old.held → new.cookie ≡ old.cookie → Known operation old → Known operation new
  known_same old new held cookie known number is = held ∙ known number (sym cookie ∙ is)

  begins : (start : Start) (accepted : ℕ) (copy : Copy) → ascends copy.held ≡ true → Known operation copy → BeginsAfter operation copy.cookie start accepted → MayBegin operation start accepted copy.held
  begins InitialContent accepted copy rises known at = rises
  begins (DeletePhase number) accepted copy rises known at = record { number = number; from = omega arith; upto = at.0; same = known number at.1 }
  begins (PresentPhase number) accepted copy rises known at = record { number = number; from = omega arith; upto = at.0; same = known number at.1 }

  -- ---- one round

  module _ (begun : Copy) (least most : ℕ) (whole : List SyncMessage)
      (fronts : (front rest : List SyncMessage) → front ++ rest ≡ whole
      → AllQuiet front ⊎ ShowsContent operation least most (taken_all search_id (asked search_id operation.persists begun) front)) where
    -- the copy after one message more
    next_copy : (so_far : List SyncMessage) (copy copy' : Copy) (sync : SyncMessage) → copy ≡ taken_all search_id (asked search_id operation.persists begun) so_far → copy' ≡ (taken search_id copy sync).0
        → copy' ≡ taken_all search_id (asked search_id operation.persists begun) (so_far ++ sync ∷ [])
    next_copy so_far copy copy' sync at is =
        is ∙ ap (λ (c : Copy). (taken search_id c sync).0) at ∙ sym (taken_all-append so_far (sync ∷ []) search_id (asked search_id operation.persists begun))

    -- a stage that took effect leaves the content after some of the writes
    effected : (so_far later : List SyncMessage) (copy copy' : Copy) (sync : SyncMessage) (took : Taken) → copy ≡ taken_all search_id (asked search_id operation.persists begun) so_far
        → IsStep copy sync copy' took → takes_effect took ≡ true → (so_far ++ sync ∷ []) ++ later ≡ whole → (number : ℕ) × (copy'.held ≡ content_after operation number)
    effected so_far later copy copy' sync took at step on is = ⊎_elim
        (λ quiet. absurd (effect_last so_far sync search_id copy (step.effect on) quiet))
        (λ shows. (shows.number, ap (λ (c : Copy). c.held) (next_copy so_far copy copy' sync at step.copy_is) ∙ shows.held))
        (fronts (so_far ++ sync ∷ []) later is)

    -- and is committed
    stored_at : (so_far later : List SyncMessage) (copy copy' : Copy) (port port' : PortState) (sync : SyncMessage) (took : Taken) (commit : Commit) (number : ℕ) → IsAt operation n begun so_far copy port
        → IsStep copy sync copy' took → takes_effect took ≡ true → IsCommit copy.held copy'.held commit → Commits port commit (Ok number) port' → (so_far ++ sync ∷ []) ++ later ≡ whole
        → AllOwn n port'.journal → IsAt operation n begun (so_far ++ sync ∷ []) copy' port' × HoldsPrefix operation port'
    stored_at so_far later copy copy' port port' sync took commit number at step on is_commit commits is own =
        let made = commit_made n port port' commit number commits at.number own in
        let same : entries_of port'.directory ≡ copy'.held = made.entries ∙ ap (λ (es : List Entry). committed es commit.puts commit.drops) at.same ∙ is_commit.leaves in
        let content = effected so_far later copy copy' sync took at.copy_is step on is in (
          record { copy_is = next_copy so_far copy copy' sync at.copy_is step.copy_is; same = same; kind = made.kind ∙ at.kind; number = made.number ∙ at.number },
          record { number = content.0; same = same ∙ content.1 },
        )

    step_at : (took : Taken) (so_far later : List SyncMessage) (copy copy' : Copy) (port port' : PortState) (message : Message) (sync : SyncMessage) → IsAt operation n begun so_far copy port → Takes copy message copy' took
        → CanBeCommitted copy copy' took → GoesOn port took port' → Carries message sync → (so_far ++ sync ∷ []) ++ later ≡ whole → AllOwn n port'.journal
        → IsAt operation n begun (so_far ++ sync ∷ []) copy' port' × LeavesPrefix operation took port'
    step_at Staged so_far later copy copy' port port' message sync at takes committed' goes says is own =
        let step = step_is Staged copy message copy' sync tt takes says in
        let kept = takes_keeps Staged copy message copy' takes in (
          record {
            copy_is = next_copy so_far copy copy' sync at.copy_is step.copy_is;
            same = ap (λ (p : PortState). entries_of p.directory) goes ∙ at.same ∙ sym kept.0;
            kind = ap (λ (p : PortState). p.kind) goes ∙ at.kind;
            number = ap (λ (p : PortState). p.number) goes ∙ at.number;
          },
          tt,
        )
    step_at (Stored commit) so_far later copy copy' port port' message sync at takes committed' goes says is own =
        stored_at so_far later copy copy' port port' sync (Stored commit) commit goes.0 at (step_is (Stored commit) copy message copy' sync tt takes says) refl committed' goes.1 is own
    step_at (Copied commit) so_far later copy copy' port port' message sync at takes committed' goes says is own =
        stored_at so_far later copy copy' port port' sync (Copied commit) commit goes.0 at (step_is (Copied commit) copy message copy' sync tt takes says) refl committed' goes.1 is own
    step_at (Over code) so_far later copy copy' port port' message sync at takes committed' goes says is own = absurd goes
    step_at (Fault found) so_far later copy copy' port port' message sync at takes committed' goes says is own = absurd goes
    step_at NoMemory so_far later copy copy' port port' message sync at takes committed' goes says is own = absurd goes

    steps_at : (steps : List ReplicaStep) (syncs so_far rest : List SyncMessage) (copy copy' : Copy) (port port' : PortState) → IsAt operation n begun so_far copy port → TakesAll copy port steps copy' port'
        → CarriesAll (map (λ (step : ReplicaStep). step.message) steps) syncs → (so_far ++ syncs) ++ rest ≡ whole → AllOwn n port'.journal
        → AllByRecursion (StepLeavesPrefix operation) steps × IsAt operation n begun (so_far ++ syncs) copy' port'
    steps_at [] [] so_far rest copy copy' port port' at takes says is own = (
      tt,
      subst (λ (xs : List SyncMessage). IsAt operation n begun xs copy' port') (sym (append-nil so_far))
          (subst (λ (c : Copy). IsAt operation n begun so_far c port') (sym takes.0) (subst (λ (p : PortState). IsAt operation n begun so_far copy p) (sym takes.1) at)),
    )
    steps_at [] (sync ∷ syncs) so_far rest copy copy' port port' at takes says is own = absurd says
    steps_at (step ∷ steps) [] so_far rest copy copy' port port' at takes says is own = absurd says
    steps_at (step ∷ steps) (sync ∷ syncs) so_far rest copy copy' port port' at takes says is own =
        let own' = steps_own n steps step.copy copy' step.port port' takes.1 own in
        let parts : (so_far ++ sync ∷ []) ++ syncs ≡ so_far ++ (sync ∷ syncs) = append_assoc so_far (sync ∷ []) syncs in
        let is' : ((so_far ++ sync ∷ []) ++ syncs) ++ rest ≡ whole = ap (λ (xs : List SyncMessage). xs ++ rest) parts ∙ is in
        let one =
        step_at step.taken so_far (syncs ++ rest) copy step.copy port step.port step.message sync at takes.0.takes takes.0.committed takes.0.goes says.0
        (sym (append_assoc (so_far ++ sync ∷ []) syncs rest) ∙ is') own' in
        let later = steps_at steps syncs (so_far ++ sync ∷ []) rest step.copy copy' step.port port' one.0 takes.1 says.1 is' own in
        ((one.1, later.0), subst (λ (xs : List SyncMessage). IsAt operation n begun xs copy' port') parts later.1)

    -- then the cookie names what is held
    known_at : (syncs rest : List SyncMessage) (copy : Copy) (port : PortState) → Known operation begun → IsAt operation n begun syncs copy port → syncs ++ rest ≡ whole → Known operation copy
    known_at syncs rest copy port known at is = ⊎_elim
        (λ quiet. let same = quiet_all syncs search_id (asked search_id operation.persists begun) quiet in
        known_same begun copy (ap (λ (c : Copy). c.held) at.copy_is ∙ same.held) (ap (λ (c : Copy). c.cookie) at.copy_is ∙ same.cookie) known)
        (λ shows number named.
        let both : Some (operation.cookies shows.number) ≡ Some (operation.cookies number) = sym shows.cookie ∙ sym (ap (λ (c : Copy). c.cookie) at.copy_is) ∙ named in
        let one : shows.number ≡ number = dir.cookies shows.number number (same_Some (operation.cookies shows.number) (operation.cookies number) both) in
        ap (λ (c : Copy). c.held) at.copy_is ∙ shows.held ∙ ap (content_after operation) one)
        (fronts syncs rest is)

  -- ---- the end of a round

  without_held : (copy : Copy) (port : PortState) → InStep operation n copy port → (copy' : Copy) (port' : PortState) → copy' ≡ without_search copy → port' ≡ port → InStep operation n copy' port'
  without_held copy port step copy' port' is same = record {
    same = ap (λ (p : PortState). entries_of p.directory) same ∙ step.same ∙ sym (ap (λ (c : Copy). c.held) is);
    known = known_same copy copy' (ap (λ (c : Copy). c.held) is) (ap (λ (c : Copy). c.cookie) is) step.known;
    kind = ap (λ (p : PortState). p.kind) same ∙ step.kind;
    number = ap (λ (p : PortState). p.number) same ∙ step.number;
  }

  -- a copy with the same entries, and the same cookie or none
  over_known : (lost : Bool) (old new : Copy) → new.held ≡ old.held → new.cookie ≡ cond lost None old.cookie → Known operation old → Known operation new
  over_known true old new held cookie known number is = let wrong : None ≡ Some (operation.cookies number) = sym cookie ∙ is in cc
  over_known false old new held cookie known number is = held ∙ known number (sym cookie ∙ is)

  moved : (old new : Copy) (port : PortState) → InStep operation n old port → new.held ≡ old.held → Known operation new → InStep operation n new port
  moved old new port step held known = record { same = step.same ∙ sym held; known = known; kind = step.kind; number = step.number }

  end_holds : (end : RoundEnd) (copy after copy' : Copy) (port port' : PortState) → InStep operation n copy port → EndsBy end copy port after port' → copy' ≡ without_search after → outcome_of end ≡ outcome.Over
      → AllOwn n port'.journal → InStep operation n copy' port'
  end_holds ReadToEnd copy after copy' port port' step ends is over own = without_held copy port step copy' port' (is ∙ ap without_search ends.0) ends.1
  end_holds (Refused place) copy after copy' port port' step ends is over own = without_held copy port step copy' port' (is ∙ ap without_search ends.0) ends.1
  end_holds LinkFailed copy after copy' port port' step ends is over own = without_held copy port step copy' port' (is ∙ ap without_search ends.0) ends.1
  end_holds (EndedWith message code) copy after copy' port port' step ends is over own =
      let kept = takes_keeps (Over code) copy message after ends.0 in
      let step' = moved copy after port step kept.0 (over_known (int_eq code (pos E_SYNC_REFRESH_REQUIRED)) copy after kept.0 kept.1 step.known) in
      without_held after port step' copy' port' is ends.1
  end_holds (Faulted message found) copy after copy' port port' step ends is over own =
      let kept = takes_keeps (Fault found) copy message after ends.0 in
      let step' = moved copy after port step kept.0 (known_same copy after kept.0 kept.1 step.known) in
      without_held after port step' copy' port' is ends.1
  end_holds (Uncommitted message commit found) copy after copy' port port' step ends is over own =
      let held = (and_parts (list_all is_within_entry_limit commit.puts) (is_directory_content (committed copy.held commit.puts commit.drops)) ends.0.committed.fits).1 in
      absurd (never_refused n port port' commit found ends.1 step.kind step.number own
      (subst (λ (es : List Entry). is_directory_content (committed es commit.puts commit.drops) ≡ true) (sym step.same) held) over)
  end_holds OutOfMemory copy after copy' port port' step ends is over own = absurd (let wrong : outcome.NoMemory ≡ outcome.Over = over in cc)

  -- ---- all rounds

  module _ {L : Type 0} (wanted : Wanted) where
    round_holds : (round : LinkRound L) (copy' : Copy) (port port' : PortState) → InStep operation n round.copy port → FollowsOver wanted round.copy port round.steps round.end copy' port'
        → IsOfStream operation round → AllOwn n port'.journal → RoundHolds operation n round copy' port'
    round_holds round copy' port port' step follows of own =
        let begun = round.copy in
        let rises : ascends begun.held ≡ true = ap ascends (sym step.same) ∙ ascends_now port.directory in
        let may = begins of.start of.accepted begun rises step.known of.begins in
        let whole = stream operation of.start of.accepted of.pieces of.count in
        let most = last_mark of.accepted of.pieces + of.count in
        let fronts : (front rest : List SyncMessage) → front ++ rest ≡ whole
        → AllQuiet front ⊎ ShowsContent operation of.accepted most (taken_all search_id (asked search_id operation.persists begun) front) =
        λ front rest is. prefix_cases operation dir.ascending search_id of.start of.accepted of.pieces of.count begun front rest of.cut may is in
        let own' = ends_own n round.end follows.between follows.after follows.between_port port' follows.ends own in
        let first : IsAt operation n begun [] (searching begun) port =
        record { copy_is = ap (λ (b : Bool). asked search_id b begun) (sym dir.persists); same = step.same; kind = step.kind; number = step.number } in
        let walked = steps_at begun of.accepted most whole fronts round.steps of.said_in [] of.rest (searching begun) follows.between port follows.between_port first follows.takes of.says of.prefix own' in
        let known = known_at begun of.accepted most whole fronts of.said_in of.rest follows.between follows.between_port step.known walked.1 of.prefix in
        record {
          leaves = walked.0;
          step = λ over. end_holds round.end follows.between follows.after copy' follows.between_port port'
              (record { same = walked.1.same; known = known; kind = walked.1.kind; number = walked.1.number }) follows.ends follows.cut over own;
        }

    rounds_hold : (done : List (ReplicaRound L)) (copy copy' : Copy) (port port' : PortState) → InStep operation n copy port → DoesAll wanted copy port done copy' port'
        → AllByRecursion (λ round. AreOfStreams operation round) done → AllByRecursion (λ (round : ReplicaRound L). round_outcome round ≡ outcome.Over) done → AllOwn n port'.journal
        → RoundsHold operation n done copy' port'
    rounds_hold [] copy copy' port port' step does of over own = record {
      leaves = tt;
      step = subst (λ (c : Copy). InStep operation n c port') (sym does.0) (subst (λ (p : PortState). InStep operation n copy p) (sym does.1) step);
    }
    rounds_hold (Unlinked ∷ done) copy copy' port port' step does of over own =
        let step' = subst (λ (c : Copy). InStep operation n c does.1) (sym does.2.0) (subst (λ (p : PortState). InStep operation n copy p) (sym does.2.1) step) in
        let rest = rounds_hold done does.0 copy' does.1 port' step' does.3 of.1 over.1 own in
        record { leaves = (tt, rest.leaves); step = rest.step }
    rounds_hold (OverLink round ∷ done) copy copy' port port' step does of over own =
        let own' = does_own n wanted done does.0 copy' does.1 port' does.3 own in
        let begun = subst (λ (c : Copy). InStep operation n c port) (sym does.2.0) step in
        let one = round_holds round does.0 port does.1 begun does.2.1 of.0 own' in
        let rest = rounds_hold done does.0 copy' does.1 port' (one.step over.0) does.3 of.1 over.1 own in
        record { leaves = (All-from_recursion (StepLeavesPrefix operation) round.steps one.leaves, rest.leaves); step = rest.step }

-- ---- the law

-- a directory without writes has no entries
pub none_yet : (d : DirectoryState) → d.writes ≡ [] → entries_of d ≡ []
unfolding state_from
none_yet d none = ap (λ (writes : List Write). entries_after d.history writes) none

-- a replica begins with nothing
first_step : (operation : SyncOperation) (port port' : PortState) → IsAlone port port' → port.kind ≡ Replica → InStep operation port.number nothing port
first_step operation port port' alone kind = record {
  same = none_yet port.directory alone.empty;
  known = λ number is. absurd (let wrong : None ≡ Some (operation.cookies number) = is in cc);
  kind = kind;
  number = refl;
}

-- each commit leaves the content after some of the writes
abbrev pub CommitsLeave : {L : Type 0} → (before after : PortState) → List (ReplicaRound L) → Type 0
CommitsLeave before after done =
    (operation : SyncOperation) → IsDirectory operation → IsAlone before after → All (λ round. AreOfStreams operation round) done → All (λ round. LeavePrefixes operation round) done

module _ {L : Type 0} (wanted : Wanted) (port port' : PortState) where
  -- after each of the rounds another one may come
  pub leaves_over : (done : List (ReplicaRound L)) (copy' : Copy) → DoesAll wanted nothing port done copy' port' → AreOver done → CommitsLeave port port' done
  leaves_over done copy' does over operation dir alone of = by port.kind refl
    where
      by : (kind : Kind) → port.kind ≡ kind → All (λ (round : ReplicaRound L). LeavePrefixes operation round) done
      by Root is = All-from_recursion (λ (round : ReplicaRound L). LeavePrefixes operation round) done (rooted operation wanted done nothing copy' port port' does is)
      by Replica is =
          All-from_recursion (λ (round : ReplicaRound L). LeavePrefixes operation round) done
          (rounds_hold operation dir port.number wanted done nothing copy' port port' (first_step operation port port' alone is) does
          (recursion_from_All (λ (round : ReplicaRound L). AreOfStreams operation round) done of)
          (recursion_from_All (λ (round : ReplicaRound L). round_outcome round ≡ outcome.Over) done over)
          (recursion_from_All (IsOwn port.number) port'.journal alone.own)).leaves

  -- the last one is not followed by another
  with_last : (before : List (ReplicaRound L)) (last : LinkRound L) (copy' : Copy) (operation : SyncOperation) → IsDirectory operation → IsAlone port port' → port.kind ≡ Replica
      → IsSplit wanted before (OverLink last ∷ []) nothing copy' port port' → AreOver before → AllByRecursion (λ (round : ReplicaRound L). AreOfStreams operation round) (before ++ OverLink last ∷ [])
      → AllByRecursion (λ (round : ReplicaRound L). LeavePrefixes operation round) (before ++ OverLink last ∷ [])
  with_last before last copy' operation dir alone kind split over of =
      let n = port.number in
      let own = recursion_from_All (IsOwn n) port'.journal alone.own in
      let own_mid = does_own n wanted (OverLink last ∷ []) split.mid copy' split.mid_port port' split.last own in
      let own_last = subst (λ (p : PortState). AllOwn n p.journal) split.last.3.1 own in
      let streams = λ (round : ReplicaRound L). AreOfStreams operation round in
      let first =
      rounds_hold operation dir n wanted before nothing split.mid port split.mid_port (first_step operation port port' alone kind) split.first (all_front streams before (OverLink last ∷ []) of)
      (recursion_from_All (λ (round : ReplicaRound L). round_outcome round ≡ outcome.Over) before over) own_mid in
      let begun = subst (λ (c : Copy). InStep operation n c split.mid_port) (sym split.last.2.0) first.step in
      let one = round_holds operation dir n wanted last split.last.0 split.mid_port split.last.1 begun split.last.2.1 (all_rest streams before (OverLink last ∷ []) of).0 own_last in
      all_both (λ (round : ReplicaRound L). LeavePrefixes operation round) before (OverLink last ∷ []) first.leaves (All-from_recursion (StepLeavesPrefix operation) last.steps one.leaves, tt)

  ended_by : (before : List (ReplicaRound L)) (last : LinkRound L) (copy' : Copy) → DoesAll wanted nothing port (before ++ OverLink last ∷ []) copy' port' → AreOver before
      → CommitsLeave port port' (before ++ OverLink last ∷ [])
  ended_by before last copy' does over operation dir alone of = by port.kind refl
    where
      done : List (ReplicaRound L)
      done = before ++ OverLink last ∷ []

      by : (kind : Kind) → port.kind ≡ kind → All (λ (round : ReplicaRound L). LeavePrefixes operation round) done
      by Root is = All-from_recursion (λ (round : ReplicaRound L). LeavePrefixes operation round) done (rooted operation wanted done nothing copy' port port' does is)
      by Replica is =
          All-from_recursion (λ (round : ReplicaRound L). LeavePrefixes operation round) done
          (with_last before last copy' operation dir alone is (split_rounds wanted before (OverLink last ∷ []) nothing copy' port port' does) over
          (recursion_from_All (λ (round : ReplicaRound L). AreOfStreams operation round) done of))

  -- so it is whatever ended the last one
  pub leaves_last : (before : List (ReplicaRound L)) (last : LinkRound L) (done : List (ReplicaRound L)) (copy' : Copy) → done ≡ before ++ OverLink last ∷ []
      → DoesAll wanted nothing port done copy' port' → AreOver before → CommitsLeave port port' done
  leaves_last before last done copy' is does over =
      subst (λ (rounds : List (ReplicaRound L)). CommitsLeave port port' rounds) (sym is)
      (ended_by before last copy' (subst (λ (rounds : List (ReplicaRound L)). DoesAll wanted nothing port rounds copy' port') is does) over)
