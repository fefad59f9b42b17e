-- The commits of an event: all of them or none, where nothing but a limit rejects one of them.
use Rattle.std.proofs.Common.{◌≡◌, ℕ, Option, Some, None, List, [], ◌∷◌, ◌++◌, length, take, refl, ap, sym, subst, ◌∙◌}
use Rattle.std.specs.Option.{option_or}
use Rattle.std.specs.Prelude.{◌+◌, Ok, Err, fold, map, option_map}
use Rattle.std.proofs.Math.Seq.{take-append_seam}
use Rattle.directory_writes.specs.Commits as directory
use Rattle.directory_writes.specs.Directory.{DirectoryState, entries_of, with_judged}
use Rattle.directory_writes.specs.declared.commit.DirectoryCommitFault.{DirectoryCommitFault}
use Rattle.directory_writes.specs.declared.commit.DirectoryCommitFault.TheVariants as cause
use Rattle.directory_writes.proofs.Commits.{OnlyLimits, commit_open, only_limits}
use Rattle.directory_writes.proofs.Judged.{judged_is}
use Rattle.directory_writes.proofs.Writes.{entries_after-push}
use Rattle.entry_tree.specs.Effects.{committed, effect}
use Rattle.entry_tree.specs.History.{identity}
use Rattle.entry_tree.specs.Selection.{Search}
use Rattle.entry_tree.specs.declared.op.Op.TheVariants.{Commit}
use Rattle.sync_provider.specs.Committing.{RejectsCommit, fault_of}
use Rattle.sync_provider.specs.Committing as committing
use Rattle.sync_provider.specs.Machine as machine
use Rattle.sync_provider.specs.Machine.{ProviderState, after_commit, committed_each, refusal_of_each}
use Rattle.sync_provider.specs.declared.committing.StagedCommit.{StagedCommit}
use Rattle.sync_provider.specs.declared.provider.Kind.TheVariants.{Replica}
use Rattle.sync_provider.specs.declared.writing.CommitFault.{CommitFault}
use Rattle.sync_provider.specs.declared.writing.CommitFault.TheVariants as fault
use Rattle.cascade_script.specs.declared.fault.Cause.{Cause}
use Rattle.cascade_nodes.specs.declared.node.ProviderNode.{ProviderNode}
use Rattle.cascade_report.specs.Origins.{CommitOrigin}
use Rattle.cascade_report.specs.ReportLines.{StoredStage}
use Rattle.cascade_nodes.specs.Commits.{note_of, commit_of, with_stage, limit_in, limit_of, with_commits, commits_by, commits_all, with_stages, AreHeldAfter, CanCommit, IsLimit, IsCauseOf, Leaves}
use Rattle.sync_model.proofs.Limits.{option_map-none}

-- the notes that were put at the end are taken away again
pub noted : {A : Type 0} (xs ys : List A) → take (length xs) (xs ++ ys) ≡ xs
noted xs ys = take-append_seam xs ys

-- ---- one write

-- where nothing rejects it, it leaves the entries with the stage in effect
entries_with : (now : ℕ) (p : ProviderState) (stage : StoredStage) → directory.commit_refusal p.directory stage.puts stage.drops now ≡ None
    → entries_of (with_stage now p stage).directory ≡ committed (entries_of p.directory) stage.puts stage.drops
entries_with now p stage none =
    let d : DirectoryState = p.directory in
    let open' = commit_open d stage.puts stage.drops now none in
    let write = open'.write in
    let is = judged_is d (Commit stage.puts stage.drops) now write open'.judged in
    ap (λ outcome. entries_of (with_judged d outcome)) open'.judged
    ∙ entries_after-push d.history d.writes write
    ∙ ap (λ op. effect (entries_of d) op (identity d.history (length d.writes + 1)) write.csn) is.same

-- ---- the writes for some stages

-- what rejects them is a limit, and where none is they leave the entries with the stages in effect
record AreWrites (now : ℕ) (p : ProviderState) (stages : List StoredStage) : Type 0 where
  refusal : refusal_of_each p (map commit_of stages) now ≡ option_map (λ limit. fault.LimitReached limit) (limit_of now p stages)
  same : limit_of now p stages ≡ None → committed_each p (map commit_of stages) now ≡ fold (with_stage now) p stages
  entries : limit_of now p stages ≡ None → entries_of (fold (with_stage now) p stages).directory ≡ with_stages (entries_of p.directory) stages

are_writes : (now : ℕ) (stages : List StoredStage) (p : ProviderState) → p.kind ≡ Replica → AreHeldAfter (entries_of p.directory) stages → AreWrites now p stages
are_writes now [] p kind held = record { refusal = refl; same = λ none. refl; entries = λ none. refl }
are_writes now (stage ∷ stages) p kind held =
    by (λ q. are_writes now stages q) (directory.commit_refusal p.directory stage.puts stage.drops now) refl (only_limits p.directory stage.puts stage.drops now held.0)
  where
    next : ProviderState
    next = with_stage now p stage

    refusal_is : (r : Option DirectoryCommitFault) → directory.commit_refusal p.directory stage.puts stage.drops now ≡ r
        → committing.commit_refusal p.kind p.directory stage.puts stage.drops now ≡ option_map fault_of r
    refusal_is r is = ap (λ k. committing.commit_refusal k p.directory stage.puts stage.drops now) kind ∙ ap (option_map fault_of) is

    limit_is : (r : Option DirectoryCommitFault) → directory.commit_refusal p.directory stage.puts stage.drops now ≡ r
        → limit_of now p (stage ∷ stages) ≡ option_or (limit_in r) (limit_of now next stages)
    limit_is r is = ap (λ found. option_or (limit_in found) (limit_of now next stages)) is

    by : ((q : ProviderState) → q.kind ≡ Replica → AreHeldAfter (entries_of q.directory) stages → AreWrites now q stages)
        → (r : Option DirectoryCommitFault) → directory.commit_refusal p.directory stage.puts stage.drops now ≡ r → OnlyLimits r → AreWrites now p (stage ∷ stages)
    by later None is only =
        let refusal' : committing.commit_refusal p.kind p.directory stage.puts stage.drops now ≡ None = refusal_is None is in
        let done : machine.committed p stage.puts stage.drops now ≡ next = ap (after_commit p (Commit stage.puts stage.drops) now) refusal' in
        let left = entries_with now p stage is in
        let rest = later next kind (subst (λ es. AreHeldAfter es stages) (sym left) held.1) in
        let limit : limit_of now p (stage ∷ stages) ≡ limit_of now next stages = limit_is None is in
        record {
          refusal =
              ap (λ r. option_or r (refusal_of_each (machine.committed p stage.puts stage.drops now) (map commit_of stages) now)) refusal'
              ∙ ap (λ q. refusal_of_each q (map commit_of stages) now) done
              ∙ rest.refusal
              ∙ ap (option_map (λ number. fault.LimitReached number)) (sym limit);
          same = λ none. ap (λ q. committed_each q (map commit_of stages) now) done ∙ rest.same (sym limit ∙ none);
          entries = λ none. rest.entries (sym limit ∙ none) ∙ ap (λ es. with_stages es stages) left;
        }
    by later (Some (cause.LimitReached number)) is only =
        let refusal' : committing.commit_refusal p.kind p.directory stage.puts stage.drops now ≡ Some (fault.LimitReached number) = refusal_is (Some (cause.LimitReached number)) is in
        let limit : limit_of now p (stage ∷ stages) ≡ Some number = limit_is (Some (cause.LimitReached number)) is in
        let never : limit_of now p (stage ∷ stages) ≡ None → ⊥ = λ none. let bad : Some number ≡ None = sym limit ∙ none in cc in
        record {
          refusal =
              ap (λ r. option_or r (refusal_of_each (machine.committed p stage.puts stage.drops now) (map commit_of stages) now)) refusal'
              ∙ ap (option_map (λ n. fault.LimitReached n)) (sym limit);
          same = λ none. absurd (never none);
          entries = λ none. absurd (never none);
        }
    by later (Some (cause.DuplicateName one other)) is only = absurd only
    by later (Some cause.NoMemory) is only = absurd only

writes_of : (now : ℕ) (provider_node : ProviderNode) (stages : List StoredStage) → CanCommit provider_node stages → AreWrites now provider_node.provider stages
writes_of now provider_node stages can = are_writes now stages provider_node.provider can.kind can.held

-- the same of the commits as the code makes them
refusal_of : (now : ℕ) (provider_node : ProviderNode) (stages : List StoredStage) (commits : List StagedCommit) → CanCommit provider_node stages → commits ≡ map commit_of stages
    → refusal_of_each provider_node.provider commits now ≡ option_map (λ limit. fault.LimitReached limit) (limit_of now provider_node.provider stages)
refusal_of now provider_node stages commits can same = ap (λ cs. refusal_of_each provider_node.provider cs now) same ∙ (writes_of now provider_node stages can).refusal

one_limit : (limit : Option ℕ) (number : ℕ) → option_map (λ n. fault.LimitReached n) limit ≡ Some (fault.LimitReached number) → limit ≡ Some number
one_limit None number is = let never : ⊥ = cc in absurd never
one_limit (Some other) number is = cc

-- where nothing refuses the commits of some stages, the node has committed all of them, each with
-- its origin
pub all_committed : (now : ℕ) (wants : Search) (provider_node after : ProviderNode) (stages : List StoredStage) (commits : List StagedCommit) (notes : List CommitOrigin) → CanCommit provider_node stages → commits ≡ map commit_of stages
    → notes ≡ map (note_of wants) stages → refusal_of_each provider_node.provider commits now ≡ None → after.name ≡ provider_node.name → after.provider ≡ committed_each provider_node.provider commits now
    → after.notes ≡ provider_node.notes ++ notes → commits_all now wants provider_node stages ≡ Ok after
all_committed now wants provider_node after stages commits notes can same noted none named done kept =
    let none' : limit_of now provider_node.provider stages ≡ None = option_map-none (λ (number : ℕ). fault.LimitReached number) (limit_of now provider_node.provider stages) (sym (refusal_of now provider_node stages commits can same) ∙ none) in
    let name' : provider_node.name ≡ after.name = sym named in
    let provider' : fold (with_stage now) provider_node.provider stages ≡ after.provider =
    sym (done ∙ ap (λ cs. committed_each provider_node.provider cs now) same ∙ (writes_of now provider_node stages can).same none') in
    let notes' : provider_node.notes ++ map (note_of wants) stages ≡ after.notes = sym (kept ∙ ap (λ ns. provider_node.notes ++ ns) noted) in
    ap (commits_by now wants provider_node stages) none' ∙ λ i. Ok (record { name = name' i; provider = provider' i; notes = notes' i })

-- where one of them is refused, the node is as before, and the cause is reported
pub none_committed : (now : ℕ) (wants : Search) (provider_node : ProviderNode) (stages : List StoredStage) (commits : List StagedCommit) (found : CommitFault) (reported : Cause) → CanCommit provider_node stages → commits ≡ map commit_of stages
    → RejectsCommit (refusal_of_each provider_node.provider commits now) found → IsCauseOf found reported → Leaves (commits_all now wants provider_node stages) provider_node (Err reported)
none_committed now wants provider_node stages commits found reported can same opposed is = by found opposed is
  where
    by : (given : CommitFault) → RejectsCommit (refusal_of_each provider_node.provider commits now) given → IsCauseOf given reported → Leaves (commits_all now wants provider_node stages) provider_node (Err reported)
    by (fault.LimitReached number) against reports =
        let limit = one_limit (limit_of now provider_node.provider stages) number (sym (refusal_of now provider_node stages commits can same) ∙ against) in
        subst (λ c. Leaves (commits_all now wants provider_node stages) provider_node (Err c)) (sym reports) (ap (commits_by now wants provider_node stages) limit)
    by (fault.DuplicateName one other) against reports = absurd reports
    by fault.NotAReplica against reports = absurd reports
    by fault.NoMemory against reports = subst (λ c. Leaves (commits_all now wants provider_node stages) provider_node (Err c)) (sym reports) tt

-- of stages that can be committed none is refused but for a limit
pub only_a_limit : (now : ℕ) (provider_node : ProviderNode) (stages : List StoredStage) (commits : List StagedCommit) (found : CommitFault) → CanCommit provider_node stages → commits ≡ map commit_of stages
    → RejectsCommit (refusal_of_each provider_node.provider commits now) found → IsLimit found
only_a_limit now provider_node stages commits found can same = by found
  where
    never : (limit : Option ℕ) (given : CommitFault) → option_map (λ number. fault.LimitReached number) limit ≡ Some given → IsLimit given
    never None given is = let bad : ⊥ = cc in absurd bad
    never (Some number) given is = let one : fault.LimitReached number ≡ given = cc in subst IsLimit one tt

    by : (given : CommitFault) → RejectsCommit (refusal_of_each provider_node.provider commits now) given → IsLimit given
    by (fault.LimitReached number) against = tt
    by (fault.DuplicateName one other) against = never (limit_of now provider_node.provider stages) (fault.DuplicateName one other) (sym (refusal_of now provider_node stages commits can same) ∙ against)
    by fault.NotAReplica against = never (limit_of now provider_node.provider stages) fault.NotAReplica (sym (refusal_of now provider_node stages commits can same) ∙ against)
    by fault.NoMemory against = tt

-- ---- what they leave

same_kind : (now : ℕ) (stages : List StoredStage) (p : ProviderState) → (fold (with_stage now) p stages).kind ≡ p.kind
same_kind now [] p = refl
same_kind now (stage ∷ stages) p = same_kind now stages (with_stage now p stage)

-- a replica still, with the stages in effect
pub record HasCommitted (before : ProviderNode) (stages : List StoredStage) (after : ProviderNode) : Type 0 where
  pub name : after.name ≡ before.name
  pub kind : after.provider.kind ≡ before.provider.kind
  pub entries : CanCommit before stages → entries_of after.provider.directory ≡ with_stages (entries_of before.provider.directory) stages

-- commits that are made leave a replica with the stages in effect
pub has_committed : (now : ℕ) (wants : Search) (own after : ProviderNode) (stages : List StoredStage) → commits_all now wants own stages ≡ Ok after → HasCommitted own stages after
has_committed now wants own after stages = by (limit_of now own.provider stages) refl
  where
    by : (limit : Option ℕ) → limit_of now own.provider stages ≡ limit → commits_by now wants own stages limit ≡ Ok after → HasCommitted own stages after
    by None is done =
        let same : with_commits now wants own stages ≡ after = cc in
        subst (HasCommitted own stages) same (record { name = refl; kind = same_kind now stages own.provider; entries = λ can. (writes_of now own stages can).entries is })
    by (Some limit) is done = let never : ⊥ = cc in absurd never

-- and its name
pub committed_name : (now : ℕ) (wants : Search) (own after : ProviderNode) (stages : List StoredStage) → commits_all now wants own stages ≡ Ok after → after.name ≡ own.name
committed_name now wants own after stages is = (has_committed now wants own after stages is).name
