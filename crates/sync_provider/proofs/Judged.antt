-- What holds of a directory's writes over every list of calls.
use Rattle.std.proofs.Common.{◌≡◌, ℕ, true, false, List, [], ◌∷◌, Option, Some, None, refl, ◌∙◌}
use Rattle.std.specs.Prelude.{not}
use Rattle.std.specs.List.{list_all}
use Rattle.std.proofs.lemmas.Bool.{and_parts, not-true}
use Rattle.entry_tree.specs.Fitting.{is_within_entry_limit}
use Rattle.entry_tree.specs.Sound.{is_commit, is_sound_op, is_sound_put}
use Rattle.entry_tree.specs.declared.entry.Entry.{Entry}
use Rattle.entry_tree.specs.declared.op.Op.{Op}
use Rattle.entry_tree.specs.declared.op.Op.TheVariants.{Commit}
use Rattle.directory_writes.specs.Directory.{DirectoryState, entries_of, judged, with_judged}
use Rattle.directory_writes.proofs.Commits.{plain_fits, commit_open}
use Rattle.directory_writes.proofs.Judged.{HasAccepted, HasRisen, judged_accepted, judged_rises, IsSameDirectory, judged_same}
use Rattle.sync_provider.specs.Law.{is_sound_call}
use Rattle.sync_provider.specs.Committing.{commit_refusal}
use Rattle.sync_provider.specs.Machine.{ProviderState, ProviderCall, judged_by, after_commit, committed, called, run}
use Rattle.sync_provider.specs.Machine.ProviderCall.{Writes, Commits, Accepts, HandsOut, Drops, SetsLogLimit, SetsQueueLimit}
use Rattle.sync_provider.specs.declared.provider.Kind.{Kind}
use Rattle.sync_provider.specs.declared.provider.Kind.TheVariants.{Root, Replica}
use Rattle.sync_provider.specs.declared.writing.CommitFault.{CommitFault}
use Rattle.sync_provider.proofs.Commits.{commit_case, unopposed}

-- ---- writes

-- a write of a client, which a replica refuses
asked_accepted : (kind : Kind) (d : DirectoryState) (op : Op) (now : ℕ) → is_sound_op op ≡ true → is_commit op ≡ false → HasAccepted d → HasAccepted (with_judged d (judged_by kind d op now))
asked_accepted Root d op now sound plain each = judged_accepted d op now (judged d op now) refl sound (plain_fits (entries_of d) op plain) each
asked_accepted Replica d op now sound plain each = each

asked_rises : (kind : Kind) (d : DirectoryState) (op : Op) (now : ℕ) → HasRisen d → HasRisen (with_judged d (judged_by kind d op now))
asked_rises Root d op now rise = judged_rises d op now (judged d op now) refl rise
asked_rises Replica d op now rise = rise

commit_accepted : (p : ProviderState) (puts : List Entry) (drops : List ℕ) (now : ℕ) → list_all is_sound_put puts ≡ true → list_all is_within_entry_limit puts ≡ true → HasAccepted p.directory
    → HasAccepted (committed p puts drops now).directory
commit_accepted p puts drops now sound light each = by (commit_refusal p.kind p.directory puts drops now) refl
  where
    by : (refusal : Option CommitFault) → commit_refusal p.kind p.directory puts drops now ≡ refusal → HasAccepted (after_commit p (Commit puts drops) now refusal).directory
    by None none =
        judged_accepted p.directory (Commit puts drops) now (judged p.directory (Commit puts drops) now) refl sound
        ((commit_open p.directory puts drops now (unopposed p.kind p.directory puts drops now none)).fitting light) each
    by (Some fault) is = each

-- ---- all calls

called_accepted : (p : ProviderState) (call : ProviderCall) → is_sound_call call ≡ true → HasAccepted p.directory → HasAccepted (called p call).directory
called_accepted p (Writes op now) sound each =
    let parts = and_parts (is_sound_op op) (not (is_commit op)) sound in
    asked_accepted p.kind p.directory op now parts.0 (not-true (is_commit op) parts.1) each
called_accepted p (Commits puts drops now) sound each =
    let parts = and_parts (list_all is_sound_put puts) (list_all is_within_entry_limit puts) sound in
    commit_accepted p puts drops now parts.0 parts.1 each
called_accepted p (Accepts ask) sound each = each
called_accepted p (HandsOut number) sound each = each
called_accepted p (Drops number) sound each = each
called_accepted p (SetsLogLimit limit) sound each = each
called_accepted p (SetsQueueLimit limit) sound each = each

called_rises : (p : ProviderState) (call : ProviderCall) → HasRisen p.directory → HasRisen (called p call).directory
called_rises p (Writes op now) rise = asked_rises p.kind p.directory op now rise
called_rises p (Commits puts drops now) rise =
    commit_case (λ q. HasRisen q.directory) p (Commit puts drops) now (commit_refusal p.kind p.directory puts drops now) rise
    (judged_rises p.directory (Commit puts drops) now (judged p.directory (Commit puts drops) now) refl rise)
called_rises p (Accepts ask) rise = rise
called_rises p (HandsOut number) rise = rise
called_rises p (Drops number) rise = rise
called_rises p (SetsLogLimit limit) rise = rise
called_rises p (SetsQueueLimit limit) rise = rise

-- sound calls leave writes that were accepted
pub run_accepted : (calls : List ProviderCall) (p : ProviderState) → list_all is_sound_call calls ≡ true → HasAccepted p.directory → HasAccepted (run p calls).directory
run_accepted [] p sound each = each
run_accepted (call ∷ calls) p sound each =
    let parts = and_parts (is_sound_call call) (list_all is_sound_call calls) sound in
    run_accepted calls (called p call) parts.1 (called_accepted p call parts.0 each)

-- calls leave CSNs that rise
pub run_rises : (calls : List ProviderCall) (p : ProviderState) → HasRisen p.directory → HasRisen (run p calls).directory
run_rises [] p rise = rise
run_rises (call ∷ calls) p rise = run_rises calls (called p call) (called_rises p call rise)

-- ---- what no call changes

called_same : (p : ProviderState) (call : ProviderCall) → IsSameDirectory p.directory (called p call).directory
called_same p (Writes op now) = judged_same p.directory (judged_by p.kind p.directory op now)
called_same p (Commits puts drops now) =
    commit_case (λ q. IsSameDirectory p.directory q.directory) p (Commit puts drops) now (commit_refusal p.kind p.directory puts drops now)
    (record { suffix = refl; sid = refl; history = refl }) (judged_same p.directory (judged p.directory (Commit puts drops) now))
called_same p (Accepts ask) = record { suffix = refl; sid = refl; history = refl }
called_same p (HandsOut number) = record { suffix = refl; sid = refl; history = refl }
called_same p (Drops number) = record { suffix = refl; sid = refl; history = refl }
called_same p (SetsLogLimit limit) = record { suffix = refl; sid = refl; history = refl }
called_same p (SetsQueueLimit limit) = record { suffix = refl; sid = refl; history = refl }

-- suffix, history and server id
pub run_same : (calls : List ProviderCall) (p : ProviderState) → IsSameDirectory p.directory (run p calls).directory
run_same [] p = record { suffix = refl; sid = refl; history = refl }
run_same (call ∷ calls) p =
    let first = called_same p call in
    let later = run_same calls (called p call) in
    record { suffix = later.suffix ∙ first.suffix; sid = later.sid ∙ first.sid; history = later.history ∙ first.history }
