-- Commits that are ready, one after another.
use Rattle.std.proofs.Common.{◌≡◌, ℕ, suc, ◌+◌, ◌<◌, ◌≤◌, Bool, true, List, [], ◌∷◌, ◌++◌, None, length, drop, get_or, refl, ap, sym, subst, ◌∙◌, arith}
use Rattle.std.specs.Prelude.{Ok, sum_by}
use Rattle.std.specs.List.{list_all}
use Rattle.std.specs.Option.{option_or}
use Rattle.std.proofs.Math.Seq.{drop-cons}
use Rattle.std.proofs.lemmas.Bool.{and_parts}
use Rattle.std.proofs.lemmas.List.{append-nil, append_assoc, drop_all, length_push}
use Rattle.std.proofs.lemmas.List.Sums.{sum_by-cons}
use Rattle.csn_cookie.specs.Cookie.{cookie_text}
use Rattle.entry_tree.specs.Fitting.{is_within_entry_limit}
use Rattle.entry_tree.specs.Sound.{is_sound_put}
use Rattle.entry_tree.specs.declared.op.Op.{Op}
use Rattle.entry_tree.specs.declared.op.Op.TheVariants.{Commit}
use Rattle.directory_writes.specs.Commits.{IsCommitPreview, Rejects}
use Rattle.directory_writes.specs.Commits as directory
use Rattle.directory_writes.specs.Directory.{DirectoryState, DirectoryWithRoom, IsPreview, IsStanding, cookie_at, with_judged, with_write, written}
use Rattle.directory_writes.specs.Ready.{IsReadyWrite}
use Rattle.directory_writes.specs.Standing.{StandingState, standing_after}
use Rattle.directory_writes.specs.declared.commit.DirectoryCommitFault.{DirectoryCommitFault}
use Rattle.directory_writes.proofs.Commits.{first_opposed, plan_judged, plan_planned, plan_unopposed}
use Rattle.directory_writes.proofs.Writes.{ready_is}
use Rattle.sync_provider.specs.Committing.{first_refusal}
use Rattle.sync_provider.specs.ReadyCommits.{after_each, all_staged, note_count, write_of, AreReady, AreReadyCommits, IsReadyCommit}
use Rattle.sync_provider.specs.Staging.{HeldSearch, each_staged}
use Rattle.sync_provider.specs.declared.committing.StagedCommit.{StagedCommit}
use Rattle.sync_provider.specs.declared.ready_commit.ReadyCommit.{ReadyCommit}

-- ---- one commit

-- a commit is ready where nothing rejects it by what is kept beside the writes, and this is kept after it
pub ready_commit_is : (d : DirectoryState) (s : StandingState) (now : ℕ) (commit : ReadyCommit) (staged : StagedCommit) → IsStanding d s → list_all is_sound_put staged.puts ≡ true → list_all is_within_entry_limit staged.puts ≡ true
    → IsCommitPreview s staged.puts staged.drops now commit.ready.preview → commit.op ≡ Commit staged.puts staged.drops → commit.ready.after ≡ standing_after s commit.op commit.ready.preview → IsReadyCommit d now commit staged
ready_commit_is d s now commit staged is sound light plan same after = record {
  op = same;
  ready = subst (λ (op : Op). IsReadyWrite d op commit.ready) (sym same) (ready_is d s (Commit staged.puts staged.drops) commit.ready.preview commit.ready is planned refl
      (after ∙ ap (λ (op : Op). standing_after s op commit.ready.preview) same));
  unopposed = plan_unopposed d s staged.puts staged.drops now commit.ready.preview is plan;
  judged = plan_judged d s staged.puts staged.drops now commit.ready.preview is plan ∙ (λ i. Ok (record { csn = commit.ready.preview.csn; op = sym same i }));
}
  where
    planned : IsPreview d (Commit staged.puts staged.drops) commit.ready.preview
    planned = plan_planned d s staged.puts staged.drops now commit.ready.preview is plan sound light

-- ---- some commits

-- each of them is a ready write
pub are_ready : (now : ℕ) (d : DirectoryState) (each : List ReadyCommit) (commits : List StagedCommit) → AreReadyCommits now d each commits → AreReady d each
are_ready now d [] commits are = tt
are_ready now d (commit ∷ each) [] are = absurd are
are_ready now d (commit ∷ each) (staged ∷ commits) are = (are.0.ready, are_ready now (with_write d (write_of commit)) each commits are.1)

-- there are as many as stages
pub as_many_ready : (now : ℕ) (d : DirectoryState) (each : List ReadyCommit) (commits : List StagedCommit) → AreReadyCommits now d each commits → length each ≡ length commits
as_many_ready now d [] [] are = refl
as_many_ready now d [] (staged ∷ commits) are = absurd are
as_many_ready now d (commit ∷ each) [] are = absurd are
as_many_ready now d (commit ∷ each) (staged ∷ commits) are = ap suc (as_many_ready now (with_write d (write_of commit)) each commits are.1)

-- each adds its write
pub after_length : (d : DirectoryState) (each : List ReadyCommit) → length (after_each d each).writes ≡ length d.writes + length each
after_length d [] = omega arith
after_length d (commit ∷ each) = omega (arith, after_length (with_write d (write_of commit)) each, length_push d.writes (write_of commit))

-- ---- one commit more

-- it is ready on what the others leave
pub are_ready-push : (now : ℕ) (d : DirectoryState) (each : List ReadyCommit) (commits : List StagedCommit) (commit : ReadyCommit) (staged : StagedCommit) → AreReadyCommits now d each commits
    → IsReadyCommit (after_each d each) now commit staged → AreReadyCommits now d (each ++ commit ∷ []) (commits ++ staged ∷ [])
are_ready-push now d [] [] commit staged are is = (is, tt)
are_ready-push now d [] (other ∷ commits) commit staged are is = absurd are
are_ready-push now d (first ∷ each) [] commit staged are is = absurd are
are_ready-push now d (first ∷ each) (other ∷ commits) commit staged are is = (are.0, are_ready-push now (with_write d (write_of first)) each commits commit staged are.1 is)

-- its messages stand after those of the others
pub all_staged-push : (sid history : ℕ) (each : List ReadyCommit) (commit : ReadyCommit) (held : List (ℕ × HeldSearch))
    → all_staged sid history (each ++ commit ∷ []) held
    ≡ each_staged commit.ready.preview.touched (cookie_text (cookie_at sid history commit.ready.preview.csn)) (all_staged sid history each held)
all_staged-push sid history [] commit held = refl
all_staged-push sid history (first ∷ each) commit held =
    all_staged-push sid history each commit (each_staged first.ready.preview.touched (cookie_text (cookie_at sid history first.ready.preview.csn)) held)

-- what is kept after the last of them is kept after all
pub last_stands : (d : DirectoryState) (each rest : List ReadyCommit) (last : ReadyCommit) → each ≡ rest ++ last ∷ [] → AreReady d each → IsStanding (after_each d each) last.ready.after
last_stands d each rest last is are =
    subst (λ (all : List ReadyCommit). IsStanding (after_each d all) last.ready.after) (sym is) (by d rest (subst (AreReady d) is are))
  where
    by : (d : DirectoryState) (rest : List ReadyCommit) → AreReady d (rest ++ last ∷ []) → IsStanding (after_each d (rest ++ last ∷ [])) last.ready.after
    by d [] are = are.0.after
    by d (first ∷ rest) are = by (with_write d (write_of first)) rest are.1

-- without them that of the directory is
pub none_stands : (d : DirectoryState) (each : List ReadyCommit) (s : StandingState) → length each ≡ 0 → IsStanding d s → IsStanding (after_each d each) s
none_stands d [] s none is = is
none_stands d (commit ∷ each) s none is = absurd (omega (arith, none))

-- ---- what rejects them

-- what rejects a list of commits, the first of which are ready, rejects the others after these
pub first_past : (now : ℕ) (d : DirectoryState) (each : List ReadyCommit) (commits more : List StagedCommit) → AreReadyCommits now d each commits
    → first_refusal d (commits ++ more) now ≡ first_refusal (after_each d each) more now
first_past now d [] [] more are = refl
first_past now d [] (staged ∷ commits) more are = absurd are
first_past now d (commit ∷ each) [] more are = absurd are
first_past now d (commit ∷ each) (staged ∷ commits) more are =
    ap (λ found. option_or found (first_refusal (written d (Commit staged.puts staged.drops) now) (commits ++ more) now)) are.0.unopposed
    ∙ ap (λ outcome. first_refusal (with_judged d outcome) (commits ++ more) now) are.0.judged
    ∙ first_past now (with_write d (write_of commit)) each commits more are.1

-- nothing rejects commits that are ready
pub all_unopposed : (now : ℕ) (d : DirectoryState) (each : List ReadyCommit) (commits : List StagedCommit) → AreReadyCommits now d each commits → first_refusal d commits now ≡ None
all_unopposed now d each commits are = ap (λ all. first_refusal d all now) (sym (append-nil commits)) ∙ first_past now d each commits [] are

-- what rejects one where those before it are ready rejects them all
pub all_opposed : (now : ℕ) (d : DirectoryState) (each : List ReadyCommit) (commits before after : List StagedCommit) (staged : StagedCommit) (fault : DirectoryCommitFault) → AreReadyCommits now d each before
    → before ++ staged ∷ after ≡ commits → Rejects (directory.commit_refusal (after_each d each) staged.puts staged.drops now) fault → Rejects (first_refusal d commits now) fault
all_opposed now d each commits before after staged fault are whole against =
    subst (λ found. Rejects found fault) (sym (first_past now d each before (staged ∷ after) are) ∙ ap (λ all. first_refusal d all now) whole)
    (first_opposed (directory.commit_refusal (after_each d each) staged.puts staged.drops now)
    (first_refusal (written (after_each d each) (Commit staged.puts staged.drops) now) after now) fault against)

-- ---- one after another

-- what is left of a list at a place begins with what stands there
pub left_is : {X : Type 0} (xs : List X) (k : ℕ) (x : X) → k < length xs → x ≡ get_or xs k x → drop k xs ≡ x ∷ drop (suc k) xs
left_is xs k x low is = drop-cons xs k x low ∙ ap (λ y. y ∷ drop (suc k) xs) (sym is)

-- what holds of those that are left holds of the first of them, and of the others
pub first_holds : {X : Type 0} (f : X → Bool) (x : X) (left others : List X) → left ≡ x ∷ others → list_all f left ≡ true → (f x ≡ true) × (list_all f others ≡ true)
first_holds f x left others is each = and_parts (f x) (list_all f others) (sym (ap (list_all f) is) ∙ each)

-- what is done and what is left are the whole, also after one more
pub whole_next : {X : Type 0} (all done left others : List X) (x : X) → left ≡ x ∷ others → done ++ left ≡ all → (done ++ x ∷ []) ++ others ≡ all
whole_next all done left others x is whole = append_assoc done (x ∷ []) others ∙ ap (λ rest. done ++ rest) (sym is) ∙ whole

-- commits that are left may be put in place, and lead to what all lead to
pub record PutsOn (each : List ReadyCommit) (first now : DirectoryWithRoom) (left : List ReadyCommit) : Type 0 where
  pub are : AreReady now.state left
  pub state : after_each now.state left ≡ after_each first.state each
  pub room : length left ≤ now.room
  pub spare : sum_by note_count left ≤ now.spare

-- the first of them may
pub puts_first : (each left others : List ReadyCommit) (first now : DirectoryWithRoom) (commit : ReadyCommit) → left ≡ commit ∷ others → PutsOn each first now left
    → IsReadyWrite now.state commit.op commit.ready × (0 < now.room) × (note_count commit ≤ now.spare)
puts_first each left others first now commit is on =
    let many : length left ≡ suc (length others) = ap (λ (all : List ReadyCommit). length all) is in
    let notes : sum_by note_count left ≡ note_count commit + sum_by note_count others = ap (sum_by note_count) is ∙ sum_by-cons note_count commit others in
    ((subst (AreReady now.state) is on.are).0, omega (arith, many, on.room), omega (arith, notes, on.spare))

-- and then the others
pub puts_next : (each left others : List ReadyCommit) (first before after : DirectoryWithRoom) (commit : ReadyCommit) → left ≡ commit ∷ others → PutsOn each first before left
    → after.state ≡ with_write before.state (write_of commit) → before.room ≤ after.room + 1 → before.spare ≤ after.spare + note_count commit → PutsOn each first after others
puts_next each left others first before after commit is on made room spare =
    let many : length left ≡ suc (length others) = ap (λ (all : List ReadyCommit). length all) is in
    let notes : sum_by note_count left ≡ note_count commit + sum_by note_count others = ap (sum_by note_count) is ∙ sum_by-cons note_count commit others in
    record {
      are = subst (λ (d : DirectoryState). AreReady d others) (sym made) (subst (AreReady before.state) is on.are).1;
      state = ap (λ (d : DirectoryState). after_each d others) made ∙ sym (ap (after_each before.state) is) ∙ on.state;
      room = omega (arith, many, on.room, room);
      spare = omega (arith, notes, on.spare, spare);
    }

-- until none is left
pub puts_end : (each : List ReadyCommit) (first now : DirectoryWithRoom) (k : ℕ) → length each ≤ k → PutsOn each first now (drop k each) → now.state ≡ after_each first.state each
puts_end each first now k all on = ap (after_each now.state) (sym (drop_all k each all)) ∙ on.state
