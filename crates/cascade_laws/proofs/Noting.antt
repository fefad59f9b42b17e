-- What holds of a replica's directory after the commits of an event.
use Rattle.std.proofs.Common.{◌≡◌, ◌⊎◌, ◌+◌, ◌≤◌, ℕ, zero, suc, Bool, true, false, Option, Some, None, List, [], ◌∷◌, ◌++◌, length, take, refl, ap, sym, subst, ◌∙◌, inl, inr, arith, append-nil, append_assoc, length-append}
use Rattle.std.proofs.lemmas.Bool.{cases_Bool}
use Rattle.std.proofs.lemmas.List.Concat.{flat_map-cons}
use Rattle.std.proofs.lemmas.Option.{slice_get_within}
use Rattle.std.specs.Option.{option_or}
use Rattle.std.specs.Prelude.{Result, Ok, Err, map, option_map, slice_get, cond, ◌&&◌, ◌==◌}
use Rattle.std.specs.Str.{bytes_eq}
use Rattle.std.proofs.lemmas.List.{take-append-le, take_all}
use Rattle.ldap_constants.specs.declared.result_codes.TheConstants.{E_SYNC_REFRESH_REQUIRED}
use Rattle.csn_cookie.specs.Csn.{CsnValue, start}
use Rattle.csn_cookie.specs.CsnMaker.{next_csn}
use Rattle.dn_names.specs.Names.{TypeAndValue}
use Rattle.entry_tree.specs.Effects.{committed}
use Rattle.entry_tree.specs.Selection.{Search}
use Rattle.entry_tree.specs.declared.op.Op.TheVariants.{Commit}
use Rattle.entry_tree.specs.declared.op.Write.{Write}
use Rattle.sync_wire.proofs.Servable.{CanBeServed, SelectedCanBeServed}
use Rattle.directory_writes.specs.Directory.{DirectoryState, entries_after, entries_of, last_csn}
use Rattle.directory_writes.specs.Commits as directory
use Rattle.directory_writes.specs.declared.commit.DirectoryCommitFault.{DirectoryCommitFault}
use Rattle.directory_writes.specs.declared.commit.DirectoryCommitFault.TheVariants as cause
use Rattle.sync_provider.specs.Committing.{commit_refusal, fault_of}
use Rattle.sync_provider.specs.Machine as machine
use Rattle.sync_provider.specs.Machine.{ProviderState, after_commit}
use Rattle.sync_provider.specs.declared.provider.Kind.TheVariants.{Replica}
use Rattle.cascade_script.specs.declared.fault.Cause.{Cause}
use Rattle.cascade_nodes.specs.declared.node.ProviderNode.{ProviderNode}
use Rattle.cascade_world.specs.Commits.{note_of, with_stage, limit_in, limit_of, with_commits, commits_by, commits_all}
use Rattle.cascade_laws.specs.Headline.{Known, known_after, known_of, Committed, with_stored, with_csn, committed_after, stored_by, stored_of}
use Rattle.cascade_world.specs.Origins.{CommitOrigin}
use Rattle.cascade_world.specs.ReportLines.{Storing, ReportLine, StoredStage, stage_of, stages_in, stages_of}
use Rattle.cascade_world.specs.ReportLines.ReportLine.{Wrote, Opened, Refused, Sent, Taken, Stored, Ended, Faulted, Cut, Nothing, Settled, Holds, Clocked, Shown}
use Rattle.cascade_laws.proofs.Exchanged.{no_time}
use Rattle.cascade_laws.proofs.Feeding.{IsSource, Frame, IsRightOf, LineIsRightOf, LinesAreRightOf, KeepsAll, IsCommitted, CommitIs, CommitsAreKept}
use Rattle.cascade_laws.proofs.Saying.{known_next, stored_more, commits_more, committed_of, committed_time, clock_reported, clock_more}
use Rattle.cascade_world.proofs.SameNames.{itself}
use Rattle.cascade_laws.proofs.Tracking.{noted, HasCommitted}

-- ---- changes one after another

-- what one change and then another keeps, both keep
pub keeps_through : (number : ℕ) (suffix : List (List TypeAndValue)) (p q r : ProviderState) → KeepsAll number suffix p q → KeepsAll number suffix q r → KeepsAll number suffix p r
keeps_through number suffix p q r first second = record {
  source = second.source;
  fed = λ g known fed. second.fed g known (first.fed g known fed);
  opens = λ at s found. let was = second.opens at s found in first.opens at was.0 was.1;
  kind = second.kind ∙ first.kind;
  later = first.later ++ second.later;
  grown = second.grown ∙ ap (λ ws. ws ++ second.later) first.grown ∙ append_assoc p.directory.writes first.later second.later;
}

-- ---- a line that stores nothing

record StoresNone (name : List ℕ) (line : ReportLine) : Type 0 where
  entries : (found : Known) → (known_after name found line).entries ≡ found.entries
  stored : stored_by name line ≡ []
  writes : (history : ℕ) (found : Committed) → (committed_after history name found line).writes ≡ found.writes
  stages : stages_in line ≡ []

-- each other line is one
abbrev IsStoring : ReportLine → Type 0
IsStoring line = (name : List ℕ) × (stored : Storing) × (line ≡ Stored name stored)

either : (name : List ℕ) (line : ReportLine) → IsStoring line ⊎ StoresNone name line
either name (Stored other stored) = inl (other, stored, refl)
either name (Wrote other code writes) = inr record { entries = λ found. refl; stored = refl; writes = λ history found. refl; stages = refl }
either name (Opened other persists writes) =
    inr record {
      entries = λ found. elim (cases_Bool (bytes_eq other name)) [ inl hit ↦ rw hit refl | inr miss ↦ rw miss refl ];
      stored = refl;
      writes = λ history found. refl;
      stages = refl;
    }
either name (Refused other persists code) = inr record { entries = λ found. refused found; stored = refl; writes = λ history found. refl; stages = refl }
  where
    refused : (found : Known) → (known_after name found (Refused other persists code)).entries ≡ found.entries
    refused found = by (bytes_eq other name && code == E_SYNC_REFRESH_REQUIRED)
      where
        by : (b : Bool) → (cond b (record found { cookie = None }) found).entries ≡ found.entries
        by true = refl
        by false = refl
either name (Sent other message) =
    inr record {
      entries = λ found. elim (cases_Bool (bytes_eq other name)) [ inl hit ↦ rw hit refl | inr miss ↦ rw miss refl ];
      stored = refl;
      writes = λ history found. refl;
      stages = refl;
    }
either name (Taken other) = inr record { entries = λ found. refl; stored = refl; writes = λ history found. refl; stages = refl }
either name (Ended other code) = inr record { entries = λ found. refl; stored = refl; writes = λ history found. refl; stages = refl }
either name (Faulted other why) = inr record { entries = λ found. refl; stored = refl; writes = λ history found. refl; stages = refl }
either name (Cut other) = inr record { entries = λ found. refl; stored = refl; writes = λ history found. refl; stages = refl }
either name (Nothing other) = inr record { entries = λ found. refl; stored = refl; writes = λ history found. refl; stages = refl }
either name (Settled other writes) = inr record { entries = λ found. refl; stored = refl; writes = λ history found. refl; stages = refl }
either name (Holds other cookie) =
    inr record {
      entries = λ found. elim (cases_Bool (bytes_eq other name)) [ inl hit ↦ rw hit refl | inr miss ↦ rw miss refl ];
      stored = refl;
      writes = λ history found. refl;
      stages = refl;
    }
either name (Clocked time) = inr record { entries = λ found. refl; stored = refl; writes = λ history found. refl; stages = refl }
either name (Shown other entries) = inr record { entries = λ found. refl; stored = refl; writes = λ history found. refl; stages = refl }

stored_one : (name : List ℕ) (said : List ReportLine) (line : ReportLine) → stored_of name (said ++ line ∷ []) ≡ stored_of name said ++ stored_by name line
stored_one name said line =
    stored_more name said (line ∷ []) ∙ ap (λ s. stored_of name said ++ s) (flat_map-cons (stored_by name) line [] ∙ append-nil (stored_by name line))

stages_one : (line : ReportLine) (lines : List ReportLine) → stages_of (line ∷ lines) ≡ stages_in line ++ stages_of lines
stages_one line lines = flat_map-cons stages_in line lines

-- ---- a replica that commits

-- it is the one of that name, which has committed what was reported so far
pub record IsCommitting (number : ℕ) (suffix : List (List TypeAndValue)) (first : ProviderState) (name : List ℕ) (said : List ReportLine) (own : ProviderNode) : Type 0 where
  pub named : own.name ≡ name
  pub keeps : KeepsAll number suffix first own.provider
  pub has : HasCommitted number said name own.notes own.provider.directory.writes

abbrev pub CommittingIn : ℕ → List (List TypeAndValue) → ProviderState → List ℕ → List ReportLine → Result ProviderNode Cause → Type 0
CommittingIn number suffix first name said (Ok own) = IsCommitting number suffix first name said own
CommittingIn number suffix first name said (Err cause) = Unit {0}

-- with a line that stores nothing
none_more : (number : ℕ) (name : List ℕ) (said : List ReportLine) (line : ReportLine) (notes : List CommitOrigin) (writes : List Write) → StoresNone name line → HasCommitted number said name notes writes → HasCommitted number (said ++ line ∷ []) name notes writes
none_more number name said line notes writes none is =
    let same : stored_of name (said ++ line ∷ []) ≡ stored_of name said = stored_one name said line ∙ ap (λ s. stored_of name said ++ s) none.stored ∙ append-nil (stored_of name said) in
    record {
      commits = is.commits ∙ sym (commits_more number name said (line ∷ []) ∙ none.writes number (committed_of number name said));
      notes_are = is.notes_are ∙ ap (λ s. map noted s) (sym same);
      held = is.held ∙ sym (ap (λ (k : Known). k.entries) (known_next name said line) ∙ none.entries (known_of name said));
      counted = is.counted ∙ ap length (sym same);
      each = λ at stored e. is.each at stored (ap (λ s. slice_get s at) (sym same) ∙ e);
    }

-- the last of one more
last_or_before : (all : List Storing) (last one : Storing) (at : ℕ) → slice_get (all ++ last ∷ []) at ≡ Some one → (slice_get all at ≡ Some one) ⊎ ((at ≡ length all) × (last ≡ one))
last_or_before [] last one zero e = let same : last ≡ one = cc in inr (refl, same)
last_or_before [] last one (suc at) e = let bad : None ≡ Some one = e in let never : ⊥ = cc in absurd never
last_or_before (s ∷ all) last one zero e = inl e
last_or_before (s ∷ all) last one (suc at) e =
    elim (last_or_before all last one at e) [
      | inl was ↦ inl was
      | inr new ↦ inr (ap suc new.0, new.1)
    ]

map-last : (all : List Storing) (last : Storing) → map noted (all ++ last ∷ []) ≡ map noted all ++ noted last ∷ []
map-last [] last = refl
map-last (s ∷ all) last = ap (λ l. noted s ∷ l) (map-last all last)

-- with one that stores something
one_more : (number : ℕ) (name : List ℕ) (said : List ReportLine) (stored : Storing) (search : Search) (now : ℕ) (csn : CsnValue) (notes : List CommitOrigin) (writes next : List Write) → stored.search ≡ search → now ≡ clock_reported said
    → next_csn now (last_csn (start number) writes) ≡ Some csn → next ≡ writes ++ record { csn = csn; op = Commit stored.commit.puts stored.commit.drops } ∷ []
    → entries_after number next ≡ stored.entries → HasCommitted number said name notes writes
    → HasCommitted number (said ++ Stored name stored ∷ []) name (notes ++ record { search = search; origin = stored.origin } ∷ []) next
one_more number name said stored search now csn notes writes next wanted clock drawn one left is =
    let line' = Stored name stored in
    let all = stored_of name said in
    let hit = itself name in
    let own : stored_by name line' ≡ stored ∷ [] = rw hit refl in
    let same : stored_of name (said ++ line' ∷ []) ≡ all ++ stored ∷ [] = stored_one name said line' ∙ ap (λ s. all ++ s) own in
    let known = committed_of number name said in
    let time : known.time ≡ now = committed_time number name said ∙ sym clock in
    let stamped : with_stored number known.time known.writes stored.commit ≡ next =
    ap (λ t. with_stored number t known.writes stored.commit) time ∙ ap (λ ws. with_stored number now ws stored.commit) (sym is.commits) ∙ ap (with_csn writes stored.commit) drawn ∙ sym one in
    let after : (committed_after number name known line').writes ≡ with_stored number known.time known.writes stored.commit = rw hit refl in
    let held' : (known_after name (known_of name said) line').entries ≡ stored.entries = rw hit refl in
    let long : length next ≡ length writes + 1 = ap length one ∙ length-append writes _ in
    let counted = is.counted in
    record {
      commits = sym (commits_more number name said (line' ∷ []) ∙ after ∙ stamped);
      notes_are =
          ap (λ ns. ns ++ record { search = search; origin = stored.origin } ∷ []) is.notes_are
          ∙ ap (λ s. map noted all ++ record { search = s; origin = stored.origin } ∷ []) (sym wanted) ∙ sym (map-last all stored) ∙ ap (λ s. map noted s) (sym same);
      held = left ∙ sym (ap (λ (k : Known). k.entries) (known_next name said line') ∙ held');
      counted = long ∙ ap (λ n. n + 1) counted ∙ sym (ap length same ∙ length-append all (stored ∷ []));
      each =
          λ at other e. by at other (last_or_before all stored other at (ap (λ s. slice_get s at) (sym same) ∙ e));
    }
  where
    by : (at : ℕ) (other : Storing) → (slice_get (stored_of name said) at ≡ Some other) ⊎ ((at ≡ length (stored_of name said)) × (stored ≡ other)) → entries_after number (take (at + 1) next) ≡ other.entries
    by at other (inl was) =
        let low = slice_get_within (stored_of name said) at other was in
        let counted = is.counted in
        let short : at + 1 ≤ length writes = omega (arith, low, counted) in
        ap (λ ws. entries_after number (take (at + 1) ws)) one ∙ ap (entries_after number) (take-append-le (at + 1) writes _ short) ∙ is.each at other was
    by at other (inr new) =
        let counted = is.counted in
        let long : length next ≡ length writes + 1 = ap length one ∙ length-append writes _ in
        let whole : length next ≤ at + 1 = omega (arith, long, counted, new.0) in
        ap (entries_after number) (take_all (at + 1) next whole) ∙ left ∙ ap (λ (s : Storing). s.entries) new.1

module _ (kept : CommitsAreKept) (selected : SelectedCanBeServed) (number : ℕ) (suffix : List (List TypeAndValue)) (first : ProviderState) (replica : first.kind ≡ Replica) (name : List ℕ) (now : ℕ) (search : Search)
    (from : ℕ) (frame : Frame) (good : (count : ℕ) → CanBeServed (entries_after from (take count frame.writes))) (named : frame.name ≡ name) (wants : frame.spec ≡ search) where
  -- what is stored can be kept
  served : (known : Known) (stored : Storing) → IsRightOf from frame known stored → CanBeServed stored.entries
  served known stored is = subst CanBeServed (sym is.exactly) (selected frame.spec (entries_after from (take stored.number frame.writes)) (good stored.number))

  -- what rejects the commits of some stages: nothing, or a limit
  abbrev CommittingBy : List ReportLine → ProviderNode → List StoredStage → Option ℕ → Type 0
  CommittingBy said own stages None = IsCommitting number suffix first name said (with_commits now search own stages)
  CommittingBy said own stages (Some limit) = Unit {0}

  -- so it is with these stages, which leave what was reported by then
  abbrev AreCommitting : List ReportLine → ProviderNode → List StoredStage → Type 0
  AreCommitting said own stages = CommittingBy said own stages (limit_of now own.provider stages)

  -- the replica after one of them
  abbrev with_one : ProviderNode → StoredStage → ProviderNode
  with_one own stage = record own {
    provider = with_stage now own.provider stage;
    notes = own.notes ++ note_of search stage ∷ [];
  }

  one_before : (said : List ReportLine) (own : ProviderNode) (stage : StoredStage) (stages : List StoredStage) (limit : Option ℕ) → CommittingBy said (with_one own stage) stages limit → CommittingBy said own (stage ∷ stages) limit
  one_before said own stage stages None is =
      subst (λ ns. IsCommitting number suffix first name said (record own { provider = (with_commits now search (with_one own stage) stages).provider; notes = ns }))
      (append_assoc own.notes (note_of search stage ∷ []) (map (note_of search) stages)) is
  one_before said own stage stages (Some limit) is = tt

  -- one stage, and those after it
  stage_commits : (said : List ReportLine) (own : ProviderNode) (stored : Storing) (later : List ReportLine) (stages : List StoredStage) → now ≡ clock_reported said → IsRightOf from frame (known_of name said) stored
      → IsCommitting number suffix first name said own
      → (IsCommitting number suffix first name (said ++ Stored name stored ∷ []) (with_one own (stage_of stored)) → AreCommitting later (with_one own (stage_of stored)) stages)
      → AreCommitting later own (stage_of stored ∷ stages)
  stage_commits said own stored later stages clock is_right committing beyond =
      by (directory.commit_refusal p.directory stored.commit.puts stored.commit.drops now) refl
    where
      p : ProviderState
      p = own.provider

      kind : p.kind ≡ Replica
      kind = committing.keeps.kind ∙ replica

      -- what is in the directory is what the lines reported
      here : (q : ProviderState) → IsSource number suffix q → entries_of q.directory ≡ entries_after number q.directory.writes
      here q source = ap (λ n. entries_after n q.directory.writes) (ap (λ (d : DirectoryState). d.history) source.directory)

      left : committed (entries_of p.directory) stored.commit.puts stored.commit.drops ≡ stored.entries
      left = ap (λ es. committed es stored.commit.puts stored.commit.drops) (here p committing.keeps.source ∙ committing.has.held) ∙ is_right.staged

      can : CanBeServed (committed (entries_of p.directory) stored.commit.puts stored.commit.drops)
      can = subst CanBeServed (sym left) (served (known_of name said) stored is_right)

      stage : StoredStage
      stage = stage_of stored

      at_replica : (r : Option DirectoryCommitFault) → directory.commit_refusal p.directory stored.commit.puts stored.commit.drops now ≡ r → commit_refusal p.kind p.directory stored.commit.puts stored.commit.drops now ≡ option_map fault_of r
      at_replica r is = ap (λ k. commit_refusal k p.directory stored.commit.puts stored.commit.drops now) kind ∙ ap (option_map fault_of) is

      commit_is : (r : Option DirectoryCommitFault) → directory.commit_refusal p.directory stored.commit.puts stored.commit.drops now ≡ r → CommitIs number suffix p stored.commit.puts stored.commit.drops now (option_map fault_of r)
      commit_is r is = subst (CommitIs number suffix p stored.commit.puts stored.commit.drops now) (at_replica r is) (kept number suffix p stored.commit.puts stored.commit.drops now committing.keeps.source kind can)

      limit_is : (r : Option DirectoryCommitFault) → directory.commit_refusal p.directory stored.commit.puts stored.commit.drops now ≡ r → limit_of now p (stage ∷ stages) ≡ option_or (limit_in r) (limit_of now (with_stage now p stage) stages)
      limit_is r is = ap (λ found. option_or (limit_in found) (limit_of now (with_stage now p stage) stages)) is

      here_is : (r : Option DirectoryCommitFault) → directory.commit_refusal p.directory stored.commit.puts stored.commit.drops now ≡ r
          → CommittingBy later own (stage ∷ stages) (option_or (limit_in r) (limit_of now (with_stage now p stage) stages)) → AreCommitting later own (stage ∷ stages)
      here_is r is = subst (CommittingBy later own (stage ∷ stages)) (sym (limit_is r is))

      by : (r : Option DirectoryCommitFault) → directory.commit_refusal p.directory stored.commit.puts stored.commit.drops now ≡ r → AreCommitting later own (stage ∷ stages)
      by None is =
          let same : machine.committed p stored.commit.puts stored.commit.drops now ≡ with_stage now p stage = ap (after_commit p (Commit stored.commit.puts stored.commit.drops) now) (at_replica None is) in
          let q = with_stage now p stage in
          let done = subst (λ r. IsCommitted number suffix p r stored.commit.puts stored.commit.drops now) same (commit_is None is) in
          here_is None is
          (one_before later own stage stages (limit_of now q stages) (beyond (record {
            named = committing.named;
            keeps = keeps_through number suffix first p q committing.keeps done.keeps;
            has =
                one_more number name said stored search now done.csn own.notes p.directory.writes q.directory.writes (is_right.wanted ∙ wants) clock done.drawn done.one
                (sym (here q done.keeps.source) ∙ done.entries ∙ left) committing.has;
          })))
      by (Some (cause.LimitReached limit)) is = here_is (Some (cause.LimitReached limit)) is tt
      by (Some (cause.DuplicateName one other)) is = absurd (commit_is (Some (cause.DuplicateName one other)) is)
      by (Some cause.NoMemory) is = absurd (commit_is (Some cause.NoMemory) is)

  -- a line that stores something is a commit, and no other line is one
  line_by : (line : ReportLine) (lines said : List ReportLine) (own : ProviderNode) → now ≡ clock_reported said → LinesAreRightOf from frame (known_of name said) (line ∷ lines)
      → IsCommitting number suffix first name said own
      → ((own' : ProviderNode) → now ≡ clock_reported (said ++ line ∷ []) → LinesAreRightOf from frame (known_of name (said ++ line ∷ [])) lines
      → IsCommitting number suffix first name (said ++ line ∷ []) own' → AreCommitting ((said ++ line ∷ []) ++ lines) own' (stages_of lines))
      → AreCommitting (said ++ line ∷ lines) own (stages_of (line ∷ lines))
  line_by line lines said own clock is committing rest = by (either name line)
    where
      right : LinesAreRightOf from frame (known_of name (said ++ line ∷ [])) lines
      right = subst (λ k. LinesAreRightOf from frame k lines) (ap (λ n. known_after n (known_of name said) line) named ∙ sym (known_next name said line)) is.1

      beyond : (own' : ProviderNode) → IsCommitting number suffix first name (said ++ line ∷ []) own' → AreCommitting (said ++ line ∷ lines) own' (stages_of lines)
      beyond own' done =
          subst (λ s. AreCommitting s own' (stages_of lines)) (append_assoc said (line ∷ []) lines)
          (rest own' (clock ∙ sym (clock_more said (line ∷ []) (λ time. no_time from frame (known_of name said) line is.0 time))) right done)

      by : IsStoring line ⊎ StoresNone name line → AreCommitting (said ++ line ∷ lines) own (stages_of (line ∷ lines))
      by (inl storing) =
          let is' : LineIsRightOf from frame (known_of name said) (Stored storing.0 storing.1) = subst (LineIsRightOf from frame (known_of name said)) storing.2 is.0 in
          let same : line ≡ Stored name storing.1 = storing.2 ∙ ap (λ n. Stored n storing.1) (is'.0 ∙ named) in
          let one : stages_of (line ∷ lines) ≡ stage_of storing.1 ∷ stages_of lines = stages_one line lines ∙ ap (λ l. stages_in l ++ stages_of lines) same in
          subst (AreCommitting (said ++ line ∷ lines) own) (sym one)
          (stage_commits said own storing.1 (said ++ line ∷ lines) (stages_of lines) clock is'.1 committing
          (λ done. beyond (with_one own (stage_of storing.1)) (subst (λ l. IsCommitting number suffix first name (said ++ l ∷ []) (with_one own (stage_of storing.1))) (sym same) done)))
      by (inr none) =
          let one : stages_of (line ∷ lines) ≡ stages_of lines = stages_one line lines ∙ ap (λ s. s ++ stages_of lines) none.stages in
          subst (AreCommitting (said ++ line ∷ lines) own) (sym one)
          (beyond own (record { named = committing.named; keeps = committing.keeps; has = none_more number name said line own.notes own.provider.directory.writes none committing.has }))

  -- the lines of an event, of which each that stores something is a commit
  lines_by : (lines said : List ReportLine) (own : ProviderNode) → now ≡ clock_reported said → LinesAreRightOf from frame (known_of name said) lines → IsCommitting number suffix first name said own
      → AreCommitting (said ++ lines) own (stages_of lines)
  lines_by [] said own clock is committing =
      subst (λ s. IsCommitting number suffix first name s (with_commits now search own [])) (sym (append-nil said))
      (subst (λ ns. IsCommitting number suffix first name said (record own { notes = ns })) (sym (append-nil own.notes)) committing)
  lines_by (line ∷ lines) said own clock is committing =
      line_by line lines said own clock is committing (λ own'. lines_by lines (said ++ line ∷ []) own')

  -- after the lines of an event the replica has committed each stage that they report
  pub lines_commit : (lines said : List ReportLine) (own : ProviderNode) → now ≡ clock_reported said → LinesAreRightOf from frame (known_of name said) lines → IsCommitting number suffix first name said own
      → CommittingIn number suffix first name (said ++ lines) (commits_all now search own (stages_of lines))
  lines_commit lines said own clock is committing = by (limit_of now own.provider (stages_of lines)) (lines_by lines said own clock is committing)
    where
      by : (limit : Option ℕ) → CommittingBy (said ++ lines) own (stages_of lines) limit → CommittingIn number suffix first name (said ++ lines) (commits_by now search own (stages_of lines) limit)
      by None done = done
      by (Some limit) done = tt
