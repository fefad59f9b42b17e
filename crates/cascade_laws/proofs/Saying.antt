-- The lines of others leave what a node's own lines have reported.
use Rattle.std.proofs.Common.{◌≡◌, ℕ, true, false, List, [], ◌∷◌, ◌++◌, refl, ap, sym, subst, ◌∙◌, inl, inr, append-nil}
use Rattle.std.proofs.lemmas.Bool.{cases_Bool}
use Rattle.std.proofs.lemmas.List.Concat.{flat_map-append, flat_map-cons}
use Rattle.std.proofs.lemmas.List.Sums.{fold-append}
use Rattle.std.specs.List.{fold}
use Rattle.std.specs.Str.{bytes_eq}
use Rattle.entry_tree.specs.declared.entry.Entry.{Entry}
use Rattle.entry_tree.proofs.NameKeys.{same_bytes}
use Rattle.cascade_laws.specs.Headline.{Known, nothing_known, known_after, known_of, Committed, committed_after, commits_reported, stored_by, stored_of}
use Rattle.cascade_world.specs.ReportLines.{ReportLine}
use Rattle.cascade_world.specs.ReportLines.ReportLine.{Wrote, Opened, Refused, Sent, Taken, Stored, Ended, Faulted, Cut, Nothing, Settled, Holds, Clocked, Shown}
use Rattle.cascade_world.specs.Trace.{name_in}
use Rattle.cascade_world.specs.World.{WorldState, has_node}
use Rattle.cascade_exchange.proofs.Exchanging.{EachOwn}
use Rattle.cascade_world.proofs.Traced.{IsOfNode, AreOfNodes}

-- ---- one line

-- what a line leaves as it was reported before
pub record IsLeftBy (name : List ℕ) (line : ReportLine) : Type 0 where
  pub known : (found : Known) → known_after name found line ≡ found
  pub stored : stored_by name line ≡ []
  pub commits : (history : ℕ) (found : Committed) → (committed_after history name found line).writes ≡ found.writes

-- that of another node
pub left_line : (name : List ℕ) (line : ReportLine) → bytes_eq (name_in line) name ≡ false → IsLeftBy name line
left_line name (Wrote other code writes) h = record { known = λ found. refl; stored = refl; commits = λ history found. refl }
left_line name (Opened other persists writes) h = record { known = λ found. rw h refl; stored = refl; commits = λ history found. refl }
left_line name (Refused other persists code) h = record { known = λ found. rw h refl; stored = refl; commits = λ history found. refl }
left_line name (Sent other message) h = record { known = λ found. rw h refl; stored = refl; commits = λ history found. refl }
left_line name (Taken other) h = record { known = λ found. refl; stored = refl; commits = λ history found. refl }
left_line name (Stored other stored) h = record { known = λ found. rw h refl; stored = rw h refl; commits = λ history found. rw h refl }
left_line name (Ended other code) h = record { known = λ found. refl; stored = refl; commits = λ history found. refl }
left_line name (Faulted other fault) h = record { known = λ found. refl; stored = refl; commits = λ history found. refl }
left_line name (Cut other) h = record { known = λ found. refl; stored = refl; commits = λ history found. refl }
left_line name (Nothing other) h = record { known = λ found. refl; stored = refl; commits = λ history found. refl }
left_line name (Settled other writes) h = record { known = λ found. refl; stored = refl; commits = λ history found. refl }
left_line name (Holds other cookie) h = record { known = λ found. rw h refl; stored = refl; commits = λ history found. refl }
left_line name (Clocked time) h = record { known = λ found. refl; stored = refl; commits = λ history found. refl }
left_line name (Shown other entries) h = record { known = λ found. refl; stored = refl; commits = λ history found. refl }

-- ---- some lines

-- what these lines leave as it was reported before
pub record IsLeft (name : List ℕ) (lines : List ReportLine) : Type 0 where
  pub known : (found : Known) → fold (known_after name) found lines ≡ found
  pub stored : stored_of name lines ≡ []
  pub commits : (history : ℕ) (found : Committed) → (fold (committed_after history name) found lines).writes ≡ found.writes

-- no lines leave everything
pub left_by_none : (name : List ℕ) → IsLeft name []
left_by_none name = record { known = λ found. refl; stored = refl; commits = λ history found. refl }

-- a line and then lines that leave it leave it together
pub left_more : (name : List ℕ) (line : ReportLine) (lines : List ReportLine) → IsLeftBy name line → IsLeft name lines → IsLeft name (line ∷ lines)
left_more name line lines one more = record {
  known = λ found. ap (λ k. fold (known_after name) k lines) (one.known found) ∙ more.known found;
  stored = flat_map-cons (stored_by name) line lines ∙ ap (λ s. s ++ stored_of name lines) one.stored ∙ more.stored;
  commits = λ history found. more.commits history (committed_after history name found line) ∙ one.commits history found;
}

-- one line leaves what it leaves
pub left_by_one : (name : List ℕ) (line : ReportLine) → IsLeftBy name line → IsLeft name (line ∷ [])
left_by_one name line one = left_more name line [] one (left_by_none name)

-- a line that reports of no consumer's state
pub left_clocked : (name : List ℕ) (time : ℕ) → IsLeftBy name (Clocked time)
left_clocked name time = record { known = λ found. refl; stored = refl; commits = λ history found. refl }

-- a `wrote` line leaves what was reported of each node's copy
pub left_wrote : (name other : List ℕ) (code writes : ℕ) → IsLeftBy name (Wrote other code writes)
left_wrote name other code writes = record { known = λ found. refl; stored = refl; commits = λ history found. refl }

-- so does what is shown
pub left_shown : (name other : List ℕ) (entries : List Entry) → IsLeftBy name (Shown other entries)
left_shown name other entries = record { known = λ found. refl; stored = refl; commits = λ history found. refl }

-- the lines of another consumer
pub left_by_other : (name other : List ℕ) (lines : List ReportLine) → bytes_eq other name ≡ false → EachOwn other lines → IsLeft name lines
left_by_other name other [] apart own = left_by_none name
left_by_other name other (line ∷ lines) apart own =
    left_more name line lines (left_line name line (ap (λ n. bytes_eq n name) own.0 ∙ apart)) (left_by_other name other lines apart own.1)

-- a name that no node has, among lines of nodes
new_is_other : (name other : List ℕ) (state : WorldState) → has_node name state ≡ false → has_node other state ≡ true → bytes_eq other name ≡ false
new_is_other name other state new there =
    elim (cases_Bool (bytes_eq other name)) [
      | inl hit ↦ let bad : has_node name state ≡ true = ap (λ n. has_node n state) (sym (same_bytes other name hit)) ∙ there in let worse : false ≡ true = sym new ∙ bad in cc
      | inr so ↦ so
    ]

left_new : (name : List ℕ) (state : WorldState) (line : ReportLine) → has_node name state ≡ false → IsOfNode state line → IsLeftBy name line
left_new name state line new (inl time) = subst (IsLeftBy name) (sym time.1) (left_clocked name time.0)
left_new name state line new (inr there) = left_line name line (new_is_other name (name_in line) state new there)

-- lines of nodes that are there leave what was reported of a name that none has
pub left_for_new : (name : List ℕ) (state : WorldState) (lines : List ReportLine) → has_node name state ≡ false → AreOfNodes state lines → IsLeft name lines
left_for_new name state [] new of = left_by_none name
left_for_new name state (line ∷ lines) new of = left_more name line lines (left_new name state line new of.0) (left_for_new name state lines new of.1)

-- ---- what was reported before is reported still

-- what is known after the line that comes next
pub known_next : (name : List ℕ) (said : List ReportLine) (line : ReportLine) → known_of name (said ++ line ∷ []) ≡ known_after name (known_of name said) line
known_next name said line = fold-append (known_after name) nothing_known said (line ∷ [])

-- what is known of a copy stays, where the lines leave it
pub known_still : (name : List ℕ) (said lines : List ReportLine) → IsLeft name lines → known_of name (said ++ lines) ≡ known_of name said
known_still name said lines is = fold-append (known_after name) nothing_known said lines ∙ is.known (known_of name said)

-- the `stored` lines among some lines and others are those of both
pub stored_more : (name : List ℕ) (said lines : List ReportLine) → stored_of name (said ++ lines) ≡ stored_of name said ++ stored_of name lines
stored_more name said lines = flat_map-append (stored_by name) said lines

-- they stay where the later lines have none
pub stored_still : (name : List ℕ) (said lines : List ReportLine) → IsLeft name lines → stored_of name (said ++ lines) ≡ stored_of name said
stored_still name said lines is = stored_more name said lines ∙ ap (λ s. stored_of name said ++ s) is.stored ∙ append-nil (stored_of name said)

abbrev pub committed_of : ℕ → List ℕ → List ReportLine → Committed
committed_of history name said = fold (committed_after history name) (record { time = 0; writes = [] }) said

-- the commits of some lines and others are those of the first, and then those of the others
pub commits_more : (history : ℕ) (name : List ℕ) (said lines : List ReportLine) → commits_reported history name (said ++ lines) ≡ (fold (committed_after history name) (committed_of history name said) lines).writes
commits_more history name said lines = ap (λ (c : Committed). c.writes) (fold-append (committed_after history name) (record { time = 0; writes = [] }) said lines)

-- they stay where the later lines have none
pub commits_still : (history : ℕ) (name : List ℕ) (said lines : List ReportLine) → IsLeft name lines → commits_reported history name (said ++ lines) ≡ commits_reported history name said
commits_still history name said lines is = commits_more history name said lines ∙ is.commits history (committed_of history name said)

-- ---- the time

abbrev pub time_reported : ℕ → ReportLine → ℕ
time_reported time (Clocked new) = new
time_reported time _ = time

-- the time that the lines report
abbrev pub clock_reported : List ReportLine → ℕ
clock_reported said = fold time_reported 0 said

time_after_line : (history : ℕ) (name : List ℕ) (found : Committed) (line : ReportLine) → (committed_after history name found line).time ≡ time_reported found.time line
time_after_line history name found (Wrote other code writes) = refl
time_after_line history name found (Opened other persists writes) = refl
time_after_line history name found (Refused other persists code) = refl
time_after_line history name found (Sent other message) = refl
time_after_line history name found (Taken other) = refl
time_after_line history name found (Stored other stored) =
    elim (cases_Bool (bytes_eq other name)) [
      | inl hit ↦ rw hit refl
      | inr miss ↦ rw miss refl
    ]
time_after_line history name found (Ended other code) = refl
time_after_line history name found (Faulted other fault) = refl
time_after_line history name found (Cut other) = refl
time_after_line history name found (Nothing other) = refl
time_after_line history name found (Settled other writes) = refl
time_after_line history name found (Holds other cookie) = refl
time_after_line history name found (Clocked time) = refl
time_after_line history name found (Shown other entries) = refl

time_after_lines : (history : ℕ) (name : List ℕ) (found : Committed) (lines : List ReportLine) → (fold (committed_after history name) found lines).time ≡ fold time_reported found.time lines
time_after_lines history name found [] = refl
time_after_lines history name found (line ∷ lines) =
    time_after_lines history name (committed_after history name found line) lines ∙ ap (λ t. fold time_reported t lines) (time_after_line history name found line)

-- the commits of a replica are stamped by it
pub committed_time : (history : ℕ) (name : List ℕ) (said : List ReportLine) → (committed_of history name said).time ≡ clock_reported said
committed_time history name said = time_after_lines history name (record { time = 0; writes = [] }) said

-- lines that set no clock leave it
pub clock_more : (said lines : List ReportLine) → ((time : ℕ) → fold time_reported time lines ≡ time) → clock_reported (said ++ lines) ≡ clock_reported said
clock_more said lines still = fold-append time_reported 0 said lines ∙ still (clock_reported said)
