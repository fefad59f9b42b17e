-- What a commit that has nothing against it gets, and that other writes fit.
use Rattle.std.proofs.Common.{◌≡◌, ℕ, ◌+◌, ◌-◌, ◌^◌, ◌<◌, ◌≤◌, min, Bool, true, false, cond, List, length, Option, Some, None, refl, ap, sym, ◌∙◌, arith, subst}
use Rattle.std.specs.Prelude.{not, ◌&&◌, ◌||◌, nat_lt, nat_le, is_none, is_some, option_map, Ok, Err}
use Rattle.std.specs.List.{list_all}
use Rattle.std.specs.Option.{option_or}
use Rattle.std.proofs.Math.Bool.{and-false}
use Rattle.std.proofs.lemmas.Bool.{false≢true, leb-false, leb-true, ltb-false, ltb-true, lt-leb, lt-ltb, le-ltb, le-leb}
use Rattle.std.proofs.lemmas.Bool.Decides.{nat_tests}
use Rattle.ldap_constants.specs.declared.result_codes.TheConstants.{ADMIN_LIMIT_EXCEEDED, SUCCESS}
use Rattle.csn_cookie.specs.Csn.{CsnValue}
use Rattle.csn_cookie.specs.CsnMaker.{greatest_count, next_csn}
use Rattle.entry_tree.specs.Effects.{committed}
use Rattle.entry_tree.specs.History.{identity}
use Rattle.entry_tree.proofs.Changing.{plan_leads, plan_fits}
use Rattle.entry_tree.specs.Fitting as fitting
use Rattle.entry_tree.specs.Fitting.{is_within_entry_limit, is_directory_content, fits}
use Rattle.entry_tree.specs.declared.commit.CommitRefusal.{CommitRefusal}
use Rattle.entry_tree.specs.declared.commit.CommitRefusal.TheVariants as refusals
use Rattle.entry_tree.specs.Sound.{is_commit, is_sound_put}
use Rattle.entry_tree.specs.State.{most_entries, most_weight, total_weight, same_named}
use Rattle.entry_tree.specs.declared.entry.Entry.{Entry}
use Rattle.entry_tree.specs.declared.op.Op.{Op}
use Rattle.entry_tree.specs.declared.op.Op.TheVariants.{Add, Delete, Modify, Rename, Commit}
use Rattle.entry_tree.specs.declared.op.Write.{Write}
use Rattle.directory_writes.specs.Commits.{held_refusal, refusal_after, log_refusal, commit_refusal, standing_refusal, refusal_beside, IsCommitPreview, Rejects}
use Rattle.directory_writes.specs.Directory.{DirectoryState, entries_of, last_csn_of, csn_of_next_write, has_room, most_writes, most_writes_weight, judged, judged_at, write_code, code_of_judged, IsPreview, IsNext, IsStanding}
use Rattle.directory_writes.specs.Standing.{StandingState}
use Rattle.directory_writes.specs.Weights.{op_weight, kept_weight}
use Rattle.directory_writes.specs.declared.commit.DirectoryCommitFault.{DirectoryCommitFault}
use Rattle.directory_writes.specs.declared.commit.DirectoryCommitFault.TheVariants.{LimitReached, DuplicateName, NoMemory}
use Rattle.directory_writes.specs.declared.preview.Preview.{Preview}
use Rattle.directory_writes.proofs.Writes.{judged_good, planned_is}

-- an operation that is no commit fits
pub plain_fits : (entries : List Entry) (op : Op) → is_commit op ≡ false → fits entries op ≡ true
plain_fits entries (Add name attrs) plain = refl
plain_fits entries (Delete name) plain = refl
plain_fits entries (Modify name edits) plain = refl
plain_fits entries (Rename name rdn deletes superior) plain = refl
plain_fits entries (Commit puts drops) plain = absurd (false≢true (sym plain))

-- a commit that has nothing against it fits, and is accepted
pub record IsOpen (d : DirectoryState) (puts : List Entry) (drops : List ℕ) (now : ℕ) : Type 0 where
  -- a commit of light entries fits the entries of a directory
  pub fitting : list_all is_within_entry_limit puts ≡ true → fits (entries_of d) (Commit puts drops) ≡ true
  pub room : has_room d.writes (Commit puts drops) ≡ true
  pub write : Write
  pub judged : judged d (Commit puts drops) now ≡ Ok write
  pub code : write_code d (Commit puts drops) now ≡ SUCCESS

held_open : (entries : List Entry) → held_refusal entries ≡ None → is_directory_content entries ≡ true
held_open entries = by (nat_lt most_entries (length entries)) (nat_lt most_weight (total_weight entries)) (same_named entries)
  where
    by : (many heavy : Bool) (same : Option (ℕ × ℕ))
        → cond many (Some (LimitReached most_entries)) (cond heavy (Some (LimitReached most_weight)) (option_map (λ pair. DuplicateName pair.0 pair.1) same)) ≡ None
        → (not (many || heavy) && is_none same) ≡ true
    by true heavy same h = let never : ⊥ = cc in absurd never
    by false true same h = let never : ⊥ = cc in absurd never
    by false false (Some pair) h = let never : ⊥ = cc in absurd never
    by false false None h = refl

-- room for what the limits let in
room_left : (writes weight : ℕ) → nat_le most_writes writes ≡ false → nat_lt most_writes_weight weight ≡ false
    → (nat_lt writes most_writes && nat_le weight most_writes_weight) ≡ true
room_left writes weight few light =
    (λ i. lt-ltb writes most_writes (leb-false most_writes writes few) i && le-leb weight most_writes_weight (ltb-false most_writes_weight weight light) i)

no_place : (writes weight : ℕ) → nat_le most_writes writes ≡ true → (nat_lt writes most_writes && nat_le weight most_writes_weight) ≡ false
no_place writes weight many = ap (λ b. b && nat_le weight most_writes_weight) (le-ltb writes most_writes (leb-true most_writes writes many))

no_weight : (writes weight : ℕ) → nat_lt most_writes_weight weight ≡ true → (nat_lt writes most_writes && nat_le weight most_writes_weight) ≡ false
no_weight writes weight heavy =
    ap (λ b. nat_lt writes most_writes && b) (lt-leb weight most_writes_weight (ltb-true most_writes_weight weight heavy)) ∙ and-false (nat_lt writes most_writes)

-- a commit that is not refused gets a CSN and the code 0
pub commit_open : (d : DirectoryState) (puts : List Entry) (drops : List ℕ) (now : ℕ) → commit_refusal d puts drops now ≡ None → IsOpen d puts drops now
commit_open d puts drops now =
    by (nat_le most_writes (length d.writes)) refl (nat_lt most_writes_weight (kept_weight d.writes + op_weight (Commit puts drops))) refl (csn_of_next_write d now) refl
  where
    after : List Entry
    after = committed (entries_of d) puts drops

    by : (full : Bool) → nat_le most_writes (length d.writes) ≡ full → (heavy : Bool) → nat_lt most_writes_weight (kept_weight d.writes + op_weight (Commit puts drops)) ≡ heavy
        → (next : Option CsnValue) → csn_of_next_write d now ≡ next
        → option_or (cond full (Some (LimitReached most_writes)) (cond heavy (Some (LimitReached most_writes_weight)) (cond (is_none next) (Some (LimitReached greatest_count)) None))) (held_refusal after) ≡ None
        → IsOpen d puts drops now
    by true few heavy light next is h = let never : ⊥ = cc in absurd never
    by false few true light next is h = let never : ⊥ = cc in absurd never
    by false few false light None is h = let never : ⊥ = cc in absurd never
    by false few false light (Some csn) is h =
        let room = room_left (length d.writes) (kept_weight d.writes + op_weight (Commit puts drops)) few light in
        let good = judged_good d (Commit puts drops) now csn None room is refl in
        record {
          fitting = λ small. (λ i. small i && held_open after h i);
          room = room;
          write = record { csn = csn; op = Commit puts drops };
          judged = good;
          code = ap code_of_judged good;
        }

-- ---- the causes

-- entries that may be held are not refused
pub open_held : (entries : List Entry) → is_directory_content entries ≡ true → held_refusal entries ≡ None
open_held entries = by (nat_lt most_entries (length entries)) (nat_lt most_weight (total_weight entries)) (same_named entries)
  where
    by : (many heavy : Bool) (same : Option (ℕ × ℕ)) → (not (many || heavy) && is_none same) ≡ true
        → cond many (Some (LimitReached most_entries)) (cond heavy (Some (LimitReached most_weight)) (option_map (λ pair. DuplicateName pair.0 pair.1) same)) ≡ None
    by true heavy same h = absurd (false≢true h)
    by false true same h = absurd (false≢true h)
    by false false (Some pair) h = absurd (false≢true h)
    by false false None h = refl

-- nothing rejects a commit, or a limit of the writes that are kept
abbrev pub OnlyLimits : Option DirectoryCommitFault → Type 0
OnlyLimits None = Unit {0}
OnlyLimits (Some (LimitReached limit)) = Unit {0}
OnlyLimits (Some (DuplicateName one other)) = ⊥
OnlyLimits (Some NoMemory) = ⊥

-- where it leaves what a directory may have, nothing else rejects it
pub only_limits : (d : DirectoryState) (puts : List Entry) (drops : List ℕ) (now : ℕ) → is_directory_content (committed (entries_of d) puts drops) ≡ true → OnlyLimits (commit_refusal d puts drops now)
only_limits d puts drops now held =
    subst (λ against. OnlyLimits (option_or (log_refusal d (op_weight (Commit puts drops)) now) against)) (sym (open_held (committed (entries_of d) puts drops) held))
    (by (nat_le most_writes (length d.writes)) (nat_lt most_writes_weight (kept_weight d.writes + op_weight (Commit puts drops))) (is_none (csn_of_next_write d now)))
  where
    by : (full heavy none : Bool)
        → OnlyLimits (option_or (cond full (Some (LimitReached most_writes)) (cond heavy (Some (LimitReached most_writes_weight)) (cond none (Some (LimitReached greatest_count)) None))) None)
    by true heavy none = tt
    by false true none = tt
    by false false true = tt
    by false false false = tt

abbrev of_refusal : CommitRefusal → DirectoryCommitFault
of_refusal refusals.TooMany = LimitReached most_entries
of_refusal refusals.TooHeavy = LimitReached most_weight
of_refusal (refusals.SameName one other) = DuplicateName one other
of_refusal refusals.NoMemory = NoMemory

-- what a tree has against the entries is what rejects them here
pub held_opposed : (entries : List Entry) (refusal : CommitRefusal) → fitting.IsCauseOf entries refusal → Rejects (held_refusal entries) (of_refusal refusal)
held_opposed entries = by
  where
    heavy_only : (length entries ≤ most_entries) → most_weight < total_weight entries → held_refusal entries ≡ Some (LimitReached most_weight)
    heavy_only few heavy =
        ap (λ b. cond b (Some (LimitReached most_entries)) (cond (nat_lt most_weight (total_weight entries)) (Some (LimitReached most_weight)) (option_map (λ pair. DuplicateName pair.0 pair.1) (same_named entries))))
        (le-ltb most_entries (length entries) few)
        ∙ ap (λ b. cond b (Some (LimitReached most_weight)) (option_map (λ pair. DuplicateName pair.0 pair.1) (same_named entries))) (lt-ltb most_weight (total_weight entries) heavy)

    named : (many heavy : Bool) (same : Option (ℕ × ℕ)) (one other : ℕ) → (many || heavy) ≡ false → same ≡ Some (one, other)
        → cond many (Some (LimitReached most_entries)) (cond heavy (Some (LimitReached most_weight)) (option_map (λ pair. DuplicateName pair.0 pair.1) same)) ≡ Some (DuplicateName one other)
    named true heavy same one other h is = absurd (false≢true (sym h))
    named false true same one other h is = absurd (false≢true (sym h))
    named false false same one other h is = ap (option_map (λ pair. DuplicateName pair.0 pair.1)) is

    by : (given : CommitRefusal) → fitting.IsCauseOf entries given → Rejects (held_refusal entries) (of_refusal given)
    by refusals.TooMany many =
        ap (λ b. cond b (Some (LimitReached most_entries)) (cond (nat_lt most_weight (total_weight entries)) (Some (LimitReached most_weight)) (option_map (λ pair. DuplicateName pair.0 pair.1) (same_named entries))))
        (lt-ltb most_entries (length entries) many)
    by refusals.TooHeavy heavy = heavy_only heavy.0 heavy.1
    by (refusals.SameName one other) same =
        named (nat_lt most_entries (length entries)) (nat_lt most_weight (total_weight entries)) (same_named entries) one other same.0 same.1
    by refusals.NoMemory none = none

-- a weight that is capped at the greatest number is as much too heavy
capped_heavy : (kept weight : ℕ) → nat_lt most_writes_weight (kept + min weight (2 ^ 64 - 1)) ≡ nat_lt most_writes_weight (kept + weight)
capped_heavy kept weight = grind (arith, nat_tests)

-- a weight at the greatest number is refused as any above it
pub refusal_capped : (count kept : ℕ) (last : CsnValue) (weight capped now : ℕ) → capped ≡ min weight (2 ^ 64 - 1) → refusal_after count kept last capped now ≡ refusal_after count kept last weight now
refusal_capped count kept last weight capped now is =
    ap (λ b. cond (nat_le most_writes count) (Some (LimitReached most_writes))
    (cond b (Some (LimitReached most_writes_weight)) (cond (is_none (next_csn now last)) (Some (LimitReached greatest_count)) None)))
    (ap (λ w. nat_lt most_writes_weight (kept + w)) is ∙ capped_heavy kept weight)

-- a weight that no number of 64 bits counts is refused as the greatest one is
pub log_capped : (d : DirectoryState) (weight capped now : ℕ) → capped ≡ min weight (2 ^ 64 - 1) → log_refusal d capped now ≡ log_refusal d weight now
log_capped d weight capped now is = refusal_capped (length d.writes) (kept_weight d.writes) (last_csn_of d) weight capped now is

-- the first of two causes
pub first_opposed : (first second : Option DirectoryCommitFault) (fault : DirectoryCommitFault) → Rejects first fault → Rejects (option_or first second) fault
first_opposed first second (LimitReached limit) is = ap (λ o. option_or o second) is
first_opposed first second (DuplicateName one other) is = ap (λ o. option_or o second) is
first_opposed first second NoMemory is = is

-- where the first cause rejects nothing, the second one decides
pub second_opposed : (first second : Option DirectoryCommitFault) (fault : DirectoryCommitFault) → first ≡ None → Rejects second fault → Rejects (option_or first second) fault
second_opposed first second fault none is = subst (λ o. Rejects (option_or o second) fault) (sym none) is

-- where neither gives a refusal there is none
pub none_opposed : (first second : Option DirectoryCommitFault) → first ≡ None → second ≡ None → option_or first second ≡ None
none_opposed first second none other = ap (λ o. option_or o second) none ∙ other

-- ---- a commit that is previewed

-- nothing rejects a commit where nothing rejects one more write of its weight, and its entries may be held
pub commit_free : (s : StandingState) (puts : List Entry) (drops : List ℕ) (now weight : ℕ) → weight ≡ min (op_weight (Commit puts drops)) (2 ^ 64 - 1)
    → standing_refusal s weight now ≡ None → held_refusal (committed s.entries puts drops) ≡ None → refusal_beside s puts drops now ≡ None
commit_free s puts drops now weight capped none held =
    none_opposed (standing_refusal s (op_weight (Commit puts drops)) now) (held_refusal (committed s.entries puts drops))
    (sym (refusal_capped s.count s.weight s.last (op_weight (Commit puts drops)) weight now capped) ∙ none) held

-- a commit that is not refused becomes the write with the next CSN
pub commit_judged : (d : DirectoryState) (puts : List Entry) (drops : List ℕ) (now : ℕ) (csn : CsnValue) → commit_refusal d puts drops now ≡ None → csn_of_next_write d now ≡ Some csn
    → judged d (Commit puts drops) now ≡ Ok (record { csn = csn; op = Commit puts drops })
commit_judged d puts drops now csn none next = judged_good d (Commit puts drops) now csn None (commit_open d puts drops now none).room next refl

light_after : (count kept : ℕ) (last : CsnValue) (weight now : ℕ) → refusal_after count kept last weight now ≡ None → nat_lt most_writes_weight (kept + weight) ≡ false
light_after count kept last weight now = by (nat_le most_writes count) (nat_lt most_writes_weight (kept + weight)) (is_none (next_csn now last))
  where
    by : (full heavy spent : Bool) → cond full (Some (LimitReached most_writes)) (cond heavy (Some (LimitReached most_writes_weight)) (cond spent (Some (LimitReached greatest_count)) None)) ≡ None
        → heavy ≡ false
    by true heavy spent h = let never : ⊥ = cc in absurd never
    by false true spent h = let never : ⊥ = cc in absurd never
    by false false spent h = refl

few_after : (count kept : ℕ) (last : CsnValue) (weight now : ℕ) → refusal_after count kept last weight now ≡ None → count < most_writes
few_after count kept last weight now = by (nat_le most_writes count) refl (nat_lt most_writes_weight (kept + weight)) (is_none (next_csn now last))
  where
    by : (full : Bool) → nat_le most_writes count ≡ full → (heavy spent : Bool)
        → cond full (Some (LimitReached most_writes)) (cond heavy (Some (LimitReached most_writes_weight)) (cond spent (Some (LimitReached greatest_count)) None)) ≡ None → count < most_writes
    by true many heavy spent h = let never : ⊥ = cc in absurd never
    by false few heavy spent h = leb-false most_writes count few

-- where there is no cause, neither of two gives one
parts_none : (first second : Option DirectoryCommitFault) → option_or first second ≡ None → (first ≡ None) × (second ≡ None)
parts_none None second none = (refl, none)
parts_none (Some fault) second none = let never : ⊥ = cc in absurd never

-- entries that are not refused have no name twice
held_apart : (entries : List Entry) → held_refusal entries ≡ None → same_named entries ≡ None
held_apart entries = by (nat_lt most_entries (length entries)) (nat_lt most_weight (total_weight entries)) (same_named entries)
  where
    by : (many heavy : Bool) (same : Option (ℕ × ℕ))
        → cond many (Some (LimitReached most_entries)) (cond heavy (Some (LimitReached most_weight)) (option_map (λ pair. DuplicateName pair.0 pair.1) same)) ≡ None
        → same ≡ None
    by true heavy same h = let never : ⊥ = cc in absurd never
    by false true same h = let never : ⊥ = cc in absurd never
    by false false (Some pair) h = let never : ⊥ = cc in absurd never
    by false false None h = refl

-- a weight is not capped where nothing rejects one more write of it
pub weight_after : (count kept : ℕ) (last : CsnValue) (whole weight now : ℕ) → weight ≡ min whole (2 ^ 64 - 1) → refusal_after count kept last weight now ≡ None → kept + weight ≡ kept + whole
weight_after count kept last whole weight now capped free =
    let fits_in : kept + weight ≤ most_writes_weight = ltb-false most_writes_weight (kept + weight) (light_after count kept last weight now free) in
    omega (arith, capped, fits_in)

-- ---- what is drawn

-- an operation has room where nothing rejects one more write of its capped weight
pub log_room : (d : DirectoryState) (op : Op) (weight now : ℕ) → weight ≡ min (op_weight op) (2 ^ 64 - 1) → log_refusal d weight now ≡ None → has_room d.writes op ≡ true
log_room d op weight now capped free = by (nat_le most_writes (length d.writes)) refl (nat_lt most_writes_weight (kept_weight d.writes + op_weight op)) refl (is_none (csn_of_next_write d now)) (sym (log_capped d (op_weight op) weight now capped) ∙ free)
  where
    by : (full : Bool) → nat_le most_writes (length d.writes) ≡ full → (heavy : Bool) → nat_lt most_writes_weight (kept_weight d.writes + op_weight op) ≡ heavy → (spent : Bool)
        → cond full (Some (LimitReached most_writes)) (cond heavy (Some (LimitReached most_writes_weight)) (cond spent (Some (LimitReached greatest_count)) None)) ≡ None → has_room d.writes op ≡ true
    by true few heavy light spent h = let never : ⊥ = cc in absurd never
    by false few true light spent h = let never : ⊥ = cc in absurd never
    by false few false light spent h = room_left (length d.writes) (kept_weight d.writes + op_weight op) few light

-- and its weight is not capped then
pub log_weight : (d : DirectoryState) (op : Op) (weight now : ℕ) → weight ≡ min (op_weight op) (2 ^ 64 - 1) → log_refusal d weight now ≡ None → kept_weight d.writes + weight ≡ kept_weight d.writes + op_weight op
log_weight d op weight now capped free = weight_after (length d.writes) (kept_weight d.writes) (last_csn_of d) (op_weight op) weight now capped free

-- it is rejected where something rejects that write
pub log_full : (d : DirectoryState) (op : Op) (weight now : ℕ) → weight ≡ min (op_weight op) (2 ^ 64 - 1) → is_some (log_refusal d weight now) ≡ true → judged d op now ≡ Err ADMIN_LIMIT_EXCEEDED
log_full d op weight now capped some =
    by (nat_le most_writes (length d.writes)) refl (nat_lt most_writes_weight (kept_weight d.writes + op_weight op)) refl (csn_of_next_write d now)
    (sym (ap is_some (log_capped d (op_weight op) weight now capped)) ∙ some)
  where
    shut : (room : Bool) → room ≡ false → (next : Option CsnValue) → cond room (judged_at d op next) (Err ADMIN_LIMIT_EXCEEDED) ≡ Err ADMIN_LIMIT_EXCEEDED
    shut room none next = ap (λ b. cond b (judged_at d op next) (Err ADMIN_LIMIT_EXCEEDED)) none

    spent : (room : Bool) → cond room (judged_at d op None) (Err ADMIN_LIMIT_EXCEEDED) ≡ Err ADMIN_LIMIT_EXCEEDED
    spent true = refl
    spent false = refl

    by : (full : Bool) → nat_le most_writes (length d.writes) ≡ full → (heavy : Bool) → nat_lt most_writes_weight (kept_weight d.writes + op_weight op) ≡ heavy → (next : Option CsnValue)
        → is_some (cond full (Some (LimitReached most_writes)) (cond heavy (Some (LimitReached most_writes_weight)) (cond (is_none next) (Some (LimitReached greatest_count)) None))) ≡ true
        → cond (has_room d.writes op) (judged_at d op next) (Err ADMIN_LIMIT_EXCEEDED) ≡ Err ADMIN_LIMIT_EXCEEDED
    by true many heavy light next h = shut (has_room d.writes op) (no_place (length d.writes) (kept_weight d.writes + op_weight op) many) next
    by false few true heavy next h = shut (has_room d.writes op) (no_weight (length d.writes) (kept_weight d.writes + op_weight op) heavy) next
    by false few false light None h = spent (has_room d.writes op)
    by false few false light (Some csn) h = absurd (false≢true h)

-- ---- by what is kept beside the writes

-- what rejects one more write of a weight
pub refusal_stands : (d : DirectoryState) (s : StandingState) (weight now : ℕ) → IsStanding d s → standing_refusal s weight now ≡ log_refusal d weight now
refusal_stands d s weight now is = λ i. refusal_after (is.counted i) (is.weighed i) (is.stamped i) weight now

-- and what rejects a commit
pub refusal_is : (d : DirectoryState) (s : StandingState) (puts : List Entry) (drops : List ℕ) (now : ℕ) → IsStanding d s → refusal_beside s puts drops now ≡ commit_refusal d puts drops now
refusal_is d s puts drops now is =
    λ i. option_or (refusal_stands d s (op_weight (Commit puts drops)) now is i) (held_refusal (committed (is.made i) puts drops))

-- nothing rejects a commit that is planned
pub plan_unopposed : (d : DirectoryState) (s : StandingState) (puts : List Entry) (drops : List ℕ) (now : ℕ) (preview : Preview) → IsStanding d s → IsCommitPreview s puts drops now preview
    → commit_refusal d puts drops now ≡ None
plan_unopposed d s puts drops now preview is plan = sym (refusal_is d s puts drops now is) ∙ plan.unopposed

plan_next : (d : DirectoryState) (s : StandingState) (puts : List Entry) (drops : List ℕ) (now : ℕ) (preview : Preview) → IsStanding d s → IsCommitPreview s puts drops now preview
    → csn_of_next_write d now ≡ Some preview.csn
plan_next d s puts drops now preview is plan = ap (next_csn now) (sym is.stamped) ∙ plan.next

-- it becomes the write with the CSN of its plan
pub plan_judged : (d : DirectoryState) (s : StandingState) (puts : List Entry) (drops : List ℕ) (now : ℕ) (preview : Preview) → IsStanding d s → IsCommitPreview s puts drops now preview
    → judged d (Commit puts drops) now ≡ Ok (record { csn = preview.csn; op = Commit puts drops })
plan_judged d s puts drops now preview is plan =
    commit_judged d puts drops now preview.csn (plan_unopposed d s puts drops now preview is plan) (plan_next d s puts drops now preview is plan)

-- and where its entries are sound and light, it is previewed so
pub plan_planned : (d : DirectoryState) (s : StandingState) (puts : List Entry) (drops : List ℕ) (now : ℕ) (preview : Preview) → IsStanding d s → IsCommitPreview s puts drops now preview
    → list_all is_sound_put puts ≡ true → list_all is_within_entry_limit puts ≡ true → IsPreview d (Commit puts drops) preview
plan_planned d s puts drops now preview is plan sound light =
    let open_to = commit_open d puts drops now (plan_unopposed d s puts drops now preview is plan) in
    planned_is d (Commit puts drops) now preview s.entries (identity d.history (length d.writes + 1)) is.made refl
    (record { sound = sound; unopposed = refl; fitting = open_to.fitting light })
    open_to.room (plan_next d s puts drops now preview is plan) plan.drawn (plan.weighed ∙ ap (λ kept. kept + op_weight (Commit puts drops)) is.weighed)
    (plan_leads s.entries (committed s.entries puts drops) preview.touched plan.plan) (plan_fits s.entries (committed s.entries puts drops) preview.touched plan.plan)

-- such a plan can be the next write
pub next_of_plan : (s : StandingState) (puts : List Entry) (drops : List ℕ) (now : ℕ) (preview : Preview) → IsCommitPreview s puts drops now preview → IsNext s (Commit puts drops) preview
next_of_plan s puts drops now preview plan =
    let both = parts_none (standing_refusal s whole now) (held_refusal (committed s.entries puts drops)) plan.unopposed in
    let weighs : preview.weight ≡ s.weight + whole = plan.weighed in
    let light : s.weight + whole ≤ most_writes_weight = ltb-false most_writes_weight (s.weight + whole) (light_after s.count s.weight s.last whole now both.0) in
    let few : s.count < most_writes = few_after s.count s.weight s.last whole now both.0 in
    record {
      few = few;
      light = omega (arith, weighs, light);
      fit = plan_fits s.entries (committed s.entries puts drops) preview.touched plan.plan;
      unique_names = λ holds. ap same_named (plan_leads s.entries (committed s.entries puts drops) preview.touched plan.plan) ∙ held_apart (committed s.entries puts drops) both.1;
    }
  where
    whole : ℕ
    whole = op_weight (Commit puts drops)
