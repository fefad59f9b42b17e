-- What was accepted stays so, and what a write that is accepted leaves.
use Rattle.std.proofs.Common.{◌≡◌, ◌+◌, ℕ, Bool, true, false, cond, List, [], ◌∷◌, ◌++◌, Option, Some, None, refl, ap, sym, subst, ◌∙◌}
use Rattle.std.specs.Prelude.{Result, Ok, Err, IfOk, OnOk}
use Rattle.ldap_constants.specs.declared.result_codes.TheConstants.{SUCCESS, ADMIN_LIMIT_EXCEEDED}
use Rattle.csn_cookie.specs.Csn.{CsnValue}
use Rattle.dn_names.specs.Names.{TypeAndValue}
use Rattle.entry_tree.specs.Codes.{code_of}
use Rattle.entry_tree.specs.Effects.{effect}
use Rattle.entry_tree.specs.Fitting.{fits}
use Rattle.entry_tree.specs.History.{identity, state_from}
use Rattle.entry_tree.specs.Sound.{is_sound_op}
use Rattle.entry_tree.specs.declared.entry.Entry.{Entry}
use Rattle.entry_tree.specs.declared.fault.OpFault.{OpFault}
use Rattle.entry_tree.specs.declared.fault.OpFault.TheVariants.{Code}
use Rattle.entry_tree.specs.declared.op.Op.{Op}
use Rattle.entry_tree.specs.declared.op.Write.{Write}
use Rattle.directory_writes.specs.Directory.{DirectoryState, entries_of, csn_of_next_write, has_room, judged_code, judged_at, judged, with_write, with_judged, written, code_of_judged, write_code, Refuses, IsAccepted, AreAcceptedFrom, AreAccepted, CsnsRise}
use Rattle.directory_writes.proofs.Csns.{rises-push, next_rises}

abbrev Name : Type 0
Name = List (List TypeAndValue)

-- ---- one more write

-- a write that is accepted after others makes them one more
pub accepted-push_from : (suffix : Name) (history : ℕ) (entries : List Entry) (before : ℕ) (writes : List Write) (w : Write)
    → IsAccepted suffix (state_from history entries before writes) w.op → AreAcceptedFrom suffix history entries before writes
    → AreAcceptedFrom suffix history entries before (writes ++ w ∷ [])
unfolding state_from
accepted-push_from suffix history entries before [] w new each = (new, tt)
accepted-push_from suffix history entries before (first ∷ writes) w new each =
    (each.0, accepted-push_from suffix history (effect entries first.op (identity history (before + 1)) first.csn) (before + 1) writes w new each.1)

-- writes that were accepted one after another are so with one more
pub accepted-push : (suffix : Name) (history : ℕ) (writes : List Write) (w : Write)
    → IsAccepted suffix (state_from history [] 0 writes) w.op → AreAccepted suffix history writes → AreAccepted suffix history (writes ++ w ∷ [])
accepted-push suffix history writes w new each = accepted-push_from suffix history [] 0 writes w new each

-- ---- what is judged good

-- a write that is judged good had the next CSN, and nothing against it
pub record IsJudged (d : DirectoryState) (op : Op) (now : ℕ) (w : Write) : Type 0 where
  pub same : w.op ≡ op
  pub unopposed : code_of d.suffix (entries_of d) op ≡ None
  pub next : csn_of_next_write d now ≡ Some w.csn

-- what is known of a write that is judged acceptable
pub judged_is : (d : DirectoryState) (op : Op) (now : ℕ) (w : Write) → judged d op now ≡ Ok w → IsJudged d op now w
judged_is d op now w = by_room (has_room d.writes op)
  where
    by_code : (csn : CsnValue) → csn_of_next_write d now ≡ Some csn → (code : Option ℕ) → code_of d.suffix (entries_of d) op ≡ code → judged_code op csn code ≡ Ok w
        → IsJudged d op now w
    by_code csn next None free h =
        let made : record { csn = csn; op = op } ≡ w = cc in
        record { same = sym (ap (λ (x : Write). x.op) made); unopposed = free; next = next ∙ ap (λ (x : Write). Some x.csn) made }
    by_code csn next (Some code) free h = let never : ⊥ = cc in absurd never

    by_csn : (next : Option CsnValue) → csn_of_next_write d now ≡ next → judged_at d op next ≡ Ok w → IsJudged d op now w
    by_csn None is h = let never : ⊥ = cc in absurd never
    by_csn (Some csn) is h = by_code csn is (code_of d.suffix (entries_of d) op) refl h

    by_room : (b : Bool) → cond b (judged_at d op (csn_of_next_write d now)) (Err ADMIN_LIMIT_EXCEEDED) ≡ Ok w → IsJudged d op now w
    by_room true h = by_csn (csn_of_next_write d now) refl h
    by_room false h = let never : ⊥ = cc in absurd never

-- each kept write of a directory was accepted
abbrev pub HasAccepted : DirectoryState → Type 0
HasAccepted d = AreAccepted d.suffix d.history d.writes

-- the CSNs of a directory's writes ascend
abbrev pub HasRisen : DirectoryState → Type 0
HasRisen d = CsnsRise d.sid d.writes

-- the kept writes of a directory were accepted, after one more that is judged
pub judged_accepted : (d : DirectoryState) (op : Op) (now : ℕ) (outcome : Result Write ℕ) → judged d op now ≡ outcome → is_sound_op op ≡ true → fits (entries_of d) op ≡ true → HasAccepted d
    → HasAccepted (with_judged d outcome)
judged_accepted d op now (Err code) is sound fitting each = each
judged_accepted d op now (Ok w) is sound fitting each =
    let good = judged_is d op now w is in
    accepted-push d.suffix d.history d.writes w
    (record {
      sound = ap is_sound_op good.same ∙ sound;
      unopposed = ap (code_of d.suffix (entries_of d)) good.same ∙ good.unopposed;
      fitting = ap (fits (entries_of d)) good.same ∙ fitting;
    }) each

-- the CSNs of a directory's writes ascend after one more that is judged
pub judged_rises : (d : DirectoryState) (op : Op) (now : ℕ) (outcome : Result Write ℕ) → judged d op now ≡ outcome → HasRisen d → HasRisen (with_judged d outcome)
judged_rises d op now (Err code) is rise = rise
judged_rises d op now (Ok w) is rise = rises-push d.sid d.writes w (next_rises now _ w.csn (judged_is d op now w is).next) rise

-- ---- what no write changes

-- the suffix, the number and the history of a directory
pub record IsSameDirectory (was is : DirectoryState) : Type 0 where
  pub suffix : is.suffix ≡ was.suffix
  pub sid : is.sid ≡ was.sid
  pub history : is.history ≡ was.history

-- a write leaves the suffix, the number and the history of a directory
pub judged_same : (d : DirectoryState) (outcome : Result Write ℕ) → IsSameDirectory d (with_judged d outcome)
judged_same d (Ok w) = record { suffix = refl; sid = refl; history = refl }
judged_same d (Err code) = record { suffix = refl; sid = refl; history = refl }

-- ---- what a write answers and leaves

-- a write that is judged good leaves the directory with it
pub written_good : (d after : DirectoryState) (op : Op) (now : ℕ) (w : Write) → judged d op now ≡ Ok w → after ≡ with_write d w → after ≡ written d op now
written_good d after op now w good is = is ∙ ap (with_judged d) (sym good)

-- and answers success
pub code_good : (d : DirectoryState) (op : Op) (now : ℕ) (w : Write) → judged d op now ≡ Ok w → SUCCESS ≡ write_code d op now
code_good d op now w good = ap code_of_judged (sym good)

-- a fault that reports a code is that of a write with this code
pub refused_with : (d : DirectoryState) (op : Op) (now code : ℕ) (fault : OpFault) → Refuses (judged d op now) fault → fault ≡ Code code → judged d op now ≡ Err code
refused_with d op now code fault refuses is = subst (Refuses (judged d op now)) is refuses

-- a write that is refused answers the code that its fault reports
pub refused_code : {E : Type 0} (d : DirectoryState) (op : Op) (now : ℕ) (fault : OpFault) (r : Result ℕ E) → Refuses (judged d op now) fault → IfOk r (λ code. fault ≡ Code code)
    → IfOk r (λ code. code ≡ write_code d op now)
refused_code d op now fault (Ok code) refuses is = sym (ap code_of_judged (refused_with d op now code fault refuses is))
refused_code d op now fault (Err e) refuses is = tt

-- and leaves the directory as it was
pub refused_same : {E : Type 0} (d : DirectoryState) (op : Op) (now : ℕ) (fault : OpFault) (r : Result ℕ E) → Refuses (judged d op now) fault → IfOk r (λ code. fault ≡ Code code)
    → OnOk r (d ≡ written d op now)
refused_same d op now fault (Ok code) refuses is = sym (ap (with_judged d) (refused_with d op now code fault refuses is))
refused_same d op now fault (Err e) refuses is = tt
