-- What one more write makes of the parts that are kept beside the writes, and what later writes leave of an earlier state.
use Rattle.std.proofs.Common.{◌≡◌, ◌<◌, ◌+◌, ◌⊎◌, ℕ, List, [], ◌∷◌, ◌++◌, length, take, refl, ap, sym, ◌∙◌, arith, subst, append-nil}
use Rattle.std.specs.Prelude.{◌≤◌, nat_lt, nat_le, true, false, cond, Option, Some, None, Err}
use Rattle.std.proofs.Math.Seq.{take-append_seam}
use Rattle.std.proofs.lemmas.List.Sums.{sum_by-append}
use Rattle.std.proofs.lemmas.Bool.{and_parts, leb-true, ltb-true}
use Rattle.std.proofs.lemmas.List.{length_push}
use Rattle.std.proofs.lemmas.List.Elements.{All-nil, All-push}
use Rattle.ldap_constants.specs.declared.result_codes.TheConstants.{ADMIN_LIMIT_EXCEEDED}
use Rattle.csn_cookie.specs.Csn.{CsnValue, start}
use Rattle.dn_names.specs.Names.{TypeAndValue}
use Rattle.entry_tree.specs.Codes.{code_of}
use Rattle.entry_tree.specs.Effects.{effect}
use Rattle.entry_tree.specs.Fault.{HasOpCode}
use Rattle.entry_tree.specs.History.{identity, state_from, state_of}
use Rattle.entry_tree.specs.Sound.{is_commit}
use Rattle.entry_tree.specs.State.{entry_at, ascends, same_named}
use Rattle.entry_tree.specs.Touched.{touched, with_changes, CanBeMade}
use Rattle.entry_tree.specs.declared.entry.Entry.{Entry}
use Rattle.entry_tree.specs.declared.fault.OpFault.{OpFault}
use Rattle.entry_tree.specs.declared.fault.OpFault.TheVariants.{Code, NoMemory}
use Rattle.entry_tree.specs.declared.op.Op.{Op}
use Rattle.entry_tree.specs.declared.op.Write.{Write}
use Rattle.entry_tree.specs.declared.touched.EntryChange.{EntryChange}
use Rattle.sync_model.proofs.Histories.{ascends-state_of}
use Rattle.directory_writes.specs.Directory.{DirectoryState, entries_after, entries_of, last_csn, last_csn_of, csn_of_next_write, most_writes, most_writes_weight, has_room, judged_code, judged_at, judged, with_write, Refuses, IsAccepted, IsPreview, IsNext, AreNumbered, IsStanding, IsKeptBeside}
use Rattle.directory_writes.specs.Formed.{IsFormed}
use Rattle.directory_writes.specs.Ready.{IsReadyWrite}
use Rattle.directory_writes.specs.Standing.{StandingState, fresh_standing, standing_after, LeadsTo}
use Rattle.directory_writes.specs.Touches.{Numbers, uuids_of, noted_each, all_notes, IsLogged, numbers_after, numbers_from, renewed}
use Rattle.directory_writes.specs.declared.preview.Preview.{Preview}
use Rattle.directory_writes.specs.declared.ready.Ready.{Ready}
use Rattle.directory_writes.specs.Weights.{op_weight, kept_weight}
use Rattle.session_log.specs.Log.{Log, fresh, trimmed}
use Rattle.session_log.proofs.Covering.{IsLogOf-fresh, IsLogOf-trimmed}
use Rattle.directory_writes.proofs.Apart.{commit_apart}
use Rattle.directory_writes.proofs.Judged.{accepted-push}
use Rattle.directory_writes.proofs.Pushed.{logged-push, numbered-push}
use Rattle.directory_writes.proofs.Csns.{last_csn-push, rises-none, rises-push, next_rises}
use Rattle.directory_writes.proofs.Stamped.{stamped}

state_from-push : (history : ℕ) (entries : List Entry) (before : ℕ) (writes : List Write) (write : Write)
    → state_from history entries before (writes ++ write ∷ [])
    ≡ effect (state_from history entries before writes) write.op (identity history (before + length writes + 1)) write.csn
unfolding state_from
state_from-push history entries before [] write =
    let number : before + 1 ≡ before + 0 + 1 = omega arith in
    ap (λ n. effect entries write.op (identity history n) write.csn) number
state_from-push history entries before (first ∷ writes) write =
    let number : before + 1 + length writes + 1 ≡ before + length (first ∷ writes) + 1 = omega arith in
    let next = effect entries first.op (identity history (before + 1)) first.csn in
    state_from-push history next (before + 1) writes write
    ∙ ap (λ n. effect (state_from history next (before + 1) writes) write.op (identity history n) write.csn) number

-- the entries after one more write are its effect on those before it
pub entries_after-push : (history : ℕ) (writes : List Write) (write : Write)
    → entries_after history (writes ++ write ∷ []) ≡ effect (entries_after history writes) write.op (identity history (length writes + 1)) write.csn
entries_after-push history writes write =
    let number : 0 + length writes + 1 ≡ length writes + 1 = omega arith in
    state_from-push history [] 0 writes write ∙ ap (λ n. effect (entries_after history writes) write.op (identity history n) write.csn) number

-- without writes there are no entries
pub entries_after-none : (history : ℕ) → entries_after history [] ≡ []
unfolding state_from
entries_after-none history = refl

numbers_from-push : (history : ℕ) (entries : List Entry) (before : ℕ) (numbers : Numbers) (writes : List Write) (write : Write)
    → numbers_from history entries before numbers (writes ++ write ∷ [])
    ≡ renewed (is_commit write.op) (before + length writes + 1) (numbers_from history entries before numbers writes)
    (touched (state_from history entries before writes) (state_from history entries before (writes ++ write ∷ [])))
unfolding numbers_from state_from
numbers_from-push history entries before numbers [] write =
    let number : before + 1 ≡ before + 0 + 1 = omega arith in
    ap (λ n. renewed (is_commit write.op) n numbers (touched entries (effect entries write.op (identity history (before + 1)) write.csn))) number
numbers_from-push history entries before numbers (first ∷ writes) write =
    let number : before + 1 + length writes + 1 ≡ before + length (first ∷ writes) + 1 = omega arith in
    let next = effect entries first.op (identity history (before + 1)) first.csn in
    let kept = renewed (is_commit first.op) (before + 1) numbers (touched entries next) in
    numbers_from-push history next (before + 1) kept writes write
    ∙ ap (λ n. renewed (is_commit write.op) n (numbers_from history next (before + 1) kept writes)
    (touched (state_from history next (before + 1) writes) (state_from history next (before + 1) (writes ++ write ∷ [])))) number

-- the numbers after one more write are those before it, renewed by what it touches
pub numbers_after-push : (history : ℕ) (writes : List Write) (write : Write)
    → numbers_after history (writes ++ write ∷ [])
    ≡ renewed (is_commit write.op) (length writes + 1) (numbers_after history writes) (touched (entries_after history writes) (entries_after history (writes ++ write ∷ [])))
numbers_after-push history writes write =
    let number : 0 + length writes + 1 ≡ length writes + 1 = omega arith in
    numbers_from-push history [] 0 [] writes write
    ∙ ap (λ n. renewed (is_commit write.op) n (numbers_after history writes) (touched (entries_after history writes) (entries_after history (writes ++ write ∷ [])))) number

-- one write more weighs more by its own weight
pub kept_weight-push : (writes : List Write) (write : Write) → kept_weight (writes ++ write ∷ []) ≡ kept_weight writes + op_weight write.op
kept_weight-push writes write = omega (arith, sum_by-append (λ (w : Write). op_weight w.op) writes (write ∷ []))

-- ---- a directory without writes

no_numbers : (first : CsnValue) (history : ℕ) (entries : List Entry) (numbers : Numbers) → entries ≡ [] → AreNumbered first history [] entries numbers
no_numbers first history entries numbers empty u e found = absurd (never (ap (λ es. entry_at es u) (sym empty) ∙ found)) where
  never : None ≡ Some e → ⊥
  never q = cc

-- a directory without writes keeps its invariant
pub kept_none : (suffix : List (List TypeAndValue)) (sid history : ℕ) (writes : List Write) (s : StandingState) (log : Log) (limit : ℕ)
    → writes ≡ [] → s ≡ fresh_standing sid → sid < 4096 → log ≡ fresh limit
    → IsKeptBeside (record { suffix = suffix; sid = sid; history = history; writes = writes; log = log }) s
unfolding state_from numbers_from
kept_none suffix sid history writes s log limit none first small new =
    subst (λ all. IsKeptBeside (record { suffix = suffix; sid = sid; history = history; writes = all; log = log }) s) (sym none)
    (subst (IsKeptBeside (record { suffix = suffix; sid = sid; history = history; writes = []; log = log })) (sym first)
    (record {
      standing = record { counted = refl; weighed = refl; stamped = refl; made = refl; touched = no_numbers (start sid) history [] [] refl; numbers = refl };
      numbered = small;
      accepted = tt;
      rises = rises-none sid;
      formed = All-nil IsFormed;
      logged = subst (IsLogged history []) (sym new) (IsLogOf-fresh limit);
    }))

-- ---- over each history that begins with the writes of a directory

-- the state of a longer history at the number of the kept writes is that of now
pub state_now : (d : DirectoryState) (whole more : List Write) → d.writes ++ more ≡ whole → state_of d.history whole (length d.writes) ≡ entries_of d
state_now d whole more is =
    ap (λ writes. entries_after d.history (take (length d.writes) writes)) (sym is) ∙ ap (entries_after d.history) (take-append_seam d.writes more)

-- they ascend by identity
pub ascends_now : (d : DirectoryState) → ascends (entries_of d) ≡ true
ascends_now d = ap ascends (sym (state_now d d.writes [] (append-nil d.writes))) ∙ ascends-state_of d.history d.writes (length d.writes)

-- the CSN of a longer history at the number of the kept writes is that of now
pub csn_now : (d : DirectoryState) (whole more : List Write) → d.writes ++ more ≡ whole → last_csn (start d.sid) (take (length d.writes) whole) ≡ last_csn_of d
csn_now d whole more is =
    ap (λ writes. last_csn (start d.sid) (take (length d.writes) writes)) (sym is) ∙ ap (last_csn (start d.sid)) (take-append_seam d.writes more)

-- ---- what is kept within the limits

-- the kept writes weigh no more than their limit with a write that there is room for
room_light : (writes : List Write) (op : Op) → has_room writes op ≡ true → kept_weight writes + op_weight op ≤ most_writes_weight
room_light writes op room =
    leb-true (kept_weight writes + op_weight op) most_writes_weight
    (and_parts (nat_lt (length writes) most_writes) (nat_le (kept_weight writes + op_weight op) most_writes_weight) room).1

-- ---- what is judged of an operation

-- a write with room is judged with the next CSN
pub judged_next : (d : DirectoryState) (op : Op) (now : ℕ) (next : Option CsnValue) → has_room d.writes op ≡ true → csn_of_next_write d now ≡ next → judged d op now ≡ judged_at d op next
judged_next d op now next room is = ap (λ b. cond b (judged_at d op (csn_of_next_write d now)) (Err ADMIN_LIMIT_EXCEEDED)) room ∙ ap (judged_at d op) is

-- a write with room and a CSN is judged by its code
pub judged_good : (d : DirectoryState) (op : Op) (now : ℕ) (csn : CsnValue) (code : Option ℕ) → has_room d.writes op ≡ true → csn_of_next_write d now ≡ Some csn
    → code_of d.suffix (entries_of d) op ≡ code → judged d op now ≡ judged_code op csn code
judged_good d op now csn code room next is = judged_next d op now (Some csn) room next ∙ ap (judged_code op csn) is

-- a fault that reports the code of a write with room reports what it is judged as
pub refused_by : (d : DirectoryState) (op : Op) (now : ℕ) (csn : CsnValue) (fault : OpFault) → has_room d.writes op ≡ true → csn_of_next_write d now ≡ Some csn
    → HasOpCode (code_of d.suffix (entries_of d) op) fault → Refuses (judged d op now) fault
refused_by d op now csn (Code code) room next is = judged_good d op now csn (Some code) room next is
refused_by d op now csn NoMemory room next is = tt

-- ---- what is previewed of an operation

after_is : (d : DirectoryState) (entries after : List Entry) (uuid : ℕ) (w : Write) → entries ≡ entries_of d → after ≡ effect entries w.op uuid w.csn
    → uuid ≡ identity d.history (length d.writes + 1) → after ≡ entries_after d.history (d.writes ++ w ∷ [])
after_is d entries after uuid w was made same =
    made
    ∙ ap (λ u. effect entries w.op u w.csn) same
    ∙ ap (λ es. effect es w.op (identity d.history (length d.writes + 1)) w.csn) was
    ∙ sym (entries_after-push d.history d.writes w)

-- what it would change is what differs before and after it
pub touches_are : (d : DirectoryState) (op : Op) (csn : CsnValue) (entries : List Entry) (uuid : ℕ) (touches : List EntryChange) → entries ≡ entries_of d
    → uuid ≡ identity d.history (length d.writes + 1) → touches ≡ touched entries (effect entries op uuid csn)
    → touches ≡ touched (entries_of d) (entries_after d.history (d.writes ++ (record { csn = csn; op = op }) ∷ []))
touches_are d op csn entries uuid touches made same is =
    is ∙ (λ i. touched (made i) (after_is d entries (effect entries op uuid csn) uuid (record { csn = csn; op = op }) made refl same i))

-- an operation that is accepted is previewed so
pub planned_is : (d : DirectoryState) (op : Op) (now : ℕ) (preview : Preview) (entries : List Entry) (uuid : ℕ) → entries ≡ entries_of d → uuid ≡ identity d.history (length d.writes + 1)
    → IsAccepted d.suffix (entries_of d) op → has_room d.writes op ≡ true → csn_of_next_write d now ≡ Some preview.csn → preview.csn_maker ≡ preview.csn
    → preview.weight ≡ kept_weight d.writes + op_weight op → with_changes entries preview.touched ≡ effect entries op uuid preview.csn → CanBeMade entries preview.touched
    → IsPreview d op preview
planned_is d op now preview entries uuid made same good room next drawn weighs leads fit = record {
  accepted = good;
  room = room;
  later = next_rises now (last_csn_of d) preview.csn next;
  drawn = drawn;
  weighed = weighs;
  leads =
      ap (λ es. with_changes es preview.touched) (sym made)
      ∙ after_is d entries (with_changes entries preview.touched) uuid (record { csn = preview.csn; op = op }) made leads same;
  fit = subst (λ es. CanBeMade es preview.touched) made fit;
}

-- the changes that were previewed are what differs before and after the write
pub planned_touches : (d : DirectoryState) (op : Op) (preview : Preview) → IsPreview d op preview
    → preview.touched ≡ touched (entries_of d) (entries_after d.history (d.writes ++ (record { csn = preview.csn; op = op }) ∷ []))
planned_touches d op preview plan = plan.fit.exact ∙ ap (touched (entries_of d)) plan.leads

-- ---- what is kept beside the writes after a write that was previewed

-- it can become the next write
pub next_is : (d : DirectoryState) (s : StandingState) (op : Op) (preview : Preview) → IsStanding d s → IsPreview d op preview → IsNext s op preview
next_is d s op preview was plan =
    let few : length d.writes < most_writes =
    ltb-true (length d.writes) most_writes
    (and_parts (nat_lt (length d.writes) most_writes) (nat_le (kept_weight d.writes + op_weight op) most_writes_weight) plan.room).0 in
    let light : kept_weight d.writes + op_weight op ≤ most_writes_weight = room_light d.writes op plan.room in
    record {
      few = omega (arith, was.counted, few);
      light = omega (arith, plan.weighed, light);
      fit = subst (λ es. CanBeMade es preview.touched) (sym was.made) plan.fit;
      unique_names = λ holds.
          ap (λ es. same_named (with_changes es preview.touched)) was.made ∙ ap same_named (plan.leads ∙ entries_after-push d.history d.writes (record { csn = preview.csn; op = op }))
          ∙ commit_apart (entries_of d) op (identity d.history (length d.writes + 1)) preview.csn holds plan.accepted.fitting;
    }

-- and this is kept after it
pub standing-push : (d : DirectoryState) (s : StandingState) (op : Op) (preview : Preview) → IsStanding d s → IsPreview d op preview
    → IsStanding (with_write d (record { csn = preview.csn; op = op })) (standing_after s op preview)
standing-push d s op preview was plan = record {
  counted = count;
  weighed = plan.weighed ∙ sym (kept_weight-push d.writes w);
  stamped = plan.drawn ∙ sym (last_csn-push (start d.sid) d.writes w);
  made = leads;
  touched = numbered-push (start d.sid) d.history d.writes w s.entries (with_changes s.entries preview.touched) s.numbers (renewed (is_commit op) (s.count + 1) s.numbers preview.touched)
      was.made leads (λ i. renewed (is_commit op) (was.counted i + 1) s.numbers (touches i)) leaves was.touched;
  numbers =
      (λ i. renewed (is_commit op) (was.counted i + 1) (was.numbers i) (planned_touches d op preview plan i))
      ∙ sym (numbers_after-push d.history d.writes w);
}
  where
    w : Write
    w = record { csn = preview.csn; op = op }

    count : s.count + 1 ≡ length (d.writes ++ w ∷ [])
    count = omega (arith, was.counted, length_push d.writes w)

    leads : with_changes s.entries preview.touched ≡ entries_after d.history (d.writes ++ w ∷ [])
    leads = ap (λ es. with_changes es preview.touched) was.made ∙ plan.leads

    made_by : with_changes s.entries preview.touched ≡ effect s.entries op (identity d.history (length d.writes + 1)) preview.csn
    made_by =
        leads ∙ entries_after-push d.history d.writes w
        ∙ ap (λ es. effect es op (identity d.history (length d.writes + 1)) preview.csn) (sym was.made)

    -- what a write other than a commit leaves is as before, or has its CSN
    leaves : (u : ℕ) (e : Entry) → is_commit op ≡ false → entry_at (with_changes s.entries preview.touched) u ≡ Some e → (entry_at s.entries u ≡ Some e) ⊎ (e.csn ≡ preview.csn)
    leaves u e other found =
        stamped op s.entries (identity d.history (length d.writes + 1)) preview.csn (ap ascends was.made ∙ ascends_now d) other u e (ap (λ es. entry_at es u) (sym made_by) ∙ found)

    touches : preview.touched ≡ touched s.entries (with_changes s.entries preview.touched)
    touches = plan.fit.exact ∙ (λ i. touched (sym was.made i) (with_changes (sym was.made i) preview.touched))

-- a write that was previewed is ready with that
pub ready_is : (d : DirectoryState) (s : StandingState) (op : Op) (preview : Preview) (ready : Ready) → IsStanding d s → IsPreview d op preview
    → ready.preview ≡ preview → ready.after ≡ standing_after s op preview → IsReadyWrite d op ready
ready_is d s op preview ready was plan same after = record {
  plan = subst (IsPreview d op) (sym same) plan;
  after = subst (λ (x : Preview). IsStanding (with_write d (record { csn = x.csn; op = op })) ready.after) (sym same)
      (subst (IsStanding (with_write d (record { csn = preview.csn; op = op }))) (sym after) (standing-push d s op preview was plan));
}

-- ---- what a write that is ready leaves

-- the directory with it as the last of its writes, and with a note for each change, is the one that it makes
pub put_is : (d : DirectoryState) (op : Op) (preview : Preview) (log : Log) (writes : List Write) → IsPreview d op preview
    → writes ≡ d.writes ++ (record { csn = preview.csn; op = op }) ∷ [] → log ≡ noted_each (length d.writes + 1) (uuids_of preview.touched) d.log
    → record d { writes = writes; log = log } ≡ with_write d (record { csn = preview.csn; op = op })
put_is d op preview log writes plan last notes =
    let noted = notes ∙ ap (λ ts. noted_each (length d.writes + 1) (uuids_of ts) d.log) (planned_touches d op preview plan) in
    λ i. record d { writes = last i; log = noted i }

kept_write : (d : DirectoryState) (op : Op) (ready : Ready) (s : StandingState) → IsKeptBeside d s → IsReadyWrite d op ready → IsFormed (record { csn = ready.preview.csn; op = op })
    → IsKeptBeside (with_write d (record { csn = ready.preview.csn; op = op })) ready.after
kept_write d op ready s was is formed = record {
  standing = is.after;
  numbered = was.numbered;
  accepted = accepted-push d.suffix d.history d.writes (record { csn = ready.preview.csn; op = op }) is.plan.accepted was.accepted;
  rises = rises-push d.sid d.writes (record { csn = ready.preview.csn; op = op }) is.plan.later was.rises;
  formed = All-push IsFormed d.writes (record { csn = ready.preview.csn; op = op }) was.formed formed;
  logged = logged-push d.history d.writes (record { csn = ready.preview.csn; op = op }) d.log was.logged;
}

-- the changes of a write that is ready lead to the entries that are kept after it
pub leads_ready : (d : DirectoryState) (op : Op) (ready : Ready) (s : StandingState) → IsKeptBeside d s → IsReadyWrite d op ready → LeadsTo s.entries ready.preview.touched ready.after.entries
leads_ready d op ready s was is = record {
  fit = subst (λ es. CanBeMade es ready.preview.touched) (sym was.standing.made) is.plan.fit;
  leads = ap (λ es. with_changes es ready.preview.touched) was.standing.made ∙ is.plan.leads ∙ sym is.after.made;
}

-- and so do the numbers
pub numbers_ready : (d : DirectoryState) (op : Op) (ready : Ready) (s : StandingState) → IsKeptBeside d s → IsReadyWrite d op ready
    → renewed (is_commit op) ready.after.count s.numbers ready.preview.touched ≡ ready.after.numbers
numbers_ready d op ready s was is =
    let w : Write = record { csn = ready.preview.csn; op = op } in
    let long : length (d.writes ++ w ∷ []) ≡ length d.writes + 1 = omega (arith, length_push d.writes w) in
    let count : ready.after.count ≡ length d.writes + 1 = is.after.counted ∙ long in
    (λ i. renewed (is_commit op) (count i) (was.standing.numbers i) (planned_touches d op ready.preview is.plan i))
    ∙ sym (numbers_after-push d.history d.writes w) ∙ sym is.after.numbers

-- a directory keeps its invariant after a write that is ready
pub kept_ready : (d : DirectoryState) (op : Op) (ready : Ready) (s after : StandingState) (log : Log) (writes : List Write) → IsKeptBeside d s → IsReadyWrite d op ready
    → IsFormed (record { csn = ready.preview.csn; op = op }) → after ≡ ready.after
    → writes ≡ d.writes ++ (record { csn = ready.preview.csn; op = op }) ∷ [] → log ≡ noted_each (length d.writes + 1) (uuids_of ready.preview.touched) d.log
    → IsKeptBeside (record d { writes = writes; log = log }) after
kept_ready d op ready s after log writes was is formed stands last notes =
    subst (IsKeptBeside (record d { writes = writes; log = log })) (sym stands)
    (subst (λ x. IsKeptBeside x ready.after) (sym (put_is d op ready.preview log writes is.plan last notes)) (kept_write d op ready s was is formed))

-- ---- what other calls leave

-- room that is made leaves what is kept
pub kept_same : (d : DirectoryState) (s : StandingState) (log : Log) (writes : List Write) → IsKeptBeside d s → writes ≡ d.writes → log ≡ d.log
    → IsKeptBeside (record d { writes = writes; log = log }) s
kept_same d s log writes was all is = subst (λ x. IsKeptBeside x s) (λ i. record d { writes = sym all i; log = sym is i }) was

-- a log that is trimmed keeps what it is the rest of
pub kept_trimmed : (d : DirectoryState) (s : StandingState) (log : Log) (limit : ℕ) → IsKeptBeside d s → log ≡ trimmed limit d.log → IsKeptBeside (record d { log = log }) s
kept_trimmed d s log limit was left = record {
  standing = record {
    counted = was.standing.counted;
    weighed = was.standing.weighed;
    stamped = was.standing.stamped;
    made = was.standing.made;
    touched = was.standing.touched;
    numbers = was.standing.numbers;
  };
  numbered = was.numbered;
  accepted = was.accepted;
  rises = was.rises;
  formed = was.formed;
  logged = subst (IsLogged d.history d.writes) (sym left) (IsLogOf-trimmed (all_notes (state_of d.history d.writes) (length d.writes)) d.log limit was.logged);
}
