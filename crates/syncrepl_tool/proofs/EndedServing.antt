-- How serving a directory that is ready ends, with an upstream or without one.
use Rattle.std.proofs.Common.{◌≡◌, ◌⊎◌, ◌<◌, ◌≤◌, ◌+◌, ℕ, List, length, Option, Some, None, Result, Ok, Err, inl, inr, refl, sym, ap, subst, ◌∙◌, arith}
use Rattle.std.specs.Prelude.{IfSome, IsErrOf, IsSome, OnErr, OnOk, option_map}
use Rattle.sync_io.specs.Faults.{CountHasRisen}
use Rattle.sync_io.specs.Net.{Served, listens}
use Rattle.sync_io.specs.declared.dial.NetFault.{NetFault}
use Rattle.sync_io.specs.declared.dial.NetFault.TheVariants.{Failed, NoMemory}
use Rattle.directory_setup.specs.declared.setup.ReadyDirectory.{ReadyDirectory}
use Rattle.ldap_listener.specs.Seats.{CountsFaults, IsReported}
use Rattle.ldap_listener.specs.Serving.{IsAll, ServesAll}
use Rattle.ldap_listener.specs.Sessions.{LinkView}
use Rattle.ldap_session.specs.declared.access.Access.{Access}
use Rattle.sync_config.specs.declared.upstream.Upstream.{Upstream}
use Rattle.sync_provider.specs.Journal.{JournalledProvider}
use Rattle.syncrepl_tool.specs.Serving.{AnyEnd, EndsAt, EndsFrom, EndsOpened, HasCalled, HasListened, HasMemory, IsServedAlone, IsServedAt, IsServedBeside, IsServedWith, IsUnserved, NetView}

module _ {L C M : Type 0} (v : NetView L C M) (ready : ReadyDirectory) (before after : Option (Served L C M)) where
  -- the net did not listen
  pub unheard_at : (fault : NetFault) → (fault ≡ Failed → after ≡ option_map (listens ready.listen) before) → (fault ≡ NoMemory → after ≡ before) → EndsAt v ready (Err fault) before after
  unheard_at Failed listened unasked = inl (inl (listened refl))
  unheard_at NoMemory listened unasked = inl (unasked refl)

  -- no connection was accepted, or some were served
  stopped_at : (fault : NetFault) → HasListened ready before after ⊎ ((n : ℕ) × IsServedAt v AnyEnd ready n before after) → EndsAt v ready (Err fault) before after
  stopped_at Failed how = how
  stopped_at NoMemory (inl listened) = inr (inl listened)
  stopped_at NoMemory (inr served) = inr (inr served)

  ends_listened : (result : Result Unit NetFault) → EndsFrom v ready result (option_map (listens ready.listen) before) after → EndsAt v ready result before after
  ends_listened (Ok done) ends = ends
  ends_listened (Err fault) ends = stopped_at fault ends

  -- from the moment on at which the net listened at its address
  pub ends_at : (opened : Option (Served L C M)) (result : Result Unit NetFault) → opened ≡ option_map (listens ready.listen) before → EndsFrom v ready result opened after → EndsAt v ready result before after
  ends_at opened result listened ends = ends_listened result (subst (λ (side : Option (Served L C M)). EndsFrom v ready result side after) listened ends)

module _ {L C M : Type 0} (v : NetView L C M) (ready : ReadyDirectory) (opened after : Option (Served L C M)) where
  -- it follows no other directory
  pub alone_from : (result : Result Unit NetFault) → ready.upstream ≡ None
      → EndsOpened (after ≡ opened) (λ n. IsServedAlone v ready.access ready.seats ready.provider n opened after)
      (λ n. IsServedAlone v ready.access ready.seats ready.provider n opened after) ready.connections result
      → EndsFrom v ready result opened after
  alone_from (Ok done) none ends = (ends.0, subst (λ (u : Option Upstream). IsServedWith v HasMemory ready u ready.connections opened after) (sym none) ends.1)
  alone_from (Err fault) none (inl unserved) = inl (inl unserved)
  alone_from (Err fault) none (inr served) = inr (served.0, subst (λ (u : Option Upstream). IsServedWith v AnyEnd ready u served.0 opened after) (sym none) served.1)

  called_from : (upstream : Upstream) → ready.upstream ≡ Some upstream → HasCalled opened after → IsUnserved ready opened after
  called_from upstream is (inl unserved) = inl unserved
  called_from upstream is (inr called) = inr (subst (λ (u : Option Upstream). IsSome u) (sym is) refl, called)

  -- it follows one
  pub following_from : (upstream : Upstream) (result : Result Unit NetFault) → ready.upstream ≡ Some upstream
      → EndsOpened (HasCalled opened after)
      (λ n. IsServedBeside v HasMemory ready.access ready.seats ready.provider upstream ready.rounds n opened after)
      (λ n. IsServedBeside v AnyEnd ready.access ready.seats ready.provider upstream ready.rounds n opened after) ready.connections result
      → EndsFrom v ready result opened after
  following_from upstream (Ok done) is ends = (ends.0, subst (λ (u : Option Upstream). IsServedWith v HasMemory ready u ready.connections opened after) (sym is) ends.1)
  following_from upstream (Err fault) is (inl called) = inl (called_from upstream is called)
  following_from upstream (Err fault) is (inr served) = inr (served.0, subst (λ (u : Option Upstream). IsServedWith v AnyEnd ready u served.0 opened after) (sym is) served.1)

-- what was followed had memory to its end
with_memory : {L C M : Type 0} (v : NetView L C M) (access : Access) (seats : ℕ) (old : JournalledProvider) (upstream : Upstream) (rounds n : ℕ) (before after : Option (Served L C M))
    → (served : IsServedBeside v AnyEnd access seats old upstream rounds n before after) → HasMemory served.end → IsServedBeside v HasMemory access seats old upstream rounds n before after
with_memory v access seats old upstream rounds n before after served memory = record {
  first = served.first;
  came = served.came;
  caller = served.caller;
  end = served.end;
  may = memory;
  last = served.last;
  between = served.between;
  serves = served.serves;
  let_go = served.let_go;
}

-- all connections were served, and what was followed had memory to its end or not
pub opened_beside : {L C M : Type 0} (v : NetView L C M) {access : Access} {seats : ℕ} {old : JournalledProvider} (upstream : Upstream) {rounds : ℕ} (before : Option (Served L C M)) {after : Option (Served L C M)} (connections k : ℕ) (result : Result Unit NetFault)
    → (0 < connections) × (k ≡ connections) → (served : IsServedBeside v AnyEnd access seats old upstream rounds k before after) → OnOk result (HasMemory served.end)
    → EndsOpened (HasCalled before after) (λ n. IsServedBeside v HasMemory access seats old upstream rounds n before after)
    (λ n. IsServedBeside v AnyEnd access seats old upstream rounds n before after) connections result
opened_beside v {access} {seats} {old} upstream {rounds} before {after} connections k (Ok done) all served had =
    (all.0, subst (λ n. IsServedBeside v HasMemory access seats old upstream rounds n before after) all.1 (with_memory v access seats old upstream rounds k before after served had))
opened_beside v upstream before connections k (Err fault) all served had = inr (k, served)

-- all connections were served, or some
pub opened_alone : {L C M : Type 0} {links : LinkView L} {access : Access} {seats : ℕ} {old last : JournalledProvider} {before after : Option (Served L C M)} (connections k : ℕ) (result : Result Unit NetFault)
    → IsAll result connections k → ServesAll links access seats old last k before after
    → EndsOpened (after ≡ before) (λ n. (new : JournalledProvider) × ServesAll links access seats old new n before after)
    (λ n. (new : JournalledProvider) × ServesAll links access seats old new n before after) connections result
opened_alone {L} {C} {M} {links} {access} {seats} {old} {last} {before} {after} connections k (Ok done) all serves =
    (all.0, (last, subst (λ n. ServesAll links access seats old last n before after) all.1 serves))
opened_alone {L} {C} {M} {links} {access} {seats} {old} {last} connections k (Err fault) all serves = inr (k, (last, serves))

-- a fault that was counted later
pub faults_after : (result : Result Unit NetFault) (old before new : ℕ) → before ≡ old → CountsFaults result before new → CountsFaults result old new
faults_after result old before new same counts = subst (λ (n : ℕ). CountsFaults result n new) same counts

-- the faults of an answer of another kind
pub faults_of : {T : Type 0} (fault : NetFault) (old new : ℕ) → (IsErrOf {T = T} (Err fault) Failed → CountHasRisen old new) → (¬ (IsErrOf {T = T} (Err fault) Failed) → new ≡ old) → old ≤ new
    → CountsFaults {T = Unit} (Err fault) old new
faults_of Failed old new failed faultless later = record { failed = λ _. failed refl; faultless = λ other. absurd (other refl); later = later }
faults_of NoMemory old new failed faultless later = record {
  failed = λ is. absurd (let wrong : ⊥ = cc in wrong);
  faultless = λ _. faultless (λ is. let wrong : ⊥ = cc in wrong);
  later = later;
}

-- what was counted while connections were served, after a caller came and before it was let go
pub faults_between : (result accepted : Result Unit NetFault) (old came served new : ℕ) → accepted ≡ result → came ≡ old → new ≡ served
    → (IsErrOf accepted Failed → CountHasRisen came served) → (¬ (IsErrOf accepted Failed) → served ≡ came) → came ≤ served
    → CountsFaults result old new
faults_between result accepted old came served new same before after failed faultless later =
    subst (λ (r : Result Unit NetFault). CountsFaults r old new) same
    (subst (λ (n : ℕ). CountsFaults accepted n new) before
    (subst (λ (n : ℕ). CountsFaults accepted came n) (sym after) (record { failed = failed; faultless = faultless; later = later })))

-- following wanted memory at its end, and the net counted no fault
pub faults_none : (result : Result Unit NetFault) (old new : ℕ) → OnErr result (result ≡ Err NoMemory) → new ≡ old → CountsFaults result old new
faults_none (Ok done) old new is same = record { failed = λ failed. absurd (let wrong : ⊥ = cc in wrong); faultless = λ _. same; later = omega (arith, same) }
faults_none (Err fault) old new is same = record {
  failed = λ failed. absurd (let wrong : ◌≡◌ {A = Result Unit NetFault} (Err NoMemory) (Err Failed) = sym is ∙ failed in cc);
  faultless = λ _. same;
  later = omega (arith, same);
}

-- while connections were served no caller came or went
pub room_after : {L C M : Type 0} (before now : Option (Served L C M)) (n : ℕ) (links : List L) → IsReported before n now links → IfSome before (λ s. length s.retired + length s.gone < s.callers)
    → IfSome now (λ s. length s.retired + length s.gone < s.callers)
room_after None now n links reported room = subst (λ o. IfSome o (λ s. length s.retired + length s.gone < s.callers)) (sym reported) tt
room_after (Some b) None n links reported room = absurd reported
room_after (Some b) (Some a) n links reported room = omega (arith, room, reported.3.callers, ap length reported.3.retired, ap length reported.3.gone)
