-- How `serve FILE` ends, by how serving what its configuration says does.
use Rattle.std.proofs.Common.{◌≡◌, ◌≢◌, ◌⊎◌, ◌<◌, ℕ, List, Result, Ok, Err, inl, inr, refl, sym, ap, subst, ◌∙◌, arith}
use Rattle.std.specs.Prelude.{IfOk, IsSome, OnErr}
use Rattle.std.specs.Io.KnownBytes.{Keeps}
use Rattle.sync_io.specs.Faults.{CountHasRisen}
use Rattle.sync_io.specs.declared.dial.NetFault.{NetFault}
use Rattle.sync_io.specs.declared.dial.NetFault.TheVariants.{Failed, NoMemory}
use Rattle.directory_setup.specs.Setup.{IsReady, IsRefusedSetup}
use Rattle.directory_setup.specs.declared.refusal.LineCause.TheVariants as line
use Rattle.directory_setup.specs.declared.refusal.SetupRefusal.{SetupRefusal}
use Rattle.directory_setup.specs.declared.refusal.SetupRefusal.TheVariants.{AtLine, InConfig}
use Rattle.directory_setup.specs.declared.setup.ReadyDirectory.{ReadyDirectory}
use Rattle.directory_setup.proofs.OneRefusal.{one_refusal, refused_unready}
use Rattle.ldap_listener.specs.Seats.{CountsFaults}
use Rattle.syncrepl_tool.specs.Serving.{AnyEnd, EndsAt, HasListened, HasMemory, IsServedAt, NetView}
use Rattle.syncrepl_tool.specs.Serve.{AllCame, EndsReady, EndsServing, FailsAtNet, HasFiles, HasNoCause, IsCutShort, IsRefusedWith, IsSaid, IsServeStatus, IsUnheard, MayServe, MayServeWith, NetSide, Outside, RunsOut, RunsOutReady, SaysText, net_fault_text, net_side, refusal_status, setup_refusal_text}
use Rattle.syncrepl_tool.specs.Texts.{Says, read_fault_text}
use Rattle.syncrepl_tool.specs.declared.run.Status.{Status}

abbrev pub side_of : {L C M : Type 0} → Outside L C M → NetSide L C M
side_of o = net_side o.said o.said_faults o.served o.net_faults

may_serve : {L C M : Type 0} (v : NetView L C M) (name : List ℕ) (before after : Outside L C M) (ready : ReadyDirectory) (status : Status)
    → IsReady before.files name ready → AllCame before after → MayServe v ready (side_of before) (side_of after) status
    → MayServeWith v name before after status
may_serve v name before after ready status is came m = record {
  codes_are = codes m.codes_are;
  done = λ zero. record {
    ready = ready;
    is_ready = is;
    serves = (m.done zero).1;
    some = (m.done zero).0;
  };
  quiet = m.quiet;
  refused = λ three. absurd (other m.codes_are (λ zero. let wrong : 0 ≡ 3 = sym zero ∙ three in cc) (λ seven. let wrong : 7 ≡ 3 = sym seven ∙ three in cc));
  limited = λ eight. absurd (other m.codes_are (λ zero. let wrong : 0 ≡ 8 = sym zero ∙ eight in cc) (λ seven. let wrong : 7 ≡ 8 = sym seven ∙ eight in cc));
  read_fault = λ four. absurd (other m.codes_are (λ zero. let wrong : 0 ≡ 4 = sym zero ∙ four in cc) (λ seven. let wrong : 7 ≡ 4 = sym seven ∙ four in cc));
  read_fault_reported = λ four. absurd (other m.codes_are (λ zero. let wrong : 0 ≡ 4 = sym zero ∙ four in cc) (λ seven. let wrong : 7 ≡ 4 = sym seven ∙ four in cc));
  all_came = λ _. came;
  unheard = λ four. absurd (other m.codes_are (λ zero. let wrong : 0 ≡ 4 = sym zero ∙ four in cc) (λ seven. let wrong : 7 ≡ 4 = sym seven ∙ four in cc));
  net_fault = m.net_fault;
  faultless = λ other. sound m.codes_are other;
  net_fault_reported = m.net_fault_reported;
  cut_short = λ seven. cut (m.cut_short seven);
}
  where
    codes : (status.code ≡ 0) ⊎ (status.code ≡ 7)
        → (status.code ≡ 0) ⊎ (status.code ≡ 3) ⊎ (status.code ≡ 4) ⊎ (status.code ≡ 7) ⊎ (status.code ≡ 8)
    codes (inl zero) = inl zero
    codes (inr seven) = inr (inr (inr (inl seven)))

    other : (status.code ≡ 0) ⊎ (status.code ≡ 7) → (status.code ≡ 0 → ⊥) → (status.code ≡ 7 → ⊥) → ⊥
    other (inl zero) not_zero not_seven = not_zero zero
    other (inr seven) not_zero not_seven = not_seven seven

    sound : (status.code ≡ 0) ⊎ (status.code ≡ 7) → status.code ≢ 7 → after.net_faults ≡ before.net_faults
    sound (inl zero) not_seven = m.faultless zero
    sound (inr seven) not_seven = absurd (not_seven seven)

    cut : HasListened ready before.served after.served ⊎ ((n : ℕ) × IsServedAt v AnyEnd ready n before.served after.served) → FailsAtNet v name before after
    cut (inl listened) = inl (record { ready = ready; is_ready = is; listened = listened })
    cut (inr (n, served)) = inr (record { ready = ready; is_ready = is; connections = n; serves = served })

runs_out : {L C M : Type 0} (v : NetView L C M) (name : List ℕ) (before after : Outside L C M) (ready : ReadyDirectory)
    → IsReady before.files name ready → AllCame before after → RunsOutReady v ready (side_of before) (side_of after) → RunsOut v name before after
runs_out v name before after ready is came out = record { all_came = came; faultless = out.faultless; stops = by out.stops }
  where
    by : (after.served ≡ before.served) ⊎ HasListened ready before.served after.served
        ⊎ ((n : ℕ) × IsServedAt v AnyEnd ready n before.served after.served)
        → (after.served ≡ before.served) ⊎ IsUnheard name before after ⊎ IsCutShort v name before after
    by (inl unasked) = inl unasked
    by (inr (inl listened)) = inr (inl (record { ready = ready; is_ready = is; listened = listened }))
    by (inr (inr (n, served))) = inr (inr (record { ready = ready; is_ready = is; connections = n; serves = served }))

-- each other status has its cause
completes : {L C M : Type 0} (v : NetView L C M) (name : List ℕ) (before after : Outside L C M) (status : Status)
    → MayServeWith v name before after status → HasNoCause name before after → status.code ≡ 0
completes v name before after status may none = by may.codes_are
  where
    failed : CountHasRisen before.shelf_faults after.shelf_faults ⊎ CountHasRisen before.word_faults after.word_faults → ⊥
    failed (inl shelf) = none.shelf shelf
    failed (inr words) = none.words words

    by : IsServeStatus status.code → status.code ≡ 0
    by (inl zero) = zero
    by (inr (inl three)) = let r = may.refused three in absurd (none.unrefused r.refusal r.refused)
    by (inr (inr (inl four))) = absurd (failed (may.read_fault four))
    by (inr (inr (inr (inl seven)))) = absurd (none.net (may.net_fault seven))
    by (inr (inr (inr (inr eight)))) = let r = may.limited eight in absurd (none.unrefused r.refusal r.refused)

-- a directory that was served, or listened for, is none whose configuration or file is refused
ready_refused : {L C M : Type 0} (v : NetView L C M) (name : List ℕ) (before after : Outside L C M) (refusal : SetupRefusal)
    → IsSome before.files → IsRefusedSetup before.files name refusal → FailsAtNet v name before after → ⊥
ready_refused v name before after refusal known refused (inl unheard) = refused_unready before.files name refusal unheard.ready known refused unheard.is_ready
ready_refused v name before after refusal known refused (inr cut) = refused_unready before.files name refusal cut.ready known refused cut.is_ready

-- what is refused is said
is_said : {L C M : Type 0} (v : NetView L C M) (name : List ℕ) (before after : Outside L C M) (status : Status) (code : ℕ) (refusal : SetupRefusal)
    → IsSome before.files → IsRefusedSetup before.files name refusal → status.code ≡ code → IsRefusedWith name before after code
    → IsSaid refusal before after status
is_said v name before after status code refusal known refused is one =
    let same : one.refusal ≡ refusal = one_refusal before.files name one.refusal refusal known one.refused refused in
    record {
      code = is ∙ sym one.status ∙ ap refusal_status same;
      says = subst (λ (given : SetupRefusal). SaysText (setup_refusal_text given) before after) same one.says;
    }

refusals : {L C M : Type 0} (v : NetView L C M) (name : List ℕ) (before after : Outside L C M) (status : Status)
    → MayServeWith v name before after status → HasFiles before after → (refusal : SetupRefusal) → IsRefusedSetup before.files name refusal
    → IsSaid refusal before after status
refusals v name before after status may files refusal refused = by may.codes_are
  where
    failed : CountHasRisen before.shelf_faults after.shelf_faults ⊎ CountHasRisen before.word_faults after.word_faults → ⊥
    failed (inl shelf) = files.shelf shelf
    failed (inr words) = files.words words

    by : IsServeStatus status.code → IsSaid refusal before after status
    by (inl zero) = let served = may.done zero in absurd (refused_unready before.files name refusal served.ready files.reported refused served.is_ready)
    by (inr (inl three)) = is_said v name before after status 3 refusal files.reported refused three (may.refused three)
    by (inr (inr (inl four))) = absurd (failed (may.read_fault four))
    by (inr (inr (inr (inl seven)))) = absurd (ready_refused v name before after refusal files.reported refused (may.cut_short seven))
    by (inr (inr (inr (inr eight)))) = is_said v name before after status 8 refusal files.reported refused eight (may.limited eight)

ends_with : {L C M E : Type 0} (v : NetView L C M) (name : List ℕ) (before after : Outside L C M) (status : Status)
    → MayServeWith v name before after status → EndsServing {E = E} v name before after (Ok status)
ends_with v name before after status may = record {
  with_status = may;
  complete = completes v name before after status may;
  refuses = refusals v name before after status may;
  without_memory = tt;
}

-- `serve FILE` ends as serving the directory of its configuration does
pub served_ready : {L C M E : Type 0} (v : NetView L C M) (name : List ℕ) (before after : Outside L C M) (ready : ReadyDirectory) (answer : Result Status E)
    → IsReady before.files name ready → AllCame before after → EndsReady v ready (side_of before) (side_of after) answer
    → EndsServing v name before after answer
served_ready v name before after ready (Ok status) is came ends =
    ends_with v name before after status (may_serve v name before after ready status is came ends.with_status)
served_ready v name before after ready (Err none) is came ends = record {
  with_status = tt;
  complete = tt;
  refuses = tt;
  without_memory = runs_out v name before after ready is came ends.without_memory;
}

-- ---- a directory that is not served

-- memory ran out before the net was asked to listen
pub runs_out_first : {L C M E : Type 0} (v : NetView L C M) (name : List ℕ) (before after : Outside L C M) (none : E)
    → AllCame before after → after.served ≡ before.served → after.net_faults ≡ before.net_faults → EndsServing v name before after (Err none)
runs_out_first v name before after none came unasked same = record {
  with_status = tt;
  complete = tt;
  refuses = tt;
  without_memory = record { all_came = came; faultless = same; stops = inl unasked };
}

status_cases : (refusal : SetupRefusal) → (refusal_status refusal ≡ 3) ⊎ (refusal_status refusal ≡ 8)
status_cases (InConfig fault) = inl refl
status_cases (AtLine number (line.LimitReached limit)) = inr refl
status_cases (AtLine number line.BadLine) = inl refl
status_cases (AtLine number line.BadBase64) = inl refl
status_cases (AtLine number line.BadChange) = inl refl
status_cases (AtLine number (line.Refused code)) = inl refl

may_refuse : {L C M : Type 0} (v : NetView L C M) (name : List ℕ) (before after : Outside L C M) (refusal : SetupRefusal) (status : Status)
    → IsRefusedSetup before.files name refusal → AllCame before after → status.code ≡ refusal_status refusal
    → Says (setup_refusal_text refusal) before.said after.said before.said_faults after.said_faults
    → after.served ≡ before.served → after.net_faults ≡ before.net_faults → MayServeWith v name before after status
may_refuse v name before after refusal status is came code_is says unheard same = by (status_cases refusal)
  where
    with_code : (code : ℕ) → status.code ≡ code → IsRefusedWith name before after code
    with_code code has = record {
      refusal = refusal;
      status = sym code_is ∙ has;
      says = says;
      refused = is;
      unheard = unheard;
    }

    by : (refusal_status refusal ≡ 3) ⊎ (refusal_status refusal ≡ 8) → MayServeWith v name before after status
    by (inl three) = record {
      codes_are = inr (inl (code_is ∙ three));
      done = λ zero. absurd (let wrong : 0 ≡ 3 = sym zero ∙ code_is ∙ three in cc);
      quiet = λ zero. absurd (let wrong : 0 ≡ 3 = sym zero ∙ code_is ∙ three in cc);
      refused = with_code 3;
      limited = λ eight. absurd (let wrong : 8 ≡ 3 = sym eight ∙ code_is ∙ three in cc);
      read_fault = λ four. absurd (let wrong : 4 ≡ 3 = sym four ∙ code_is ∙ three in cc);
      read_fault_reported = λ four. absurd (let wrong : 4 ≡ 3 = sym four ∙ code_is ∙ three in cc);
      all_came = λ _. came;
      unheard = λ four. absurd (let wrong : 4 ≡ 3 = sym four ∙ code_is ∙ three in cc);
      net_fault = λ seven. absurd (let wrong : 7 ≡ 3 = sym seven ∙ code_is ∙ three in cc);
      faultless = λ other. same;
      net_fault_reported = λ seven. absurd (let wrong : 7 ≡ 3 = sym seven ∙ code_is ∙ three in cc);
      cut_short = λ seven. absurd (let wrong : 7 ≡ 3 = sym seven ∙ code_is ∙ three in cc);
    }
    by (inr limit) = record {
      codes_are = inr (inr (inr (inr (code_is ∙ limit))));
      done = λ zero. absurd (let wrong : 0 ≡ 8 = sym zero ∙ code_is ∙ limit in cc);
      quiet = λ zero. absurd (let wrong : 0 ≡ 8 = sym zero ∙ code_is ∙ limit in cc);
      refused = λ three. absurd (let wrong : 3 ≡ 8 = sym three ∙ code_is ∙ limit in cc);
      limited = with_code 8;
      read_fault = λ four. absurd (let wrong : 4 ≡ 8 = sym four ∙ code_is ∙ limit in cc);
      read_fault_reported = λ four. absurd (let wrong : 4 ≡ 8 = sym four ∙ code_is ∙ limit in cc);
      all_came = λ _. came;
      unheard = λ four. absurd (let wrong : 4 ≡ 8 = sym four ∙ code_is ∙ limit in cc);
      net_fault = λ seven. absurd (let wrong : 7 ≡ 8 = sym seven ∙ code_is ∙ limit in cc);
      faultless = λ other. same;
      net_fault_reported = λ seven. absurd (let wrong : 7 ≡ 8 = sym seven ∙ code_is ∙ limit in cc);
      cut_short = λ seven. absurd (let wrong : 7 ≡ 8 = sym seven ∙ code_is ∙ limit in cc);
    }

-- where the configuration or the file is refused, that is said, and nobody was listened to
pub refused_setup : {L C M E : Type 0} (v : NetView L C M) (name : List ℕ) (before after : Outside L C M) (refusal : SetupRefusal) (answer : Result Status E)
    → IsRefusedSetup before.files name refusal → AllCame before after
    → IfOk answer (λ status. (status.code ≡ refusal_status refusal)
    × Says (setup_refusal_text refusal) before.said after.said before.said_faults after.said_faults)
    → after.served ≡ before.served → after.net_faults ≡ before.net_faults → EndsServing v name before after answer
refused_setup v name before after refusal (Ok status) is came says unheard same =
    ends_with v name before after status (may_refuse v name before after refusal status is came says.0 says.1 unheard same)
refused_setup v name before after refusal (Err none) is came says unheard same = runs_out_first v name before after none came unheard same

-- so it is where a file or a random word could not be read
pub read_failed : {L C M E : Type 0} (v : NetView L C M) (name : List ℕ) (before after : Outside L C M) (status : Status)
    → status.code ≡ 4
    → CountHasRisen before.shelf_faults after.shelf_faults ⊎ CountHasRisen before.word_faults after.word_faults
    → Says read_fault_text before.said after.said before.said_faults after.said_faults
    → after.served ≡ before.served → after.net_faults ≡ before.net_faults
    → EndsServing {E = E} v name before after (Ok status)
read_failed v name before after status is fails says nobody same =
    ends_with v name before after status (record {
      codes_are = inr (inr (inl is));
      done = λ zero. absurd (let wrong : 0 ≡ 4 = sym zero ∙ is in cc);
      quiet = λ zero. absurd (let wrong : 0 ≡ 4 = sym zero ∙ is in cc);
      refused = λ three. absurd (let wrong : 3 ≡ 4 = sym three ∙ is in cc);
      limited = λ eight. absurd (let wrong : 8 ≡ 4 = sym eight ∙ is in cc);
      read_fault = λ four. fails;
      read_fault_reported = λ four. says;
      all_came = λ other. absurd (other is);
      unheard = λ four. nobody;
      net_fault = λ seven. absurd (let wrong : 7 ≡ 4 = sym seven ∙ is in cc);
      faultless = λ other. same;
      net_fault_reported = λ seven. absurd (let wrong : 7 ≡ 4 = sym seven ∙ is in cc);
      cut_short = λ seven. absurd (let wrong : 7 ≡ 4 = sym seven ∙ is in cc);
    })

-- ---- a directory that is ready

-- all its connections were served
pub serve_done : {L C M E : Type 0} (v : NetView L C M) (ready : ReadyDirectory) (before after : NetSide L C M) (status : Status)
    → status.code ≡ 0 → Keeps before.said after.said → after.net_faults ≡ before.net_faults
    → (0 < ready.connections) × IsServedAt v HasMemory ready ready.connections before.served after.served
    → EndsReady {E = E} v ready before after (Ok status)
serve_done v ready before after status zero quiet same serves = record {
  with_status = record {
    codes_are = inl zero;
    done = λ _. serves;
    quiet = λ _. quiet;
    faultless = λ _. same;
    net_fault = λ seven. absurd (omega (arith, zero, seven));
    net_fault_reported = λ seven. absurd (omega (arith, zero, seven));
    cut_short = λ seven. absurd (omega (arith, zero, seven));
  };
  without_memory = tt;
}

-- the net failed
serve_failed : {L C M : Type 0} (v : NetView L C M) (ready : ReadyDirectory) (before after : NetSide L C M) (status : Status)
    → status.code ≡ 7 → CountHasRisen before.net_faults after.net_faults
    → Says net_fault_text before.said after.said before.said_faults after.said_faults
    → HasListened ready before.served after.served ⊎ ((n : ℕ) × IsServedAt v AnyEnd ready n before.served after.served)
    → MayServe v ready before after status
serve_failed v ready before after status seven rose says how = record {
  codes_are = inr seven;
  done = λ zero. absurd (omega (arith, zero, seven));
  quiet = λ zero. absurd (omega (arith, zero, seven));
  faultless = λ zero. absurd (omega (arith, zero, seven));
  net_fault = λ _. rose;
  net_fault_reported = λ _. says;
  cut_short = λ _. how;
}

fault_same : (one other : NetFault) → ◌≡◌ {A = Result Unit NetFault} (Err one) (Err other) → one ≡ other
fault_same one other is = cc

-- the net had a fault: it failed, or memory ran out
pub serve_stopped : {L C M E : Type 0} (v : NetView L C M) (ready : ReadyDirectory) (before after : NetSide L C M) (fault : NetFault) (answer : Result Status E)
    → IfOk answer (λ status. (fault ≡ Failed) × (status.code ≡ 7)
    × Says net_fault_text before.said after.said before.said_faults after.said_faults)
    → OnErr answer (fault ≡ NoMemory)
    → CountsFaults {T = Unit} (Err fault) before.net_faults after.net_faults → EndsAt v ready (Err fault) before.served after.served
    → EndsReady v ready before after answer
serve_stopped v ready before after Failed (Ok status) says memory faults ends = record {
  with_status = serve_failed v ready before after status says.1 (faults.failed refl) says.2 ends;
  without_memory = tt;
}
serve_stopped v ready before after NoMemory (Ok status) says memory faults ends = absurd (let wrong : NoMemory ≡ Failed = says.0 in cc)
serve_stopped v ready before after NoMemory (Err none) says memory faults ends = record {
  with_status = tt;
  without_memory = record { faultless = faults.faultless (λ failed. let wrong : NoMemory ≡ Failed = fault_same NoMemory Failed failed in cc); stops = ends };
}
serve_stopped v ready before after Failed (Err none) says memory faults ends = absurd (let wrong : Failed ≡ NoMemory = memory in cc)
