-- Faults that a net counts.
use Rattle.std.proofs.Common.{◌≡◌, ℕ, Result, Ok, Err, ap, arith, ◌∙◌}
use Rattle.sync_io.specs.declared.dial.NetFault.{NetFault}
use Rattle.ldap_listener.specs.Seats.{CountsFaults}

-- the fault of a call, or another where it gave something
fault_or : {T E : Type 0} → E → Result T E → E
fault_or other (Ok given) = other
fault_or other (Err fault) = fault

-- a fault is the same whatever the call gives that has none
same_fault : {T U E : Type 0} (fault known : E) → ◌≡◌ {A = Result T E} (Err fault) (Err known) → ◌≡◌ {A = Result U E} (Err fault) (Err known)
unfolding fault_or
same_fault {T} {U} {E} fault known same = ap (λ (e : E). Err e) (ap (fault_or fault) same)

-- nothing failed
pub faults-none : {T : Type 0} (given : T) (old new : ℕ) → new ≡ old → CountsFaults (Ok given) old new
faults-none given old new same = record {
  failed = λ is. let never : ⊥ = cc in absurd never;
  faultless = λ _. same;
  later = omega (arith, same);
}

-- a call has the fault of the one within it, before which none was counted
pub faults-then : {T U : Type 0} (fault : NetFault) (old before new : ℕ) → before ≡ old
    → CountsFaults {T = T} (Err fault) before new → CountsFaults {T = U} (Err fault) old new
faults-then fault old before new same counts = record {
  failed = λ is. rw same at (counts.failed (same_fault fault _ is));
  faultless = λ other. counts.faultless (λ is. other (same_fault fault _ is)) ∙ same;
  later = omega (arith, same, counts.later);
}
