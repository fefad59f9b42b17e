-- How failed calls are counted where what was read goes on as something else.
use Rattle.std.proofs.Common.{◌≡◌, ◌≢◌, ℕ, Result, Ok, Err, refl, subst, sym, arith}
use Rattle.directory_setup.specs.Setup.{CountsReadFaults}

-- a call that failed is said to have failed
pub read_fails : {T U E F : Type 0} (fault found : T) (other : U) (old new : ℕ) → CountsReadFaults {E = E} fault (Ok found) old new → found ≡ fault
    → CountsReadFaults {E = F} other (Ok other) old new
read_fails fault found other old new counts is = record {
  failed = λ _. counts.failed is;
  sound = λ far. absurd (far refl);
  err = tt;
  later = counts.later;
}

-- what was read without one goes on as what is none
pub reads_well : {T U E F : Type 0} (fault found : T) (other value : U) (old new : ℕ) → CountsReadFaults {E = E} fault (Ok found) old new → found ≢ fault → value ≢ other
    → CountsReadFaults {E = F} other (Ok value) old new
reads_well fault found other value old new counts fine far = record {
  failed = λ is. absurd (far is);
  sound = λ _. counts.sound fine;
  err = tt;
  later = counts.later;
}

-- nothing was read, and none is said to have failed
pub reads_nothing : {T E : Type 0} (fault value : T) (old : ℕ) → value ≢ fault → CountsReadFaults {E = E} fault (Ok value) old old
reads_nothing fault value old far = record {
  failed = λ is. absurd (far is);
  sound = λ _. refl;
  err = tt;
  later = omega arith;
}

-- memory ran out where none had failed
pub reads_in_part : {T E : Type 0} (fault : T) (result : Result T E) (error : E) (old new : ℕ) → result ≡ Err error → new ≡ old → CountsReadFaults fault result old new
reads_in_part {T} {E} fault result error old new is same =
    subst (λ (r : Result T E). CountsReadFaults fault r old new) (sym is) (record {
      failed = tt;
      sound = tt;
      err = same;
      later = omega (arith, same);
    })
