-- What a call of one side of a link leaves of the other, and what several calls come to.
use Rattle.std.proofs.Common.{◌≡◌, ◌≤◌, ◌<◌, ℕ, Bool, List, [], Option, Some, None, sym, ap, ◌∙◌, arith}
use Rattle.std.specs.Io.KnownBytes.{Consumes, Keeps}
use Rattle.sync_io.specs.Faults.{CountHasRisen}
use Rattle.sync_io.specs.Sides.{SinkSide, SourceSide}

abbrev held_in : Option SinkSide → Option (List ℕ)
held_in None = None
held_in (Some s) = s.held

abbrev write_faults_in : Option SinkSide → ℕ
write_faults_in None = 0
write_faults_in (Some s) = s.faults

-- a read that leaves the side where bytes go out leaves what was written and the faults of writes
pub sink_same : {L : Type 0} (side : L → Option SinkSide) (held : L → Option (List ℕ)) (faults : L → ℕ) (old new : L)
    → ((l : L) → side l ≡ Some (record { held = held l; faults = faults l })) → side new ≡ side old
    → (held new ≡ held old) × (faults new ≡ faults old)
sink_same side held faults old new reports same =
    let both : Some (record { held = held new; faults = faults new }) ≡ Some (record { held = held old; faults = faults old }) = sym (reports new) ∙ same ∙ reports old in
    (ap held_in both, ap write_faults_in both)

-- what a write leaves of the side where bytes come in
pub record SourceSame {L : Type 0} (left read : L → Option (List ℕ)) (waits : L → Bool) (faults : L → ℕ) (old new : L) : Type 0 where
  pub left_is : left new ≡ left old
  pub read_is : read new ≡ read old
  pub waits_is : waits new ≡ waits old
  pub faults_is : faults new ≡ faults old

abbrev left_in : Option SourceSide → Option (List ℕ)
left_in None = None
left_in (Some s) = s.left

abbrev read_in : Option SourceSide → Option (List ℕ)
read_in None = None
read_in (Some s) = s.read

abbrev waits_in : Bool → Option SourceSide → Bool
waits_in other None = other
waits_in other (Some s) = s.waits

abbrev read_faults_in : Option SourceSide → ℕ
read_faults_in None = 0
read_faults_in (Some s) = s.faults

-- where a side is known and stays, so do its parts
pub source_same : {L : Type 0} (side : L → Option SourceSide) (left read : L → Option (List ℕ)) (waits : L → Bool) (faults : L → ℕ) (old new : L)
    → ((l : L) → side l ≡ Some (record { left = left l; read = read l; waits = waits l; faults = faults l })) → side new ≡ side old
    → SourceSame left read waits faults old new
source_same side left read waits faults old new reports same =
    let now : SourceSide = record { left = left new; read = read new; waits = waits new; faults = faults new } in
    let before : SourceSide = record { left = left old; read = read old; waits = waits old; faults = faults old } in
    let both : Some now ≡ Some before = sym (reports new) ∙ same ∙ reports old in
    record {
      left_is = ap left_in both;
      read_is = ap read_in both;
      waits_is = ap (waits_in (waits old)) both;
      faults_is = ap read_faults_in both;
    }

-- ---- several calls

-- nothing was taken of known bytes that stayed
pub keeps_none : (before left : Option (List ℕ)) → Keeps before left → Consumes before left []
keeps_none None left h = h
keeps_none (Some xs) None h = h
keeps_none (Some xs) (Some ys) h = sym h

-- a count that rose has risen since earlier
pub rose_later : (first before now : ℕ) → first ≤ before → CountHasRisen before now → CountHasRisen first now
rose_later first before now later rose = omega (arith, later, rose)

-- a count that rose from nothing is more than nothing
pub rose_from : (before now : ℕ) → before ≡ 0 → CountHasRisen before now → 0 < now
rose_from before now none rose = omega (arith, none, rose)
