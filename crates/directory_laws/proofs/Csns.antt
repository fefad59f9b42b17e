-- CSNs that a directory draws.
use Rattle.std.proofs.Common.{◌≤◌, ◌<◌, ◌^◌, ◌+◌, ℕ, cond, nat_lt, min, Some, None, Option, arith}
use Rattle.std.specs.Prelude.{IfSome}
use Rattle.std.proofs.lemmas.Bool.{cond_both, ltb-true}
use Rattle.csn_cookie.specs.Csn.{CsnValue, IsCsn, greatest_micros, start}
use Rattle.csn_cookie.specs.CsnMaker.{next_csn, csn_from, greatest_count}

IsCsn-at : (sid micros count : ℕ) → micros ≤ greatest_micros → count < 2 ^ 24 → sid < 2 ^ 12 → IsCsn (csn_from sid micros count)
IsCsn-at sid micros count early few known = record { micros = early; count = few; sid = known; part = omega arith }

-- the CSN of a directory without writes is in range
pub IsCsn-start : (sid : ℕ) → sid < 2 ^ 12 → IsCsn (start sid)
IsCsn-start sid known = record { micros = omega arith; count = omega arith; sid = known; part = omega arith }

-- a CSN that is drawn after one in range is in range
pub IsCsn-next_csn : (now : ℕ) (last : CsnValue) → IsCsn last → IfSome (next_csn now last) IsCsn
IsCsn-next_csn now last is =
    cond_both (nat_lt last.micros (min now greatest_micros)) (Some (csn_from last.sid (min now greatest_micros) 0)) counted in_range
    (λ _. IsCsn-at last.sid (min now greatest_micros) 0 (omega arith) (omega arith) is.sid)
    (λ _. cond_both (nat_lt last.count greatest_count) (Some (csn_from last.sid last.micros (last.count + 1))) moved in_range
    (λ more. let low : last.count < greatest_count = ltb-true last.count greatest_count more in IsCsn-at last.sid last.micros (last.count + 1) is.micros (omega arith) is.sid)
    (λ _. cond_both (nat_lt last.micros greatest_micros) (Some (csn_from last.sid (last.micros + 1) 0)) None in_range
    (λ more. let low : last.micros < greatest_micros = ltb-true last.micros greatest_micros more in IsCsn-at last.sid (last.micros + 1) 0 (omega arith) (omega arith) is.sid)
    (λ _. tt)))
  where
    in_range : Option CsnValue → Type 0
    in_range drawn = IfSome drawn IsCsn

    moved : Option CsnValue
    moved = cond (nat_lt last.micros greatest_micros) (Some (csn_from last.sid (last.micros + 1) 0)) None

    counted : Option CsnValue
    counted = cond (nat_lt last.count greatest_count) (Some (csn_from last.sid last.micros (last.count + 1))) moved
