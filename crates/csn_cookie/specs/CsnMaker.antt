-- How a directory draws its CSNs.
use Rattle.std.specs.Prelude.{◌≡◌, ℕ, ◌+◌, ◌-◌, ◌^◌, Option, Some, None, min, nat_lt, if◌then◌else◌}
use Rattle.csn_cookie.specs.Csn.{CsnValue, greatest_micros}

-- the greatest count of one microsecond, hexadecimal ffffff
abbrev pub greatest_count : ℕ
greatest_count = 2 ^ 24 - 1

-- the directory's CSN at this time and count, with the last part 0
abbrev pub csn_from : ℕ → ℕ → ℕ → CsnValue
csn_from sid micros count = record { micros = micros; count = count; sid = sid; part = 0 }

-- the CSN after the last one where the clock shows `now`, if one is left. A later time has the
-- count 0. Else the time stays and the count rises, and after the greatest count comes the next
-- microsecond with the count 0. A clock past the year 9999 counts as its end
abbrev pub next_csn : ℕ → CsnValue → Option CsnValue
next_csn now last =
    if nat_lt last.micros (min now greatest_micros)
    then Some (csn_from last.sid (min now greatest_micros) 0)
    else if nat_lt last.count greatest_count
    then Some (csn_from last.sid last.micros (last.count + 1))
    else if nat_lt last.micros greatest_micros then Some (csn_from last.sid (last.micros + 1) 0)
    else None

-- no later CSN is left to the directory
abbrev pub IsGreatest : CsnValue → Type 0
IsGreatest csn = (csn.micros ≡ greatest_micros) × (csn.count ≡ greatest_count)
