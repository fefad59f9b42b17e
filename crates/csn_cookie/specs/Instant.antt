-- Times to the microsecond, as a generalized time writes them (RFC 4517, section 3.3.13).
use Rattle.std.specs.Prelude.{ℕ, ◌<◌, ◌+◌, ◌*◌, ◌/◌, ◌%◌, ◌&&◌, Bool, List, ◌++◌, Option, Some, None, nat_le, nat_lt, if◌then◌else◌, pos, unsigned_abs, codes}
use Rattle.jiff_core.specs.Calendar.{days_in_month, days_from_civil}
use Rattle.csn_cookie.specs.Digits.{◌>>=◌, field, number_at, after}
use Rattle.csn_cookie.specs.Calendar.{date_after}
use Rattle.csn_cookie.specs.declared.instant.Instant.{Instant}

-- the calendar has the date, in the years 1970 to 9999, and a clock shows the time of day, which
-- has no second 60
abbrev pub exists : Instant → Bool
exists m =
    nat_le 1970 m.year && nat_le m.year 9999 && nat_le 1 m.month && nat_le m.month 12
    && nat_le 1 m.day && nat_le m.day (days_in_month (pos m.year) m.month)
    && nat_lt m.hour 24 && nat_lt m.minute 60 && nat_lt m.second 60 && nat_lt m.micro 1_000_000

-- microseconds from the first moment of 1970 on
abbrev pub micros_of : Instant → ℕ
micros_of m =
    (((unsigned_abs (days_from_civil (pos m.year) m.month m.day) * 24 + m.hour) * 60 + m.minute)
    * 60 + m.second)
    * 1_000_000 + m.micro

-- the moment n microseconds after the first one of 1970
abbrev pub instant_of : ℕ → Instant
instant_of micros =
    let date = date_after (micros / 86_400_000_000) in
    record {
      year = date.year;
      month = date.month;
      day = date.day;
      hour = micros / 3_600_000_000 % 24;
      minute = micros / 60_000_000 % 60;
      second = micros / 1_000_000 % 60;
      micro = micros % 1_000_000;
    }

-- the parts have the digits that a generalized time gives them
pub record HasDigits (m : Instant) : Type 0 where
  pub year : m.year < 10_000
  pub month : m.month < 100
  pub day : m.day < 100
  pub hour : m.hour < 100
  pub minute : m.minute < 100
  pub second : m.second < 100
  pub micro : m.micro < 1_000_000

-- `YYYYmmddHHMMSS.uuuuuuZ`, in the zone Z
unfoldable pub instant_text : Instant → List ℕ
instant_text m =
    field 10 4 m.year ++ field 10 2 m.month ++ field 10 2 m.day
    ++ field 10 2 m.hour ++ field 10 2 m.minute ++ field 10 2 m.second ++ codes "."
    ++ field 10 6 m.micro ++ codes "Z"

-- what a text of this form reports, and the text after it
unfoldable pub instant_at : List ℕ → Option (Instant × List ℕ)
instant_at text = do
  year ← number_at 10 4 text
  month ← number_at 10 2 year.1
  day ← number_at 10 2 month.1
  hour ← number_at 10 2 day.1
  minute ← number_at 10 2 hour.1
  second ← number_at 10 2 minute.1
  fraction ← after (codes ".") second.1
  micro ← number_at 10 6 fraction
  rest ← after (codes "Z") micro.1
  Some (
    record {
      year = year.0;
      month = month.0;
      day = day.0;
      hour = hour.0;
      minute = minute.0;
      second = second.0;
      micro = micro.0;
    },
    rest,
  )

-- the microseconds of a time that exists, and the text after it
abbrev pub micros_at : List ℕ → Option (ℕ × List ℕ)
micros_at text = do
  instant ← instant_at text
  if exists instant.0 then Some (micros_of instant.0, instant.1) else None
