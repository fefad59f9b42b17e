-- Keys of times.
use Rattle.std.specs.Prelude.{ℕ, Bool, ◌&&◌, ◌==◌, List, length, take, slice_index, slice_range, Option, pos}
use Rattle.std.specs.Char.{is_ascii_digit}
use Rattle.std.specs.Int.{is_in_range}
use Rattle.std.specs.List.{list_all}
use Rattle.std.specs.Str.Parse.{digits_value}
use Rattle.jiff_core.specs.Calendar.{days_in_month}
use Rattle.text_keys.specs.Own.{own_key}

-- the number that the digits from one place to before another write
unfoldable pub number_at : List ℕ → ℕ → ℕ → ℕ
number_at text start stop = digits_value 10 (slice_range text start stop)

-- the Gregorian calendar has this day, in a year of four digits after the year 0
abbrev pub is_date : ℕ → ℕ → ℕ → Bool
is_date year month day =
    is_in_range 1 9999 year
    && (is_in_range 1 12 month && is_in_range 1 (days_in_month (pos year) month) day)

-- no leap second is taken
abbrev pub is_clock : ℕ → ℕ → ℕ → Bool
is_clock hour minute second =
    is_in_range 0 23 hour && (is_in_range 0 59 minute && is_in_range 0 59 second)

-- YYYYmmddHHMMSS
abbrev pub is_instant : List ℕ → Bool
is_instant text =
    is_date (number_at text 0 4) (number_at text 4 6) (number_at text 6 8)
    && is_clock (number_at text 8 10) (number_at text 10 12) (number_at text 12 14)

-- YYYYmmddHHMMSSZ, one form of GeneralizedTime (RFC 4517, section 3.3.13)
abbrev pub is_time : List ℕ → Bool
is_time text =
    let digits = take 14 text in
    (length text == 15)
    && ((slice_index text 14 == 90) && (list_all is_ascii_digit digits && is_instant digits))

unfoldable pub time_key : List ℕ → Option (List ℕ)
time_key value = own_key (is_time value) value
