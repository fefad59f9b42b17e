-- The walk over the days of the calendar gives the date of each day number.
use Rattle.std.proofs.Common.{◌≡◌, ℕ, zero, suc, ◌+◌, ◌<◌, ◌≤◌, inl, inr, sym, ◌∙◌, arith, rules, add-one, subst, pos, ◌≤ℤ◌, nat_lt}
use Rattle.std.proofs.lemmas.Bool.{cond_both, ltb-true, ltb-false}
use Rattle.jiff_core.specs.declared.civil.date.Date.{Date}
use Rattle.jiff_core.specs.Calendar.{days_in_month, days_from_civil}
use Rattle.jiff_core.specs.declared.civil.datetime.DateTime.{DateTime}
use Rattle.jiff_core.specs.Date.{epoch_day, IsYmd}
use Rattle.jiff_core.specs.Time.{time_nanos, IsHms}
use Rattle.jiff_core.specs.DateTime.{civil_nanos}
use Rattle.jiff_core.proofs.DateTimeLemmas.{civil_nanos-parts}
use Rattle.jiff_core.proofs.SignedLemmas.{signed_arith}
use Rattle.jiff_core.proofs.CalendarLemmas.{days_in_month_bounds}
use Rattle.jiff_core.proofs.DateLemmas.{days_from_civil-day, days_from_civil-next_month, days_from_civil-next_year, days_from_civil-max, epoch_day_injective, epoch_day_range, epoch_day_same, epoch_day-lt, cases_date, IsEarlier}
use Rattle.jiff_core.proofs.StandardFacts.{known_days}
use Rattle.csn_cookie.specs.Calendar.{CalendarDate, next_date, date_after}

-- the date is one of the calendar from 1970 to 9999, and its day number is this
pub record IsDay (days : ℕ) (d : CalendarDate) : Type 0 where
  pub from_1970 : 1970 ≤ d.year
  pub to_9999 : d.year ≤ 9999
  pub month_low : 1 ≤ d.month
  pub month_high : d.month ≤ 12
  pub day_low : 1 ≤ d.day
  pub day_high : d.day ≤ days_in_month (pos d.year) d.month
  pub number : days_from_civil (pos d.year) d.month d.day ≡ pos days

-- the last day of 9999
abbrev pub last_day : ℕ
last_day = 2_932_896

-- a later day of the month
next_in_month : (days : ℕ) (d : CalendarDate) → IsDay days d → d.day < days_in_month (pos d.year) d.month
    → IsDay (days + 1) (record { year = d.year; month = d.month; day = d.day + 1 })
next_in_month days d is early = record {
  from_1970 = is.from_1970;
  to_9999 = is.to_9999;
  month_low = is.month_low;
  month_high = is.month_high;
  day_low = omega arith;
  day_high = omega arith;
  number = omega (arith, signed_arith, is.number, days_from_civil-day (pos d.year) d.month d.day (d.day + 1) is.day_low (omega arith));
}

-- the first day of a later month
next_month : (days : ℕ) (d : CalendarDate) → IsDay days d → days_in_month (pos d.year) d.month ≤ d.day → d.month < 12
    → IsDay (days + 1) (record { year = d.year; month = d.month + 1; day = 1 })
next_month days d is last early =
    let bounds = days_in_month_bounds (pos d.year) (d.month + 1) in record {
      from_1970 = is.from_1970;
      to_9999 = is.to_9999;
      month_low = omega arith;
      month_high = omega arith;
      day_low = omega arith;
      day_high = omega (arith, bounds.1);
      number = omega (arith, signed_arith, is.number, days_from_civil-next_month (pos d.year) d.month d.day is.month_low (omega arith));
    }

-- the last day of the last year has the greatest number
year_is_not_last : (days : ℕ) (year : ℕ) → days_from_civil (pos year) 12 31 ≡ pos days → days < last_day → year ≡ 9999 → ⊥
year_is_not_last days year number early same =
    let at : days_from_civil (pos 9999) 12 31 ≡ pos days = rw (← same) number in
    omega (arith, signed_arith, at, days_from_civil-max)

-- the first day of a later year
next_year : (days : ℕ) (d : CalendarDate) → days < last_day → IsDay days d → days_in_month (pos d.year) d.month ≤ d.day → 12 ≤ d.month
    → IsDay (days + 1) (record { year = d.year + 1; month = 1; day = 1 })
next_year days d early is last late =
    let december : d.month ≡ 12 = omega arith in
    let high : d.day ≤ 31 = rw december at is.day_high in
    let low : 31 ≤ d.day = rw december at last in
    let end : d.day ≡ 31 = omega arith in
    let number : days_from_civil (pos d.year) 12 31 ≡ pos days = rw (december, end) at is.number in
    let next = days_from_civil-next_year (pos d.year) (pos (d.year + 1)) (omega (arith, signed_arith)) (omega (arith, signed_arith)) in
    let room : d.year ≡ 9999 → ⊥ = year_is_not_last days d.year number early in
    record {
      from_1970 = omega arith;
      to_9999 = omega (arith, is.to_9999);
      month_low = omega arith;
      month_high = omega arith;
      day_low = omega arith;
      day_high = omega arith;
      number = omega (arith, signed_arith, number, next);
    }

-- one day on
next_date-day : (days : ℕ) (d : CalendarDate) → days < last_day → IsDay days d → IsDay (days + 1) (next_date d)
next_date-day days d early is =
    cond_both (nat_lt d.day (days_in_month (pos d.year) d.month)) _ _ (IsDay (days + 1))
    (λ inside. next_in_month days d is (ltb-true _ _ inside))
    (λ last. cond_both (nat_lt d.month 12) _ _ (IsDay (days + 1))
    (λ inside. next_month days d is (ltb-false _ _ last) (ltb-true _ _ inside))
    (λ late. next_year days d early is (ltb-false _ _ last) (ltb-false _ _ late)))

-- each day up to the last one of 9999
pub date_after-day : (days : ℕ) → days ≤ last_day → IsDay days (date_after days)
unfolding date_after
date_after-day zero early = record {
  from_1970 = omega arith;
  to_9999 = omega arith;
  month_low = omega arith;
  month_high = omega arith;
  day_low = omega arith;
  day_high = omega arith;
  number = known_days.0;
}
date_after-day (suc days) early =
    subst (λ n. IsDay n (next_date (date_after days))) (add-one days)
    (next_date-day days (date_after days) (omega arith) (date_after-day days (omega arith)))

-- the date of the calendar library
date_of : (days : ℕ) (d : CalendarDate) → IsDay days d → Date
date_of days d is = record {
  year = pos d.year;
  month = d.month;
  day = d.day;
  year_in = (omega (arith, signed_arith), omega (arith, signed_arith, is.to_9999));
  month_in = (is.month_low, is.month_high);
  day_in = (is.day_low, is.day_high);
}

-- a date of the calendar library is the one that the walk gives for its day number
pub date_after-epoch_day : (d : Date) (days : ℕ) → epoch_day d ≡ pos days
    → (d.year ≡ pos (date_after days).year) × (d.month ≡ (date_after days).month) × (d.day ≡ (date_after days).day)
unfolding date_of
date_after-epoch_day d days number =
    let early : days ≤ last_day = omega (arith, signed_arith, epoch_day_range d, number) in
    let is = date_after-day days early in
    epoch_day_injective d (date_of days (date_after days) is) (number ∙ sym is.number)

-- the first date of 1970
first_date : Date
first_date = record { year = pos 1970; month = 1; day = 1; year_in = search rules; month_in = search rules; day_in = search rules }

none_earlier : (d : Date) → pos 1970 ≤ℤ d.year → IsEarlier d first_date → ⊥
unfolding first_date
none_earlier d late (inl year) = omega (arith, signed_arith)
none_earlier d late (inr (year, inl month)) = omega (arith, d.month_in.0)
none_earlier d late (inr (year, inr day)) = omega (arith, d.day_in.0, day.1)

-- the number of a date from 1970 on is not negative
pub epoch_day-from_1970 : (d : Date) → pos 1970 ≤ℤ d.year → pos 0 ≤ℤ epoch_day d
unfolding first_date
epoch_day-from_1970 d late =
    elim (cases_date first_date d) [
      | inl earlier ↦ omega (arith, signed_arith, epoch_day-lt first_date d earlier, known_days.0)
      | inr (inl later) ↦ absurd (none_earlier d late later)
      | inr (inr same) ↦ omega (arith, signed_arith, epoch_day_same first_date d same.0 same.1 same.2, known_days.0)
    ]

-- the first moment of 1970 is the time 0
pub civil_nanos-epoch : (dt : DateTime) → IsYmd (pos 1970) (pos 1) (pos 1) dt.date → IsHms (pos 0) (pos 0) (pos 0) (pos 0) dt.time → civil_nanos dt ≡ pos 0
civil_nanos-epoch dt date time =
    let month : dt.date.month ≡ 1 = cc in
    let day : dt.date.day ≡ 1 = cc in
    let first : epoch_day dt.date ≡ pos 0 = rw (date.0, month, day) known_days.0 in
    let midnight : time_nanos dt.time ≡ 0 = omega (arith, signed_arith) in
    omega (arith, signed_arith, civil_nanos-parts dt, first, midnight)
