-- Microseconds since 1970 and the parts of a time.
use Rattle.std.proofs.Common.{◌≡◌, ℕ, ◌+◌, ◌*◌, ◌/◌, ◌%◌, ◌<◌, ◌≤◌, refl, sym, ap, ◌∙◌, add-zero, arith, ℤ, pos, negsuc, ◌≤ℤ◌, unsigned_abs, Bool, true, w8, w32, Result, Ok, Err, ◌^◌, to_z, of_z}
use Rattle.std.specs.Prelude.{IfOk, IfSome, ◌-ℤ◌, int_div}
use Rattle.std.specs.Result.{result_ok}
use Rattle.std.specs.Int.{Width, w16}
use Rattle.std.proofs.lemmas.Int.{to_z_pos}
use Rattle.std.proofs.lemmas.Bool.Decides.{same_from_decides}
use Rattle.std.proofs.lemmas.Bool.{and_parts, leb-true, ltb-true, le-leb, lt-ltb}
use Rattle.jiff_core.specs.Calendar.{days_in_month, days_from_civil, IsDate}
use lib.Signed.{mag}
use mir.Val.{hbits}
use Rattle.jiff_core.specs.declared.civil.date.Date.{Date}
use Rattle.jiff_core.specs.declared.civil.datetime.DateTime.{DateTime}
use Rattle.jiff_core.specs.Date.{epoch_day, IsYmd}
use Rattle.jiff_core.specs.Time.{time_nanos, IsTime, IsHms}
use Rattle.jiff_core.specs.DateTime.{civil_nanos}
use Rattle.jiff_core.proofs.SignedLemmas.{signed_arith, back_small}
use Rattle.jiff_core.proofs.DateLemmas.{epoch_day_range}
use Rattle.jiff_core.proofs.DateTimeLemmas.{civil_nanos-parts, civil_nanos_range, time_nanos_bound}
use Rattle.csn_cookie.specs.declared.instant.Instant.{Instant}
use Rattle.csn_cookie.specs.Calendar.{date_after}
use Rattle.csn_cookie.specs.Csn.{greatest_micros}
use Rattle.csn_cookie.specs.Instant.{instant_of, exists, HasDigits, micros_of}
use Rattle.csn_cookie.proofs.CalendarLemmas.{date_after-day, date_after-epoch_day, epoch_day-from_1970}

-- the parts of this time are those of the moment
pub record IsTimeOf (dt : DateTime) (m : Instant) : Type 0 where
  pub year : dt.date.year ≡ pos m.year
  pub month : dt.date.month ≡ m.month
  pub day : dt.date.day ≡ m.day
  pub hour : dt.time.hour ≡ m.hour
  pub minute : dt.time.minute ≡ m.minute
  pub second : dt.time.second ≡ m.second
  pub micro : dt.time.subsec_nanosecond ≡ m.micro * 1000

-- a number that is not negative, through the bits of its type
pub unsigned_abs_back : (w : Width) (z : ℤ) (n r : ℕ) → r ≡ unsigned_abs (to_z w (of_z w z)) → z ≡ pos n → mag z < 2 ^ hbits w → r ≡ n
unsigned_abs_back w z n r e same bound =
    let small : n < 2 ^ hbits w = rw same at bound in
    e ∙ ap (λ x. unsigned_abs (to_z w (of_z w x))) same ∙ ap unsigned_abs (back_small w (pos n) small)

day_of_micros : (dt : DateTime) (micros : ℕ) → civil_nanos dt ≡ pos (micros * 1000) → epoch_day dt.date ≡ pos (micros / 86_400_000_000)
day_of_micros dt micros e = omega (arith, signed_arith, civil_nanos-parts dt, time_nanos_bound dt.time, e)

time_of_micros : (dt : DateTime) (micros : ℕ) → civil_nanos dt ≡ pos (micros * 1000)
    → time_nanos dt.time ≡ micros % 86_400_000_000 * 1000
time_of_micros dt micros e = omega (arith, signed_arith, civil_nanos-parts dt, time_nanos_bound dt.time, e)

-- the parts of a time are those of its microseconds since 1970
pub instant_of-civil_nanos : (dt : DateTime) (micros : ℕ) → civil_nanos dt ≡ pos (micros * 1000) → IsTimeOf dt (instant_of micros)
instant_of-civil_nanos dt micros e =
    let date = date_after-epoch_day dt.date (micros / 86_400_000_000) (day_of_micros dt micros e) in
    let time = time_of_micros dt micros e in
    record {
      year = date.0;
      month = date.1;
      day = date.2;
      hour = omega arith;
      minute = omega arith;
      second = omega arith;
      micro = omega arith;
    }

-- the parts of a moment that exists
pub record Exists (m : Instant) : Type 0 where
  pub from_1970 : 1970 ≤ m.year
  pub to_9999 : m.year ≤ 9999
  pub month_low : 1 ≤ m.month
  pub month_high : m.month ≤ 12
  pub day_low : 1 ≤ m.day
  pub day_high : m.day ≤ days_in_month (pos m.year) m.month
  pub hour : m.hour < 24
  pub minute : m.minute < 60
  pub second : m.second < 60
  pub micro : m.micro < 1_000_000

-- a time that exists has each part within its bounds
pub exists-parts : (m : Instant) → exists m ≡ true → Exists m
exists-parts m h =
    let micro = and_parts _ _ h in
    let second = and_parts _ _ micro.0 in
    let minute = and_parts _ _ second.0 in
    let hour = and_parts _ _ minute.0 in
    let day_high = and_parts _ _ hour.0 in
    let day_low = and_parts _ _ day_high.0 in
    let month_high = and_parts _ _ day_low.0 in
    let month_low = and_parts _ _ month_high.0 in
    let years = and_parts _ _ month_low.0 in
    record {
      from_1970 = leb-true _ _ years.0;
      to_9999 = leb-true _ _ years.1;
      month_low = leb-true _ _ month_low.1;
      month_high = leb-true _ _ month_high.1;
      day_low = leb-true _ _ day_low.1;
      day_high = leb-true _ _ day_high.1;
      hour = ltb-true _ _ hour.1;
      minute = ltb-true _ _ minute.1;
      second = ltb-true _ _ second.1;
      micro = ltb-true _ _ micro.1;
    }

-- one whose parts are within their bounds exists
pub exists-from_parts : (m : Instant) → Exists m → exists m ≡ true
exists-from_parts m is =
    rw (
      le-leb _ _ is.from_1970,
      le-leb _ _ is.to_9999,
      le-leb _ _ is.month_low,
      le-leb _ _ is.month_high,
      le-leb _ _ is.day_low,
      le-leb _ _ is.day_high,
      lt-ltb _ _ is.hour,
      lt-ltb _ _ is.minute,
      lt-ltb _ _ is.second,
      lt-ltb _ _ is.micro,
    )

-- what the calendar library asks of the parts of a time
abbrev pub CanBeTime : Instant → Type 0
CanBeTime m = IsDate (to_z w16 m.year) (to_z w8 m.month) (to_z w8 m.day)
    × IsTime (to_z w8 m.hour) (to_z w8 m.minute) (to_z w8 m.second) (to_z w32 (m.micro * 1000))

-- the numbers are not changed on the way to it
record AreSame (m : Instant) : Type 0 where
  year : to_z w16 m.year ≡ pos m.year
  month : to_z w8 m.month ≡ pos m.month
  day : to_z w8 m.day ≡ pos m.day
  hour : to_z w8 m.hour ≡ pos m.hour
  minute : to_z w8 m.minute ≡ pos m.minute
  second : to_z w8 m.second ≡ pos m.second
  nano : to_z w32 (m.micro * 1000) ≡ pos (m.micro * 1000)

are_same : (m : Instant) → HasDigits m → AreSame m
are_same m d = record {
  year = to_z_pos w16 m.year (omega arith);
  month = to_z_pos w8 m.month (omega arith);
  day = to_z_pos w8 m.day (omega arith);
  hour = to_z_pos w8 m.hour (omega arith);
  minute = to_z_pos w8 m.minute (omega arith);
  second = to_z_pos w8 m.second (omega arith);
  nano = to_z_pos w32 (m.micro * 1000) (omega arith);
}

-- what can be a civil time from 1970 on exists
pub CanBeTime-exists : (m : Instant) → HasDigits m → 1970 ≤ m.year → CanBeTime m → Exists m
CanBeTime-exists m d late can =
    let same = are_same m d in
    let plain = rw (same.year, same.month, same.day, same.hour, same.minute, same.second, same.nano) at can in
    record {
      from_1970 = late;
      to_9999 = omega (arith, signed_arith, plain.0.0.1);
      month_low = omega (arith, signed_arith, plain.0.1.0);
      month_high = omega (arith, signed_arith, plain.0.1.1);
      day_low = omega (arith, signed_arith, plain.0.2.0);
      day_high = omega (arith, signed_arith, plain.0.2.1);
      hour = omega (arith, signed_arith, plain.1.0.1);
      minute = omega (arith, signed_arith, plain.1.1.1);
      second = omega (arith, signed_arith, plain.1.2.1);
      micro = d.micro;
    }

-- what exists can be a civil time
pub exists-CanBeTime : (m : Instant) → HasDigits m → Exists m → CanBeTime m
exists-CanBeTime m d is =
    let same = are_same m d in
    rw (same.year, same.month, same.day, same.hour, same.minute, same.second, same.nano) (
      ((omega (arith, signed_arith), omega (arith, signed_arith)), (omega (arith, signed_arith), omega (arith, signed_arith)), (omega (arith, signed_arith), omega (arith, signed_arith))),
      (
        (omega (arith, signed_arith), omega (arith, signed_arith)),
        (omega (arith, signed_arith), omega (arith, signed_arith)),
        (omega (arith, signed_arith), omega (arith, signed_arith)),
        (omega (arith, signed_arith), omega (arith, signed_arith)),
      ),
    )

-- whether the library has the time is whether the moment exists
pub found_exactly : (m : Instant) (found : Bool) → HasDigits m → 1970 ≤ m.year → ((found ≡ true → CanBeTime m) × (CanBeTime m → found ≡ true)) → found ≡ exists m
found_exactly m found d late is =
    same_from_decides found (exists m) is (λ h. exists-CanBeTime m d (exists-parts m h), λ can. exists-from_parts m (CanBeTime-exists m d late can))

positive_is : (z : ℤ) → pos 0 ≤ℤ z → z ≡ pos (unsigned_abs z)
positive_is (pos n) h = refl
positive_is (negsuc n) h = absurd (omega (arith, signed_arith))

-- the nanoseconds of the library's time
pub civil_nanos-of_parts : (m : Instant) (dt : DateTime) → HasDigits m → 1970 ≤ m.year
    → IsYmd (to_z w16 m.year) (to_z w8 m.month) (to_z w8 m.day) dt.date
    → IsHms (to_z w8 m.hour) (to_z w8 m.minute) (to_z w8 m.second) (to_z w32 (m.micro * 1000)) dt.time
    → civil_nanos dt ≡ pos (micros_of m * 1000)
civil_nanos-of_parts m dt d late date time =
    let same = are_same m d in
    let ymd = rw (same.year, same.month, same.day) at date in
    let hms = rw (same.hour, same.minute, same.second, same.nano) at time in
    let month : dt.date.month ≡ m.month = cc in
    let day : dt.date.day ≡ m.day = cc in
    let number : epoch_day dt.date ≡ days_from_civil (pos m.year) m.month m.day = rw (ymd.0, month, day) refl in
    let positive = epoch_day-from_1970 dt.date (rw ymd.0 (omega (arith, signed_arith))) in
    let days : epoch_day dt.date ≡ pos (unsigned_abs (days_from_civil (pos m.year) m.month m.day)) =
    number ∙ positive_is (days_from_civil (pos m.year) m.month m.day) (rw number at positive) in
    omega (arith, signed_arith, civil_nanos-parts dt, days)

-- what holds of a result holds of what it is without its fault
pub IfSome-result_ok : {T E : Type 0} (r : Result T E) (P : T → Type 0) → IfOk r P → IfSome (result_ok r) P
IfSome-result_ok (Ok x) P h = h
IfSome-result_ok (Err e) P h = tt

-- the microseconds between the first moment of 1970 and the time
pub micros_between : (dt : DateTime) (micros : ℕ) (first since r : ℤ) → civil_nanos dt ≡ pos (micros * 1000) → first ≡ pos 0
    → since ≡ civil_nanos dt -ℤ first → r ≡ int_div since (pos 1000) → (r ≡ pos micros) × (micros ≤ greatest_micros)
micros_between dt micros first since r nanos epoch length whole =
    let time : since ≡ pos (micros * 1000) = length ∙ rw (nanos, epoch) (ap pos (add-zero (micros * 1000))) in
    let quotient : micros * 1000 / 1000 ≡ micros = omega arith in
    (whole ∙ rw time (ap pos quotient), omega (arith, signed_arith, civil_nanos_range dt, nanos))

-- a number of microseconds and the parts that make it

record IsSplit (n days hour minute second micro : ℕ) : Type 0 where
  days_is : n / 86_400_000_000 ≡ days
  hour_is : n / 3_600_000_000 % 24 ≡ hour
  minute_is : n / 60_000_000 % 60 ≡ minute
  second_is : n / 1_000_000 % 60 ≡ second
  micro_is : n % 1_000_000 ≡ micro

split_micros : (n days hour minute second micro : ℕ) → hour < 24 → minute < 60 → second < 60 → micro < 1_000_000
    → n ≡ (((days * 24 + hour) * 60 + minute) * 60 + second) * 1_000_000 + micro → IsSplit n days hour minute second micro
split_micros n days hour minute second micro h₁ h₂ h₃ h₄ e = record {
  days_is = omega arith;
  hour_is = omega arith;
  minute_is = omega arith;
  second_is = omega arith;
  micro_is = omega arith;
}

joined_micros : (n : ℕ) → (((n / 86_400_000_000 * 24 + n / 3_600_000_000 % 24) * 60 + n / 60_000_000 % 60) * 60 + n / 1_000_000 % 60) * 1_000_000 + n % 1_000_000 ≡ n
joined_micros n = omega arith

-- the moment of a time up to the end of 9999 exists
pub exists-instant_of : (n : ℕ) → n ≤ greatest_micros → Exists (instant_of n)
exists-instant_of n early =
    let is = date_after-day (n / 86_400_000_000) (omega arith) in
    record {
      from_1970 = is.from_1970;
      to_9999 = is.to_9999;
      month_low = is.month_low;
      month_high = is.month_high;
      day_low = is.day_low;
      day_high = is.day_high;
      hour = omega arith;
      minute = omega arith;
      second = omega arith;
      micro = omega arith;
    }

-- and is that many microseconds after the first one of 1970
pub micros_of-instant_of : (n : ℕ) → n ≤ greatest_micros → micros_of (instant_of n) ≡ n
micros_of-instant_of n early =
    let is = date_after-day (n / 86_400_000_000) (omega arith) in
    rw (ap unsigned_abs is.number) (joined_micros n)

-- the date of a moment in the calendar library
date_of : (m : Instant) → Exists m → Date
date_of m is = record {
  year = pos m.year;
  month = m.month;
  day = m.day;
  year_in = (omega (arith, signed_arith), omega (arith, signed_arith, is.to_9999));
  month_in = (is.month_low, is.month_high);
  day_in = (is.day_low, is.day_high);
}

-- how many days after the first one of 1970 it is
abbrev days_of : Instant → ℕ
days_of m = unsigned_abs (days_from_civil (pos m.year) m.month m.day)

epoch_day-days_of : (m : Instant) (is : Exists m) → epoch_day (date_of m is) ≡ pos (days_of m)
unfolding date_of
epoch_day-days_of m is = positive_is (days_from_civil (pos m.year) m.month m.day) (epoch_day-from_1970 (date_of m is) (omega (arith, signed_arith, is.from_1970)))

-- a moment that exists is the one at its time
pub instant_of-micros_of : (m : Instant) → Exists m → instant_of (micros_of m) ≡ m
unfolding date_of
instant_of-micros_of m is =
    let split = split_micros (micros_of m) (days_of m) m.hour m.minute m.second m.micro is.hour is.minute is.second is.micro refl in
    let date = date_after-epoch_day (date_of m is) (days_of m) (epoch_day-days_of m is) in
    let year : (date_after (days_of m)).year ≡ m.year = cc in
    rw (split.days_is, split.hour_is, split.minute_is, split.second_is, split.micro_is, year, sym date.1, sym date.2) refl

-- and that time is one up to the end of 9999
pub micros_of-le : (m : Instant) → Exists m → micros_of m ≤ greatest_micros
unfolding date_of
micros_of-le m is =
    let days : days_of m ≤ 2_932_896 = omega (arith, signed_arith, epoch_day_range (date_of m is), epoch_day-days_of m is) in
    omega (arith, days, is.hour, is.minute, is.second, is.micro)
