-- A moment is a number of whole seconds since 1970-01-01T00:00:00Z. Its text is `YYYY-MM-DDTHH:MM:SSZ`, a civil date of the proleptic Gregorian calendar and a time of day in UTC, in the years 0001 to 9999.
use Rattle.std.specs.Prelude.{◌≡◌, ℕ, ◌≤◌, true, ◌+◌, ◌-◌, ◌*◌, ℤ, pos, negsuc, ◌+ℤ◌, ◌*ℤ◌, ◌≤ℤ◌, Bool, ◌&&◌, nat_le, if◌then◌else◌, List, [], ◌∷◌, ◌++◌, slice_index, Option, Some, None}
use Rattle.std.specs.Str.{bytes_eq}
use Rattle.jiff_core.specs.Calendar.{days_in_month, days_from_civil}
use Rattle.jiff_core.specs.Date.{epoch_day}
use Rattle.jiff_core.specs.declared.civil.date.Date.{Date}
use Rattle.dv_value.specs.Digits.{places}
use Rattle.dv_value.specs.declared.moment.Civil.{Civil}

-- from 0001-01-01T00:00:00Z to 9999-12-31T23:59:59Z
abbrev pub IsMoment : ℤ → Type 0
IsMoment seconds = (negsuc 62135596799 ≤ℤ seconds) × (seconds ≤ℤ pos 253402300799)

-- whether the calendar has the date, in the years 1 to 9999
unfoldable pub is_civil_date : Civil → Bool
is_civil_date c = nat_le 1 c.year && nat_le c.year 9999 && nat_le 1 c.month && nat_le c.month 12 && nat_le 1 c.day && nat_le c.day (days_in_month (pos c.year) c.month)

-- whether a day has the time; no minute has a second 60
unfoldable pub is_civil_time : Civil → Bool
is_civil_time c = nat_le c.hour 23 && nat_le c.minute 59 && nat_le c.second 59

-- the seconds from the start of 1970 to the civil date and time
unfoldable pub seconds_of : Civil → ℤ
seconds_of c = days_from_civil (pos c.year) c.month c.day *ℤ pos 86400 +ℤ pos (c.hour * 3600 + c.minute * 60 + c.second)

-- the text of a civil date and time
unfoldable pub civil_text : Civil → List ℕ
civil_text c =
    places 4 c.year ++ 45 ∷ places 2 c.month ++ 45 ∷ places 2 c.day ++ 84 ∷ places 2 c.hour ++ 58 ∷ places 2 c.minute ++ 58 ∷ places 2 c.second ++ 90 ∷ []

-- the number that the two digits at a place say
abbrev pub pair_at : List ℕ → ℕ → ℕ
pair_at text i = (slice_index text i - 48) * 10 + (slice_index text (i + 1) - 48)

-- the civil date and time that the digits of a text say
unfoldable pub civil_of : List ℕ → Civil
civil_of text = record {
  year = pair_at text 0 * 100 + pair_at text 2;
  month = pair_at text 5;
  day = pair_at text 8;
  hour = pair_at text 11;
  minute = pair_at text 14;
  second = pair_at text 17;
}

-- the moment that a text says: it is the very text of the civil date and time that its digits say
unfoldable pub moment_of : List ℕ → Option ℤ
moment_of text =
    if bytes_eq text (civil_text (civil_of text)) && is_civil_date (civil_of text) && is_civil_time (civil_of text)
    then Some (seconds_of (civil_of text))
    else None

-- the civil date and time of a moment
abbrev pub IsCivilAt : Civil → ℤ → Type 0
IsCivilAt c seconds = (is_civil_date c ≡ true) × (is_civil_time c ≡ true) × (seconds_of c ≡ seconds)

-- the text is that of the civil date and time of the moment
abbrev pub IsTextOf : List ℕ → ℤ → Type 0
IsTextOf text seconds = (c : Civil) × IsCivilAt c seconds × (text ≡ civil_text c)

-- a year from 1 to 9999, and a month and a day that some calendar may have
abbrev pub IsNear : Civil → Type 0
IsNear c = (1 ≤ c.year) × (c.year ≤ 9999) × (c.month ≤ 12) × (c.day ≤ 31)

-- the calendar has the date, and it is this one
abbrev pub IsDateOf : Civil → Date → Type 0
IsDateOf c date = (is_civil_date c ≡ true) × (epoch_day date ≡ days_from_civil (pos c.year) c.month c.day)
