-- What the text of a moment says.
use Rattle.std.proofs.Common.{◌≡◌, ◌≢◌, ℕ, ◌+◌, ◌-◌, ◌*◌, ◌/◌, ◌%◌, ◌<◌, ◌≤◌, List, [], ◌∷◌, length, refl, ◌∙◌, ap, arith, Bool, true, false, cond, ◌&&◌, leb-true, le-leb, Some, None, ℤ, pos, negsuc, ◌+ℤ◌, ◌*ℤ◌, ◌≤ℤ◌, to_z, of_z, w16, w32, w64, unsigned_abs, Fits}
use lib.Dec.{T}
use lib.Signed.{non_neg}
use Rattle.std.specs.Str.{bytes_eq}
use Rattle.std.proofs.lemmas.Slice.Eq.{bytes_eq-Decides}
use Rattle.jiff_core.specs.Calendar.{IsDate, IsEpochDay, days_in_month, days_from_civil}
use Rattle.jiff_core.specs.Date.{epoch_day, IsYmd}
use Rattle.jiff_core.specs.declared.civil.date.Date.{Date}
use Rattle.std.proofs.lemmas.Int.{ints, by_lt_z}
use Rattle.jiff_core.specs.Calendar.{day_count}
use Rattle.jiff_core.proofs.CalendarLemmas.{days_from_civil-day_count, day_count-lt_year}
use Rattle.jiff_core.proofs.MarchLemmas.{day_count-early}
use Rattle.jiff_core.proofs.DateLemmas.{civil}
use Rattle.jiff_core.proofs.SignedLemmas.{signed_arith}
use Rattle.std.specs.Str.{IsAscii}
use Rattle.std.proofs.lemmas.Str.{IsAscii-append}
use Rattle.std.proofs.lemmas.Str.Ascii.{IsAscii-nil, IsAscii-cons}
use Rattle.dv_value.proofs.Amounts.{ascii_places}
use Rattle.dv_value.specs.Digits.{places}
use Rattle.dv_value.specs.Moment.{IsMoment, is_civil_date, is_civil_time, seconds_of, civil_text, civil_of, moment_of, IsNear, IsCivilAt}
use Rattle.dv_value.specs.declared.moment.Civil.{Civil}

length-civil_text : (c : Civil) → length (civil_text c) ≡ 20
unfolding civil_text places
length-civil_text c = refl

both : (a b : Bool) → (a && b) ≡ true → (a ≡ true) × (b ≡ true)
both true true e = (refl, refl)
both true false e = (refl, e)
both false b e = absurd (cc)

other_at : (text : List ℕ) (same : Bool) → bytes_eq text (civil_text (civil_of text)) ≡ same → length text ≢ 20 → same ≡ false
other_at text false e len = refl
other_at text true e len = absurd (len (ap length ((bytes_eq-Decides text (civil_text (civil_of text))).0 e) ∙ length-civil_text (civil_of text)))

-- a text of another length says none
pub other_length : (text : List ℕ) → length text ≢ 20 → None ≡ moment_of text
unfolding moment_of
other_length text len = rw (other_at text (bytes_eq text (civil_text (civil_of text))) refl len) refl

-- ---- the date

abbrev pub Bounds : Civil → Type 0
Bounds c = (1 ≤ c.year) × (c.year ≤ 9999) × (1 ≤ c.month) × (c.month ≤ 12) × (1 ≤ c.day) × (c.day ≤ days_in_month (pos c.year) c.month)

pub bounds : (c : Civil) → is_civil_date c ≡ true → Bounds c
unfolding is_civil_date
bounds c e =
    let (f1, day_high) = both _ _ e in
    let (f2, day_low) = both _ _ f1 in
    let (f3, month_high) = both _ _ f2 in
    let (f4, month_low) = both _ _ f3 in
    let (year_low, year_high) = both _ _ f4 in
    (leb-true 1 c.year year_low, leb-true c.year 9999 year_high, leb-true 1 c.month month_low, leb-true c.month 12 month_high, leb-true 1 c.day day_low, leb-true c.day (days_in_month (pos c.year) c.month) day_high)

made : (c : Civil) → Bounds c → is_civil_date c ≡ true
unfolding is_civil_date
made c b = rw (le-leb 1 c.year b.0, le-leb c.year 9999 b.1, le-leb 1 c.month b.2, le-leb c.month 12 b.3, le-leb 1 c.day b.4, le-leb c.day (days_in_month (pos c.year) c.month) b.5) refl

if_le : (b : Bool) (m n k : ℕ) → m ≤ k → n ≤ k → cond b m n ≤ k
if_le true m n k p q = p
if_le false m n k p q = q

month_short : (y : ℤ) (m : ℕ) → days_in_month y m ≤ 31
month_short y m = if_le _ _ _ 31 (if_le _ 29 28 31 (omega arith) (omega arith)) (if_le _ 30 31 31 (omega arith) (omega arith))

near : (c : Civil) → is_civil_date c ≡ true → IsNear c
near c e = let b = bounds c e in (b.0, b.1, b.3, omega (arith, b.5, month_short (pos c.year) c.month))

not_true : (b : Bool) → (b ≡ true → ⊥) → b ≡ false
not_true true other = absurd (other refl)
not_true false other = refl

pub far_date : (c : Civil) → (IsNear c → ⊥) → is_civil_date c ≡ false
far_date c far = not_true (is_civil_date c) (λ e. far (near c e))

pub has_date : (c : Civil) (y m d : ℤ) → y ≡ pos c.year → m ≡ pos c.month → d ≡ pos c.day → IsNear c → IsDate y m d → is_civil_date c ≡ true
has_date c y m d is_y is_m is_d around date =
    let at : IsDate (pos c.year) (pos c.month) (pos c.day) = rw (is_y, is_m, is_d) at date in
    made c (around.0, around.1, omega (arith, ints, at.1.0), around.2, omega (arith, ints, at.2.0), omega (arith, ints, at.2.1))

pub no_date : (c : Civil) (y m d : ℤ) → y ≡ pos c.year → m ≡ pos c.month → d ≡ pos c.day → (IsDate y m d → ⊥) → is_civil_date c ≡ false
no_date c y m d is_y is_m is_d other = not_true (is_civil_date c) (λ e.
    let b = bounds c e in
    other (rw (is_y, is_m, is_d) ((omega (arith, ints, b.1), omega (arith, ints, b.1)), (omega (arith, ints, b.2), omega (arith, ints, b.3)), (omega (arith, ints, b.4), omega (arith, ints, b.5)))))

pub day_is : (c : Civil) (date : Date) (y m d : ℤ) → y ≡ pos c.year → m ≡ pos c.month → d ≡ pos c.day → IsYmd y m d date → epoch_day date ≡ days_from_civil (pos c.year) c.month c.day
day_is c date y m d is_y is_m is_d parts =
    let month : date.month ≡ c.month = cc (parts.1, is_m) in
    let day : date.day ≡ c.day = cc (parts.2, is_d) in
    rw (parts.0, is_y, month, day) refl

-- ---- the time of day

pub time_bounds : (c : Civil) → is_civil_time c ≡ true → (c.hour ≤ 23) × (c.minute ≤ 59) × (c.second ≤ 59)
unfolding is_civil_time
time_bounds c e =
    let (f, second) = both _ _ e in
    let (hour, minute) = both _ _ f in
    (leb-true c.hour 23 hour, leb-true c.minute 59 minute, leb-true c.second 59 second)

pub seconds_are : (from day days time : ℤ) (n : ℕ) → from ≡ to_z w32 (of_z w32 day) → IsEpochDay day → day ≡ days → time ≡ pos n → n < 86400
    → to_z w64 (of_z w64 (to_z w64 (of_z w64 (to_z w64 (of_z w64 from) *ℤ pos 86400)) +ℤ to_z w64 (of_z w64 time))) ≡ days *ℤ pos 86400 +ℤ pos n
seconds_are from day days time n is range day_is time_is small = omega (arith, ints, range.0, range.1)

-- ---- printing

ascii_mark : (mark count n : ℕ) → mark < 128 → IsAscii (mark ∷ places count n)
ascii_mark mark count n small = IsAscii-cons mark (places count n) small (ascii_places count n)

pub ascii_civil : (c : Civil) → IsAscii (civil_text c)
unfolding civil_text
ascii_civil c =
    IsAscii-append _ (90 ∷ []) (IsAscii-append _ (58 ∷ places 2 c.second) (IsAscii-append _ (58 ∷ places 2 c.minute) (IsAscii-append _ (84 ∷ places 2 c.hour) (IsAscii-append _ (45 ∷ places 2 c.day)
    (IsAscii-append (places 4 c.year) (45 ∷ places 2 c.month) (ascii_places 4 c.year) (ascii_mark 45 2 c.month (omega arith)))
    (ascii_mark 45 2 c.day (omega arith))) (ascii_mark 84 2 c.hour (omega arith))) (ascii_mark 58 2 c.minute (omega arith))) (ascii_mark 58 2 c.second (omega arith)))
    (IsAscii-cons 90 [] (omega arith) IsAscii-nil)

pair_is : (n : ℕ) → n ≤ 99 → (48 + n / 10 % 10 - 48) * 10 + (48 + n / 1 % 10 - 48) ≡ n
pair_is n small = omega arith

year_is : (n : ℕ) → n ≤ 9999 → ((48 + n / 1000 % 10 - 48) * 10 + (48 + n / 100 % 10 - 48)) * 100 + ((48 + n / 10 % 10 - 48) * 10 + (48 + n / 1 % 10 - 48)) ≡ n
year_is n small = omega arith

civil_of-text : (c : Civil) → IsNear c → (c.hour ≤ 23) × (c.minute ≤ 59) × (c.second ≤ 59) → civil_of (civil_text c) ≡ c
unfolding civil_of civil_text places
civil_of-text c around time =
    let month : c.month ≤ 99 = omega (arith, around.2) in
    let day : c.day ≤ 99 = omega (arith, around.3) in
    let hour : c.hour ≤ 99 = omega (arith, time.0) in
    let minute : c.minute ≤ 99 = omega (arith, time.1) in
    let second : c.second ≤ 99 = omega (arith, time.2) in
    λ i. record {
      year = year_is c.year around.1 i;
      month = pair_is c.month month i;
      day = pair_is c.day day i;
      hour = pair_is c.hour hour i;
      minute = pair_is c.minute minute i;
      second = pair_is c.second second i;
    }

-- what is printed is read again
pub moment_of-text : (c : Civil) (seconds : ℤ) → IsCivilAt c seconds → moment_of (civil_text c) ≡ Some seconds
unfolding moment_of
moment_of-text c seconds at =
    let same : civil_of (civil_text c) ≡ c = civil_of-text c (near c at.0) (time_bounds c at.1) in
    rw (same, (bytes_eq-Decides (civil_text c) (civil_text c)).1 refl, at.0, at.1, at.2) refl

first_day : day_count (pos 1) 1 1 ≡ 3652791
first_day = day_count-early (pos 1) 10000 1 1 refl (omega arith) (omega arith) (omega arith)

pub year_some : (date : Date) → negsuc 719161 ≤ℤ epoch_day date → pos 1 ≤ℤ date.year
year_some date late = by_lt_z date.year (pos 1)
    (λ early. absurd (omega (arith, signed_arith, first_day, days_from_civil-day_count date.year date.month date.day, late, day_count-lt_year date.year date.month date.day (pos 1) 1 1 (civil date) (omega arith) early)))
    (λ later. later)

pub total_at : (seconds : ℤ) → IsMoment seconds → pos (unsigned_abs (to_z w64 (of_z w64 (to_z w64 (of_z w64 seconds) +ℤ pos 377705116800)))) ≡ seconds +ℤ pos 377705116800
total_at seconds range = omega (arith, ints, signed_arith, range.0, range.1)

time_parts : (t : ℕ) → t / 3600 * 3600 + t / 60 % 60 * 60 + t % 60 ≡ t
time_parts t = omega arith

late_day : (day seconds : ℤ) (total : ℕ) → pos total ≡ seconds +ℤ pos 377705116800 → IsMoment seconds → day +ℤ pos 4371587 ≡ pos (total / 86400) → negsuc 719161 ≤ℤ day
late_day day seconds total is range at = omega (arith, ints, range.0)

clock_is : (day seconds : ℤ) (total n : ℕ) → pos total ≡ seconds +ℤ pos 377705116800 → day +ℤ pos 4371587 ≡ pos (total / 86400) → n ≡ total % 86400 → day *ℤ pos 86400 +ℤ pos n ≡ seconds
clock_is day seconds total n is at rest = omega (arith, ints)

-- the date and the time of day of a moment
pub civil_at : (date : Date) (c : Civil) (seconds : ℤ) (total : ℕ) → pos total ≡ seconds +ℤ pos 377705116800 → IsMoment seconds → epoch_day date +ℤ pos 4371587 ≡ pos (total / 86400)
    → pos c.year ≡ date.year → c.month ≡ date.month → c.day ≡ date.day → c.hour ≡ total % 86400 / 3600 → c.minute ≡ total % 86400 / 60 % 60 → c.second ≡ total % 86400 % 60 → IsCivilAt c seconds
unfolding is_civil_time seconds_of
civil_at date c seconds total is range at year month day hour minute second =
    let some : pos 1 ≤ℤ date.year = year_some date (late_day (epoch_day date) seconds total is range at) in
    let low : 1 ≤ c.year = omega (arith, ints, some, year) in
    let high : c.year ≤ 9999 = omega (arith, ints, year, date.year_in.1) in
    let within : c.day ≤ days_in_month (pos c.year) c.month =
    omega (arith, day, date.day_in.1, ap (λ y. days_in_month y c.month) year, ap (λ m. days_in_month date.year m) month) in
    let days : days_from_civil (pos c.year) c.month c.day ≡ epoch_day date = rw (year, month, day) refl in
    let time : c.hour * 3600 + c.minute * 60 + c.second ≡ total % 86400 = rw (hour, minute, second) (time_parts (total % 86400)) in (
      made c (low, high, omega (arith, month, date.month_in.0), omega (arith, month, date.month_in.1), omega (arith, day, date.day_in.0), within),
      rw (le-leb c.hour 23 (omega (arith, hour)), le-leb c.minute 59 (omega (arith, minute)), le-leb c.second 59 (omega (arith, second))) refl,
      rw days (clock_is (epoch_day date) seconds total _ is at time),
    )

pub year_of : (date : Date) (seconds : ℤ) (total : ℕ) → pos total ≡ seconds +ℤ pos 377705116800 → IsMoment seconds → epoch_day date +ℤ pos 4371587 ≡ pos (total / 86400) → pos (unsigned_abs (to_z w16 (of_z w16 date.year))) ≡ date.year
year_of date seconds total is range at =
    let some : pos 1 ≤ℤ date.year = year_some date (late_day (epoch_day date) seconds total is range at) in
    omega (arith, ints, signed_arith, some, date.year_in.1)

pub year_casts : (date : Date) (seconds : ℤ) (total : ℕ) → pos total ≡ seconds +ℤ pos 377705116800 → IsMoment seconds → epoch_day date +ℤ pos 4371587 ≡ pos (total / 86400)
    → T (non_neg (to_z w16 (of_z w16 date.year))) × Fits w32 (unsigned_abs (to_z w16 (of_z w16 date.year)))
year_casts date seconds total is range at =
    let some : pos 1 ≤ℤ date.year = year_some date (late_day (epoch_day date) seconds total is range at) in
    let cast : to_z w16 (of_z w16 date.year) ≡ pos (unsigned_abs date.year) = omega (arith, ints, signed_arith, some, date.year_in.1) in
    (rw cast tt, omega (arith, ints, signed_arith, some, date.year_in.1))
