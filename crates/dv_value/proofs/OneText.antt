-- A moment has one text, and a text says one moment at most.
use Rattle.std.proofs.Common.{◌≡◌, ◌↔◌, ℕ, ◌+◌, ◌*◌, ◌≤◌, ◌<◌, List, refl, sym, ◌∙◌, ap, arith, Bool, true, false, ◌&&◌, if◌then◌else◌, Some, None, ℤ, pos, ◌+ℤ◌, ◌*ℤ◌}
use Rattle.std.proofs.lemmas.Int.{ints}
use Rattle.std.proofs.lemmas.Slice.Eq.{bytes_eq-Decides}
use Rattle.jiff_core.specs.Calendar.{days_from_civil}
use Rattle.jiff_core.specs.declared.civil.date.Date.{Date}
use Rattle.jiff_core.proofs.DateLemmas.{epoch_day_injective}
use Rattle.jiff_core.proofs.SignedLemmas.{signed_arith}
use Rattle.dv_value.proofs.Moments.{bounds, time_bounds, moment_of-text}
use Rattle.dv_value.specs.Moment.{is_civil_date, seconds_of, civil_text, civil_of, moment_of, IsCivilAt, IsTextOf}
use Rattle.dv_value.specs.declared.moment.Civil.{Civil}

date_of : (c : Civil) → is_civil_date c ≡ true → Date
date_of c e =
    let b = bounds c e in
    record {
      year = pos c.year;
      month = c.month;
      day = c.day;
      year_in = (omega (arith, ints, b.1), omega (arith, ints, b.1));
      month_in = (b.2, b.3);
      day_in = (b.4, b.5);
    }

-- a day and a time of day make one number of seconds, which says both
parts : (a b : ℤ) (m n : ℕ) → m < 86400 → n < 86400 → a *ℤ pos 86400 +ℤ pos m ≡ b *ℤ pos 86400 +ℤ pos n → (a ≡ b) × (m ≡ n)
parts a b m n small few e = (omega (arith, ints, signed_arith, e), omega (arith, ints, signed_arith, e))

clock_below : (h m s : ℕ) → h ≤ 23 → m ≤ 59 → s ≤ 59 → h * 3600 + m * 60 + s < 86400
clock_below h m s high most last = omega arith

clock_parts : (h m s i n t : ℕ) → m ≤ 59 → s ≤ 59 → n ≤ 59 → t ≤ 59 → h * 3600 + m * 60 + s ≡ i * 3600 + n * 60 + t → (h ≡ i) × (m ≡ n) × (s ≡ t)
clock_parts h m s i n t m_most s_most n_most t_most e =
    let hours : h ≡ i = omega (arith, e) in
    let minutes : m ≡ n = omega (arith, e, hours) in
    (hours, minutes, omega (arith, e, hours, minutes))

same_civil : (c d : Civil) (seconds : ℤ) → IsCivilAt c seconds → IsCivilAt d seconds → c ≡ d
unfolding seconds_of date_of
same_civil c d seconds p q =
    let p_time = time_bounds c p.1 in
    let q_time = time_bounds d q.1 in
    let halves = parts (days_from_civil (pos c.year) c.month c.day) (days_from_civil (pos d.year) d.month d.day) (c.hour * 3600 + c.minute * 60 + c.second) (d.hour * 3600 + d.minute * 60 + d.second)
    (clock_below c.hour c.minute c.second p_time.0 p_time.1 p_time.2) (clock_below d.hour d.minute d.second q_time.0 q_time.1 q_time.2) (p.2 ∙ sym q.2) in
    let day = epoch_day_injective (date_of c p.0) (date_of d q.0) halves.0 in
    let time = clock_parts c.hour c.minute c.second d.hour d.minute d.second p_time.1 p_time.2 q_time.1 q_time.2 halves.1 in
    let year : c.year ≡ d.year = omega (arith, ints, day.0) in
    λ i. record { year = year i; month = day.1 i; day = day.2 i; hour = time.0 i; minute = time.1 i; second = time.2 i }

-- two texts of one moment are the same
pub one_text : (a b : List ℕ) (seconds : ℤ) → IsTextOf a seconds → IsTextOf b seconds → a ≡ b
one_text a b seconds (c, at, is) (d, other, also) = is ∙ ap civil_text (same_civil c d seconds at other) ∙ sym also

both : (a b : Bool) → (a && b) ≡ true → (a ≡ true) × (b ≡ true)
both true true e = (refl, refl)
both true false e = (refl, e)
both false b e = absurd (cc)

chosen : (test : Bool) (m n : ℤ) → (if test then Some m else None) ≡ Some n → (test ≡ true) × (m ≡ n)
chosen true m n e = (refl, cc e)
chosen false m n e = absurd (cc e)

says : (text : List ℕ) (seconds : ℤ) → moment_of text ≡ Some seconds → IsTextOf text seconds
unfolding moment_of
says text seconds e =
    let (test, is) = chosen _ _ _ e in
    let (front, time) = both _ _ test in
    let (same_text, date) = both _ _ front in
    (civil_of text, (date, time, is), (bytes_eq-Decides text (civil_text (civil_of text))).0 same_text)

said : (text : List ℕ) (seconds : ℤ) → IsTextOf text seconds → moment_of text ≡ Some seconds
said text seconds (c, at, is) = ap moment_of is ∙ moment_of-text c seconds at

-- a text is read exactly where it is a moment's
pub reads : (text : List ℕ) (seconds : ℤ) → (moment_of text ≡ Some seconds) ↔ IsTextOf text seconds
reads text seconds = (says text seconds, said text seconds)

-- two moments of one text are the same
pub one_moment : (text : List ℕ) (a b : ℤ) → IsTextOf text a → IsTextOf text b → a ≡ b
one_moment text a b p q = cc (said text a p, said text b q)
