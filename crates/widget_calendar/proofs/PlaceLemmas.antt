-- Which day of which month stands in a place.
use Rattle.std.proofs.Common.{◌≡◌, ℕ, true, false, nat_lt, ◌+◌, ◌-◌, ◌*◌, ◌%◌, ◌<◌, ◌≤◌, ◌↔◌, ◌==◌}
use Rattle.std.proofs.Common.{ℤ, pos, neg_ℤ, ◌+ℤ◌, ◌-ℤ◌, refl, sym, ◌∙◌, ap, subst, arith, ⊎_elim, ◌≢◌}
use Rattle.std.proofs.lemmas.Bool.{cases_lt}
use Rattle.std.proofs.lemmas.Int.{by_lt_z}
use Rattle.std.proofs.lemmas.Bool.Decides.{nat_tests}
use Rattle.jiff_core.specs.declared.civil.date.Date.{Date}
use Rattle.jiff_core.specs.Calendar.{days_from_civil, days_in_month, weekday_number, IsEpochDay}
use Rattle.jiff_core.specs.Date.{epoch_day, weekday_of, month_length}
use Rattle.jiff_core.proofs.SignedLemmas.{signed_arith}
use Rattle.jiff_core.proofs.CalendarLemmas.{weekday_number-add, weekday_number_bound, days_in_month_bounds}
use Rattle.jiff_core.proofs.DateLemmas.{epoch_day_injective, epoch_day_range, days_from_civil-day}
use Rattle.jiff_core.proofs.DateLemmas.{days_from_civil-next_month, days_from_civil-next_year, days_from_civil-min}
use Rattle.jiff_core.proofs.DateLemmas.{days_from_civil-max}
use Rattle.widget_calendar.proofs.DayLemmas.{day-there}
use Rattle.widget_calendar.specs.Days.{first_day, column_of_first, weeks_of, day_at, is_day, is_in_month, length_before, day_number, HasOwnDay}

-- a day in a place, and the Sunday with which the weeks begin
pub column-weekday : (shown day : Date) (place : ℕ) → epoch_day day ≡ day_at shown place → (weekday_of day + 1) % 7 ≡ place % 7
column-weekday shown day place is =
    let f = column_of_first shown in
    let w = weekday_number (first_day shown) in
    let lt = weekday_number_bound (first_day shown) in
    let sunday : ℤ = first_day shown -ℤ pos f in
    let one = weekday_number-add sunday (first_day shown) f (omega (arith, signed_arith)) in
    let two = weekday_number-add sunday (epoch_day day) place is in
    omega arith

-- what is told of a day in a place
abbrev pub IsToldAt : Date → Date → ℕ → Type 0
IsToldAt shown day place = (day_number shown place ≡ day.day)
    × ((is_in_month shown place ≡ true) ↔ ((day.year ≡ shown.year) × (day.month ≡ shown.month)))

-- a day of the month
own-told : (shown day : Date) (place : ℕ) → column_of_first shown ≤ place → place < column_of_first shown + month_length shown
    → epoch_day day ≡ day_at shown place → IsToldAt shown day place
own-told shown day place from to is =
    let f = column_of_first shown in
    let n = place + 1 - f in
    let a : nat_lt place f ≡ false = grind (arith, nat_tests) in
    let b : nat_lt place (f + month_length shown) ≡ true = grind (arith, nat_tests) in
    let there : Date = record {
      year = shown.year;
      month = shown.month;
      day = n;
      year_in = shown.year_in;
      month_in = shown.month_in;
      day_in = (omega arith, omega arith);
    } in
    let same : epoch_day day ≡ epoch_day there =
    omega (arith, signed_arith, is, days_from_civil-day shown.year shown.month 1 n (omega arith) (omega arith)) in
    let parts = epoch_day_injective day there same in
    rw (a, b) (sym parts.2, (λ _. (parts.0, parts.1), λ _. refl))

-- days beside the month are none of it
before-off : (shown : Date) (place : ℕ) → place < column_of_first shown → is_in_month shown place ≡ false
before-off shown place to = let a : nat_lt place (column_of_first shown) ≡ true = grind (arith, nat_tests) in rw a refl

after-off : (shown : Date) (place : ℕ) → column_of_first shown + month_length shown ≤ place → is_in_month shown place ≡ false
after-off shown place from =
    let a : nat_lt place (column_of_first shown) ≡ false = grind (arith, nat_tests) in
    let b : nat_lt place (column_of_first shown + month_length shown) ≡ false = grind (arith, nat_tests) in
    rw (a, b) refl

-- a day of another month, by its parts
module _ (shown day : Date) (place : ℕ) where
  beside-told : (there : Date) → epoch_day day ≡ epoch_day there → there.month ≢ shown.month → day_number shown place ≡ there.day
      → is_in_month shown place ≡ false → IsToldAt shown day place
  beside-told there same apart number off =
      let parts = epoch_day_injective day there same in (
        number ∙ sym parts.2,
        (
          λ on. let never : false ≡ true = sym off ∙ on in absurd (cc),
          λ both. absurd (apart (sym parts.1 ∙ both.1)),
        ),
      )

  -- one of the month after
  module _ (from : column_of_first shown + month_length shown ≤ place) (to : place < 7 * weeks_of shown)
      (is : epoch_day day ≡ day_at shown place) where
    after-number : day_number shown place ≡ place + 1 - (column_of_first shown + month_length shown)
    after-number =
        let a : nat_lt place (column_of_first shown) ≡ false = grind (arith, nat_tests) in
        let b : nat_lt place (column_of_first shown + month_length shown) ≡ false = grind (arith, nat_tests) in
        rw (a, b) refl

    after-in-year : shown.month < 12 → IsToldAt shown day place
    after-in-year lt =
        let f = column_of_first shown in
        let long = month_length shown in
        let n = place + 1 - (f + long) in
        let bounds = days_in_month_bounds shown.year shown.month in
        let others = days_in_month_bounds shown.year (shown.month + 1) in
        let there : Date = record {
          year = shown.year;
          month = shown.month + 1;
          day = n;
          year_in = shown.year_in;
          month_in = (omega arith, omega arith);
          day_in = (omega arith, omega arith);
        } in
        let same : epoch_day day ≡ epoch_day there = omega (
          arith,
          signed_arith,
          is,
          days_from_civil-day shown.year shown.month 1 long (omega arith) (omega arith),
          days_from_civil-next_month shown.year shown.month long shown.month_in.0 refl,
          days_from_civil-day shown.year (shown.month + 1) 1 n (omega arith) (omega arith),
        ) in
        beside-told there same (λ e. absurd (omega arith)) after-number (after-off shown place from)

    after-december : shown.month ≡ 12 → IsToldAt shown day place
    after-december last =
        let f = column_of_first shown in
        let long : month_length shown ≡ 31 = rw last refl in
        let n = place + 1 - (f + month_length shown) in
        let end : first_day shown ≡ days_from_civil shown.year 12 1 = rw last refl in
        let whole = days_from_civil-day shown.year 12 1 31 (omega arith) (omega arith) in
        by_lt_z shown.year (pos 9999)
        (λ lt. let next : ℤ = shown.year +ℤ pos 1 in
        let low = shown.year_in.0 in
        let there : Date = record {
          year = next;
          month = 1;
          day = n;
          year_in = (omega (arith, signed_arith), omega (arith, signed_arith));
          month_in = (omega arith, omega arith);
          day_in = (omega arith, omega arith);
        } in
        let same : epoch_day day ≡ epoch_day there = omega (
          arith,
          signed_arith,
          is,
          end,
          whole,
          days_from_civil-next_year shown.year next (omega (arith, signed_arith)) refl,
          days_from_civil-day next 1 1 n (omega arith) (omega arith),
        ) in
        beside-told there same (λ e. absurd (omega arith)) after-number (after-off shown place from))
        (λ ge. let high = shown.year_in.1 in
        let year : shown.year ≡ pos 9999 = omega (arith, signed_arith) in
        let most : days_from_civil shown.year 12 31 ≡ pos 2_932_896 = rw year days_from_civil-max in
        let range = epoch_day_range day in
        absurd (omega (arith, signed_arith, is, end, whole, most, range.1)))

  -- one of the month before
  module _ (to : place < column_of_first shown) (is : epoch_day day ≡ day_at shown place) where
    before-number : day_number shown place ≡ length_before shown + place + 1 - column_of_first shown
    before-number = let a : nat_lt place (column_of_first shown) ≡ true = grind (arith, nat_tests) in rw a refl

    before-in-year : 1 < shown.month → IsToldAt shown day place
    before-in-year lt =
        let f = column_of_first shown in
        let m = shown.month - 1 in
        let back : m + 1 ≡ shown.month = omega arith in
        let test : (shown.month == 1) ≡ false = grind (arith, nat_tests) in
        let long : length_before shown ≡ days_in_month shown.year m = rw test refl in
        let n = days_in_month shown.year m + place + 1 - f in
        let high = shown.month_in.1 in
        let bounds = days_in_month_bounds shown.year m in
        let few = weekday_number_bound (first_day shown) in
        let there : Date = record {
          year = shown.year;
          month = m;
          day = n;
          year_in = shown.year_in;
          month_in = (omega arith, omega arith);
          day_in = (omega arith, omega arith);
        } in
        let first : days_from_civil shown.year (m + 1) 1 ≡ first_day shown = rw back refl in
        let same : epoch_day day ≡ epoch_day there = omega (
          arith,
          signed_arith,
          is,
          first,
          days_from_civil-next_month shown.year m (days_in_month shown.year m) (omega arith) refl,
          days_from_civil-day shown.year m (days_in_month shown.year m) n (omega arith) (omega arith),
        ) in
        beside-told there same (λ e. absurd (omega arith))
        (before-number ∙ ap (λ l. l + place + 1 - f) long) (before-off shown place to)

    before-january : shown.month ≡ 1 → IsToldAt shown day place
    before-january one =
        let f = column_of_first shown in
        let few = weekday_number_bound (first_day shown) in
        let long : length_before shown ≡ 31 = rw one refl in
        let n = 31 + place + 1 - f in
        let first : first_day shown ≡ days_from_civil shown.year 1 1 = rw one refl in
        by_lt_z (neg_ℤ (pos 9999)) shown.year
        (λ lt. let last : ℤ = shown.year -ℤ pos 1 in
        let high = shown.year_in.1 in
        let there : Date = record {
          year = last;
          month = 12;
          day = n;
          year_in = (omega (arith, signed_arith), omega (arith, signed_arith));
          month_in = (omega arith, omega arith);
          day_in = (omega arith, omega arith);
        } in
        let same : epoch_day day ≡ epoch_day there = omega (
          arith,
          signed_arith,
          is,
          first,
          days_from_civil-next_year last shown.year (omega (arith, signed_arith)) (omega (arith, signed_arith)),
          days_from_civil-day last 12 31 n (omega arith) (omega arith),
        ) in
        beside-told there same (λ e. absurd (omega arith))
        (before-number ∙ ap (λ l. l + place + 1 - f) long) (before-off shown place to))
        (λ le. let low = shown.year_in.0 in
        let year : shown.year ≡ neg_ℤ (pos 9999) = omega (arith, signed_arith) in
        let least : days_from_civil shown.year 1 1 ≡ neg_ℤ (pos 4_371_587) = rw year days_from_civil-min in
        let range = epoch_day_range day in
        absurd (omega (arith, signed_arith, is, first, least, range.0)))

-- each day in a place of the weeks that are shown
pub told-at : (shown day : Date) (place : ℕ) → place < 7 * weeks_of shown → epoch_day day ≡ day_at shown place
    → IsToldAt shown day place
told-at shown day place to is =
    let f = column_of_first shown in
    let low = shown.month_in.0 in let high = shown.month_in.1 in
    ⊎_elim
    (λ (before : place < f).
    ⊎_elim (λ (later : 1 < shown.month). before-in-year shown day place before is later)
    (λ (first : shown.month ≤ 1). before-january shown day place before is (omega arith)) (cases_lt 1 shown.month))
    (λ (from : f ≤ place).
    ⊎_elim (λ (own : place < f + month_length shown). own-told shown day place from own is)
    (λ (after : f + month_length shown ≤ place).
    ⊎_elim (λ (in_year : shown.month < 12). after-in-year shown day place after to is in_year)
    (λ (last : 12 ≤ shown.month). after-december shown day place after to is (omega arith)) (cases_lt shown.month 12))
    (cases_lt place (f + month_length shown))) (cases_lt place f)

-- the calendar has each day of a month
own-day : (shown : Date) (place : ℕ) → column_of_first shown ≤ place → place < column_of_first shown + month_length shown
    → IsEpochDay (day_at shown place)
own-day shown place from to =
    let n = place + 1 - column_of_first shown in
    let there : Date = record {
      year = shown.year;
      month = shown.month;
      day = n;
      year_in = shown.year_in;
      month_in = shown.month_in;
      day_in = (omega arith, omega arith);
    } in
    let same : day_at shown place ≡ epoch_day there =
    omega (arith, signed_arith, days_from_civil-day shown.year shown.month 1 n (omega arith) (omega arith)) in
    subst IsEpochDay (sym same) (epoch_day_range there)

-- so one that it doesn't have is none of the month
pub missing-off : (shown : Date) (place : ℕ) → false ≡ is_day (day_at shown place) → is_in_month shown place ≡ false
missing-off shown place missing =
    let f = column_of_first shown in
    ⊎_elim
    (λ (before : place < f). before-off shown place before)
    (λ (from : f ≤ place).
    ⊎_elim
    (λ (own : place < f + month_length shown).
    let never : false ≡ true = missing ∙ sym (day-there _ (own-day shown place from own)) in absurd (cc))
    (λ (after : f + month_length shown ≤ place). after-off shown place after)
    (cases_lt place (f + month_length shown)))
    (cases_lt place f)

-- a week is shown if a day of the month stands in it
pub week-shown : (shown : Date) (week : ℕ) → (week < weeks_of shown) ↔ HasOwnDay shown week
week-shown shown week = (λ lt. here lt, λ some. there some)
  where
    f : ℕ
    f = column_of_first shown

    first : f < 7
    first = omega arith

    long : 28 ≤ month_length shown
    long = (days_in_month_bounds shown.year shown.month).1

    own : (column : ℕ) → column < 7 → f ≤ 7 * week + column → 7 * week + column < f + month_length shown → HasOwnDay shown week
    own column lt from to =
        let a : nat_lt (7 * week + column) f ≡ false = grind (arith, nat_tests) in
        let b : nat_lt (7 * week + column) (f + month_length shown) ≡ true = grind (arith, nat_tests) in
        (column, lt, rw (a, b) refl)

    here : week < weeks_of shown → HasOwnDay shown week
    here lt =
        ⊎_elim (λ (later : 0 < week). own 0 (omega arith) (omega arith) (omega arith))
        (λ (none : week ≤ 0). own f first (omega arith) (omega arith)) (cases_lt 0 week)

    there : HasOwnDay shown week → week < weeks_of shown
    there (column, lt, is) =
        ⊎_elim
        (λ (before : 7 * week + column < f). omega arith)
        (λ (from : f ≤ 7 * week + column).
        ⊎_elim (λ (within : 7 * week + column < f + month_length shown). omega arith)
        (λ (after : f + month_length shown ≤ 7 * week + column).
        let never : false ≡ true = sym (after-off shown (7 * week + column) after) ∙ is in absurd (cc))
        (cases_lt (7 * week + column) (f + month_length shown)))
        (cases_lt (7 * week + column) f)
