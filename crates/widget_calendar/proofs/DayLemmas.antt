-- Days by their places.
use Rattle.std.proofs.Common.{◌≡◌, ℕ, true, false, ◌<◌, ◌^◌, ℤ, pos, ◌+ℤ◌, ◌-ℤ◌, to_z, of_z, w64, FitsSigned, to_z-of_z, arith}
use Rattle.std.proofs.lemmas.Int.{ints}
use Rattle.jiff_core.proofs.SignedLemmas.{signed_arith, back_small}
use Rattle.jiff_core.specs.Calendar.{IsEpochDay}
use Rattle.widget_calendar.specs.Days.{is_day}

-- so many days after another day
pub day-after : (from first : ℤ) (place column k : ℕ) (a b : ℤ) → a ≡ pos place → b ≡ pos k → from ≡ first → k ≡ column
    → place < 2 ^ 32 → k < 2 ^ 8
    → (from +ℤ to_z w64 (of_z w64 (to_z w64 (of_z w64 a) -ℤ to_z w64 (of_z w64 b)))) ≡ (first -ℤ pos column +ℤ pos place)
day-after from first place column k a b ea eb ef ek p q =
    let one : to_z w64 (of_z w64 a) ≡ pos place = rw ea (back_small w64 (pos place) (omega arith)) in
    let two : to_z w64 (of_z w64 b) ≡ pos column = rw (eb, ek) (back_small w64 (pos column) (omega arith)) in
    let fits : FitsSigned w64 (pos place -ℤ pos column) = omega (arith, signed_arith) in
    rw (one, two, to_z-of_z fits, ef) (omega (arith, signed_arith))

-- the test of a day
pub day-there : (day : ℤ) → IsEpochDay day → true ≡ is_day day
day-there day is = grind (arith, ints)

pub day-missing : (day : ℤ) → ¬ (IsEpochDay day) → false ≡ is_day day
day-missing day away = grind (arith, ints)
