-- Each cell shows the pixels that lie in it.
use Rattle.std.proofs.Common.{◌≡◌, ℕ, ◌+◌, ◌*◌, ◌/◌, Bool, true, false, List, if◌then◌else◌, slice_index, refl, arith}
use Rattle.widget_big_text.specs.declared.letter.TheConstants.{QUADRANTS}
use Rattle.widget_big_text.specs.declared.pixel_size.PixelSize.TheVariants.{Full, HalfHeight, HalfWidth, Quadrant}
use Rattle.widget_big_text.specs.Glyphs.{has_pixel, letter_mark, two_by_two}

abbrev bit : Bool → ℕ
bit b = if b then 1 else 0

-- the symbol of four quarters, by their number
four : (a b c d : Bool) → slice_index QUADRANTS (bit a + 2 * bit b + 4 * (bit c + 2 * bit d)) ≡ two_by_two a b c d
four false false false false = refl
four true false false false = refl
four false true false false = refl
four true true false false = refl
four false false true false = refl
four true false true false = refl
four false true true false = refl
four true true true false = refl
four false false false true = refl
four true false false true = refl
four false true false true = refl
four true true false true = refl
four false false true true = refl
four true false true true = refl
four false true true true = refl
four true true true true = refl

-- where quarters lie: of pixels as large as a cell both halves lie on the same one, and of those of half the size
-- each on its own
whole-first : (x : ℕ) → (2 * x + 0) * 1 / 2 ≡ x
whole-first x = omega arith

whole-second : (x : ℕ) → (2 * x + 1) * 1 / 2 ≡ x
whole-second x = omega arith

half-first : (x : ℕ) → (2 * x + 0) * 2 / 2 ≡ 2 * x
half-first x = omega arith

half-second : (x : ℕ) → (2 * x + 1) * 2 / 2 ≡ 2 * x + 1
half-second x = omega arith

module _ (rows : List ℕ) (x y : ℕ) where
  pub full-shows : let one = has_pixel rows x y in letter_mark Full rows x y ≡ two_by_two one one one one
  full-shows =
      let one = has_pixel rows x y in
      rw (whole-first x, whole-second x, whole-first y, whole-second y) (four one one one one)

  pub half-height-shows : let upper = has_pixel rows x (2 * y) in let lower = has_pixel rows x (2 * y + 1) in
      letter_mark HalfHeight rows x y ≡ two_by_two upper upper lower lower
  half-height-shows =
      let upper = has_pixel rows x (2 * y) in let lower = has_pixel rows x (2 * y + 1) in
      rw (whole-first x, whole-second x, half-first y, half-second y) (four upper upper lower lower)

  pub half-width-shows : let left = has_pixel rows (2 * x) y in let right = has_pixel rows (2 * x + 1) y in
      letter_mark HalfWidth rows x y ≡ two_by_two left right left right
  half-width-shows =
      let left = has_pixel rows (2 * x) y in let right = has_pixel rows (2 * x + 1) y in
      rw (half-first x, half-second x, whole-first y, whole-second y) (four left right left right)

  pub quadrant-shows : let has = has_pixel rows in
      letter_mark Quadrant rows x y ≡ two_by_two (has (2 * x) (2 * y)) (has (2 * x + 1) (2 * y))
      (has (2 * x) (2 * y + 1)) (has (2 * x + 1) (2 * y + 1))
  quadrant-shows =
      let has = has_pixel rows in
      rw (half-first x, half-second x, half-first y, half-second y)
      (four (has (2 * x) (2 * y)) (has (2 * x + 1) (2 * y)) (has (2 * x) (2 * y + 1)) (has (2 * x + 1) (2 * y + 1)))
