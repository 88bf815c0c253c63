-- The walk over the positions of a rectangle, row by row.
use Rattle.std.proofs.Common.{◌≡◌, ℕ, ◌+◌, ◌-◌, ◌*◌, ◌<◌, ◌≤◌, ◌^◌, List, [], ◌∷◌, ◌++◌, length, refl, ap, sym, ◌∙◌, arith}
use Rattle.std.proofs.Common.{length-append}
use Rattle.std.specs.List.{flat_map}
use Rattle.std.proofs.Math.Nat.{mul-le-mul}
use Rattle.std.proofs.lemmas.List.FromFn.{length-map-range_with_len, length-range_with_len}
use Rattle.rtui_geometry.specs.{declared.position.Position.Position, declared.rect.Rect.Rect, Rect.right_edge, Rect.bottom_edge}
use Rattle.rtui_geometry.specs.{Rect.EdgesFit}
use Rattle.rtui_geometry.specs.Rows.{numbers, positions_in, positions_from, positions_of}
use Rattle.rtui_geometry.proofs.Numbers.{numbers_none, numbers_first, map_none, map_first}

-- whole rows
pub positions_from-start : (r : Rect) (ys : List ℕ) → positions_from r r.x ys ≡ flat_map (positions_in r r.x) ys
positions_from-start r [] = refl
positions_from-start r (y ∷ ys) = refl

-- a rectangle with no columns has no positions
rows_empty : (r : Rect) (x : ℕ) → right_edge r ≤ x → (ys : List ℕ) → flat_map (positions_in r x) ys ≡ []
rows_empty r x h [] = refl
rows_empty r x h (y ∷ ys) =
    let none : positions_in r x y ≡ [] = map_none (λ k. record { x = k; y = y }) x (right_edge r) h in
    ap (λ l. l ++ flat_map (positions_in r x) ys) none ∙ rows_empty r x h ys

-- nothing is left below the rectangle
pub left_below : (r : Rect) (x y : ℕ) → bottom_edge r ≤ y → positions_from r x (numbers y (bottom_edge r)) ≡ []
left_below r x y h = ap (positions_from r x) (numbers_none y (bottom_edge r) h)

-- nothing is left if there are no columns
pub left_narrow : (r : Rect) (x y : ℕ) → right_edge r ≤ r.x → r.x ≤ x → positions_from r x (numbers y (bottom_edge r)) ≡ []
left_narrow r x y narrow h = narrow_from (numbers y (bottom_edge r))
  where
    narrow_from : (ys : List ℕ) → positions_from r x ys ≡ []
    narrow_from [] = refl
    narrow_from (k ∷ ks) =
        let none : positions_in r x k ≡ [] = map_none (λ c. record { x = c; y = k }) x (right_edge r) (omega arith) in
        ap (λ l. l ++ flat_map (positions_in r r.x) ks) none ∙ rows_empty r r.x narrow ks

-- a step within a row
pub left_step : (r : Rect) (x y : ℕ) → x < right_edge r → y < bottom_edge r
    → positions_from r x (numbers y (bottom_edge r)) ≡ record { x = x; y = y } ∷ positions_from r (x + 1)
    (numbers y (bottom_edge r))
left_step r x y in_row in_rect =
    let rows = numbers_first y (bottom_edge r) in_rect in
    ap (positions_from r x) rows
    ∙ ap (λ l. l ++ flat_map (positions_in r r.x) (numbers (y + 1) (bottom_edge r)))
    (map_first (λ k. record { x = k; y = y }) x (right_edge r) in_row)
    ∙ ap (λ l. record { x = x; y = y } ∷ positions_from r (x + 1) l) (sym rows)

-- a step to the next row
pub left_wrap : (r : Rect) (x y : ℕ) → right_edge r ≤ x → y < bottom_edge r
    → positions_from r x (numbers y (bottom_edge r)) ≡ positions_from r r.x (numbers (y + 1) (bottom_edge r))
left_wrap r x y past in_rect =
    ap (positions_from r x) (numbers_first y (bottom_edge r) in_rect)
    ∙ ap (λ l. l ++ flat_map (positions_in r r.x) (numbers (y + 1) (bottom_edge r)))
    (map_none (λ k. record { x = k; y = y }) x (right_edge r) past)
    ∙ sym (positions_from-start r (numbers (y + 1) (bottom_edge r)))

-- how many are in one row
length-row : (r : Rect) (x y : ℕ) → length (positions_in r x y) ≡ right_edge r - x
length-row r x y = length-map-range_with_len {X = Position} (λ k. record { x = k; y = y }) x (right_edge r - x)

-- how many are in whole rows
length-rows : (r : Rect) (x : ℕ) (ys : List ℕ) → length (flat_map (positions_in r x) ys) ≡ length ys * (right_edge r - x)
length-rows r x [] = omega arith
length-rows r x (y ∷ ys) =
    length-append (positions_in r x y) (flat_map (positions_in r x) ys)
    ∙ omega (arith, length-row r x y, length-rows r x ys)

-- how many are left
pub length-left : (r : Rect) (x y : ℕ) → y < bottom_edge r
    → length (positions_from r x (numbers y (bottom_edge r))) ≡ (bottom_edge r - y - 1) * (right_edge r - r.x) +
    (right_edge r - x)
length-left r x y in_rect =
    let below = numbers (y + 1) (bottom_edge r) in
    let count : length below ≡ bottom_edge r - y - 1 = omega (arith, length-range_with_len (y + 1) (bottom_edge r - (y + 1))) in
    ap (λ l. length (positions_from r x l)) (numbers_first y (bottom_edge r) in_rect)
    ∙ length-append (positions_in r x y) (flat_map (positions_in r r.x) below)
    ∙ omega (arith, length-row r x y, length-rows r r.x below, ap (λ n. n * (right_edge r - r.x)) count)

pub ruleset walk = (left_below, left_narrow, left_step, left_wrap, length-left)

-- how many there are in all
pub length-positions : (r : Rect) → length (positions_of r) ≡ (bottom_edge r - r.y) * (right_edge r - r.x)
length-positions r = omega (
  arith,
  length-rows r r.x (numbers r.y (bottom_edge r)),
  ap (λ n. n * (right_edge r - r.x))
      (length-range_with_len r.y (bottom_edge r - r.y)),
)

pub positions_fit : (r : Rect) → length (positions_of r) < 2 ^ 32
positions_fit r =
    let rows : bottom_edge r - r.y ≤ 65535 = omega arith in
    let columns : right_edge r - r.x ≤ 65535 = omega arith in
    omega (arith, length-positions r, mul-le-mul rows columns)

-- as many as the area, if no edge is cut
pub positions_area : (r : Rect) → EdgesFit r → length (positions_of r) ≡ r.width * r.height
positions_area r fit =
    let rows : bottom_edge r - r.y ≡ r.height = omega arith in
    let columns : right_edge r - r.x ≡ r.width = omega arith in
    length-positions r ∙ ap (λ n. n * (right_edge r - r.x)) rows ∙ ap (λ n. r.height * n) columns ∙ omega arith

pub ruleset counts = (length-positions, positions_fit, positions_area)
