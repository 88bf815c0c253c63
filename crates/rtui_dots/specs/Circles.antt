-- A circle: which dots it has.
use Rattle.std.specs.Prelude.{ℕ, ◌+◌, ◌-◌, ◌%◌, nat_lt, List, [], ◌∷◌, ℤ, pos, neg_ℤ, ◌+ℤ◌, ◌*ℤ◌, int_lt}
use Rattle.std.specs.Prelude.{slice_index, if◌then◌else◌}
use Prim.Native.Nat.{zero, suc}
use Rattle.rtui_dots.specs.declared.{scale.Scale.Scale, circle.Circle.Circle}
use Rattle.rtui_dots.specs.declared.circle.TheConstants.{COSINES}
use Rattle.rtui_dots.specs.Grids.{Dot, is_open, span, dot_place, dot_columns, dot_rows}

-- the cosine of so many degrees, in billionths
abbrev pub billion : ℕ
billion = 1000000000

abbrev pub cosine_in : ℕ → ℤ
cosine_in d =
    if nat_lt d 90 then pos (slice_index COSINES d)
    else if nat_lt d 180 then neg_ℤ (pos (slice_index COSINES (180 - d)))
    else if nat_lt d 270 then neg_ℤ (pos (slice_index COSINES (d - 180)))
    else pos (slice_index COSINES (360 - d))

abbrev pub cosine_of : ℕ → ℤ
cosine_of d = cosine_in (d % 360)

-- a coordinate in billionths: of the centre, and so far from it
abbrev pub fine : ℤ → ℕ → ℤ → ℤ
fine center radius cosine = (center *ℤ pos billion) +ℤ (pos radius *ℤ cosine)

-- the column and the row of coordinates in billionths
abbrev pub fine_column : Scale → ℤ → ℕ
fine_column s x =
    let left = s.left *ℤ pos billion in let right = s.right *ℤ pos billion in
    dot_place (int_lt x left) (int_lt right x) (span x left) (span right left) (dot_columns s)

abbrev pub fine_row : Scale → ℤ → ℕ
fine_row s y =
    let bottom = s.bottom *ℤ pos billion in let top = s.top *ℤ pos billion in
    dot_place (int_lt top y) (int_lt y bottom) (span y top) (span top bottom) (dot_rows s)

-- the dot of a point so many degrees from the right, against the clock
abbrev pub circle_dot : Scale → Circle → ℕ → Dot
circle_dot s c d = record {
  x = fine_column s (fine c.x c.radius (cosine_of d));
  y = fine_row s (fine c.y c.radius (cosine_of (d + 270)));
  color = c.color;
}

-- those of so many degrees from one on
unfoldable pub degrees_from : Scale → Circle → ℕ → ℕ → List Dot
degrees_from s c d zero = []
degrees_from s c d (suc n) = circle_dot s c d ∷ degrees_from s c (d + 1) n

-- a circle's dots: one for each degree
abbrev pub dots_of_circle : Circle → Scale → List Dot
dots_of_circle c s = if is_open s then degrees_from s c 0 360 else []
