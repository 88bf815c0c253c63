-- A map of the world: which dots it has.
use Rattle.std.specs.Prelude.{Bool, true, false, ◌&&◌, List, [], ◌∷◌, ℤ, pos, neg_ℤ, if◌then◌else◌}
use Rattle.std.specs.Ordering.{int_eq}
use Rattle.rtui_dots.specs.declared.scale.Scale.{Scale}
use Rattle.rtui_dots.specs.{Grids.Dot, Grids.is_open, Grids.lies_between, Shapes.point_dots}
use Rattle.canvas_map.specs.declared.low.TheConstants.{LOW}
use Rattle.canvas_map.specs.declared.high.TheConstants.{HIGH}
use Rattle.canvas_map.specs.declared.map.{Map.Map as MapData, MapResolution.MapResolution}
use Rattle.canvas_map.specs.declared.map.MapResolution.TheVariants.{Low, High}

-- the points of the coasts, in hundredths of a degree
abbrev pub points_of_map : MapResolution → List (ℤ × ℤ)
points_of_map Low = LOW
points_of_map High = HIGH

-- a map's dots: one for each of its points; none if the bounds have no points
abbrev pub dots_of_map : MapData → Scale → List Dot
dots_of_map m s = if is_open s then point_dots s m.color (points_of_map m.resolution) else []

-- a point lies on the globe: at most half a turn to the west or to the east, and at most a quarter to the south
-- or to the north
abbrev pub is_on_globe : ℤ × ℤ → Bool
is_on_globe p =
    lies_between (neg_ℤ (pos 18000)) (pos 18000) p.0 && lies_between (neg_ℤ (pos 9000)) (pos 9000) p.1

-- the points of the first list stand in the second one, in the same order
abbrev pub stand_among : List (ℤ × ℤ) → List (ℤ × ℤ) → Bool
stand_among [] qs = true
stand_among (p ∷ ps) [] = false
stand_among (p ∷ ps) (q ∷ qs) =
    if int_eq p.0 q.0 && int_eq p.1 q.1 then stand_among ps qs else stand_among (p ∷ ps) qs
