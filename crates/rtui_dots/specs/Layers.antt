-- What is drawn, as layers of dots.
use Rattle.std.specs.Prelude.{Bool, true, false, List, [], ◌∷◌, ◌++◌, if◌then◌else◌}
use Rattle.rtui_dots.specs.declared.{scale.Scale.Scale, drawing.Drawing.Drawing}
use Rattle.rtui_dots.specs.declared.drawing.Drawing.TheVariants.{Points as PointsOf, Line as LineOf}
use Rattle.rtui_dots.specs.declared.drawing.Drawing.TheVariants.{Path as PathOf, Rectangle as RectangleOf}
use Rattle.rtui_dots.specs.declared.drawing.Drawing.TheVariants.{Circle as CircleOf, Bars as BarsOf, Layer}
use Rattle.rtui_dots.specs.Grids.{Dot}
use Rattle.rtui_dots.specs.Circles.{dots_of_circle}
use Rattle.rtui_dots.specs.Shapes.{dots_of_points, dots_of_line, dots_of_path, dots_of_rectangle}
use Rattle.rtui_dots.specs.Shapes.{dots_of_bars}

-- whether what comes after it lies over what comes before it
abbrev pub is_layer : Drawing → Bool
is_layer Layer = true
is_layer d = false

-- the dots of what is drawn
abbrev pub drawn_dots : Drawing → Scale → List Dot
drawn_dots (PointsOf p) s = dots_of_points p s
drawn_dots (LineOf l) s = dots_of_line l s
drawn_dots (PathOf p) s = dots_of_path p s
drawn_dots (RectangleOf r) s = dots_of_rectangle r s
drawn_dots (CircleOf c) s = dots_of_circle c s
drawn_dots (BarsOf b) s = dots_of_bars b s
drawn_dots Layer s = []

-- dots before those of the first layer
abbrev pub with_first : List Dot → List (List Dot) → List (List Dot)
with_first ds [] = ds ∷ []
with_first ds (layer ∷ layers) = (ds ++ layer) ∷ layers

-- what is drawn, as layers of dots
abbrev pub layers_of : Scale → List Drawing → List (List Dot)
layers_of s [] = [] ∷ []
layers_of s (d ∷ ds) = if is_layer d then [] ∷ layers_of s ds else with_first (drawn_dots d s)
    (layers_of s ds)
