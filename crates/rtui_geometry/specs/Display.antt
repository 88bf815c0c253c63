-- The printed texts.
use Rattle.std.specs.Prelude.{ℕ, List, ◌++◌, codes}
use Rattle.std.specs.Fmt.{decimal}
use Rattle.rtui_geometry.specs.{declared.margin.Margin.Margin, declared.position.Position.Position}
use Rattle.rtui_geometry.specs.{declared.rect.Rect.Rect, declared.size.Size.Size}

-- `(x, y)`
abbrev pub position_text : Position → List ℕ
position_text p = codes "(" ++ decimal p.x ++ codes ", " ++ decimal p.y ++ codes ")"

-- two numbers with an `x` between them
abbrev pub by_text : ℕ → ℕ → List ℕ
by_text a b = decimal a ++ codes "x" ++ decimal b

abbrev pub size_text : Size → List ℕ
size_text s = by_text s.width s.height

abbrev pub margin_text : Margin → List ℕ
margin_text m = by_text m.horizontal m.vertical

-- the size, and the corner after it with a `+` before each number
abbrev pub rect_text : Rect → List ℕ
rect_text r = by_text r.width r.height ++ codes "+" ++ decimal r.x ++ codes "+" ++ decimal r.y
