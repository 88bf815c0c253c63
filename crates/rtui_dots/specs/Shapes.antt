-- The dots of each shape.
use Rattle.std.specs.Prelude.{List, [], ◌∷◌, ◌++◌, ℤ, pos, ◌+ℤ◌, if◌then◌else◌}
use Rattle.std.specs.Int.{saturate_signed, w64}
use Rattle.rtui_style.specs.declared.color.Color.{Color}
use Rattle.rtui_dots.specs.declared.{scale.Scale.Scale, points.Points.Points, line.Line.Line, path.Path.Path}
use Rattle.rtui_dots.specs.declared.{rectangle.Rectangle.Rectangle, bars.Bars.Bars}
use Rattle.rtui_dots.specs.Grids.{Dot, is_open, dot_column, dot_row, point_dot}
use Rattle.rtui_dots.specs.Lines.{run_of, run_dots}

-- a dot for each of some points
abbrev pub point_dots : Scale → Color → List (ℤ × ℤ) → List Dot
point_dots s color [] = []
point_dots s color (c ∷ cs) = point_dot s c.0 c.1 color ∷ point_dots s color cs

-- those of points; none if the bounds have no points
abbrev pub dots_of_points : Points → Scale → List Dot
dots_of_points p s = if is_open s then point_dots s p.color p.coords.now else []

-- those between two points
abbrev pub dots_between : ℤ → ℤ → ℤ → ℤ → Color → Scale → List Dot
dots_between x y x' y' color s =
    if is_open s then run_dots (run_of (dot_column s x) (dot_row s y) (dot_column s x')
    (dot_row s y')) color else []

abbrev pub dots_of_line : Line → Scale → List Dot
dots_of_line l = dots_between l.x1 l.y1 l.x2 l.y2 l.color

-- those of the lines from a point to the first of some others, and on to the next one
abbrev pub dots_on : ℤ × ℤ → List (ℤ × ℤ) → Color → Scale → List Dot
dots_on c [] color s = []
dots_on c (d ∷ ds) color s = dots_between c.0 c.1 d.0 d.1 color s ++ dots_on d ds color s

-- those of the lines from each of some points to the next one
abbrev pub dots_along : List (ℤ × ℤ) → Color → Scale → List Dot
dots_along [] color s = []
dots_along (c ∷ cs) color s = dots_on c cs color s

abbrev pub dots_of_path : Path → Scale → List Dot
dots_of_path p = dots_along p.coords.now p.color

-- those of the lines from the coordinate 0 to each of some points, up or down
abbrev pub dots_of_columns : List (ℤ × ℤ) → Color → Scale → List Dot
dots_of_columns [] color s = []
dots_of_columns (c ∷ cs) color s = dots_between c.0 (pos 0) c.0 c.1 color s ++ dots_of_columns cs color s

abbrev pub dots_of_bars : Bars → Scale → List Dot
dots_of_bars b = dots_of_columns b.coords.now b.color

-- the number that is so far from another one, at most the greatest one of 64 bits and at least the least one
abbrev pub far_end : ℤ → ℤ → ℤ
far_end x n = saturate_signed w64 (x +ℤ n)

-- the lines of a rectangle's sides: left, top, right, bottom
abbrev pub dots_of_rectangle : Rectangle → Scale → List Dot
dots_of_rectangle r s =
    let right = far_end r.x r.width in
    let top = far_end r.y r.height in
    dots_between r.x r.y r.x top r.color s
    ++ dots_between r.x top right top r.color s
    ++ dots_between right r.y right top r.color s
    ++ dots_between r.x r.y right r.y r.color s
