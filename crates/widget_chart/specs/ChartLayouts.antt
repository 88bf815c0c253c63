-- How many columns and rows the parts of a chart take.
use Rattle.std.specs.Prelude.{ℕ, Bool, true, false, ◌+◌, ◌-◌, ◌/◌, ◌&&◌, nat_lt, min, max, List, [], ◌∷◌}
use Rattle.std.specs.Prelude.{length, Option, Some, None, if◌then◌else◌}
use Rattle.ratatui_core.specs.{Layout.Rect, Text.LineData}
use Rattle.ratatui_core.specs.declared.layout.HorizontalAlignment.{HorizontalAlignment}
use Rattle.ratatui_core.specs.declared.layout.HorizontalAlignment.TheVariants.{Left, Center, Right}
use Rattle.widget_boxes.specs.Titles.{title_width}
use Rattle.rtui_drawing.specs.Cuts.{cut_from}
use Rattle.rtui_drawing.specs.declared.cut.Cut.TheVariants.{After, Above}
use Rattle.widget_chart.specs.{declared.axis.Axis.Axis, declared.layout.Margins.Margins, Charts.axis_labels}

-- whether an axis has labels; one without them isn't shown
abbrev pub is_labelled : Axis → Bool
is_labelled a = nat_lt 0 (length (axis_labels a))

-- the columns of the widest of some lines, and of the first one
abbrev pub widest_line : List LineData → ℕ
widest_line [] = 0
widest_line (l ∷ ls) = max (title_width l) (widest_line ls)

abbrev pub first_width : List LineData → ℕ
first_width [] = 0
first_width (l ∷ ls) = title_width l

-- how many of the columns of the first label below stand left of the dots and of the axis there, if there is
-- one
abbrev pub left_of_axis : HorizontalAlignment → Bool → ℕ → ℕ
left_of_axis Left true n = n - 1
left_of_axis Left false n = n
left_of_axis Center has_axis n = n / 2
left_of_axis Right has_axis n = 0

-- the columns of the labels at the left: as many as the widest one has, or as that first one needs there; at
-- most a third
abbrev pub columns_beside : Axis → Axis → ℕ → ℕ
columns_beside x y width =
    let below = left_of_axis x.labels_alignment (is_labelled y) (first_width (axis_labels x)) in
    min (max (widest_line (axis_labels y)) below) (width / 3)

-- the column of the axis at the left, the row of the axis below and that of its labels, if there is room for
-- them
abbrev pub axis_columns : Axis → ℕ → ℕ → ℕ
axis_columns y left width = if is_labelled y && nat_lt (left + 1) width then 1 else 0

abbrev pub axis_rows : Axis → ℕ → ℕ
axis_rows x height = if is_labelled x && nat_lt 2 height then 1 else 0

abbrev pub label_rows : Axis → ℕ → ℕ
label_rows x height = if is_labelled x && nat_lt 1 height then 1 else 0

-- what a chart has around its dots in an area: the columns of the axis at the left, all columns there, the
-- rows of the axis below, and all rows there
abbrev pub margins_of : Axis → Axis → Rect → Margins
margins_of x y r =
    let left = columns_beside x y r.width in
    let columns = axis_columns y left r.width in
    let rows = axis_rows x r.height in
    record { columns = columns; left = left + columns; rows = rows; below = rows + label_rows x r.height }

-- the area of the dots
abbrev pub graph_in : Margins → Rect → Rect
graph_in m r = cut_from (Above m.below) (cut_from (After m.left) r)

-- the columns of a title over the dots: all of them, if there are more columns, some of them left over, and
-- more than two rows; else none
abbrev pub title_columns : Option LineData → ℕ → Rect → ℕ
title_columns None over g = 0
title_columns (Some line) over g =
    if nat_lt (title_width line + over) g.width && nat_lt 2 g.height then title_width line else 0
