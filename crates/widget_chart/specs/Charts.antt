-- Axes, data sets and charts, as they begin.
use Rattle.std.specs.Prelude.{◌≡◌, ℕ, Bool, true, false, ◌+◌, ◌==◌, List, [], ◌∷◌, Some, None, unwrap_or, option_map, pos}
use Rattle.std.specs.Prelude.{length, map, if◌then◌else◌, All, IfSome}
use Rattle.ratatui_core.specs.{Style.new_style, Style.patch, Style.Style, Text.LineData}
use Rattle.ratatui_core.specs.declared.layout.HorizontalAlignment.{HorizontalAlignment}
use Rattle.ratatui_core.specs.declared.layout.HorizontalAlignment.TheVariants.{Left, Center, Right}
use Rattle.ratatui_core.specs.declared.symbols.Marker.TheVariants.{Dot}
use Rattle.widget_boxes.specs.Titles.{aligned}
use Rattle.widget_chart.specs.declared.{axis.Axis.Axis, dataset.Dataset.Dataset, chart.Chart.Chart}
use Rattle.ratatui_core.specs.declared.layout.Constraint.TheVariants.{Ratio}
use Rattle.widget_chart.specs.declared.{dataset.GraphType.TheVariants.Scatter}
use Rattle.widget_chart.specs.declared.legend.LegendPosition.TheVariants.{TopRight}

-- an axis without a title and labels, with no points between its bounds
pub record IsNewAxis (a : Axis) : Type 0 where
  pub no_title : a.title ≡ None
  pub low : a.low ≡ pos 0
  pub high : a.high ≡ pos 0
  pub no_labels : a.labels ≡ None
  pub at_left : a.labels_alignment ≡ Left
  pub unstyled : a.style ≡ new_style

-- the labels of an axis; one that was given none has none
abbrev pub axis_labels : Axis → List LineData
axis_labels a = unwrap_or a.labels []

-- an axis's title and its labels are so
pub record HasTexts (T : LineData → Type 0) (a : Axis) : Type 0 where
  pub title : IfSome a.title T
  pub labels : All T (axis_labels a)

-- how the first label below is aligned, whose axis aligns it so
abbrev pub other_side : HorizontalAlignment → HorizontalAlignment
other_side Left = Right
other_side Center = Center
other_side Right = Left

-- how label i of n is aligned, below or at the left: the last one below ends with the dots, and those between
-- stand in the middle
abbrev pub side_of_label : Bool → HorizontalAlignment → ℕ → ℕ → HorizontalAlignment
side_of_label false alignment n i = alignment
side_of_label true alignment n i =
    if i == 0 then other_side alignment
    else if i + 1 == n then Right
    else Center

-- those of n labels that are left from label i on, aligned so
abbrev pub aligned_from : Bool → HorizontalAlignment → ℕ → ℕ → List LineData → List LineData
aligned_from below alignment n i [] = []
aligned_from below alignment n i (l ∷ ls) =
    aligned (side_of_label below alignment n i) l ∷ aligned_from below alignment n (i + 1) ls

-- an axis with labels that are aligned as they stand, below or at the left
abbrev pub with_aligned : Bool → Axis → Axis
with_aligned below a =
    record a { labels = option_map (λ ls. aligned_from below a.labels_alignment (length ls) 0 ls) a.labels }

-- a data set of no points, without a name, as dots
pub record IsNewDataset (d : Dataset) : Type 0 where
  pub no_name : d.name ≡ None
  pub no_data : d.points.now ≡ []
  pub dots : d.marker ≡ Dot
  pub scattered : d.graph_type ≡ Scatter
  pub unstyled : d.style ≡ new_style

-- a data set whose style lies over its name
abbrev pub in_own_style : Style → LineData → LineData
in_own_style style line = record line { style = patch line.style style }

abbrev pub with_styled_name : Dataset → Dataset
with_styled_name d = record d { name = option_map (in_own_style d.style) d.name }

-- a chart of these data sets, without a box and styles, its legend at the upper right, over a quarter at most
pub record IsNewChart (ds : List Dataset) (c : Chart) : Type 0 where
  pub datasets_are : c.datasets.items ≡ map with_styled_name ds
  pub no_box : c.block ≡ None
  pub new_x : IsNewAxis c.x_axis
  pub new_y : IsNewAxis c.y_axis
  pub unstyled : c.style ≡ new_style
  pub legend : c.legend_position ≡ Some TopRight
  pub quarter : c.hidden_legend_constraints ≡ (Ratio 1 4, Ratio 1 4)
