-- What holds of each thing that a chart draws.
use Rattle.std.proofs.Common.{ℕ, ◌+◌, ◌-◌, ◌≤◌, Bool, true, false, List, [], ◌∷◌, IfSome, All, Option, Some, None, lit<, nat_lt, length}
use Rattle.std.specs.Prelude.{⊤}
use Rattle.std.proofs.lemmas.List.Elements.{All-head, All-tail}
use Rattle.unicode_width.proofs.Computing.{unicode_width}
use Rattle.rtui_symbols.specs.declared.line.TheConstants as line_symbol
use Rattle.ratatui_core.specs.{Layout.Rect, Style.Style, Style.new_style, Text.LineData, Buffer.text_width, Buffer.IsShort}
use Rattle.rtui_drawing.specs.Cuts.{cut_from}
use Rattle.rtui_drawing.specs.declared.cut.Cut.TheVariants.{First, After, Rows, Above}
use Rattle.rtui_drawing.specs.Drawings.{Thing, a_style, a_line, a_change, Drawing, nothing, put, over, ◌before◌, draw_if}
use Rattle.widget_chart.specs.declared.{axis.Axis.Axis, dataset.Dataset.Dataset, chart.Chart.Chart, layout.Margins.Margins}
use Rattle.widget_chart.specs.Charts.{axis_labels, HasTexts}
use Rattle.widget_chart.specs.ChartParts.{each_numbered, label_at, ruled_cell, axes, dotted_cell, all_dotted, axis_title}
use Rattle.widget_chart.specs.{Legends.name_if, Legends.under_name, Legends.names, Legends.legend_in, Legends.legend_at}
use Rattle.widget_chart.specs.Plots.{names_of}

-- each thing of a drawing is so
abbrev pub EachThing : (Thing → Type 0) → Drawing → Type 0
EachThing Q nothing = ⊤
EachThing Q (put thing) = Q thing
EachThing Q (over c d) = EachThing Q d
EachThing Q (a before b) = EachThing Q a × EachThing Q b

-- each symbol of axes and boxes takes a column
level-narrow : text_width line_symbol.HORIZONTAL.now ≤ 1
unfolding text_width unicode_width
level-narrow = lit< tt

upright-narrow : text_width line_symbol.VERTICAL.now ≤ 1
unfolding text_width unicode_width
upright-narrow = lit< tt

lower-left-narrow : text_width line_symbol.BOTTOM_LEFT.now ≤ 1
unfolding text_width unicode_width
lower-left-narrow = lit< tt

lower-right-narrow : text_width line_symbol.BOTTOM_RIGHT.now ≤ 1
unfolding text_width unicode_width
lower-right-narrow = lit< tt

upper-left-narrow : text_width line_symbol.TOP_LEFT.now ≤ 1
unfolding text_width unicode_width
upper-left-narrow = lit< tt

upper-right-narrow : text_width line_symbol.TOP_RIGHT.now ≤ 1
unfolding text_width unicode_width
upper-right-narrow = lit< tt

-- what holds of styles, of each text of a chart, and of cells with such a symbol
module _ (Q : Thing → Type 0) (T : LineData → Type 0) (styled : (style : Style) → Q (a_style style))
    (written : (l : LineData) → T l → Q (a_line l))
    (marked : (style : Style) (symbol : List ℕ) → text_width symbol ≤ 1 → IsShort symbol
    → Q (a_change (ruled_cell style symbol) (λ _ _. IsShort symbol))) where
  if-each : (t : Bool) (d : Drawing) → EachThing Q d → EachThing Q (draw_if t d)
  if-each true d each = each
  if-each false d each = tt

  -- labels, each where it stands by its number
  label-each : (a : Axis) (left : Option ℕ) (r : Rect) (i : ℕ) (l : LineData) → T l → EachThing Q (label_at a left r i l)
  label-each a None r i l is = written l is
  label-each a (Some left) r i l is = written l is

  numbered-each : (place : ℕ → LineData → Drawing) → ((i : ℕ) (l : LineData) → T l → EachThing Q (place i l)) → (i : ℕ)
      (ls : List LineData) → All T ls → EachThing Q (each_numbered place i ls)
  numbered-each place each i [] all = tt
  numbered-each place each i (l ∷ ls) all =
      (each i l (All-head T l ls all), numbered-each place each (i + 1) ls (All-tail T l ls all))

  pub axes-each : (x y : Axis) (m : Margins) (r : Rect) → HasTexts T x → HasTexts T y → EachThing Q (axes x y m r)
  axes-each x y m r below beside =
      let rows = Rows (r.height - (m.below - m.rows)) (m.below - m.rows) in
      let p = cut_from rows r in
      let q = cut_from (Above m.below) (cut_from (First (m.left - 1)) r) in
      let labels = each_numbered (label_at x (Some m.left) p) 0 (axis_labels x) in (
        if-each (nat_lt 1 (length (axis_labels x))) (over rows labels)
            (numbered-each (label_at x (Some m.left) p) (label-each x (Some m.left) p) 0 (axis_labels x) below.labels),
        (
          numbered-each (label_at y None q) (label-each y None q) 0 (axis_labels y) beside.labels,
          (
            marked x.style _ level-narrow (lit< tt),
            (marked y.style _ upright-narrow (lit< tt), marked x.style _ lower-left-narrow (lit< tt)),
          ),
        ),
      )

  title-each : (style : Style) (title : Option LineData) → IfSome title T → EachThing Q (axis_title style title)
  title-each style None is = tt
  title-each style (Some line) is = (styled style, written line is)

  name-each : (name : Option LineData) → IfSome name T → EachThing Q (name_if name)
  name-each None is = tt
  name-each (Some line) is = written line is

  under-each : (name : Option LineData) (d : Drawing) → EachThing Q d → EachThing Q (under_name name d)
  under-each None d each = each
  under-each (Some line) d each = each

  -- data sets, and their names
  module _ (D : Dataset → Type 0) where
    pub dots-each : (ch : Chart) (g : Rect)
        → ((d : Dataset) → D d → Q (a_change (dotted_cell ch d g) (λ _ _. ⊥))) → (ds : List Dataset) → All D ds
        → EachThing Q (all_dotted ch g ds)
    dots-each ch g each [] all = tt
    dots-each ch g each (d ∷ ds) all = (each d (All-head D d ds all), dots-each ch g each ds (All-tail D d ds all))

    names-each : ((d : Dataset) → D d → IfSome d.name T) → (ds : List Dataset) → All D ds → EachThing Q (names ds)
    names-each named [] all = tt
    names-each named (d ∷ ds) all = (
      name-each d.name (named d (All-head D d ds all)),
      under-each d.name (names ds) (names-each named ds (All-tail D d ds all)),
    )

    legend-each : ((d : Dataset) → D d → IfSome d.name T) → (style : Style) (ds : List Dataset) (at g : Rect) → All D ds
        → EachThing Q (legend_at style ds at g)
    legend-each named style ds at g all =
        let rows = Rows at.y at.height in
        let legend = legend_in style ds (cut_from rows (cut_from (First at.width) (cut_from (After at.x) g))) in
        let level = marked new_style _ level-narrow (lit< tt) in
        let upright = marked new_style _ upright-narrow (lit< tt) in
        if-each (nat_lt 0 at.width) (over (After at.x) (over (First at.width) (over rows legend))) (
          styled style,
          (
            (
              upright,
              (
                upright,
                (
                  (level, (marked new_style _ upper-left-narrow (lit< tt), marked new_style _ upper-right-narrow (lit< tt))),
                  (level, (marked new_style _ lower-left-narrow (lit< tt), marked new_style _ lower-right-narrow (lit< tt))),
                ),
              ),
            ),
            names-each named ds all,
          ),
        )

    pub over-each : (c : Chart) (style : Style) (g : Rect) → HasTexts T c.x_axis → HasTexts T c.y_axis
        → ((d : Dataset) → D d → IfSome d.name T) → All D c.datasets.items → EachThing Q (names_of c style g)
    over-each c style g x y named all = (
      title-each style c.x_axis.title x.title,
      (title-each style c.y_axis.title y.title, legend-each named style c.datasets.items _ g all),
    )
