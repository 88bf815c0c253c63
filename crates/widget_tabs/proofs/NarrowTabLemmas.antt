-- Tabs of narrow texts keep cells plain.
use Rattle.std.proofs.Common.{ℕ, zero, suc, ◌+◌, ◌-◌, ◌≤◌, ◌==◌, nat_lt, true, false, IfSome, if◌then◌else◌, List, [], ◌∷◌, All}
use Rattle.std.proofs.Common.{Option, Some, None, arith, codes}
use Rattle.std.proofs.lemmas.{List.Elements.All-head, List.Elements.All-tail}
use Rattle.ratatui_core.specs.Layout.{Rect, intersected}
use Rattle.ratatui_core.specs.{Style.Style, Text.LineData, Text.ArePrintable}
use Rattle.ratatui_core.specs.Text.{EachGrapheme, EachSpanGrapheme, TakesOneColumn}
use Rattle.ratatui_core.specs.{Buffer.BufferData, Buffer.IsPlainFrom}
use Rattle.rtui_drawing.specs.declared.cut.Cut.TheVariants.{After}
use Rattle.rtui_drawing.specs.{Drawings.over, Drawings.◌before◌}
use Rattle.rtui_drawing.proofs.Laws.{IsNarrowDrawing}
use Rattle.rtui_drawing.proofs.{DrawingLemmas.if-narrow, NarrowLemmas.text-narrow, NarrowLemmas.line-narrow}
use Rattle.widget_boxes.specs.{Boxes.IsNarrowBox, Framed.inner_if}
use Rattle.rtui_inside.proofs.InsideLemmas.{inside-plain, inner-columns}
use Rattle.widget_tabs.specs.declared.tabs.Tabs.{Tabs as TabsData}
use Rattle.widget_tabs.specs.Tabs.{TabPart, no_part, span_part, line_part, ◌beside◌, columns_of_part, drawing_of_part, padding_part}
use Rattle.widget_tabs.specs.Tabs.{divider_part, tab_part, tabs_from, tabs_drawing, RendersTabs, IsNarrowTabLine, HasNarrowTabs}

-- a blank is printable
pub blank-printable : ArePrintable (codes " ")
blank-printable zero lt = record { low = omega arith; high = omega arith }
blank-printable (suc k) lt = absurd (omega arith)

-- each grapheme of the part takes one column
abbrev IsNarrowPart : TabPart → Type 0
IsNarrowPart no_part = Unit {0}
IsNarrowPart (span_part span) = EachGrapheme TakesOneColumn span.content
IsNarrowPart (line_part line is_lit) = EachSpanGrapheme TakesOneColumn line.spans
IsNarrowPart (a beside b) = IsNarrowPart a × IsNarrowPart b

part-narrow : (highlight : Style) (p : TabPart) (room : ℕ) → room ≤ 65535 → IsNarrowPart p
    → IsNarrowDrawing (drawing_of_part highlight p room)
part-narrow highlight no_part room le is = tt
part-narrow highlight (span_part span) room le is = text-narrow room span.style span.content le is
part-narrow highlight (line_part line false) room le is = (line-narrow room line.style line.spans le is, tt)
part-narrow highlight (line_part line true) room le is = (line-narrow room line.style line.spans le is, tt)
part-narrow highlight (a beside b) room le is =
    (part-narrow highlight a room le is.0, part-narrow highlight b (room - columns_of_part a room) (omega arith) is.1)

module _ (t : TabsData) (blank : EachGrapheme TakesOneColumn (codes " ")) (narrow : HasNarrowTabs t) where
  padding-narrow : (o : Option LineData) → IfSome o IsNarrowTabLine → IsNarrowPart (padding_part o)
  padding-narrow None is = blank
  padding-narrow (Some line) is = is

  divider-narrow : (k : ℕ) → IsNarrowPart (divider_part t k)
  divider-narrow k = elim (k == 0) as (λ b. IsNarrowPart (if b then no_part else span_part t.divider)) [
    | true ↦ tt
    | false ↦ narrow.divider
  ]

  from-narrow : (room k : ℕ) (lines : List LineData) → room ≤ 65535 → All IsNarrowTabLine lines
      → IsNarrowDrawing (tabs_from t room k lines)
  from-narrow room k [] le all = tt
  from-narrow room k (line ∷ lines) le all =
      let part = tab_part t k line in
      let n = columns_of_part part room in
      if-narrow (nat_lt 0 room) (drawing_of_part t.highlight_style part room before over (After n) (tabs_from t (room - n) (k + 1)
      lines)) (
        part-narrow t.highlight_style part room le (
          divider-narrow k,
          (
            padding-narrow t.padding_left narrow.left,
            (All-head IsNarrowTabLine line lines all, padding-narrow t.padding_right narrow.right),
          ),
        ),
        from-narrow (room - n) (k + 1) lines (omega arith) (All-tail IsNarrowTabLine line lines all),
      )

pub tabs-keep : EachGrapheme TakesOneColumn (codes " ") → (t : TabsData) (area : Rect) (old new : BufferData)
    → IfSome t.block IsNarrowBox → HasNarrowTabs t → IsPlainFrom 0 old → RendersTabs t area old new → IsPlainFrom 0 new
tabs-keep blank t area old new box narrow plain =
    inside-plain t.style t.block area old new box plain (tabs_drawing t)
    (from-narrow t blank narrow (inner_if t.block (intersected area old.area)).width 0 t.titles.items
    (inner-columns t.block area old.area) narrow.titles)
