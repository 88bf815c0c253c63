-- Shares of a number, and what gauges draw one after the other.
use Rattle.std.proofs.Common.{◌≡◌, ℕ, ◌+◌, ◌-◌, ◌*◌, ◌/◌, ◌<◌, ◌≤◌, List, min, Option, Some, None, arith, Result, Ok, refl}
use Rattle.std.proofs.Math.Nat.{div-lt_iff_lt-mul}
use Rattle.std.specs.declared.alloc.AllocError.{AllocError}
use Rattle.ratatui_core.specs.{Layout.Rect, Layout.IsInside, Style.Style, Style.new_style, Text.LineData}
use Rattle.ratatui_core.specs.Buffer.{BufferData, ChangesEach, columns, text_pieces}
use Rattle.rtui_drawing.specs.Cuts.{cut_from}
use Rattle.rtui_drawing.specs.declared.cut.Cut.TheVariants.{After, Middle, Rows}
use Rattle.rtui_drawing.specs.Drawings.{put_pieces, put_change, IsDone, IsRowIn}
use Rattle.rtui_drawing.proofs.DrawingLemmas.{done-in, done-then, draws-then}
use Rattle.rtui_drawing.proofs.WriteLemmas.{text-fits, line-fits, row-middle}
use Rattle.widget_boxes.specs.Boxes.{IsBoxArea}
use Rattle.rtui_inside.proofs.InsideLemmas.{row-inside}
use Rattle.widget_meters.specs.{declared.line_gauge.LineGauge.LineGauge, declared.gauge.Gauge.Gauge, declared.gauge.Fill.Fill}
use Rattle.widget_meters.specs.{Shares.filled_part, Shares.even_percent_text}
use Rattle.widget_meters.specs.Gauges.{label_width, label_part, IsFillOf, filled_cell, bar_drawing}
use Rattle.widget_meters.specs.LineGauges.{pieces_of_label, line_label_pieces, line_cut, line_cell, HasShortLine, line_gauge_drawing}

-- a rounded share of a number is at most the number
rounded-below : (n p w : ℕ) → p ≤ w → 0 < w → 2 * n * p + w < (n + 1) * (2 * w)
rounded-below n p w le some =
    let over : w ≡ p + (w - p) = omega arith in
    rw over (omega arith)

pub rounded-le : (n p w : ℕ) → p ≤ w → 0 < w → (2 * n * p + w) / (2 * w) ≤ n
rounded-le n p w le some =
    let lt : (2 * n * p + w) / (2 * w) < n + 1 = (div-lt_iff_lt-mul {k = 2 * w} {x = 2 * n * p + w} {y = n + 1} (omega arith)).1
    (rounded-below n p w le some) in
    omega arith

-- a label's pieces keep to the columns of a row
pub pieces-keep : (g : LineGauge) (o : Option LineData) (own row : Rect) → IsRowIn own row
    → columns (pieces_of_label g o row.width) ≤ row.width
pieces-keep g None own row is = text-fits own row new_style (even_percent_text g.share) is
pieces-keep g (Some label) own row is = line-fits own row label is

-- the label, and the line after it
pub fills-line : {A B : Type 0} {x : A} (result : Result B AllocError) (g : LineGauge) (r row part : Rect) (n k end : ℕ)
    (old labelled new : BufferData) → row ≡ cut_from (Rows 0 1) r
    → IsDone (put_pieces (line_label_pieces g row.width)) row (Ok x) old labelled → n ≡ columns (line_label_pieces g row.width)
    → k ≡ min (n + 1) 65535 → part ≡ cut_from (After k) row → end ≡ min (part.x + filled_part g.share part.width) 65535
    → IsDone (put_change (line_cell (record {
      end = end;
      filled_symbol = g.filled_symbol;
      unfilled_symbol = g.unfilled_symbol;
      filled_style = g.filled_style;
      unfilled_style = g.unfilled_style;
    })) (λ _ _. HasShortLine g)) part result labelled new → IsDone (line_gauge_drawing g r) r result old new
fills-line {x = x} result g r row part n k end old labelled new e0 label e1 e2 e3 e4 line =
    done-in (Rows 0 1) (cut_from (Rows 0 1) r) result
    (done-then {x = x} result (rw e0 at label)
    (done-in (line_cut g r.width) (cut_from (line_cut g r.width) (cut_from (Rows 0 1) r)) result
    (rw (e4, e3, e2, e1, e0) at line) refl))
    refl

-- a label stands in a row of the buffer
pub label-row : (text : List ℕ) (own r : Rect) → IsBoxArea r → IsInside r own → IsRowIn own (label_part text r)
label-row text own r box inside =
    let high = box.rows in
    let row = cut_from (Rows (r.height / 2) 1) r in
    row-middle own row (label_width text) (row-inside own r row (r.height / 2) box inside (omega arith) refl)

-- the bar, and the label on it
pub labels-bar : {A : Type 0} (result : Result A AllocError) (g : Gauge) (text : List ℕ) (style : Style) (r : Rect) (fill : Fill)
    (old filled new : BufferData) → IsFillOf g text r fill → ChangesEach r (filled_cell fill) old filled
    → IsDone (put_pieces (text_pieces fill.label.width style text)) fill.label result filled new
    → IsDone (bar_drawing g text style r) r result old new
labels-bar result g text style r fill old filled new is bar label =
    let row = Rows (r.height / 2) 1 in
    let middle = Middle (label_width text) in
    draws-then result (rw (is.end, is.has_tip, is.tip, is.label, is.style) at bar) (done-in row (cut_from row r) result
    (done-in middle (cut_from middle (cut_from row r)) result (rw is.label at label) refl) refl)
