-- A gauge: which cell gets which symbol and style.
use Rattle.std.specs.Prelude.{◌≡◌, ℕ, Bool, ◌+◌, ◌-◌, ◌/◌, ◌==◌, ◌&&◌, not, nat_le, nat_lt, min, List, []}
use Rattle.std.specs.Prelude.{◌∷◌, codes, Option, Some, None, if◌then◌else◌, unwrap_or, slice_index_or, false, ⊤}
use Rattle.ratatui_core.specs.Layout.{Rect, Position}
use Rattle.ratatui_core.specs.{Style.Style, Style.new_style, declared.style.Color.Color}
use Rattle.ratatui_core.specs.{declared.style.Color.TheVariants.Reset, Text.SpanData}
use Rattle.ratatui_core.specs.Buffer.{BufferData, Cell, styled, with_symbol, text_columns, text_pieces}
use Rattle.rtui_drawing.specs.{Cuts.cut_from, declared.cut.Cut.TheVariants.Middle}
use Rattle.rtui_drawing.specs.{declared.cut.Cut.TheVariants.Rows}
use Rattle.rtui_drawing.specs.Drawings.{Drawing, over, ◌before◌, put_change, put_pieces}
use Rattle.rtui_inside.specs.Inside.{DrawsInside, LeavesInside, IsShortInside}
use Rattle.widget_meters.specs.{declared.gauge.Gauge.Gauge, declared.gauge.Fill.Fill}
use Rattle.widget_meters.specs.{declared.gauge.TheConstants.FULL_BLOCK, declared.gauge.TheConstants.TIPS}
use Rattle.widget_meters.specs.Shares.{share_of, filled_part, rounded_part, eighths_of, percent_text, is_full}

-- an empty gauge, without box, label and styles
pub record IsNewGauge (g : Gauge) : Type 0 where
  pub no_box : g.block ≡ None
  pub nothing : g.share ≡ share_of 0 1
  pub unlabelled : g.label ≡ None
  pub whole_columns : g.use_unicode ≡ false
  pub unstyled : g.style ≡ new_style
  pub unstyled_bar : g.gauge_style ≡ new_style

-- how many columns of an area are filled whole
abbrev pub full_columns : Gauge → ℕ → ℕ
full_columns g width = if g.use_unicode then filled_part g.share width else rounded_part g.share width

-- how many columns a label takes, and where it stands: in the middle of an area
abbrev pub label_width : List ℕ → ℕ
label_width text = min (text_columns text) 65535

abbrev pub label_part : List ℕ → Rect → Rect
label_part text r = cut_from (Middle (label_width text)) (cut_from (Rows (r.height / 2) 1) r)

-- the characters of a column that is filled by eighths, from none to all
abbrev pub tip_codes : List (List ℕ)
tip_codes =
    codes " " ∷ codes "▏" ∷ codes "▎" ∷ codes "▍" ∷ codes "▌" ∷ codes "▋" ∷ codes "▊" ∷ codes "▉" ∷ codes
    "█" ∷ []

-- the symbol of the column after the whole ones
abbrev pub tip_text : Gauge → Rect → List ℕ
tip_text g r = (slice_index_or TIPS (eighths_of g.share r.width) FULL_BLOCK).now

-- how a gauge fills an area in which a label stands
abbrev pub fill_of : Gauge → List ℕ → Rect → Fill
fill_of g text r = record {
  end = r.x + full_columns g r.width;
  has_tip = g.use_unicode && not (is_full g.share);
  tip = record { ref_ptr = (0, 0); now = tip_text g r };
  label = label_part text r;
  style = g.gauge_style;
}

pub record IsFillOf (g : Gauge) (text : List ℕ) (r : Rect) (f : Fill) : Type 0 where
  pub end : f.end ≡ r.x + full_columns g r.width
  pub has_tip : f.has_tip ≡ (g.use_unicode && not (is_full g.share))
  pub tip : f.tip.now ≡ tip_text g r
  pub label : f.label ≡ label_part text r
  pub style : f.style ≡ g.gauge_style

-- the position is one of the label's columns, or the one after them
abbrev pub is_under_label : Fill → Position → Bool
is_under_label f p = (p.y == f.label.y) && nat_le f.label.x p.x && nat_le (p.x - f.label.x) f.label.width

-- a cell in these colours
abbrev pub in_colors : Color → Color → Cell → Cell
in_colors front back c = record c { fg = front; bg = back }

-- a filled cell: a block in the bar's colours, and under the label a blank in the other ones
abbrev pub full_cell : Fill → Position → Cell → Cell
full_cell f p c =
    if is_under_label f p then in_colors (unwrap_or f.style.bg Reset) (unwrap_or f.style.fg Reset)
    (styled f.style (with_symbol (codes " ") c))
    else in_colors (unwrap_or f.style.fg Reset) (unwrap_or f.style.bg Reset)
    (styled f.style (with_symbol FULL_BLOCK.now c))

-- a cell of a bar: filled before its end, the tip in the next column, and otherwise in the bar's style
abbrev pub filled_cell : Fill → Position → Cell → Cell
filled_cell f p c =
    if nat_lt p.x f.end then full_cell f p c
    else if f.has_tip && (p.x == f.end) then styled f.style (with_symbol f.tip.now c) else styled f.style c

-- the bar over an area, and a label on it
abbrev pub bar_drawing : Gauge → List ℕ → Style → Rect → Drawing
bar_drawing g text style r =
    let n = label_width text in
    put_change (filled_cell (fill_of g text r)) (λ _ _. ⊤)
    before over (Rows (r.height / 2) 1) (over (Middle n) (put_pieces (text_pieces (min n r.width) style text)))

-- the label's text, and its style: without a label the percentage
abbrev pub text_of_label : Gauge → Option SpanData → List ℕ
text_of_label g None = percent_text g.share
text_of_label g (Some label) = label.content

abbrev pub style_of_label : Option SpanData → Style
style_of_label None = new_style
style_of_label (Some label) = label.style

-- what a gauge draws in an area: the bar with its label
abbrev pub gauge_drawing : Gauge → Rect → Drawing
gauge_drawing g r = bar_drawing g (text_of_label g g.label) (style_of_label g.label) r

-- A gauge over the part of an area that a buffer has: its style, its box, and inside the bar with its label.
-- Nothing outside the area changes.
abbrev pub RendersAreaGauge : Gauge → Rect → BufferData → BufferData → Type 0
RendersAreaGauge g = DrawsInside g.style g.block (gauge_drawing g)

-- what a refusal leaves: if the box takes no memory, it stands, and so does the bar
abbrev pub LeavesGauge : Gauge → Rect → BufferData → BufferData → Type 0
LeavesGauge g = LeavesInside g.style g.block (gauge_drawing g)

-- it takes no memory if its box takes none and the label's graphemes are short
abbrev pub IsShortGauge : Gauge → Rect → BufferData → Type 0
IsShortGauge g = IsShortInside g.block (gauge_drawing g)
