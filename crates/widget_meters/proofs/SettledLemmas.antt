-- Gauges of narrow symbols keep a buffer settled.
use Rattle.std.proofs.Common.{◌≡◌, ℕ, zero, suc, ◌+◌, ◌≤◌, min, true, ◌&&◌, nat_lt, ◌==◌, List, IfSome}
use Rattle.std.proofs.Common.{[], ◌∷◌, inr, refl, subst, arith, codes, slice_index_or, map}
use Rattle.std.proofs.Common.{drop}
use Rattle.std.specs.{List.list_all}
use Rattle.std.proofs.lemmas.Bool.{and_parts, and_from}
use Rattle.std.proofs.Math.ListN.{get_or-map}
use Rattle.ratatui_core.specs.Layout.{Rect, Position, EdgesFit, IsInside, corner}
use Rattle.ratatui_core.specs.{Style.Style, declared.style.Color.Color, Symbols.is_narrow, Symbols.block_levels}
use Rattle.ratatui_core.specs.Buffer.{BufferData, Cell, with_symbol, width_of, text_width, columns, IsPlain, IsPlainFrom, PaintsPieces}
use Rattle.ratatui_core.specs.Buffer.{IsSettledBuffer, text_pieces}
use Rattle.ratatui_core.proofs.BufferLemmas.{narrow-test, blocks-narrow, plain-styled, plain-with_symbol, plain-if, plain-changed}
use Rattle.ratatui_core.proofs.BufferLemmas.{painted-settled, PaintsByColumns-paints, ready-row, ready-plain}
use Rattle.ratatui_core.proofs.BufferLemmas.{ready-next, changed-settled}
use Rattle.widget_boxes.specs.Boxes.{IsBoxArea, IsNarrowBox}
use Rattle.widget_boxes.proofs.{PaintLemmas.part-right, PaintLemmas.part-has_row, PaintLemmas.part-starts}
use Rattle.widget_boxes.proofs.{InnerLemmas.settled-frame}
use Rattle.rtui_drawing.specs.Cuts.{cut_from}
use Rattle.rtui_drawing.specs.declared.cut.Cut.TheVariants.{Rows}
use Rattle.rtui_drawing.specs.Drawings.{DrawsAll}
use Rattle.rtui_drawing.proofs.WriteLemmas.{text-fits}
use Rattle.rtui_inside.proofs.InsideLemmas.{row-inside}
use Rattle.widget_meters.specs.{declared.gauge.Gauge.Gauge, declared.gauge.Fill.Fill, declared.gauge.TheConstants.FULL_BLOCK}
use Rattle.widget_meters.specs.{declared.gauge.TheConstants.TIPS}
use Rattle.widget_meters.specs.{declared.line_gauge.LineGauge.LineGauge, declared.line_gauge.LineFill.LineFill}
use Rattle.widget_meters.specs.LineGauges.{line_label_pieces, line_cut, line_fill, line_cell, line_gauge_drawing, RendersLineGauge}
use Rattle.widget_meters.specs.LineGauges.{HasNarrowLine}
use Rattle.widget_meters.specs.{Shares.eighths_of}
use Rattle.widget_meters.specs.Gauges.{label_part, fill_of, filled_cell, in_colors, is_under_label, text_of_label}
use Rattle.widget_meters.specs.Gauges.{style_of_label, bar_drawing, gauge_drawing, RendersAreaGauge}
use Rattle.widget_meters.proofs.{MeterLemmas.label-row, MeterLemmas.pieces-keep}

pub full-narrow : is_narrow FULL_BLOCK.now ≡ true
full-narrow = (and_parts (is_narrow FULL_BLOCK.now) (list_all is_narrow (drop 1 block_levels)) blocks-narrow).0

-- each text of a list, and another one after all
nth-narrow : (ts : List (List ℕ)) (n : ℕ) (d : List ℕ) → list_all is_narrow ts ≡ true → is_narrow d ≡ true
    → is_narrow (slice_index_or ts n d) ≡ true
nth-narrow [] n d all e = e
nth-narrow (t ∷ ts) zero d all e = (and_parts (is_narrow t) (list_all is_narrow ts) all).0
nth-narrow (t ∷ ts) (suc n) d all e = nth-narrow ts n d (and_parts (is_narrow t) (list_all is_narrow ts) all).1 e

level : (n : ℕ) → is_narrow (slice_index_or block_levels n FULL_BLOCK.now) ≡ true
level n = nth-narrow block_levels n FULL_BLOCK.now blocks-narrow full-narrow

-- from none to all
tips-narrow : list_all is_narrow (map (λ t. t.now) TIPS) ≡ true
tips-narrow =
    and_from _ _ (level 8) (and_from _ _ (level 7)
    (and_from _ _ (level 6) (and_from _ _ (level 5)
    (and_from _ _ (level 4) (and_from _ _ (level 3)
    (and_from _ _ (level 2) (and_from _ _ (level 1) (and_from _ _ (level 0) refl))))))))

pub tip-narrow : (n : ℕ) → is_narrow (slice_index_or TIPS n FULL_BLOCK).now ≡ true
tip-narrow n = subst (λ t. is_narrow t ≡ true) (get_or-map (λ t. t.now) TIPS n FULL_BLOCK)
    (nth-narrow (map (λ t. t.now) TIPS) n FULL_BLOCK.now tips-narrow full-narrow)

-- a cell with a narrow symbol, in a style, in colours
plain-narrow : (symbol : List ℕ) (c : Cell) → IsPlain c → is_narrow symbol ≡ true → IsPlain (with_symbol symbol c)
plain-narrow symbol c is narrow = plain-with_symbol symbol c is (narrow-test symbol narrow).columns

plain-colors : (front back : Color) (c : Cell) → IsPlain c → IsPlain (in_colors front back c)
unfolding width_of
plain-colors front back c is = record {
  narrow = is.narrow;
  unmarked = record {
    option = is.unmarked.option;
    flag = is.unmarked.flag;
  };
}

blank-narrow : is_narrow (codes " ") ≡ true
blank-narrow = level 8

plain-filled : (f : Fill) → is_narrow f.tip.now ≡ true → (p : Position) (c : Cell) → IsPlain c → IsPlain (filled_cell f p c)
plain-filled f tip p c is =
    plain-if (nat_lt p.x f.end) _ _
    (plain-if (is_under_label f p) _ _ (plain-colors _ _ _ (plain-styled f.style _ (plain-narrow (codes " ") c is blank-narrow)))
    (plain-colors _ _ _ (plain-styled f.style _ (plain-narrow FULL_BLOCK.now c is full-narrow))))
    (plain-if (f.has_tip && (p.x == f.end)) _ _ (plain-styled f.style _ (plain-narrow f.tip.now c is tip))
    (plain-styled f.style c is))

-- a bar with its label on plain cells
settled-area : (g : Gauge) (text : List ℕ) (style : Style) (r : Rect) (old new : BufferData) → IsBoxArea r → IsInside r old.area
    → EdgesFit old.area → IsPlainFrom 0 old → DrawsAll (bar_drawing g text style r) r old new → IsSettledBuffer new
settled-area g text style r old new box inside edges plain is =
    let fill = fill_of g text r in
    let m = label_part text r in
    let tip = tip-narrow (eighths_of g.share r.width) in
    let filled = plain-changed r (filled_cell fill) old is.0 (plain-filled fill tip) is.1 plain in
    let there : IsInside r is.0.area = λ p h. rw is.1.area (inside p h) in
    let fit : EdgesFit is.0.area = rw is.1.area edges in
    let row = label-row text is.0.area r box there in
    let fits = text-fits is.0.area m style text row in
    let right = row.right in
    painted-settled m.x m.y (text_pieces m.width style text) is.0 new fit filled row.there row.left (omega arith) is.2.pieces

pub settled-gauge : (g : Gauge) (area : Rect) (old new : BufferData) → EdgesFit old.area → IsPlainFrom 0 old
    → IfSome g.block IsNarrowBox → RendersAreaGauge g area old new → IsSettledBuffer new
settled-gauge g area old new edges plain box is =
    settled-frame g.style g.block (λ r. DrawsAll (gauge_drawing g r) r) area old new edges plain box
    (λ r s t some inside fit cells drawn. settled-area g (text_of_label g g.label)
    (style_of_label g.label) r s t some inside fit cells drawn) is

-- a label, and after it a line of narrow symbols
plain-line : (f : LineFill) → text_width f.filled_symbol.now ≤ 1 → text_width f.unfilled_symbol.now ≤ 1
    → (p : Position) (c : Cell) → IsPlain c → IsPlain (line_cell f p c)
plain-line f filled unfilled p c is =
    plain-if (nat_lt p.x f.end) _ _ (plain-styled f.filled_style _ (plain-with_symbol f.filled_symbol.now c is filled))
    (plain-styled f.unfilled_style _ (plain-with_symbol f.unfilled_symbol.now c is unfilled))

settled-line : (g : LineGauge) (r : Rect) (old new : BufferData) → HasNarrowLine g → IsBoxArea r → IsInside r old.area
    → EdgesFit old.area → IsPlainFrom 0 old → DrawsAll (line_gauge_drawing g r) r old new → IsSettledBuffer new
settled-line g r old new narrow box inside edges plain is =
    let ps = line_label_pieces g r.width in
    let high = box.rows in
    let down = box.down in
    let across = box.across in
    let keeps = pieces-keep g g.label old.area (cut_from (Rows 0 1) r)
    (row-inside old.area r (cut_from (Rows 0 1) r) 0 box inside high refl) in
    let y : min (r.y + 0) 65535 ≡ r.y = omega arith in
    let label : PaintsPieces (corner r) ps old is.0 = rw y at is.1.pieces in
    let row = part-has_row r old.area r.y box inside (omega arith) (omega arith) in
    let starts = part-starts r old.area r.x box inside (omega arith) in
    let right = part-right r old.area r.x (columns ps) box inside (omega arith) in
    let settled = painted-settled r.x r.y ps old is.0 edges plain row starts right label in
    let by = PaintsByColumns-paints (corner r) ps old is.0 row starts (omega arith) label in
    let from = ready-row r.x r.y old (ready-plain r.y old edges plain) row (omega arith) in
    let ready = ready-next r.x r.y old from row starts (columns ps) ps is.0 right (omega arith) label.area by settled in
    let part = cut_from (line_cut g r.width) (cut_from (Rows 0 1) r) in
    changed-settled (r.x + columns ps) r.y part (line_cell (line_fill g part)) is.0 new ready
    (λ p here. let l = here.left in let e = here.right in let t = here.top in let b = here.bottom in
    inr (omega arith, omega arith))
    (plain-line (line_fill g part) narrow.filled narrow.unfilled) is.2

pub settled-line_gauge : (g : LineGauge) (area : Rect) (old new : BufferData) → EdgesFit old.area → IsPlainFrom 0 old
    → IfSome g.block IsNarrowBox → HasNarrowLine g → RendersLineGauge g area old new → IsSettledBuffer new
settled-line_gauge g area old new edges plain box narrow is =
    settled-frame g.style g.block (λ r. DrawsAll (line_gauge_drawing g r) r) area old new edges plain box
    (λ r s t some inside fit cells drawn. settled-line g r s t narrow some inside fit cells drawn) is
