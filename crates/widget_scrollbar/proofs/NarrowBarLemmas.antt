-- Scroll bars of narrow symbols keep cells plain.
use Rattle.std.proofs.Common.{◌≡◌, ℕ, zero, suc, ◌+◌, ◌-◌, ◌<◌, ◌≤◌, List, ◌⊎◌, ⊎_elim, inl, inr, Option, Some, None, arith}
use Rattle.std.specs.{Borrow.Bor}
use Rattle.std.proofs.lemmas.Bool.{cases_lt}
use Rattle.ratatui_core.specs.Layout.{Rect, Position, intersected}
use Rattle.ratatui_core.specs.{Style.Style, Text.EachGrapheme, Text.TakesOneColumn}
use Rattle.ratatui_core.specs.Buffer.{BufferData, IsPlainFrom}
use Rattle.widget_boxes.proofs.{InnerLemmas.bare-or, PlainBoxLemmas.plain-text}
use Rattle.widget_scrollbar.specs.{declared.scrollbar.Scrollbar.Scrollbar, declared.scrollbar.Marks.Marks}
use Rattle.widget_scrollbar.specs.{declared.scrollbar.state.ScrollbarState.ScrollbarState}
use Rattle.widget_scrollbar.specs.Scrollbars.{bar_length, track_length, mark_of, marks_of, position_on_bar, PaintsIfSymbol}
use Rattle.widget_scrollbar.specs.Scrollbars.{PaintsMarks, MarksBar, RendersScrollbar, IfSymbol, EachSymbol}
use Rattle.widget_scrollbar.proofs.ScrollbarLemmas.{mark-has}

-- symbols of narrow graphemes, one after the other
plain-symbol-if : (r : Rect) (p : Position) (q : Option (Bor (List ℕ)) × Style) (old new : BufferData)
    → IfSymbol (EachGrapheme TakesOneColumn) q.0 → IsPlainFrom 0 old → PaintsIfSymbol r p q old new → IsPlainFrom 0 new
plain-symbol-if r p (None, style) old new narrow plain same = rw same plain
plain-symbol-if r p (Some symbol, style) old new narrow plain is =
    plain-text p p.x (r.x + r.width - p.x) style symbol.now old new narrow plain is

plain-marks : (m : Marks) (r : Rect) (n : ℕ) (old new : BufferData) → EachSymbol (EachGrapheme TakesOneColumn) m.bar
    → IsPlainFrom 0 old → PaintsMarks m r n old new → IsPlainFrom 0 new
plain-marks m r zero old new narrow plain same = rw same plain
plain-marks m r (suc n) old new narrow plain is =
    plain-symbol-if r (position_on_bar m n) (mark_of m n) is.between new
    (mark-has (IfSymbol (EachGrapheme TakesOneColumn)) m n narrow)
    (plain-marks m r n old is.between narrow plain is.first) is.second

plain-bar : (b : Scrollbar) (s : ScrollbarState) (r : Rect) (old new : BufferData) → EachSymbol (EachGrapheme TakesOneColumn) b
    → IsPlainFrom 0 old → MarksBar b s r old new → IsPlainFrom 0 new
plain-bar b s r old new narrow plain is =
    let same : (s.content_length ≡ 0) ⊎ (track_length b (bar_length b.orientation r) ≡ 0)
    → IsPlainFrom 0 new = λ none. rw (is.none none) plain in
    ⊎_elim
    (λ (some : 0 < s.content_length).
    ⊎_elim
    (λ (room : 0 < track_length b (bar_length b.orientation r)).
    plain-marks (marks_of b s r) r (bar_length b.orientation r) old new narrow plain (is.some some room))
    (λ (le : track_length b (bar_length b.orientation r) ≤ 0). same (inr (omega arith)))
    (cases_lt 0 (track_length b (bar_length b.orientation r))))
    (λ (le : s.content_length ≤ 0). same (inl (omega arith)))
    (cases_lt 0 s.content_length)

-- a scroll bar of narrow symbols keeps cells plain
pub plain-scrollbar : (b : Scrollbar) (s t : ScrollbarState) (area : Rect) (old new : BufferData)
    → EachSymbol (EachGrapheme TakesOneColumn) b → IsPlainFrom 0 old → RendersScrollbar b s t area old new → IsPlainFrom 0 new
plain-scrollbar b s t area old new narrow plain is =
    bare-or (intersected area old.area) (λ none. rw (is.bar.nothing none) plain)
    (λ w h. plain-bar b s (intersected area old.area) old new narrow plain (is.bar.part w h))
