-- A line of text that is painted can be shown.
use Rattle.std.proofs.Common.{◌≡◌, ℕ, zero, suc, List, arith, ap, subst, sym, refl}
use Rattle.ratatui_core.specs.{Layout.Rect, Layout.EdgesFit, Buffer.BufferData, Buffer.IsEmptied}
use Rattle.ratatui_core.specs.{Buffer.IsSettledBuffer}
use Rattle.ratatui_core.proofs.{BufferLemmas.IsSettledBuffer-empty}
use Rattle.ratatui_core.proofs.WidgetLemmas.{has-first-row, text-settled}
use Rattle.ratatui_app.specs.Lines.{PaintsFirstLine}

-- by whether the area has rows
line-by_height : (height : ℕ) (text : List ℕ) (blank painted : BufferData) → painted.area.height ≡ height
    → IsEmptied painted.area blank
    → PaintsFirstLine text painted.area blank painted → IsSettledBuffer painted
line-by_height zero text blank painted is empty paints =
    let same : painted ≡ blank = paints.kept (λ some first. omega (arith, is, some)) in
    subst (λ (s : BufferData). IsSettledBuffer s) (sym same) (IsSettledBuffer-empty painted.area blank empty)
line-by_height (suc k) text blank painted is empty paints =
    let here : blank.area ≡ painted.area = empty.area in
    let left : blank.area.x ≡ painted.area.x = ap (λ (r : Rect). r.x) here in
    let first = has-first-row painted.area blank (omega (arith, is)) empty in
    text-settled painted.area painted.area text blank painted empty (omega (arith, left))
    (omega (arith, left)) (paints.painted (omega (arith, is)) first)

pub line-settled : (text : List ℕ) (blank painted : BufferData) → EdgesFit painted.area
    → IsEmptied painted.area blank → PaintsFirstLine text painted.area blank painted → IsSettledBuffer painted
line-settled text blank painted edges empty paints =
    line-by_height painted.area.height text blank painted refl empty paints
