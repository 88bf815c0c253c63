-- What is changed or rendered within an area, or refused.
use Rattle.std.proofs.Common.{Result, Ok, Err, OnOk, OnErr}
use Rattle.std.specs.declared.alloc.AllocError.{AllocError}
use Rattle.ratatui_core.specs.{Layout.Rect, Style.Style, Text.LineData}
use Rattle.ratatui_core.specs.Buffer.{BufferData, IsStyled}
use Rattle.ratatui_core.specs.{Widgets.ChangesWithin, Widgets.RendersLine}
use Rattle.ratatui_core.proofs.{WidgetLemmas.within-then, WidgetLemmas.within-styled}

-- a style, and a line over it
pub titled-in : {A : Type 0} (result : Result A AllocError) (r : Rect) (style : Style) (line : LineData)
    (old laid new : BufferData) → IsStyled r style old laid → OnOk result (RendersLine line r laid new)
    → OnErr result (ChangesWithin r laid new)
    → ChangesWithin r old new
titled-in (Ok x) r style line old laid new is ok err =
    within-then r old laid new (within-styled r r style old laid (λ p in_own h. h) is) ok.within
titled-in (Err e) r style line old laid new is ok err =
    within-then r old laid new (within-styled r r style old laid (λ p in_own h. h) is) err
