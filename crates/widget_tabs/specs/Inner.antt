-- What the functions of tabs promise one another.
use Rattle.std.specs.Prelude.{◌≡◌, Result, IfOk}
use Rattle.std.specs.declared.alloc.AllocError.{AllocError}
use Rattle.ratatui_core.specs.{Layout.Rect, Style.Style, Buffer.BufferData}
use Rattle.rtui_drawing.specs.{Cuts.cut_from, Drawings.IsDone, Drawings.IsRowIn}
use Rattle.rtui_drawing.specs.declared.cut.Cut.TheVariants.{After}
use Rattle.widget_tabs.specs.Tabs.{TabPart, columns_of_part, drawing_of_part}

-- a part is drawn at the left of a row, and the row after it is answered, or memory is refused
pub record DrawsPart (highlight : Style) (part : TabPart) (row : Rect) (result : Result Rect AllocError)
    (old new : BufferData) : Type 0 where
  pub done : IsDone (drawing_of_part highlight part row.width) row result old new
  pub rest : IfOk result (λ rest. rest ≡ cut_from (After (columns_of_part part row.width)) row)
  pub left : IfOk result (IsRowIn new.area)
