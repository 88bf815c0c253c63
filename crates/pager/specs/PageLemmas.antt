-- What is painted of a pager can be shown.
use Rattle.std.proofs.Common.{subst, sym}
use Rattle.ratatui_core.specs.{Layout.Rect, Layout.EdgesFit, Buffer.BufferData, Buffer.IsEmptied}
use Rattle.ratatui_core.specs.{Buffer.IsSettledBuffer}
use Rattle.rtui_widgets.proofs.PlainLemmas.{plain-emptied}
use Rattle.pager.specs.declared.pager.Pager.{Pager}
use Rattle.pager.specs.Pages.{PaintsPager}

pub pages-settled : (p : Pager) (blank painted : BufferData) → EdgesFit painted.area
    → IsEmptied painted.area blank → PaintsPager p painted.area blank painted → IsSettledBuffer painted
pages-settled p blank painted edges empty paints =
    paints.settled (subst (λ (r : Rect). EdgesFit r) (sym empty.area) edges)
    (plain-emptied painted.area blank empty)
