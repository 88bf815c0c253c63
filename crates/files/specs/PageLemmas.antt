-- What is painted of a browser can be shown.
use Rattle.std.proofs.Common.{subst, sym}
use Rattle.ratatui_core.specs.{Layout.Rect, Layout.EdgesFit, Buffer.BufferData, Buffer.IsEmptied}
use Rattle.ratatui_core.specs.{Buffer.IsSettledBuffer}
use Rattle.rtui_widgets.proofs.PlainLemmas.{plain-emptied}
use Rattle.files.specs.declared.browser.Browser.{Browser}
use Rattle.files.specs.Pages.{PaintsBrowser}

pub browser-settled : (b : Browser) (blank painted : BufferData) → EdgesFit painted.area
    → IsEmptied painted.area blank → PaintsBrowser b painted.area blank painted → IsSettledBuffer painted
browser-settled b blank painted edges empty paints =
    paints.settled (subst (λ (r : Rect). EdgesFit r) (sym empty.area) edges)
    (plain-emptied painted.area blank empty)
