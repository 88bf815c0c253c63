-- Words that only private contracts use: they follow the code.
use Rattle.std.specs.Prelude.{ℕ, List}
use Rattle.ratatui_core.specs.Layout.{Rect}
use Rattle.ratatui_core.specs.Buffer.{BufferData, pieces_at, AreShort}
use Rattle.logview.specs.Rows.{status_style}

-- each symbol of a status line takes no memory
abbrev pub RendersShortStatus : List ℕ → Rect → BufferData → Type 0
RendersShortStatus text area s = AreShort (pieces_at s.area area.x area.width status_style text)
