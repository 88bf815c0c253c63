-- A line of text, painted.
use Rattle.std.specs.Prelude.{◌≡◌, ◌<◌, ℕ, List}
use Rattle.ratatui_core.specs.{Layout.Rect, Buffer.BufferData, Widgets.HasFirstRow, Widgets.RendersStr}

-- a text in the first row of the area, if the area has rows, and the buffer has that one
pub record PaintsFirstLine (text : List ℕ) (area : Rect) (old new : BufferData) : Type 0 where
  pub painted : 0 < area.height → HasFirstRow area old → RendersStr text area old new
  pub kept : (0 < area.height → HasFirstRow area old → ⊥) → new ≡ old
