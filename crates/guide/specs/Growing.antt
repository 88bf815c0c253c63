-- What a bar draws that grows, and how long it is then.
use Rattle.std.specs.Prelude.{◌≡◌, ℕ, ◌+◌, min}
use Rattle.ratatui_core.specs.{Layout.Rect, Style.new_style, Buffer.BufferData}
use Rattle.rtui_drawing.specs.declared.cut.Cut.TheVariants.{First}
use Rattle.rtui_drawing.specs.Drawings.{Drawing, over, ◌before◌, put_style, put_line}
use Rattle.rtui_inside.specs.Inside.{DrawsStateInside, LeavesInside, IsShortInside}
use Rattle.guide.specs.declared.growing.Growing.{Growing}

-- its colour over so many columns, and its line over it
abbrev pub growing_drawing : Growing → ℕ → Rect → Drawing
growing_drawing g n r = over (First n) (put_style g.style) before put_line g.line

-- a column more, but at most 65535
abbrev pub one_longer : ℕ → ℕ
one_longer n = min (n + 1) 65535

-- the box, and what it draws inside; without cells inside it stays as long as it is
abbrev pub RendersGrowing : Growing → ℕ → ℕ → Rect → BufferData → BufferData → Type 0
RendersGrowing g = DrawsStateInside new_style g.block (growing_drawing g) (λ n _. one_longer n)

-- what a refusal leaves: it is as long as before
pub record LeavesGrowing (g : Growing) (n m : ℕ) (area : Rect) (old new : BufferData) : Type 0 where
  pub state : m ≡ n
  pub drawn : LeavesInside new_style g.block (growing_drawing g n) area old new

-- it takes no memory if its box and its line take none
abbrev pub IsShortGrowing : Growing → ℕ → Rect → BufferData → Type 0
IsShortGrowing g n = IsShortInside g.block (growing_drawing g n)
