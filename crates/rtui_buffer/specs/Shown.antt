-- Buffers as frames of a screen.
use Rattle.std.specs.Prelude.{◌≡◌, ℕ, min, List, map}
use Rattle.std.specs.Borrow.{Bor}
use Rattle.rtui_cell.specs.{declared.cell.Cell.Cell, Grid.Grid, Grid.Update, Grid.update_by}
use Rattle.rtui_diff.specs.{Settled.IsSettled, Shows.Shows, Shows.Repaints, Updates.updates, Diff.IsDiff}
use Rattle.rtui_buffer.specs.BufferData.{BufferData}

-- a screen can show the buffer as it is
abbrev pub IsSettledBuffer : BufferData → Type 0
IsSettledBuffer s = IsSettled s.area.width s.area.height s.cells

-- a full repaint over an area of the buffer's size shows it, whatever the grid had
abbrev pub IsShownByRepaint : BufferData → Type 0
IsShownByRepaint s = Repaints s.area.width s.area.height s.cells

-- the grid shows the buffer over its area
abbrev pub ShowsBuffer : BufferData → Grid → Type 0
ShowsBuffer s g = Shows s.area.x s.area.y s.area.width s.area.height s.cells g

-- the same corner and the same width
pub record IsAligned (prev next : BufferData) : Type 0 where
  pub x : next.area.x ≡ prev.area.x
  pub y : next.area.y ≡ prev.area.y
  pub width : next.area.width ≡ prev.area.width

-- how many rows both have
abbrev pub common_rows : BufferData → BufferData → ℕ
common_rows prev next = min prev.area.height next.area.height

-- the updates from one buffer to the next, over their common rows
abbrev pub buffer_updates : BufferData → BufferData → List Update
buffer_updates prev next = updates prev.area.x prev.area.y prev.area.width
    (common_rows prev next) prev.cells next.cells

-- the updates are a diff of the common rows of two buffers
abbrev pub IsBufferDiff : BufferData → BufferData → List Update → Type 0
IsBufferDiff prev next us = IsDiff prev.area.x prev.area.y prev.area.width
    (common_rows prev next) prev.cells next.cells us

-- the common rows of two buffers are settled in both
pub record HaveSettledRows (prev next : BufferData) : Type 0 where
  pub of_prev : IsSettled prev.area.width (common_rows prev next) prev.cells
  pub of_next : IsSettled prev.area.width (common_rows prev next) next.cells

-- the updates in a list of lent cells
abbrev pub listed : List (ℕ × ℕ × Bor Cell) → List Update
listed items = map (update_by (λ cell. cell.now)) items
