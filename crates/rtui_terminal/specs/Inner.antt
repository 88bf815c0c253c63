-- Words that only private contracts use: they follow the code.
use Rattle.std.specs.Prelude.{◌≡◌, ℕ, min, max}
use Rattle.rtui_terminal.specs.{TerminalData.TerminalData, declared.terminal.frame.Frame.Frame}
use Rattle.std.specs.{Borrow.MutBor, Fn.Once}
use Rattle.rtui_geometry.specs.{declared.rect.Rect.Rect}
use Rattle.rtui_buffer.specs.BufferData.{BufferData}
use Rattle.rtui_terminal.specs.Frames.{IsNewFrame}

-- how many of n rows are drawn at once at most: no more than the screen has, or stand above the viewport
abbrev pub rows_at_once : {B : Type 0} → ℕ → TerminalData B → ℕ
rows_at_once n s = min n (max s.viewport_area.y s.last_known_area.height)

-- f may be called at a new frame over this buffer
abbrev pub AcceptsNewFrame : {F R : Type 0} → Once F (MutBor Frame × Unit {0}) (R × (MutBor Frame × Unit {0}))
    → F → Rect → ℕ → BufferData → Type 0
AcceptsNewFrame once f area count sheet = (frame : MutBor Frame) → IsNewFrame area count sheet frame.now
    → once.pre f (frame, tt)

-- the frame keeps its buffer reference, the buffer its area, and the frame all else but its cursor
pub record KeepsButCursor (old new : Frame) : Type 0 where
  pub same_buffer : new.buffer.ghost_name ≡ old.buffer.ghost_name
  pub same_area : new.buffer.now.area ≡ old.buffer.now.area
  pub over : new.viewport_area ≡ old.viewport_area
  pub numbered : new.count ≡ old.count
