-- What a closure may rely on that paints a frame, and what is known of its call.
use Rattle.std.specs.Prelude.{◌≡◌, ◌⊎◌, ℕ, Option, None}
use Rattle.std.specs.{Borrow.MutBor, Fn.Once, Fn.FnOnceReturnsAtMut}
use Rattle.rtui_geometry.specs.{declared.position.Position.Position, declared.rect.Rect.Rect}
use Rattle.rtui_buffer.specs.BufferData.{BufferData}
use Rattle.rtui_terminal.specs.{TerminalData.TerminalData, declared.terminal.frame.Frame.Frame}

-- a frame right before it is painted: no cursor, an area, a number, and a buffer
pub record IsNewFrame (area : Rect) (count : ℕ) (sheet : BufferData) (frame : Frame) : Type 0 where
  pub no_cursor : frame.cursor_position ≡ None
  pub over : frame.viewport_area ≡ area
  pub numbered : frame.count ≡ count
  pub shows : frame.buffer.now ≡ sheet

-- the frame keeps its buffer reference, the buffer its area, and the frame all else
pub record KeepsFrame (old new : Frame) : Type 0 where
  pub same_buffer : new.buffer.ghost_name ≡ old.buffer.ghost_name
  pub same_area : new.buffer.now.area ≡ old.buffer.now.area
  pub cursor : new.cursor_position ≡ old.cursor_position
  pub over : new.viewport_area ≡ old.viewport_area
  pub numbered : new.count ≡ old.count

-- a call of f at a new frame over a buffer gave an answer and left a frame with this cursor and, if that
-- frame kept its buffer reference, with this buffer
pub record PaintsFrame {F R : Type 0} (once : Once F (MutBor Frame × Unit {0})
    (R × (MutBor Frame × Unit {0}))) (f : F) (area : Rect) (count : ℕ) (sheet : BufferData) (answer : R)
    (cursor : Option Position) (painted : BufferData) : Type 0 where
  pub before : Frame
  pub new_frame : IsNewFrame area count sheet before
  pub after : Frame
  pub ran : FnOnceReturnsAtMut once f before answer after
  pub left_cursor : after.cursor_position ≡ cursor
  pub left_buffer : after.buffer.ghost_name ≡ before.buffer.ghost_name → after.buffer.now ≡ painted

-- a frame that a draw may hand out: over a buffer of its area, or over the current buffer as it is
pub record IsDrawFrame {B : Type 0} (s : TerminalData B) (frame : Frame) : Type 0 where
  pub no_cursor : frame.cursor_position ≡ None
  pub over : (frame.buffer.now.area ≡ frame.viewport_area) ⊎ ((frame.viewport_area ≡ s.viewport_area)
      × (frame.buffer.now ≡ s.current))

-- f may be called at any such frame
abbrev pub AcceptsFrames : {B F R : Type 0} → Once F (MutBor Frame × Unit {0}) (R × (MutBor Frame × Unit {0}))
    → F → TerminalData B → Type 0
AcceptsFrames once f s = (frame : MutBor Frame) → IsDrawFrame s frame.now → once.pre f (frame, tt)

-- such a call on the current buffer of a terminal
abbrev pub PaintsCurrent : {B F R : Type 0} → Once F (MutBor Frame × Unit {0}) (R × (MutBor Frame × Unit {0}))
    → F → TerminalData B → R → Option Position → BufferData → Type 0
PaintsCurrent once f s answer cursor painted =
    PaintsFrame once f s.viewport_area s.frame_count s.current answer cursor painted
