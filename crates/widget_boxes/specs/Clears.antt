-- What clearing makes of a buffer.
use Rattle.ratatui_core.specs.{Layout.Rect, Buffer.BufferData, Buffer.ChangesEach, Buffer.empty_cell}

-- each cell of the area that the buffer has is empty, and all else is as before
abbrev pub RendersClear : Rect → BufferData → BufferData → Type 0
RendersClear area = ChangesEach area (λ _ _. empty_cell)
