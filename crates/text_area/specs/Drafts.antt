-- A text of lines with a cursor in it, and the one change that is made to it.
use Rattle.std.specs.Prelude.{ℕ, List, ◌++◌, take, drop}
use Rattle.text_field.specs.History.{CursorText, cursor_text_at}

-- the whole text, with a line feed between each two lines
abbrev pub draft_text : CursorText → List ℕ
draft_text t = t.before ++ t.after

-- the cursor at a byte of the text
abbrev pub cursor_at : ℕ → CursorText → CursorText
cursor_at at t = cursor_text_at (draft_text t) at

-- the part between two places gives way to a piece, and the cursor stands after that
abbrev pub part_replaced : ℕ → ℕ → List ℕ → CursorText → CursorText
part_replaced from to piece t = record {
  before = take from (draft_text t)
      ++ piece;
  after = drop to (draft_text t);
}
