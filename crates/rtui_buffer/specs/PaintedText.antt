-- Painting into a buffer, from a position on.
use Rattle.std.specs.Prelude.{ℕ, ◌+◌, ◌-◌, ◌≡◌, ◌⊎◌, ◌≤◌, ◌<◌, min, true, false, List, [], ◌∷◌, ◌++◌, length}
use Rattle.std.specs.Prelude.{take, All, Result, IsOk, OnOk}
use Rattle.std.specs.declared.alloc.AllocError.{AllocError}
use Rattle.unicode_segmentation.specs.Grapheme.{graphemes}
use Rattle.rtui_geometry.specs.{declared.position.Position.Position, declared.rect.Rect.Rect}
use Rattle.rtui_geometry.specs.{Rect.HasPosition}
use Rattle.rtui_style.specs.declared.Style.{Style}
use Rattle.rtui_cell.specs.Symbol.{IsShort}
use Rattle.rtui_cell.specs.Cell.{empty_cell, styled, width_of, is_skipped, IsUnmarked}
use Rattle.rtui_buffer.specs.BufferData.{BufferData, cell_index, cell_in, position_of}
use Rattle.rtui_buffer.specs.Painting.{Piece, text_pieces, piece_width, piece_at, columns, shown}
use Rattle.rtui_buffer.specs.Painting.{IsSameOutside, HasPieces}

-- the columns from x to the area's right edge, at most max and 65535
abbrev pub room_at : Rect → ℕ → ℕ → ℕ
room_at r x max = min (min max 65535) (r.x + r.width - x)

-- the pieces of a text that are painted at a column, in at most max columns
abbrev pub pieces_at : Rect → ℕ → ℕ → Style → List ℕ → List Piece
pieces_at r x max s text = text_pieces (room_at r x max) s text

-- the buffer with the pieces painted from a position on
pub record PaintsPieces (p : Position) (ps : List Piece) (old new : BufferData) : Type 0 where
  pub area : new.area ≡ old.area
  pub room : new.room ≡ old.room
  pub cells : HasPieces (cell_index old.area p) ps old.cells new.cells

-- the buffer with a front of the pieces painted from a position on, and no more
pub record PaintsFront (p : Position) (ps : List Piece) (old new : BufferData) : Type 0 where
  pub front : List Piece
  pub rest : List Piece
  pub is : ps ≡ front ++ rest
  pub stands : PaintsPieces p front old new

-- the position some columns further right
abbrev pub right_by : ℕ → Position → Position
right_by n p = record { x = p.x + n; y = p.y }

-- the position stands in another row, or beside n columns from p on
abbrev pub IsBeside : Position → ℕ → Position → Type 0
IsBeside p n q = q.y ≡ p.y → (q.x < p.x) ⊎ (p.x + n ≤ q.x)

-- The same by columns: each piece stands in the column at the sum of the widths before it, its symbol and its
-- style over the former cell; the other columns that it takes are empty; each position beside them is as
-- before.
pub record PaintsByColumns (p : Position) (ps : List Piece) (old new : BufferData) : Type 0 where
  pub starts : (k : ℕ) → k < length ps
      → cell_in new (right_by (columns (take k ps)) p) ≡ shown (piece_at ps k)
      (cell_in old (right_by (columns (take k ps)) p))
  pub behind : (k j : ℕ) → k < length ps → 0 < j → j < piece_width (piece_at ps k)
      → cell_in new (right_by (columns (take k ps) + j) p) ≡ empty_cell
  pub outside : (q : Position) → HasPosition old.area q → IsBeside p (columns ps) q
      → cell_in new q ≡ cell_in old q

-- the buffers differ at most in the columns of the pieces
pub record IsSameBeside (p : Position) (ps : List Piece) (old new : BufferData) : Type 0 where
  pub area : new.area ≡ old.area
  pub room : new.room ≡ old.room
  pub cells : IsSameOutside (cell_index old.area p) (cell_index old.area p + columns ps) old.cells new.cells

-- each symbol of the pieces takes no memory
abbrev pub AreShort : List Piece → Type 0
AreShort ps = All (λ p. IsShort p.symbol) ps

-- n columns from p on may be painted in a settled buffer: no cell of theirs has an option or the flag, and no
-- unskipped cell before them reaches into them
pub record IsPaintable (p : Position) (n : ℕ) (s : BufferData) : Type 0 where
  pub unmarked : (a : ℕ) → p.x ≤ a → a < p.x + n → IsUnmarked (cell_in s (position_of (a, p.y)))
  pub uncovered : (a : ℕ) → s.area.x ≤ a → a < p.x → is_skipped (cell_in s (position_of (a, p.y))) ≡ false
      → a + width_of (cell_in s (position_of (a, p.y))) ≤ p.x

-- What a call does that paints pieces from a position on: a front of them stands there and nothing else
-- changes, all of them if it answers Ok. It does if they are short.
pub record Paints {A : Type 0} (p : Position) (ps : List Piece) (result : Result A AllocError)
    (old new : BufferData) : Type 0 where
  pub front : PaintsFront p ps old new
  pub ok : OnOk result (PaintsPieces p ps old new)
  pub short : AreShort ps → IsOk result

-- the buffer with a style laid over the cells of an area
pub record IsStyled (r : Rect) (s : Style) (old new : BufferData) : Type 0 where
  pub area : new.area ≡ old.area
  pub room : new.room ≡ old.room
  pub inside : (p : Position) → HasPosition old.area p → HasPosition r p
      → cell_in new p ≡ styled s (cell_in old p)
  pub outside : (p : Position) → HasPosition old.area p → ¬ (HasPosition r p) → cell_in new p ≡ cell_in old p

-- the text is one grapheme
abbrev pub IsOneGrapheme : List ℕ → Type 0
IsOneGrapheme text = graphemes true text ≡ text ∷ []
