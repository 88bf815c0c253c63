-- Which cells and updates a screen can be sent.
use Rattle.std.specs.Prelude.{◌≡◌, ℕ, ◌<◌, ◌==◌, ◌&&◌, ◌||◌, not, nat_lt, nat_le, Bool}
use Rattle.ratatui_core.specs.{Layout.Position}
use Rattle.ratatui_core.specs.Buffer.{symbol_text, look_of, empty_look, width_of, Update, Cell}
use Rattle.ansi_model.specs.{Sgr.sgr_of, Parameters.is_sendable_by}
use Rattle.ansi_model.specs.{Symbols.is_printed, Symbols.printed_columns}

-- whether a cell's symbol is printed in just the columns that the cell takes, and these are some and fit into
-- a room
abbrev pub is_fit : ℕ → Cell → Bool
is_fit room c =
    is_printed (symbol_text c.symbol) && (printed_columns (symbol_text c.symbol) == width_of c) && nat_lt 0
    (width_of c) && nat_le (width_of c) room

-- a cell of one column that looks like an empty one
pub record IsVacant (c : Cell) : Type 0 where
  pub look : look_of c ≡ empty_look
  pub width : width_of c ≡ 1

-- an update lies in this place of a screen of this size
pub record IsOnScreenAt (w h : ℕ) (p : Position) (u : Update) : Type 0 where
  pub column : u.x < w
  pub row : u.y < h
  pub place : p ≡ record { x = u.x; y = u.y }

-- whether an update that lies on a screen of this size has a rendition that a terminal can be sent, one with
-- colours of the underline or without
abbrev pub is_sendable_on : ℕ → ℕ → Bool → Update → Bool
is_sendable_on w h colors u = not (nat_lt u.x w && nat_lt u.y h) || is_sendable_by colors (sgr_of u.cell)
