-- When a screen shows lines of text, as a buffer made of them does.
use Rattle.std.specs.Prelude.{◌≡◌, ℕ, ◌<◌, true, List, [], length, map}
use Rattle.rtui_cell.specs.Look.{look_of}
use Rattle.rtui_text.specs.Text.{LineData}
use Rattle.rtui_buffer.specs.Line.{line_row, line_rows, line_at, widest}
use Rattle.rtui_backend.specs.{Screen.Screen, Screen.cursor_of, CellGrid.look_at, CellGrid.grid_of}

-- the symbol in each column of a row of a screen
abbrev pub symbols_in : Screen → ℕ → ℕ → List ℕ
symbols_in s b a = (s.grid a b).symbol

-- a row has the symbols of a row of cells that shows this line
abbrev pub RowHasLine : LineData → Screen → ℕ → Type 0
RowHasLine line s b = (a : ℕ) → a < s.width → symbols_in s b a ≡ (look_at (line_row s.width line) a).symbol

-- as many rows as lines, as many columns as the widest one takes, and each row has its line
pub record ScreenHasLines (lines : List LineData) (s : Screen) : Type 0 where
  pub height : s.height ≡ length lines
  pub width : s.width ≡ widest lines
  pub rows : (b : ℕ) → b < s.height → RowHasLine (line_at lines b) s b

-- the symbols of a line in a row of w columns
abbrev pub symbols_of_line : ℕ → LineData → List (List ℕ)
symbols_of_line w line = map (λ cell. (look_of cell).symbol) (line_row w line)

-- the rows of the history have the symbols of these lines, in order, each in as many columns as the widest
-- one takes
abbrev pub HistoryHasLines : List LineData → Screen → Type 0
HistoryHasLines lines s = map (map (λ look. look.symbol)) s.history ≡ map
    (symbols_of_line (widest lines)) lines

-- a new screen that shows lines and nothing else: no history, the cursor visible at the corner, nothing drawn
pub record IsScreenOf (lines : List LineData) (s : Screen) : Type 0 where
  pub history : s.history ≡ []
  pub width : s.width ≡ widest lines
  pub height : s.height ≡ length lines
  pub grid : (a b : ℕ) → s.grid a b ≡ grid_of (widest lines) (line_rows (widest lines) lines) a b
  pub cursor : cursor_of s ≡ record { x = 0; y = 0 }
  pub visible : s.visible ≡ true
  pub written : s.written ≡ 0
