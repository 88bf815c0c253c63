-- What a screen is, and what each call of a backend does to it.
use Rattle.std.specs.Prelude.{◌≡◌, ◌⊎◌, ℕ, ◌+◌, ◌-◌, ◌^◌, ◌<◌, ◌≤◌, min, Bool, ◌++◌, ◌&&◌, ◌==◌, nat_le, map}
use Rattle.std.specs.Prelude.{nat_lt, if◌then◌else◌, true, false, List, [], length}
use Rattle.std.specs.List.{range_with_len}
use Rattle.rtui_geometry.specs.{declared.position.Position.Position, declared.rect.Rect.Rect}
use Rattle.rtui_geometry.specs.{declared.size.Size.Size}
use Rattle.rtui_cell.specs.{Look.Look, Look.empty_look, Grid.Grid, Grid.Update, Grid.puts}
use Rattle.rtui_backend.specs.{declared.clear_type.ClearType.ClearType, Clear.is_cleared}

-- the rows that scrolled off, a grid of looks, a cursor, and how many items were drawn
pub record Screen : Type 0 where
  pub history : List (List Look)
  pub width : ℕ
  pub height : ℕ
  pub grid : Grid
  pub cursor_x : ℕ
  pub cursor_y : ℕ
  pub visible : Bool
  pub written : ℕ

-- the size fits 16 bits, and the cursor lies on the grid, or at 0 if there is none
pub record IsOnGrid (s : Screen) : Type 0 where
  pub columns : s.width < 2 ^ 16
  pub rows : s.height < 2 ^ 16
  pub cursor_x : s.cursor_x ≤ s.width - 1
  pub cursor_y : s.cursor_y ≤ s.height - 1

abbrev pub cursor_of : Screen → Position
cursor_of s = record { x = s.cursor_x; y = s.cursor_y }

abbrev pub size_of : Screen → Size
size_of s = record { width = s.width; height = s.height }

-- a size without columns, or without rows
abbrev pub HasNoCells : Size → Type 0
HasNoCells size = (size.width ≡ 0) ⊎ (size.height ≡ 0)

-- what stands in a column of a row; below the last row all is empty
abbrev pub seen : Screen → ℕ → ℕ → Look
seen s a b = if nat_lt b s.height then s.grid a b else empty_look

-- a row of the screen, as a list of looks
abbrev pub row_of : Screen → ℕ → List Look
row_of s b = map (λ a. seen s a b) (range_with_len 0 s.width)

-- the rows above row `top`: the history, then the screen's rows before it
abbrev pub rows_above : Screen → ℕ → List (List Look)
rows_above s top = s.history ++ map (row_of s) (range_with_len 0 top)

-- the items were put in order and counted, as far as the count goes; the cursor may be anywhere
pub record Draws (old : Screen) (us : List Update) (new : Screen) : Type 0 where
  pub history : new.history ≡ old.history
  pub width : new.width ≡ old.width
  pub height : new.height ≡ old.height
  pub grid : (a b : ℕ) → new.grid a b ≡ puts old.width old.height us old.grid a b
  pub visible : new.visible ≡ old.visible
  pub written : old.written + length us < 2 ^ 64 - 1 → new.written ≡ old.written + length us
  pub full : 2 ^ 64 - 1 ≤ old.written + length us → 2 ^ 64 - 1 ≤ new.written

-- k rows left at the top for the history, in order, and as many blank rows came in below; the cursor may be
-- anywhere
pub record Scrolls (old : Screen) (k : ℕ) (new : Screen) : Type 0 where
  pub history : new.history ≡ rows_above old k
  pub width : new.width ≡ old.width
  pub height : new.height ≡ old.height
  pub grid : (a b : ℕ) → a < old.width → b < old.height → new.grid a b ≡ seen old a (b + k)
  pub visible : new.visible ≡ old.visible
  pub written : new.written ≡ old.written

-- how many of n lines below the cursor go past the last row; none if there are no rows
abbrev pub lines_past : Screen → ℕ → ℕ
lines_past s n = if nat_lt 0 s.height then s.cursor_y + n - (s.height - 1) else 0

-- the cursor's row went down by n, and what went past the last row scrolled; its column may be any
pub record Appends (old : Screen) (n : ℕ) (new : Screen) : Type 0 where
  pub scrolled : Scrolls old (lines_past old n) new
  pub row : new.cursor_y ≡ min (old.cursor_y + n) (old.height - 1)
  pub no_rows : old.height ≡ 0 → new.cursor_x ≡ old.cursor_x

-- the screen's rows before row b alone, the history with them
abbrev pub upper_part : ℕ → Screen → Screen
upper_part b s = record s { height = min b s.height }

-- a motion: in a part of a screen each column has what it had in row `source y`, or nothing if row y has no
-- source; all else stays
pub record Motion : Type 0 where
  pub part : ℕ → ℕ → Bool
  pub has_source : ℕ → Bool
  pub source : ℕ → ℕ

-- what stands in column x of row y after a motion
abbrev pub moved_by : {A : Type 0} → Motion → A → (ℕ → ℕ → A) → ℕ → ℕ → A
moved_by m nothing was x y = if m.part x y then (if m.has_source y then was x (m.source y) else nothing)
    else was x y

-- a row lies in the region of rows from a up to b
abbrev pub is_in_region : ℕ → ℕ → ℕ → Bool
is_in_region a b y = nat_le a y && nat_lt y b

-- the rows of a region go up by n, and blank rows come in below
abbrev pub scrolling_up : ℕ → ℕ → ℕ → Motion
scrolling_up a b n = record {
  part = λ x y. is_in_region a b y;
  has_source = λ y. nat_lt (y + n) b;
  source = λ y. y + n;
}

-- they go down by n, and blank rows come in above
abbrev pub scrolling_down : ℕ → ℕ → ℕ → Motion
scrolling_down a b n = record {
  part = λ x y. is_in_region a b y;
  has_source = λ y. nat_le (a + n) y;
  source = λ y. y - n;
}

-- a part becomes blank
abbrev pub clearing : (ℕ → ℕ → Bool) → Motion
clearing part = record { part = part; has_source = λ y. false; source = λ y. y }

-- the rows of the region from a up to b, cut at the screen's end, moved so by n, and this is the history now.
-- All other rows stay, the cursor may be anywhere, and if the region has no rows nothing changed
pub record ScrollsRegion (motion : ℕ → ℕ → ℕ → Motion) (a b n : ℕ) (above : List (List Look))
    (old new : Screen) : Type 0 where
  pub history : new.history ≡ above
  pub width : new.width ≡ old.width
  pub height : new.height ≡ old.height
  pub grid : (x y : ℕ) → x < old.width → y < old.height
      → new.grid x y ≡ moved_by (motion a (min b old.height) n) empty_look old.grid x y
  pub visible : new.visible ≡ old.visible
  pub written : new.written ≡ old.written
  pub no_rows : min b old.height ≤ a → new ≡ old

-- they moved up; if the region begins with the first row, n rows went to the history, in order, blank ones
-- after those that the region has
abbrev pub ScrollsUp : ℕ → ℕ → ℕ → Screen → Screen → Type 0
ScrollsUp a b n old new =
    ScrollsRegion scrolling_up a b n (if a == 0 && nat_lt 0 (min b old.height) then rows_above
    (upper_part b old) n else old.history) old new

-- they moved down, and those that left are lost
abbrev pub ScrollsDown : ℕ → ℕ → ℕ → Screen → Screen → Type 0
ScrollsDown a b n old new = ScrollsRegion scrolling_down a b n old.history old new

-- what a clear empties for a cursor in column x of row y was emptied, and all else stays
pub record Erases (kind : ClearType) (x y : ℕ) (old new : Screen) : Type 0 where
  pub rest : new ≡ record old { grid = new.grid }
  pub grid : (a b : ℕ) → a < old.width → b < old.height
      → new.grid a b ≡ moved_by (clearing (is_cleared kind x y)) empty_look old.grid a b

-- a part of the screen was emptied, by where the cursor is
abbrev pub Clears : Screen → ClearType → Screen → Type 0
Clears old kind new = Erases kind old.cursor_x old.cursor_y old new

-- the screen took another size: rows and columns were cut, or empty ones came in at the right and below; the
-- cursor is kept on the grid
pub record TakesSize (old : Screen) (given : Size) (new : Screen) : Type 0 where
  pub history : new.history ≡ old.history
  pub size : size_of new ≡ given
  pub grid : (a b : ℕ) → a < given.width → b < given.height
      → new.grid a b ≡ if nat_lt a old.width then seen old a b else empty_look
  pub cursor : cursor_of new ≡ record {
    x = min old.cursor_x (given.width - 1);
    y = min old.cursor_y (given.height - 1);
  }
  pub visible : new.visible ≡ old.visible
  pub written : new.written ≡ old.written

-- the size and the history stay
pub record KeepsSizeAndHistory (old new : Screen) : Type 0 where
  pub width : new.width ≡ old.width
  pub height : new.height ≡ old.height
  pub history : new.history ≡ old.history

-- the cursor was hidden or shown
abbrev pub with_visible : Bool → Screen → Screen
with_visible visible s = record s { visible = visible }

-- the cursor went to a column and a row, each kept on the grid
abbrev pub with_cursor : ℕ → ℕ → Screen → Screen
with_cursor x y s = record s { cursor_x = min x (s.width - 1); cursor_y = min y (s.height - 1) }

-- the rectangle of the whole screen
abbrev pub screen_area : Screen → Rect
screen_area s = record { x = 0; y = 0; width = s.width; height = s.height }

-- a rectangle lies on a screen
pub record IsOnScreen (r : Rect) (s : Screen) : Type 0 where
  pub right : r.x + r.width ≤ s.width
  pub bottom : r.y + r.height ≤ s.height

-- a new screen of this size: no history, all empty, the cursor visible at the corner, nothing drawn
pub record IsBlankScreen (w h : ℕ) (s : Screen) : Type 0 where
  pub history : s.history ≡ []
  pub width : s.width ≡ w
  pub height : s.height ≡ h
  pub grid : (a b : ℕ) → s.grid a b ≡ empty_look
  pub cursor : cursor_of s ≡ record { x = 0; y = 0 }
  pub visible : s.visible ≡ true
  pub written : s.written ≡ 0
