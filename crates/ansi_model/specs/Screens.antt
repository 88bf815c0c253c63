-- What a terminal shows, as the backends' contract speaks of it, and when it is ready for a call of a
-- backend.
use Rattle.std.specs.Prelude.{◌≡◌, ℕ, ◌+◌, ◌-◌, ◌<◌, ◌≤◌, min, Bool, true, false, List, []}
use Rattle.ratatui_core.specs.{Buffer.Look, Backend.Screen}
use Rattle.ansi_model.specs.Columns.{Column, Columns, blank_column, look_in, is_continuation, overwritten}
use Rattle.ansi_model.specs.{Columns.Column.Shows, Columns.Column.Unknown, Sgr.default_sgr}
use Rattle.ansi_model.specs.{declared.sgr.Sgr.Sgr, Emulator.Phase.Ground, Sends.Leads}
use Rattle.ansi_model.specs.Emulator.{Emulator, Phase, rested, run}
use Rattle.ansi_model.specs.Modes.{Modes, no_modes}
use Rattle.ansi_model.specs.Symbols.{printed_columns}

-- the screen of a terminal, on which so many items were drawn; a cursor after the last column is shown in it
abbrev pub screen_shown : ℕ → Emulator → Screen
screen_shown written t = record {
  history = t.history;
  width = t.width;
  height = t.height;
  grid = λ a b. look_in (t.columns a b);
  cursor_x = min t.x (t.width - 1);
  cursor_y = t.y;
  visible = t.visible;
  written = written;
}

-- a column of a symbol that stands in just as many columns as it takes
abbrev pub HasOwnWidth : Column → Type 0
HasOwnWidth (Shows look index count) = count ≡ printed_columns look.symbol
HasOwnWidth Unknown = ⊥

-- all columns are known, and so are their symbols' sizes
abbrev pub HaveOwnWidths : Columns → Type 0
HaveOwnWidths columns = (a b : ℕ) → HasOwnWidth (columns a b)

-- of what stands in column a of a row the whole symbol stands there
abbrev pub IsWholeAt : (ℕ → Column) → ℕ → Column → Type 0
IsWholeAt row a (Shows look index count) = (index < count) × (index ≤ a)
    × ((j : ℕ) → j < count → row ((a - index) + j) ≡ Shows look j count)
IsWholeAt row a Unknown = Unit {0}

-- no symbol is cut
abbrev pub IsWhole : Columns → Type 0
IsWhole columns = (a b : ℕ) → IsWholeAt (λ k. columns k b) a (columns a b)

-- nothing stands right of the screen
abbrev pub IsBlankBeyond : ℕ → Columns → Type 0
IsBlankBeyond w columns = (a b : ℕ) → w ≤ a → columns a b ≡ blank_column

-- what may stand in the columns of a screen so wide: symbols in their own widths, none of them cut, and
-- nothing right of the screen
pub record IsTidy (w : ℕ) (columns : Columns) : Type 0 where
  pub sized : HaveOwnWidths columns
  pub whole : IsWhole columns
  pub beyond : IsBlankBeyond w columns

-- a terminal of this size awaits text and is sure, in its default rendition, without margins and in no mode
-- that changes how it takes text
pub record IsResting (w h : ℕ) (at : Phase) (read : List ℕ) (wide high : ℕ) (own : Sgr) (first end : ℕ)
    (set : Modes) (agreed : Bool) : Type 0 where
  pub phase : at ≡ Ground
  pub text : read ≡ []
  pub width : wide ≡ w
  pub height : high ≡ h
  pub sgr : own ≡ default_sgr
  pub top : first ≡ 0
  pub bottom : end ≡ h
  pub modes : set ≡ no_modes
  pub sure : agreed ≡ true

-- a terminal between two calls of a backend, with its cursor in its rows
pub record IsIdle (w h : ℕ) (t : Emulator) : Type 0 where
  pub rest : IsResting w h t.phase t.text t.width t.height t.sgr t.top t.bottom t.modes t.sure
  pub row : t.y < h
  pub tidy : IsTidy w t.columns

-- it awaits text, and is so once its own text stands
pub record RestsIdle (w h : ℕ) (t : Emulator) : Type 0 where
  pub phase : t.phase ≡ Ground
  pub idle : IsIdle w h (rested t)

-- bytes were appended that leave each terminal ready that was so once its text stands, and related to what it
-- was
pub record Turns (w h : ℕ) (old new : List ℕ) (related : Emulator → Emulator → Type 0) : Type 0 where
  pub leads : Leads old new (RestsIdle w h) (λ t u. RestsIdle w h u × related (rested t) (rested u))

-- a terminal's screen is related so to that of another, which it was, and these columns stand now
pub record Becomes (related : Screen → Screen → Type 0) (standing : Columns) (s t : Emulator) : Type 0 where
  pub screens : (written : ℕ) → related (screen_shown written s) (screen_shown written t)
  pub columns : (a b : ℕ) → t.columns a b ≡ standing a b

-- the columns once a symbol of n columns is printed in column x of row y
abbrev pub put_columns : ℕ → ℕ → ℕ → Look → Columns → Columns
put_columns x y n look c = overwritten (run x y n) (λ a b. Shows look (a - x) n) c

-- no symbol is cut at the ends of these columns
pub record IsUncut (x y n : ℕ) (c : Columns) : Type 0 where
  pub left : is_continuation (c x y) ≡ false
  pub right : is_continuation (c (x + n) y) ≡ false
