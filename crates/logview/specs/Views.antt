-- Views of a log, and what a push does to them.
use Rattle.std.specs.Prelude.{◌≡◌, ◌⊎◌, ℕ, ◌+◌, ◌-◌, ◌<◌, min, nat_lt, if◌then◌else◌, List, length}
use Rattle.ratatui_core.specs.{Layout.Size, Backend.Screen, Backend.size_of, Buffer.BufferData}
use Rattle.ratatui_core.specs.Terminal.{IsBlankBelow, IsOverRow, FillsRow, ShowsRow, InsertsRow}
use Rattle.ratatui_core.specs.Terminal.{StartsOverRow, TerminalData, StopsInserting, WritesAtMost}
use Rattle.ratatui_core.specs.Terminal.{inserted_area, rows_over}
use Rattle.ratatui_core.specs.Terminal.{TerminalError, Backend, Memory, Area, Closure}
use Rattle.logview.specs.Rows.{counted, status_text, RendersStatus, end_place, AreRowsOfLines}
use Rattle.logview.specs.declared.view.LogView.{LogView}

-- how many cells the row of a line takes at most: its own, and on a screen of one row that row again
abbrev pub cells_pushed : Screen → ℕ
cells_pushed s = s.width + (if nat_lt 1 s.height then 0 else s.width)

module _ {B E : Type 0} (screen : B → Screen) where
  -- the view's screen
  abbrev pub screen_in : LogView B E → Screen
  screen_in v = screen v.terminal.backend

  -- the terminal is in step over one row as wide as the screen
  abbrev pub IsFollowing : LogView B E → Type 0
  IsFollowing v = IsOverRow screen v.terminal

  -- that row shows the status line of the view's count, and the cursor stands after it
  abbrev pub ShowsStatus : LogView B E → Type 0
  ShowsStatus v = let text = status_text v.count in
      ShowsRow screen (RendersStatus text) (end_place text) v.terminal

  -- a start on a blank screen: the status line stands in the cursor's row
  pub record StartsView (b : B) (v : LogView B E) : Type 0 where
    pub starts : StartsOverRow screen b v.terminal
    pub status : ShowsStatus v

  -- the rows below the status line, as it now stands, stay
  pub record KeepsBelow (v w : LogView B E) : Type 0 where
    pub at : (a b : ℕ) → a < (screen_in v).width → b < (screen_in v).height → w.terminal.viewport_area.y < b
        → (screen_in w).grid a b ≡ (screen_in v).grid a b

  -- a push: exactly one row, the line's, came in above the status line, which shows the new count, and the
  -- rows below stay; at most the cells of the row and of the status line were written
  pub record PushesLine (line : List ℕ) (v w : LogView B E) : Type 0 where
    pub inserts : InsertsRow screen line v.terminal w.terminal
    pub status : ShowsStatus w
    pub kept : KeepsBelow v w
    pub most : WritesAtMost (cells_pushed (screen_in v) + (screen_in v).width) (screen_in v) (screen_in w)

  -- the row of a line was inserted and counted, and then the status line couldn't be drawn
  pub record LacksStatus (line : List ℕ) (v w : LogView B E) : Type 0 where
    pub inserted : TerminalData B
    pub inserts : InsertsRow screen line v.terminal inserted
    pub count : w.count ≡ counted (v.count + 1)

  -- the view of a log of some lines, from a blank screen on
  pub record IsViewOf (size : Size) (lines : List (List ℕ)) (v : LogView B E) : Type 0 where
    pub following : IsFollowing v
    pub status : ShowsStatus v
    pub count : v.count ≡ counted (length lines)
    pub size_is : size_of (screen_in v) ≡ size
    pub top : v.terminal.viewport_area.y ≡ min (length lines) (size.height - 1)
    pub above : AreRowsOfLines size.width lines (rows_over screen v.terminal)
    pub below : IsBlankBelow v.terminal.viewport_area (screen_in v)

  -- `stops_at` tells of a failed call what the backend was before it, and after it
  module _ (stops_at : B → B → Type 0) where
    -- the backend failed in the insertion of a line's row, before the viewport moved or after it
    pub record StopsLine (line : List ℕ) (v w : LogView B E) : Type 0 where
      pub count : w.count ≡ v.count
      pub row : BufferData
      pub filled : FillsRow line (inserted_area v.terminal 1) row
      pub stops : StopsInserting screen stops_at row v.terminal w.terminal

    -- a refused insertion: by the backend, or for want of memory, and then nothing changed
    abbrev pub RefusesLine : List ℕ → LogView B E → LogView B E → TerminalError E → Type 0
    RefusesLine line v w (Backend error) = StopsLine line v w
    RefusesLine line v w Memory = w ≡ v
    RefusesLine line v w Area = ⊥
    RefusesLine line v w (Closure error) = ⊥

    -- a refused push: by the backend, in the insertion or after it; or for want of memory, and then nothing
    -- changed
    abbrev pub RefusesPush : List ℕ → LogView B E → LogView B E → TerminalError E → Type 0
    RefusesPush line v w (Backend error) = StopsLine line v w ⊎ LacksStatus line v w
    RefusesPush line v w Memory = w ≡ v
    RefusesPush line v w Area = ⊥
    RefusesPush line v w (Closure error) = ⊥
