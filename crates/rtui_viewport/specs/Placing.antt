-- Where a viewport goes on a screen.
use Rattle.std.specs.Prelude.{◌≡◌, Bool, true, false, ℕ, ◌+◌, ◌-◌, min, max, nat_lt, if◌then◌else◌, Option}
use Rattle.std.specs.Prelude.{None, Some}
use Rattle.rtui_geometry.specs.{declared.position.Position.Position, declared.rect.Rect.Rect}
use Rattle.rtui_backend.specs.Screen.{Screen, Scrolls, IsOnScreen, rows_above, lines_past, cursor_of}
use Rattle.rtui_backend.specs.Screen.{with_cursor}
use Rattle.rtui_viewport.specs.{Viewports.IsInline, Viewports.rows_in, Areas.Empties}
use Rattle.rtui_viewport.specs.{declared.viewport.Viewport.Viewport}
use Rattle.rtui_viewport.specs.declared.viewport.Viewport.TheVariants.{Fullscreen, Inline, Fixed}

-- the lines that n wanted rows need below the cursor's row, if o of them lie above it
abbrev pub lines_below : ℕ → ℕ → ℕ
lines_below n o = n - o - 1

-- the row where they begin on a screen of h rows, for a cursor in row r: what is missing below is taken above
abbrev pub inline_top : ℕ → ℕ → ℕ → ℕ → ℕ
inline_top n h o r = r - (lines_below n o - (h - r - 1)) - o

-- the rows that are had of those wanted, in the width of the screen
abbrev pub inline_area : ℕ → ℕ → ℕ → ℕ → ℕ → Rect
inline_area n w h o r = record { x = 0; y = inline_top n h o r; width = w; height = min n h }

-- above which row of the former screen stood what is above the viewport now: that of the cursor less o, or
-- one further below if more rows than that left the screen
abbrev pub rows_left : ℕ → ℕ → Screen → ℕ
rows_left n o s = max (s.cursor_y - o) (lines_past s (lines_below n o))

-- an inline viewport of n wanted rows went on the screen, o of them above the cursor's row
pub record PlacesInline (n o : ℕ) (old : Screen) (placed : Rect) (new : Screen) : Type 0 where
  pub area : placed ≡ inline_area n old.width old.height o old.cursor_y
  pub on_screen : IsOnScreen placed new
  pub above : rows_above new placed.y ≡ rows_above old (rows_left n o old)

-- what a viewport takes of an area, before it is placed: its columns, and as many rows as it may have
abbrev pub unplaced_area : Viewport → Rect → Rect
unplaced_area viewport area = record {
  x = 0;
  y = 0;
  width = area.width;
  height = rows_in viewport area.height;
}

-- the row that the cursor comes to when a viewport gets its rows, o of them above it: an inline one asks for
-- those below
abbrev pub cursor_row_behind : Viewport → ℕ → Screen → ℕ
cursor_row_behind Fullscreen o s = s.cursor_y
cursor_row_behind (Inline n) o s = min (s.cursor_y + lines_below n o) (s.height - 1)
cursor_row_behind (Fixed f) o s = s.cursor_y

-- where a viewport goes in an area, for a cursor in row r
abbrev pub area_in : Viewport → Rect → ℕ → ℕ → Rect
area_in Fullscreen area o r = area
area_in (Inline n) area o r = inline_area n area.width area.height o r
area_in (Fixed f) area o r = area

-- a viewport that became narrower goes to the top
abbrev pub raised : ℕ → Rect → Rect
raised former r = if nat_lt r.width former then record r { y = 0 } else r

-- the cursor that is to be set again
abbrev pub cursor_found : Viewport → Screen → Option Position
cursor_found Fullscreen s = None
cursor_found (Inline n) s = Some (cursor_of s)
cursor_found (Fixed f) s = None

-- the cursor set to a place, if there is one
abbrev pub cursor_restored : Option Position → Screen → Screen
cursor_restored None s = s
cursor_restored (Some p) s = with_cursor p.x p.y s

-- how many rows leave the screen, so that an inline viewport has its rows if o of them lie above the cursor's
-- row
abbrev pub rows_scrolled : Viewport → ℕ → Screen → ℕ
rows_scrolled Fullscreen o s = 0
rows_scrolled (Inline n) o s = lines_past s (lines_below n o)
rows_scrolled (Fixed f) o s = 0

-- the whole screen was emptied, or nothing changed
abbrev pub EmptiesAllIf : Bool → Screen → Screen → Type 0
EmptiesAllIf true old new = Empties (λ p. true) old new
EmptiesAllIf false old new = new ≡ old

-- a viewport was placed: these rows left the screen, and if it became narrower the whole screen was emptied
-- then; nothing was drawn
pub record Places (v : Viewport) (former width o : ℕ) (old new : Screen) : Type 0 where
  pub scrolled : Screen
  pub scrolls : Scrolls old (rows_scrolled v o old) scrolled
  pub empties : EmptiesAllIf (nat_lt width former) scrolled new
  pub cursor_row : new.cursor_y ≡ cursor_row_behind v o old
  pub cursor : (IsInline v → ⊥) → cursor_of new ≡ cursor_of old
  pub written : new.written ≡ scrolled.written
