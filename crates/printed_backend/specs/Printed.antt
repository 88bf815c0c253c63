-- What a `PrintedBackend` stands for.
use Rattle.std.specs.Prelude.{◌≡◌, ℕ, List}
use Rattle.rtui_cell.specs.{Grid.Update}
use Rattle.rtui_backend.specs.{Screen.Screen, Screen.Draws, Screen.cursor_of, TestBackend.screen_of}
use Rattle.printed_backend.specs.declared.backend.PrintedBackend.{PrintedBackend}
use Rattle.printed_backend.specs.{Inner.looks_in}

-- its screen: what stands on it, below all rows that scrolled off
abbrev pub shown_on : PrintedBackend → Screen
shown_on b = record (screen_of b.screen) { history = looks_in b.rows; written = b.written }

-- how many calls it failed
abbrev pub failed_calls : PrintedBackend → ℕ
failed_calls b = b.failures

-- items were put on the screen, maybe none, and all else is as before, but for the count of drawn items
pub record HasOnlyDrawn (old new : PrintedBackend) : Type 0 where
  pub items : List Update
  pub count : ℕ
  pub draws : Draws (shown_on old) items (record (shown_on new) { written = count })
  pub cursor : cursor_of (shown_on new) ≡ cursor_of (shown_on old)
