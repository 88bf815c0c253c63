-- A page on a screen in memory.
use Rattle.std.specs.Prelude.{true}
use Rattle.ratatui_core.specs.Backend.{TestBackend, TestError, screen_of, failures_of, HasOnlyPut}
use Rattle.ratatui_core.specs.Terminal.{TerminalData}
use Rattle.ratatui_app.specs.Showing.{Device, ShowsPage}
use Rattle.pager.specs.declared.pager.Pager.{Pager}
use Rattle.pager.specs.Pages.{PaintsPager, page_cursor}

-- a screen in memory, as a backend has it
abbrev pub in_memory : Device TestBackend TestError
in_memory = record {
  screen = screen_of;
  failures = failures_of;
  is_flushed = λ b. true;
  stops_at = HasOnlyPut;
}

-- such a screen shows the page
abbrev pub ShowsInMemory : Pager → TerminalData TestBackend → Type 0
ShowsInMemory p t = ShowsPage in_memory (PaintsPager p) (page_cursor p) t
