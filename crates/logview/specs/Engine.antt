-- From the bytes of a log to what is printed, or to a fault.
use Rattle.std.specs.Prelude.{◌≡◌, ◌⊎◌, ℕ, ◌-◌, ◌<◌, min, List, [], ◌∷◌, ◌++◌, length, take, drop, slice_get}
use Rattle.std.specs.Prelude.{Option, None, Some, codes}
use Rattle.std.specs.{Fmt.decimal, Str.IsUtf8, Str.Lines.lines, Io.KnownBytes.Appends}
use Rattle.ratatui_core.specs.Layout.{Size}
use Rattle.std.specs.declared.alloc.AllocError.{AllocError}
use Rattle.ratatui_core.specs.Backend.{Screen, size_of, rows_above, printed_screen}
use Rattle.printed_backend.specs.declared.backend.PrintedBackend.{PrintedBackend}
use Rattle.printed_backend.specs.Printed.{shown_on, HasOnlyDrawn}
use Rattle.ratatui_core.specs.Terminal.{row_area, ShowsOver, HasCursor, IsBlankBelow, TerminalError}
use Rattle.logview.specs.Rows.{counted, status_text, RendersStatus, end_place, AreRowsOfLines}
use Rattle.logview.specs.Views.{IsViewOf}
use Rattle.logview.specs.{Views.RefusesPush, declared.view.LogView.LogView}
use Rattle.script_words.specs.Words.{parsed_size}
use Rattle.logview.specs.declared.fault.LogFault.{LogFault}
use Rattle.logview.specs.declared.fault.LogFault.TheVariants as fault

-- the screen of a log from a blank one on: a row for each line, those that have no room scrolled off, after
-- them the status line with the cursor after it, and blank rows below
pub record ShowsLog (size : Size) (log : List (List ℕ)) (s : Screen) : Type 0 where
  pub size_is : size_of s ≡ size
  pub top : ℕ
  pub top_is : top ≡ min (length log) (size.height - 1)
  pub above : AreRowsOfLines size.width log (rows_above s top)
  pub status : ShowsOver (RendersStatus (status_text (counted (length log)))) (row_area size.width top) s.grid
  pub cursor : HasCursor (end_place (status_text (counted (length log))) (row_area size.width top)) s
  pub below : IsBlankBelow (row_area size.width top) s

-- the size that the first line says, if it does
abbrev pub size_of_log : List (List ℕ) → Option Size
size_of_log [] = None
size_of_log (first ∷ rest) = parsed_size first

-- the view shows the lines of a log after the first one, on a screen of the size that that one says
pub record IsLogView {E : Type 0} (log : List (List ℕ)) (v : LogView PrintedBackend E) : Type 0 where
  pub size : Size
  pub first : size_of_log log ≡ Some size
  pub shown : IsViewOf shown_on size (drop 1 log) v

-- the bytes are a log of this size
pub record IsLog (bytes : List ℕ) (size : Size) : Type 0 where
  pub text : IsUtf8 bytes
  pub first : size_of_log (lines bytes) ≡ Some size

-- the writer took the printed screen of the log: of a blank screen of its size, and of its lines after the
-- first one
pub record PrintsLog (bytes : List ℕ) (old new : Option (List ℕ)) : Type 0 where
  pub size : Size
  pub is : IsLog bytes size
  pub screen : Screen
  pub shown : ShowsLog size (drop 1 (lines bytes)) screen
  pub written : Appends old new (printed_screen screen)

module _ {B E : Type 0} (screen : B → Screen) (stops_at : B → B → Type 0) where
  -- the push of line n of a log was refused, after all lines between the first one and it, on a screen of
  -- this size, and left this view
  pub record StopsAtLine (size : Size) (log : List (List ℕ)) (n : ℕ) (left : LogView B E) : Type 0 where
    pub after : 1 < n
    pub line : List ℕ
    pub line_is : slice_get (drop 1 log) (n - 2) ≡ Some line
    pub before : LogView B E
    pub shown : IsViewOf screen size (take (n - 2) (drop 1 log)) before
    pub error : TerminalError E
    pub refused : RefusesPush screen stops_at line before left error

  -- pushes were refused at a line, and left this view
  abbrev pub StopsPushing : Size → List (List ℕ) → LogView B E → LogFault → Type 0
  StopsPushing size log left (fault.Refused n) = StopsAtLine size log n left
  StopsPushing size log left other = ⊥

-- why nothing of these bytes was printed, or with a failed writer a part; at 1 the view itself was refused,
-- and at no line
abbrev pub IsLogFault : List ℕ → LogFault → Type 0
IsLogFault bytes fault.Size = IsUtf8 bytes × (size_of_log (lines bytes) ≡ None)
IsLogFault bytes (fault.Refused n) = (size : Size) × IsLog bytes size
    × ((n ≡ 1) ⊎ ((left : LogView PrintedBackend AllocError)
    × StopsAtLine shown_on HasOnlyDrawn size (lines bytes) n left))
IsLogFault bytes fault.NotText = IsUtf8 bytes → ⊥
IsLogFault bytes fault.Read = Unit {0}
IsLogFault bytes fault.Memory = Unit {0}
IsLogFault bytes fault.Write = (size : Size) × IsLog bytes size

-- the line for standard error
abbrev pub log_fault_text : LogFault → List ℕ
log_fault_text fault.Size = codes "line 1: bad size"
log_fault_text (fault.Refused n) = codes "line " ++ decimal n ++ codes ": memory"
log_fault_text fault.NotText = codes "input: not text"
log_fault_text fault.Read = codes "input: read failed"
log_fault_text fault.Memory = codes "input: no memory"
log_fault_text fault.Write = codes "output: write failed"
