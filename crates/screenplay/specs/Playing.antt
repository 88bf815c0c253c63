-- A terminal in the middle of a play.
use Rattle.rtui_backend.specs.{CellGrid.AreUnmarked, TestBackend.screen_of}
use Rattle.rtui_backend.specs.{declared.test.TestBackend.TestBackend}
use Rattle.rtui_terminal.specs.{TerminalData.TerminalData, AtRest.IsAtRest}
use Rattle.screenplay.specs.Run.{View, without_cursor}
use Rattle.screenplay.specs.Run.{IsAfter}
use Rattle.screenplay.specs.{declared.scene.Stage.Stage, declared.scene.Step.Step}

-- the terminal is at rest over the stage's kind of viewport, and no cell of the last frame has an option or a
-- flag
pub record IsPlaying (stage : Stage) (t : TerminalData TestBackend) : Type 0 where
  pub rest : IsAtRest screen_of stage.viewport t
  pub unmarked : AreUnmarked t.previous.cells

-- what a terminal's screen shows
abbrev pub view_in : TerminalData TestBackend → View
view_in t = record { screen = without_cursor (screen_of t.backend); viewport = t.viewport_area }

-- a step was played
pub record Plays (stage : Stage) (step : Step) (s t : TerminalData TestBackend) : Type 0 where
  pub playing : IsPlaying stage t
  pub after : IsAfter stage step (view_in s) (view_in t)
