-- Screens, and what each call of a backend does to them.
pub use Rattle.rtui_backend.specs.declared.test.TestBackend.{TestBackend}
pub use Rattle.rtui_backend.specs.declared.test.TestError.{TestError}
pub use Rattle.rtui_backend.specs.declared.clear_type.ClearType.{ClearType}
pub use Rattle.rtui_backend.specs.declared.clear_type.ClearType.TheVariants.{All, AfterCursor, BeforeCursor}
pub use Rattle.rtui_backend.specs.declared.clear_type.ClearType.TheVariants.{CurrentLine, UntilNewLine}
pub use Rattle.rtui_backend.specs.Clear.{is_cleared, clear_name}
pub use Rattle.rtui_backend.specs.Screen.{Screen, IsOnGrid, HasNoCells, cursor_of, size_of, seen, row_of, rows_above}
pub use Rattle.rtui_backend.specs.Screen.{Draws, Scrolls, lines_past, Appends, upper_part, Motion, moved_by}
pub use Rattle.rtui_backend.specs.Screen.{is_in_region, scrolling_up, scrolling_down, clearing, ScrollsRegion}
pub use Rattle.rtui_backend.specs.Screen.{ScrollsUp, ScrollsDown, Erases, Clears, TakesSize, with_visible}
pub use Rattle.rtui_backend.specs.Screen.{with_cursor, screen_area, IsOnScreen, IsBlankScreen}
pub use Rattle.rtui_backend.specs.Failures.{Counts, FailsAfter}
pub use Rattle.rtui_backend.specs.CellGrid.{grid_of, AreUnmarked, AreUnmarkedRows}
pub use Rattle.rtui_backend.specs.TestBackend.{screen_of, buffer_of, failures_of, told_after, one_call_less}
pub use Rattle.rtui_backend.specs.TestBackend.{TakesTurn, IsSameBackend, DrawsFront, HasOnlyPut}
pub use Rattle.rtui_backend.specs.Display.{test_error_text}
pub use Rattle.rtui_backend.specs.ScreenLines.{ScreenHasLines, HistoryHasLines, IsScreenOf}
pub use Rattle.rtui_backend.specs.Print.{printed_screen}
