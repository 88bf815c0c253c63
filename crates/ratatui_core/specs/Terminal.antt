-- Terminals, frames, and what each call does.
pub use Rattle.rtui_terminal.specs.declared.terminal.error.TerminalError.{TerminalError}
pub use Rattle.rtui_terminal.specs.declared.terminal.error.TerminalError.TheVariants.{Backend, Memory, Area}
pub use Rattle.rtui_terminal.specs.declared.terminal.error.TerminalError.TheVariants.{Closure}
pub use Rattle.rtui_terminal.specs.declared.terminal.frame.Frame.{Frame}
pub use Rattle.rtui_viewport.specs.declared.viewport.Viewport.{Viewport}
pub use Rattle.rtui_viewport.specs.declared.viewport.Viewport.TheVariants.{Fullscreen, Inline, Fixed}
pub use Rattle.rtui_viewport.specs.Areas.{KeepsOutside, IsBlankBelow}
pub use Rattle.rtui_viewport.specs.Viewports.{IsInline, IsFixed, FitsEdges, rows_in, viewport_text}
pub use Rattle.rtui_terminal.specs.TerminalData.{TerminalData, IsInPlace, HasAreas, IsSameTerminal}
pub use Rattle.rtui_terminal.specs.TerminalData.{IsDefaultOver}
pub use Rattle.rtui_terminal.specs.InStep.{IsInStep, IsSized, IsReady, rows_over, KeepsAroundViewport}
pub use Rattle.rtui_terminal.specs.Frames.{IsNewFrame, KeepsFrame, IsDrawFrame, AcceptsFrames, PaintsCurrent}
pub use Rattle.rtui_terminal.specs.Borrows.{LendsBuffer}
pub use Rattle.rtui_terminal.specs.Faults.{Faults, IsBackendFault, FailsOnlyByBackend}
pub use Rattle.rtui_terminal.specs.Starting.{IsBlank, StartErr, Starts, StartsInRow}
pub use Rattle.rtui_terminal.specs.Writing.{FlushErr, Flushes, Applies, ApplyErr}
pub use Rattle.rtui_terminal.specs.Resizing.{Resizes, ResizeErr, Autoresizes, AutoresizeErr}
pub use Rattle.rtui_terminal.specs.Cursor.{Stays, MovesCursor}
pub use Rattle.rtui_terminal.specs.Clearing.{FailsClearing, ClearsViewport}
pub use Rattle.rtui_terminal.specs.Drawing.{CompletesFrame, DrawsFrame, DrawOk, DrawErr, TryDrawErr}
pub use Rattle.rtui_terminal.specs.Rendered.{RendersCurrent, IsRendered, ShowsRendered}
pub use Rattle.rtui_viewport.specs.Lying.{FitsSize}
pub use Rattle.rtui_terminal.specs.AtRest.{IsAtRest}
pub use Rattle.rtui_terminal.specs.TextRow.{row_area, IsPaintedText, IsRowOf, ShowsOver, FillsRow, IsOverRow}
pub use Rattle.rtui_terminal.specs.TextRow.{ShowsRow, HasCursor, DrawsRow, InsertsRow, StartsOverRow}
pub use Rattle.rtui_terminal.specs.Display.{terminal_error_text}
pub use Rattle.rtui_insert.specs.Filling.{AcceptsRows, FillsRows, RefusesFilling}
pub use Rattle.rtui_insert.specs.Rows.{WritesAtMost}
pub use Rattle.rtui_insert.specs.Insertion.{AppendsRows}
pub use Rattle.rtui_insert.specs.Scrolling.{IsPushing, IsLowering, IsRaising}
pub use Rattle.rtui_terminal.specs.Insertion.{inserted_area, TakesRows, Inserts, StopsInserting, InsertOk}
pub use Rattle.rtui_terminal.specs.Insertion.{InsertsBy, StopsInPlace, HasMovedDown, IsBeginning}
