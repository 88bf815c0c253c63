-- What rendering makes of a buffer.
unfoldable pub use Rattle.rtui_widgets.specs.Span.{span_rendered}
pub use Rattle.rtui_widgets.specs.Span.{IsShortSpan}
unfoldable pub use Rattle.rtui_widgets.specs.Line.{line_rendered}
pub use Rattle.rtui_widgets.specs.Line.{IsShortLine}
pub use Rattle.rtui_widgets.specs.Rendering.{ChangesWithin, RendersSpan, RendersLine, RendersText, first_row}
pub use Rattle.rtui_widgets.specs.Rendering.{HasFirstRow, RendersStr, RendersShortSpan, RendersShortLine}
pub use Rattle.rtui_widgets.specs.Rendering.{RendersShortText, RendersShortStr, AreAscii}
pub use Rattle.rtui_buffer.specs.Clipped.{IsClipped}
pub use Rattle.rtui_widgets.specs.Clipped.{OnPart}
pub use Rattle.rtui_widgets.specs.Refused.{LeavesSpan, LeavesLine, LeavesText}
