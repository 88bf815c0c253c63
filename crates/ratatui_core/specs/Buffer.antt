-- Cells, buffers, painting, and the differences between two buffers.
pub use Rattle.rtui_cell.specs.declared.cell.Cell.{Cell}
pub use Rattle.rtui_cell.specs.Symbol.{blank, symbol_text, appended, joined, IsShort}
unfoldable pub use Rattle.rtui_cell.specs.Width.{text_columns, text_width}
pub use Rattle.rtui_cell.specs.Width.{is_sound_mark, columns_of_char}
unfoldable pub use Rattle.rtui_cell.specs.Look.{look_of}
pub use Rattle.rtui_cell.specs.Look.{Look, empty_look}
unfoldable pub use Rattle.rtui_cell.specs.Cell.{width_of, is_single_byte, is_skipped}
pub use Rattle.rtui_cell.specs.Cell.{empty_cell, cell_of, with_symbol, styled, style_of, width_by, IsUnmarked}
unfoldable pub use Rattle.rtui_cell.specs.Equality.{is_same}
pub use Rattle.rtui_cell.specs.Equality.{IsEqual}
pub use Rattle.rtui_cell.specs.Grid.{Grid, Update, update_by, put, puts}
unfoldable pub use Rattle.rtui_diff.specs.Cells.{is_forced}
pub use Rattle.rtui_diff.specs.Cells.{cell, cell_at, is_forced_by}
pub use Rattle.rtui_diff.specs.Settled.{IsBlankOrSkipped, IsSettled}
pub use Rattle.rtui_diff.specs.Shows.{ShowsColumn, Shows, Repaints}
pub use Rattle.rtui_diff.specs.Updates.{updates, IsBefore, Rises, IsCellOfNext}
pub use Rattle.rtui_diff.specs.Remaining.{updates_left}
pub use Rattle.rtui_diff.specs.Diff.{IsDiff}
pub use Rattle.rtui_buffer.specs.BufferData.{BufferData, area_size, IsBuffer, HasRoomFor, position_of}
pub use Rattle.rtui_buffer.specs.BufferData.{cell_index, place_position, cell_in, with_cell, with_cells}
pub use Rattle.rtui_buffer.specs.BufferData.{moved_to, buffer_row, HasRow, empty_cells, resized, IsEmptied}
pub use Rattle.rtui_buffer.specs.BufferData.{IsSameBuffer, IsEqualBuffer}
pub use Rattle.rtui_buffer.specs.Shown.{IsSettledBuffer, IsShownByRepaint, ShowsBuffer, IsAligned}
pub use Rattle.rtui_buffer.specs.Shown.{IsBufferDiff, HaveSettledRows, listed}
unfoldable pub use Rattle.rtui_buffer.specs.Painting.{painted_width, kept}
pub use Rattle.rtui_buffer.specs.Painting.{has_painted_width, IsLongestFront, Piece, piece_of, text_pieces}
pub use Rattle.rtui_buffer.specs.Painting.{columns, AreWide, shown, piece_at, HasPieces, KeepsUnmarked}
pub use Rattle.rtui_buffer.specs.PaintedText.{room_at, pieces_at, PaintsPieces, right_by, IsBeside}
pub use Rattle.rtui_buffer.specs.PaintedText.{PaintsByColumns, IsSameBeside, AreShort, IsPaintable}
pub use Rattle.rtui_buffer.specs.PaintedText.{PaintsFront, Paints, IsStyled, IsOneGrapheme}
pub use Rattle.rtui_buffer.specs.Bar.{bar_of, PaintsOnBar, ShowsPieces, bar_cell}
unfoldable pub use Rattle.rtui_buffer.specs.Line.{line_pieces}
pub use Rattle.rtui_buffer.specs.Line.{line_pieces_at, lines_area, IsOfLines, raw_lines}
pub use Rattle.rtui_buffer.specs.RowsDiff.{IsRowsDiff}
pub use Rattle.rtui_buffer.specs.Overlay.{no_area, IsOverlay}
-- Changes of cells by position, plain cells, and parts that are changed apart from each other.
pub use Rattle.rtui_widgets.specs.Changes.{ChangesEach, MakesEach, AreLight, place_at}
pub use Rattle.rtui_widgets.specs.Plain.{IsPlain, IsPlainOver, IsPlainFrom, IsReadyAt, IsReadyFrom}
pub use Rattle.rtui_widgets.specs.Parts.{MakesParts}
