-- What the author of a widget cites: an empty buffer is settled, may be painted anywhere and has empty cells, and painting is
-- painting by columns.
pub use Rattle.rtui_buffer.proofs.EmptyLemmas.{IsSettledBuffer-empty, IsPaintable-empty, cell-empty}
pub use Rattle.rtui_buffer.proofs.ColumnLemmas.{PaintsByColumns-paints, same-beside, text-keeps, line-keeps}
-- A shown buffer's columns have the looks of its cells.
pub use Rattle.rtui_buffer.proofs.ShownLemmas.{index-at, shown-look}
-- Pieces painted one after the other are painted together, and a grapheme that fits is one piece.
pub use Rattle.rtui_buffer.proofs.PartsLemmas.{PaintsPieces-append, pieces-wide, grapheme-piece}
pub use Rattle.rtui_buffer.proofs.TextLemmas.{text_pieces-none, PaintsPieces-none}
-- A screen that shows pieces on a bar.
pub use Rattle.rtui_buffer.proofs.BarLemmas.{ShowsPieces-bar}
-- Cells that are the same have one look and one width, and an empty cell has the empty look and takes one column.
pub use Rattle.rtui_cell.proofs.CellLemmas.{same_look, same_width, same-empty, look-empty, width-empty}
-- A text of short graphemes is painted in short pieces; those of ASCII are short.
pub use Rattle.rtui_buffer.proofs.ShortLemmas.{text-short, ascii-short}
-- What is painted within a row keeps a buffer settled; by a front only the pieces' columns differ. A text ends there.
pub use Rattle.rtui_buffer.proofs.PaintsLemmas.{IsSettledBuffer-painted, front-beside}
pub use Rattle.rtui_buffer.proofs.ColumnLemmas.{text-ends}
-- The longest front of graphemes that fits is kept.
pub use Rattle.rtui_buffer.proofs.FrontLemmas.{IsLongestFront-kept}
-- A text from one of its graphemes on has the rest of them; without a control character it has none with one.
pub use Rattle.rtui_text.proofs.RestLemmas.{graphemes-dropped, graphemes-control_free}
-- A text of one byte takes one column; those of a text of one character above U+00A0 are the character's.
pub use Rattle.rtui_cell.proofs.WidthLemmas.{one_byte, char_alone}
-- A position is in a rectangle, or not.
pub use Rattle.rtui_geometry.proofs.PositionTests.{has-or-not, decide_position, position-true, position-false}
-- A change of each cell of an area, and what stays within one.
pub use Rattle.rtui_widgets.proofs.ChangeLemmas.{Changes-within, within-same, within-wider, on-ok}
-- Plain cells are settled, and painting keeps a buffer ready for more.
pub use Rattle.rtui_widgets.proofs.PlainLemmas.{plain-styled, plain-with_symbol, plain-if, settled-plain, put-ready, ready-next}
pub use Rattle.rtui_widgets.proofs.PlainLemmas.{ready-row, ready-plain, changed-settled, painted-settled, plain-changed}
-- Texts whose graphemes take one column each keep cells plain.
pub use Rattle.rtui_widgets.proofs.NarrowTextLemmas.{text-plain, line-stays, pieces-narrow, pieces-plain, changed-plain}
pub use Rattle.rtui_widgets.proofs.NarrowTextLemmas.{styled-plain, parts-plain, over-all, from-over}
-- Parts that are changed apart from each other.
pub use Rattle.rtui_widgets.proofs.PartsLemmas.{Parts-none, Parts-next, Parts-within}
-- What is joined of narrow symbols takes a column and no memory, and each block symbol is narrow.
pub use Rattle.rtui_cell.proofs.NarrowLemmas.{narrow-test, joined-short, joined-columns}
pub use Rattle.rtui_symbols.proofs.SetLemmas.{blocks-narrow}
-- A printable character of ASCII is no control character, and each of a text is a grapheme.
pub use Rattle.rtui_text.proofs.PrintableLemmas.{printable-plain}
pub use Rattle.rtui_widgets.proofs.PrintableTextLemmas.{graphemes-singles}
