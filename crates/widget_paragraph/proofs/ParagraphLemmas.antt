-- A paragraph in its box, and a grapheme painted in its columns.
use Rattle.std.proofs.Common.{◌≡◌, ℕ, ◌+◌, ◌<◌, ◌≤◌, List, [], ◌∷◌, length, slice_index, Option, refl, ap, subst, ◌∙◌, IfSome}
use Rattle.std.proofs.Common.{arith, Result, Ok, Err, OnOk, IsOk}
use Rattle.std.proofs.lemmas.List.{get_or-set_same, get_or-set_other, length-set}
use Rattle.std.specs.declared.alloc.AllocError.{AllocError}
use Rattle.ratatui_core.specs.{Layout.Rect, Layout.Position, Layout.EdgesFit, Style.Style, Text.GraphemeData}
use Rattle.ratatui_core.specs.Text.{ArePrintable}
use Rattle.ratatui_core.specs.Buffer.{BufferData, IsPlainFrom, IsReadyFrom, IsSettledBuffer, PaintsPieces, Paints}
use Rattle.ratatui_core.specs.Buffer.{pieces_at}
use Rattle.ratatui_core.specs.Buffer.{text_pieces, position_of, cell_index, cell_in, with_cell, empty_cell}
use Rattle.ratatui_core.specs.Buffer.{Cell, Piece, piece_of, piece_at, columns, shown, painted_width, text_width}
use Rattle.ratatui_core.proofs.{BufferLemmas.ready-plain, BufferLemmas.within-same}
use Rattle.ratatui_core.proofs.BufferLemmas.{grapheme-piece, graphemes-singles, printable-plain, one_byte}
use Rattle.ratatui_core.proofs.{WidgetLemmas.within-then}
use Rattle.widget_boxes.specs.{declared.block.Block.Block, Framed.IsFramed, Framed.RendersInFrame, Boxes.IsNarrowBox}
use Rattle.widget_boxes.proofs.{PaintLemmas.room-is, InnerLemmas.plain-framed, InnerLemmas.framed-area}
use Rattle.widget_paragraph.specs.{declared.paragraph.Paragraph.Paragraph, Reflow.grapheme_columns}
use Rattle.widget_paragraph.specs.Paragraphs.{PaintsGrapheme, FillsText, RendersParagraph}

-- a style and a box over plain cells
module _ (style : Style) (o : Option Block) (part : Rect) (old framed : BufferData) (frame : IsFramed style o part old framed)
    (edges : EdgesFit old.area) (plain : IsPlainFrom 0 old) (box : IfSome o IsNarrowBox) where
  framed-edges : EdgesFit framed.area
  framed-edges = rw (framed-area style o part old framed frame) edges

  pub framed-ready : (y : ℕ) → IsReadyFrom y framed
  framed-ready y = ready-plain y framed framed-edges (plain-framed style o part old framed box plain frame)

pub paragraph-ok : {A : Type 0} (r : Result A AllocError) (p : Paragraph) (area : Rect) (old new : BufferData)
    → OnOk r (RendersInFrame p.style p.block (FillsText p) area old new)
    → (EdgesFit old.area → IsPlainFrom 0 old → IfSome p.block IsNarrowBox → OnOk r (IsSettledBuffer new))
    → OnOk r (RendersParagraph p area old new)
paragraph-ok (Ok x) p area old new frame settled = record { frame = frame; settled = settled }
paragraph-ok (Err e) p area old new frame settled = tt

-- a grapheme painted in the columns that it takes
pub grapheme-painted : (x y n : ℕ) (g : GraphemeData) (old new : BufferData) → n ≡ grapheme_columns g
    → x + n ≤ old.area.x + old.area.width → n ≤ 65535
    → PaintsPieces (position_of (x, y)) (pieces_at old.area x n g.style g.symbol) old new
    → PaintsGrapheme x y g old new
grapheme-painted x y n g old new is fits small paints =
    subst (λ k. PaintsPieces (position_of (x, y)) (text_pieces k g.style g.symbol) old new) (room-is old.area x n fits small
    ∙ is) paints

pub ruleset within_steps = (within-same, within-then)

-- a cell of a buffer that shows a piece of one column
pub piece-painted : (p : Position) (q : Piece) (s : BufferData) (c : Cell) → cell_index s.area p < length s.cells
    → columns (q ∷ []) ≡ 1 → c ≡ shown q (cell_in s p) → PaintsPieces p (q ∷ []) s (with_cell s p c)
piece-painted p q s c inside one is =
    let at = cell_index s.area p in
    record {
      area = refl;
      room = refl;
      cells = record {
        starts = λ k k_in.
            let first : k ≡ 0 = omega arith in
            let here : at + 0 ≡ at = omega arith in
            rw (first, here) (get_or-set_same s.cells at c empty_cell inside ∙ is);
        behind = λ k j k_in some j_in.
            let first : k ≡ 0 = omega arith in
            let narrow : columns (piece_at (q ∷ []) k ∷ []) ≡ 1 = rw first one in
            absurd (omega (arith, narrow));
        outside = record {
          count = length-set s.cells at c;
          before = λ k low. get_or-set_other s.cells at k c empty_cell (λ e. omega (arith, e));
          behind = λ k high. get_or-set_other s.cells at k c empty_cell (λ e. omega (arith, e, one));
        };
      };
    }

-- a printable character of ASCII takes a column, and is one piece
pub printable-width : (text : List ℕ) → length text ≡ 1 → text_width text ≡ 1
unfolding text_width
printable-width text one = rw one refl

pub printable-piece : (room : ℕ) (style : Style) (text : List ℕ) → length text ≡ 1 → ArePrintable text → 0 < room
    → text_pieces room style text ≡ piece_of style text ∷ []
unfolding painted_width
printable-piece room style [] one all some = absurd (omega (arith, one))
printable-piece room style (b ∷ []) one all some =
    let shows = printable-plain b (all 0 (omega arith)) in
    let width = one_byte b in
    grapheme-piece room style (b ∷ []) (graphemes-singles (b ∷ []) all) (rw (shows, width) (omega arith))
    (rw (shows, width) (omega arith))
printable-piece room style (b ∷ c ∷ cs) one all some = absurd (omega (arith, one))

-- which it is by its byte
pub printable-byte : (text : List ℕ) → length text ≡ 1 → 0x20 ≤ slice_index text 0 → slice_index text 0 < 0x7F
    → ArePrintable text
printable-byte text one low high k k_in =
    let first : k ≡ 0 = omega (arith, one) in
    rw first (record { low = low; high = high })

pub ruleset printable_steps = (printable-byte)

-- a call that shows a piece of one column in a cell
pub put-paints : {A : Type 0} (r : Result A AllocError) (p : Position) (q : Piece) (s : BufferData) (c lent : Cell)
    → cell_index s.area p < length s.cells → columns (q ∷ []) ≡ 1 → IsOk r → lent ≡ cell_in s p
    → OnOk r (c ≡ shown q lent) → Paints p (q ∷ []) r s (with_cell s p c)
put-paints (Ok x) p q s c lent inside one ok here made =
    let painted = piece-painted p q s c inside one (made ∙ ap (shown q) here) in
    record { front = record { front = q ∷ []; rest = []; is = refl; stands = painted }; ok = painted; short = λ _. refl }
put-paints (Err e) p q s c lent inside one ok here made = absurd (cc)
