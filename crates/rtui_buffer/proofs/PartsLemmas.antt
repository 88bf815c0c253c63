-- Pieces painted one after the other, and the pieces of texts one after the other.
use Rattle.std.proofs.Common.{◌≡◌, ℕ, ◌+◌, ◌-◌, ◌<◌, ◌≤◌, inl, inr, true, List, [], ◌∷◌, ◌++◌, sym, ap, subst, ◌∙◌, arith}
use Rattle.std.proofs.Common.{append_assoc, sum_by}
use Rattle.std.proofs.lemmas.{Bool.cases_lt}
use Rattle.std.proofs.lemmas.List.Sums.{sum_by-cons}
use Rattle.unicode_segmentation.specs.Grapheme.{graphemes}
use Rattle.rtui_geometry.specs.{declared.position.Position.Position, declared.rect.Rect.Rect, Rect.EdgesFit}
use Rattle.rtui_style.specs.{declared.Style.Style, Style.patch}
use Rattle.rtui_cell.specs.{Width.text_width}
use Rattle.rtui_text.specs.Text.{SpanData, LineData}
use Rattle.rtui_buffer.specs.{BufferData.BufferData, BufferData.cell_index, Line.line_pieces, Line.line_pieces_at}
use Rattle.rtui_buffer.specs.Painting.{painted_width, kept, Piece, piece_of, pieces, text_pieces, piece_width, columns, AreWide}
use Rattle.rtui_buffer.specs.Painting.{HasPieces}
use Rattle.rtui_buffer.specs.PaintedText.{room_at, pieces_at, right_by, PaintsPieces, IsOneGrapheme}
use Rattle.rtui_buffer.proofs.PaintLemmas.{painted_width-painted, kept-nil, kept-skip, kept-take}
use Rattle.rtui_buffer.proofs.PaintedLemmas.{columns-kept, AreWide-kept, HasPieces-append}
use Rattle.rtui_buffer.proofs.LineLemmas.{columns-append, line_pieces-nil, line_pieces-cons, columns-line}

-- pieces painted in a row, and others from the column after them on
pub PaintsPieces-append : (p : Position) (ps qs : List Piece) (old mid new : BufferData) → old.area.x ≤ p.x → AreWide ps
    → PaintsPieces p ps old mid → PaintsPieces (right_by (columns ps) p) qs mid new
    → PaintsPieces p (ps ++ qs) old new
PaintsPieces-append p ps qs old mid new starts wide first second = record {
  area = second.area ∙ first.area;
  room = second.room ∙ first.room;
  cells =
      let place : cell_index mid.area (right_by (columns ps) p) ≡ cell_index old.area p + columns ps =
      rw first.area (omega arith) in
      HasPieces-append (cell_index old.area p) ps qs old.cells mid.cells new.cells wide first.cells
      (subst (λ at. HasPieces at qs mid.cells new.cells) place second.cells);
}

-- the room that is left after some columns
room-left : (r : Rect) (x max n : ℕ) → EdgesFit r → n ≤ room_at r x max → room_at r (x + n) (max - n) ≡ room_at r x max - n
room-left r x max n edges le = let e = edges.right in omega arith

-- graphemes after others that all fit
module _ (style : Style) (hs : List (List ℕ)) where
  abbrev HasParts : ℕ → List (List ℕ) → Type 0
  HasParts room gs = pieces style (kept room (gs ++ hs)) ≡ pieces style (kept room gs) ++ pieces style
      (kept (room - columns (pieces style (kept room gs))) hs)

  parts-kept : (gs : List (List ℕ)) (room : ℕ) → sum_by painted_width gs ≤ room → HasParts room gs
  parts-kept [] room fits = rw (kept-nil room) (ap (λ n. pieces style (kept n hs)) (omega arith))
  parts-kept (g ∷ gs) room fits =
      let sum : sum_by painted_width (g ∷ gs) ≡ painted_width g + sum_by painted_width gs = sum_by-cons painted_width g gs in
      elim (cases_lt 0 (painted_width g)) [
        | inl some ↦
            let same = painted_width-painted g some in
            let w = text_width g in
            let ks = kept (room - w) gs in
            let whole : columns (pieces style (g ∷ ks)) ≡ w + columns (pieces style ks) =
            sum_by-cons piece_width (piece_of style g) (pieces style ks) in
            let left : room - w - columns (pieces style ks) ≡ room - columns (pieces style (g ∷ ks)) = omega arith in
            rw (kept-take room g (gs ++ hs) some (omega arith), kept-take room g gs some (omega arith))
            (ap (λ ps. piece_of style g ∷ ps) (parts-kept gs (room - w) (omega arith)
            ∙ ap (λ n. pieces style ks ++ pieces style (kept n hs)) left))
        | inr le ↦
            let none : painted_width g ≡ 0 = omega arith in
            rw (kept-skip room g (gs ++ hs) none, kept-skip room g gs none) (parts-kept gs room (omega arith))
      ]

-- a text after another one that fits, where no grapheme goes over the seam
pub text-parts : (r : Rect) (x max : ℕ) (style : Style) (s t : List ℕ) → EdgesFit r
    → graphemes true (s ++ t) ≡ graphemes true s ++ graphemes true t → sum_by painted_width (graphemes true s) ≤ room_at r x max
    → pieces_at r x max style (s ++ t)
    ≡ pieces_at r x max style s ++ pieces_at r (x + columns (pieces_at r x max style s))
    (max - columns (pieces_at r x max style s)) style t
text-parts r x max style s t edges seam fits =
    let ps = pieces_at r x max style s in
    let le : columns ps ≤ room_at r x max = columns-kept style (room_at r x max) (graphemes true s) in
    ap (λ gs. pieces style (kept (room_at r x max) gs)) seam ∙ parts-kept style (graphemes true t) (graphemes true s)
    (room_at r x max) fits
    ∙ ap (λ n. ps ++ text_pieces n style t) (sym (room-left r x max (columns ps) edges le))

-- spans after others
parts-line : (base : Style) (ss ts : List SpanData) (room : ℕ)
    → line_pieces room base (ss ++ ts) ≡ line_pieces room base ss ++ line_pieces (room - columns (line_pieces room base ss)) base
    ts
parts-line base [] ts room = rw (line_pieces-nil room base) (ap (λ n. line_pieces n base ts) (omega arith))
parts-line base (s ∷ ss) ts room =
    let ps = text_pieces room (patch base s.style) s.content in
    let others = line_pieces (room - columns ps) base ss in
    let left : room - columns ps - columns others ≡ room - columns (ps ++ others) = omega (arith, columns-append ps others) in
    rw (line_pieces-cons room base s (ss ++ ts), line_pieces-cons room base s ss)
    (ap (λ qs. ps ++ qs) (parts-line base ss ts (room - columns ps) ∙ ap (λ n. others ++ line_pieces n base ts) left)
    ∙ sym (append_assoc ps others (line_pieces (room - columns (ps ++ others)) base ts)))

pub line-parts : (r : Rect) (x max : ℕ) (l : LineData) (ts : List SpanData) → EdgesFit r
    → line_pieces_at r x max (record l { spans = l.spans ++ ts })
    ≡ line_pieces_at r x max l ++ line_pieces_at r (x + columns (line_pieces_at r x max l))
    (max - columns (line_pieces_at r x max l)) (record l { spans = ts })
line-parts r x max l ts edges =
    let ps = line_pieces_at r x max l in
    let le : columns ps ≤ room_at r x max = columns-line (room_at r x max) l.style l.spans in
    parts-line l.style l.spans ts (room_at r x max) ∙ ap (λ n. ps ++ line_pieces n l.style ts)
    (sym (room-left r x max (columns ps) edges le))

-- each piece of a text takes a column
pub pieces-wide : (room : ℕ) (style : Style) (text : List ℕ) → AreWide (text_pieces room style text)
pieces-wide room style text = AreWide-kept style room (graphemes true text)

-- a grapheme that fits is one piece
pub grapheme-piece : (room : ℕ) (style : Style) (g : List ℕ) → IsOneGrapheme g → 0 < painted_width g → painted_width g ≤ room
    → text_pieces room style g ≡ piece_of style g ∷ []
grapheme-piece room style g one some fits =
    let same = painted_width-painted g some in
    ap (λ gs. pieces style (kept room gs)) one ∙ ap (pieces style) (kept-take room g [] some (omega arith) ∙ ap (λ ks. g ∷ ks)
    (kept-nil (room - text_width g)))
