-- Where nothing is painted.
use Rattle.std.proofs.Common.{◌≡◌, ℕ, List, [], refl, sym, ap, subst, ◌∙◌, true, Ok}
use Rattle.unicode_segmentation.specs.Grapheme.{graphemes}
use Rattle.rtui_geometry.specs.{declared.position.Position.Position}
use Rattle.rtui_style.specs.declared.Style.{Style}
use Rattle.rtui_buffer.specs.{BufferData.BufferData, BufferData.cell_index, PaintedText.PaintsPieces, PaintedText.Paints}
use Rattle.rtui_buffer.specs.Painting.{Piece, kept, pieces, text_pieces, columns, HasPieces}
use Rattle.rtui_text.proofs.{GraphemeLemmas.graphemes-empty}
use Rattle.rtui_buffer.proofs.{PaintLemmas.kept-nil}
use Rattle.rtui_buffer.proofs.{PaintedLemmas.kept-none, PaintedLemmas.HasPieces-none}

pub text_pieces-none : (room : ℕ) (s : Style) (text : List ℕ) → room ≡ 0 → text_pieces room s text ≡ []
text_pieces-none room s text e = ap (λ n. text_pieces n s text) e ∙ ap (pieces s) (kept-none (graphemes true text))

pub text_pieces-nil : (room : ℕ) (s : Style) (text : List ℕ) → text ≡ [] → text_pieces room s text ≡ []
text_pieces-nil room s text e = ap (text_pieces room s) e ∙ ap (λ gs. pieces s (kept room gs)) graphemes-empty
    ∙ ap (pieces s) (kept-nil room)

pub columns-none : (ps : List Piece) → ps ≡ [] → columns ps ≡ 0
columns-none ps e = ap columns e

pub PaintsPieces-none : (p : Position) (ps : List Piece) (s : BufferData) → ps ≡ [] → PaintsPieces p ps s s
PaintsPieces-none p ps s e = record {
  area = refl;
  room = refl;
  cells = subst (λ qs. HasPieces (cell_index s.area p) qs s.cells s.cells) (sym e)
      (HasPieces-none (cell_index s.area p) s.cells);
}

-- no pieces are painted on any buffer
pub Paints-none : {A : Type 0} (v : A) (p : Position) (ps : List Piece) (s : BufferData) → ps ≡ [] → Paints p ps (Ok v) s s
Paints-none v p ps s e =
    let none = PaintsPieces-none p [] s refl in
    rw e (record {
      front = record { front = []; rest = []; is = refl; stands = none };
      ok = none;
      short = λ _. refl;
    })

pub ruleset none_steps = (text_pieces-none, columns-none)
