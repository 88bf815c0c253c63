-- Painting on its way: a front of the pieces is painted, and so it is where it ends.
use Rattle.std.proofs.Common.{◌≡◌, ℕ, ◌+◌, ◌-◌, ◌<◌, ◌≤◌, true, false, List, [], ◌∷◌, ◌++◌, length, take, drop, refl, sym, ap}
use Rattle.std.proofs.Common.{subst, ◌∙◌, arith, Result, Ok, Err, IsErr}
use Rattle.std.proofs.lemmas.Bool.{false≢true}
use Rattle.std.specs.declared.alloc.AllocError.{AllocError}
use Rattle.std.proofs.lemmas.{List.append-nil, List.append_assoc, List.drop_at, List.length-take-le, List.Elements.All-head}
use Rattle.std.proofs.lemmas.{List.Elements.All-drop, List.Sums.sum_by-cons}
use Rattle.rtui_style.specs.{declared.Style.Style}
use Rattle.rtui_cell.specs.{declared.cell.Cell.Cell, Width.text_width, Symbol.IsShort}
use Rattle.rtui_text.specs.{Printable.IsPrintableFront, Printable.singles}
use Rattle.rtui_buffer.specs.Painting.{painted_width, kept, Piece, piece_of, piece_width, pieces, text_pieces, columns}
use Rattle.rtui_buffer.specs.{Painted.with_piece, Painted.painted, PaintedText.AreShort, Inner.PaintsCells}
use Rattle.rtui_buffer.proofs.PaintLemmas.{painted_width-painted, kept-take, kept-skip, painted-nil, painted-cons}
use Rattle.rtui_buffer.proofs.{PrintableLemmas.pieces-split, PrintableLemmas.columns-singles}
use Rattle.rtui_buffer.proofs.LineLemmas.{columns-append, painted-append, short-front}

-- the pieces painted so far, in this many columns, before those that are left
pub record PaintsSoFar (at used : ℕ) (left ps : List Piece) (old new : List Cell) : Type 0 where
  pub done : List Piece
  pub is : ps ≡ done ++ left
  pub wide : columns done ≡ used
  pub cells : new ≡ painted at done old

pub so_far-none : (at : ℕ) (ps : List Piece) (cells : List Cell) → PaintsSoFar at 0 ps ps cells cells
so_far-none at ps cells = record { done = []; is = refl; wide = refl; cells = sym (painted-nil at cells) }

module _ (at used : ℕ) (left ps : List Piece) (old new : List Cell) (h : PaintsSoFar at used left ps old new) where
  pub so_far-short : AreShort ps → AreShort left
  so_far-short short = subst AreShort (drop_at h.done left (length h.done) refl) (All-drop (λ p. IsShort p.symbol) (length h.done)
      (h.done ++ left) (subst AreShort h.is short))

  -- none is left
  pub so_far-all : {A : Type 0} (v : A) → left ≡ [] → (used ≡ columns ps) × PaintsCells at ps (Ok v) old new
  so_far-all v none =
      let all : h.done ≡ ps = sym (append-nil h.done) ∙ ap (λ qs. h.done ++ qs) (sym none) ∙ sym h.is in (
        sym h.wide ∙ ap columns all,
        record { front = h.done; rest = left; is = h.is; cells = h.cells; all = none; short = λ _. refl },
      )

  -- memory is refused to those that are left
  pub so_far-refused : {A : Type 0} (r : Result A AllocError) → IsErr r → (AreShort ps → false ≡ true)
      → PaintsCells at ps r old new
  so_far-refused (Ok v) err long = absurd (false≢true err)
  so_far-refused (Err e) err long = record {
    front = h.done;
    rest = left;
    is = h.is;
    cells = h.cells;
    all = tt;
    short = long;
  }

  -- some of those that are left
  module _ (qs others : List Piece) (more : List Cell) (is : left ≡ qs ++ others) where
    pub so_far-more : more ≡ painted (at + used) qs new → PaintsSoFar at (used + columns qs) others ps old more
    so_far-more put = record {
      done = h.done ++ qs;
      is = h.is ∙ ap (λ rest. h.done ++ rest) is ∙ sym (append_assoc h.done qs others);
      wide = omega (arith, columns-append h.done qs, h.wide);
      cells = put ∙ rw (h.cells, ← h.wide) (sym (painted-append at h.done qs old));
    }

-- an Ok means all
pub front-all : {A : Type 0} {v : A} (at : ℕ) (ps : List Piece) (old new : List Cell) (h : PaintsCells at ps (Ok v) old new)
    → h.front ≡ ps
front-all at ps old new h = sym (append-nil h.front) ∙ ap (λ rest. h.front ++ rest) (sym h.all) ∙ sym h.is

-- even of the next ones a front is painted
module _ (at used : ℕ) (left ps : List Piece) (old new : List Cell) (h : PaintsSoFar at used left ps old new)
    (qs others : List Piece) (more : List Cell) (is : left ≡ qs ++ others) where
  pub so_far-next : {A : Type 0} {v : A} → PaintsCells (at + used) qs (Ok v) new more
      → PaintsSoFar at (used + columns qs) others ps old more
  so_far-next put = let all = front-all (at + used) qs new more put in
      so_far-more at used left ps old new h qs others more is (rw all at put.cells)

  pub so_far-within : {A B : Type 0} {e : AllocError} (r : Result B AllocError) → IsErr r
      → PaintsCells {A = A} (at + used) qs (Err e) new more → PaintsCells at ps r old more
  so_far-within r err put =
      so_far-refused _ _ _ _ _ _ (so_far-more at used left ps old new h put.front (put.rest ++ others) more
      (is ∙ ap (λ l. l ++ others) put.is ∙ append_assoc put.front put.rest others) put.cells) r err
      (λ short. put.short (short-front qs others (subst AreShort is (so_far-short at used left ps old new h short))))

-- one that isn't painted is passed over
pub so_far-skip : (s : Style) (start used room : ℕ) (left gs : List (List ℕ)) (g : List ℕ) (ps : List Piece)
    (old cells : List Cell)
    → left ≡ g ∷ gs → painted_width g ≡ 0 → PaintsSoFar start used (pieces s (kept (room - used) left)) ps old cells
    → PaintsSoFar start used (pieces s (kept (room - used) gs)) ps old cells
so_far-skip s start used room left gs g ps old cells is none h =
    subst (λ qs. PaintsSoFar start used (pieces s qs) ps old cells) (ap (kept (room - used)) is
    ∙ kept-skip (room - used) g gs none) h

-- the next grapheme that is painted
module _ (s : Style) (start used room width : ℕ) (left gs : List (List ℕ)) (g : List ℕ) (ps : List Piece) (old cells : List Cell)
    (is : left ≡ g ∷ gs) (wide : width ≡ painted_width g) (pos : 0 < width)
    (fits : width ≤ room - used) (h : PaintsSoFar start used (pieces s (kept (room - used) left)) ps old cells) where
  width-is : width ≡ text_width g
  width-is = wide ∙ painted_width-painted g (omega arith)

  next : pieces s (kept (room - used) left) ≡ piece_of s g ∷ pieces s (kept (room - (used + width)) gs)
  next =
      let same = width-is in
      let rest : room - used - text_width g ≡ room - (used + width) = omega arith in
      ap (λ l. pieces s (kept (room - used) l)) is ∙ ap (pieces s) (kept-take (room - used) g gs (omega arith) (omega arith))
      ∙ ap (λ n. piece_of s g ∷ pieces s (kept n gs)) rest

  pub so_far-turn : (more : List Cell) → more ≡ with_piece (start + used) (piece_of s g) cells
      → PaintsSoFar start (used + width) (pieces s (kept (room - (used + width)) gs)) ps old more
  so_far-turn more put =
      let one : columns (piece_of s g ∷ []) ≡ width = sum_by-cons piece_width (piece_of s g) [] ∙ omega (arith, width-is) in
      rw (← one) (so_far-more start used _ ps old cells h (piece_of s g ∷ []) _ more (rw one next)
      (put ∙ sym (painted-cons (start + used) (piece_of s g) [] cells ∙ painted-nil _ _)))

  pub so_far-next_short : AreShort ps → IsShort g
  so_far-next_short short = All-head (λ p. IsShort p.symbol)
      (piece_of s g) _ (subst AreShort next (so_far-short start used _ ps old cells h short))

-- the printable characters with which a text begins
pub so_far-printable : (text rest : List ℕ) (n start room : ℕ) (s : Style) (cells mid : List Cell) → IsPrintableFront text n
    → n ≤ room → rest ≡ drop n text → mid ≡ painted start (pieces s (singles (take n text))) cells
    → PaintsSoFar start n (text_pieces (room - n) s rest) (text_pieces room s text) cells mid
so_far-printable text rest n start room s cells mid h le left put = record {
  done = pieces s (singles (take n text));
  is = rw left (pieces-split text n room s h le);
  wide = columns-singles s (take n text) ∙ length-take-le n text h.within;
  cells = put;
}

pub ruleset so_far_steps = (so_far-skip, painted_width-painted)
