-- Painting printable characters of ASCII, a cell each.
use Rattle.std.proofs.Common.{◌≡◌, ℕ, suc, ◌+◌, ◌-◌, ◌<◌, ◌≤◌, true, List, [], ◌∷◌, ◌++◌, length, length-take-le, take, drop, set}
use Rattle.std.proofs.Common.{slice_index, refl, sym, ap, ◌∙◌, arith, get_or}
use Rattle.std.proofs.lemmas.{List.map-append, List.get_or_default, List.drop_more, List.drop_all, List.Sums.sum_by-cons}
use Rattle.std.proofs.lemmas.{Str.encode_ascii}
use Rattle.unicode_segmentation.specs.Grapheme.{graphemes}
use Rattle.rtui_style.specs.declared.Style.{Style}
use Rattle.rtui_cell.specs.{declared.cell.Cell.Cell, Cell.empty_cell}
use Rattle.rtui_cell.proofs.WidthLemmas.{one_byte}
use Rattle.rtui_text.specs.Printable.{IsPrintable, ArePrintable, IsPrintableFront, singles}
use Rattle.rtui_text.proofs.PrintableLemmas.{printable-plain, graphemes-front, front-bytes}
use Rattle.rtui_diff.specs.Cells.{cell}
use Rattle.rtui_buffer.specs.Painting.{painted_width, kept, piece_of, pieces, piece_width, columns, shown}
use Rattle.rtui_buffer.specs.Painted.{emptied, with_piece}
use Rattle.rtui_buffer.specs.Painting.{text_pieces}
use Rattle.rtui_buffer.specs.Painted.{painted}
use Rattle.rtui_buffer.proofs.PaintLemmas.{kept-take, painted-nil, painted-cons}

painted_width-printable : (b : ℕ) → IsPrintable b → painted_width (b ∷ []) ≡ 1
unfolding painted_width
painted_width-printable b p = rw (printable-plain b p) (one_byte b)

with_byte : (at : ℕ) (s : Style) (b : ℕ) (cells : List Cell)
    → with_piece at (piece_of s (b ∷ [])) cells ≡ set cells at (shown (piece_of s (b ∷ [])) (cell cells at))
unfolding with_piece emptied
with_byte at s b cells = rw (one_byte b) refl

pub painted-byte : (at : ℕ) (s : Style) (b : ℕ) (bs : List ℕ) (cells : List Cell)
    → painted at (pieces s (singles (b ∷ bs))) cells ≡ painted (at + 1) (pieces s (singles bs))
    (set cells at (shown (piece_of s (b ∷ [])) (cell cells at)))
painted-byte at s b bs cells =
    painted-cons at (piece_of s (b ∷ [])) (pieces s (singles bs)) cells
    ∙ rw (one_byte b) (ap (painted (at + 1) (pieces s (singles bs))) (with_byte at s b cells))

-- a turn of the loop over the bytes
pub bytes-turn : (at i : ℕ) (s : Style) (bytes : List ℕ) (cells whole : List Cell) (d new : Cell) → i < length bytes
    → at + i < length cells
    → new ≡ shown (piece_of s (slice_index bytes i ∷ [])) (get_or cells (at + i) d)
    → painted (at + i) (pieces s (singles (drop i bytes))) cells ≡ whole
    → painted (at + (i + 1)) (pieces s (singles (drop (i + 1) bytes))) (set cells (at + i) new) ≡ whole
bytes-turn at i s bytes cells whole d new lt inside is h =
    let was : get_or cells (at + i) d ≡ cell cells (at + i) = get_or_default cells (at + i) d empty_cell inside in
    let next : at + (i + 1) ≡ at + i + 1 = omega arith in
    rw (next, is, was) (sym (painted-byte (at + i) s (slice_index bytes i) (drop (i + 1) bytes) cells)
    ∙ ap (λ bs. painted (at + i) (pieces s (singles bs)) cells) (sym (drop_more bytes i 0 lt)) ∙ h)

pub bytes-none : (at n : ℕ) (s : Style) (bytes : List ℕ) (cells : List Cell) → length bytes ≤ n
    → painted at (pieces s (singles (drop n bytes))) cells ≡ cells
bytes-none at n s bytes cells le = rw (drop_all n bytes le) (painted-nil at cells)

-- ---- a text that begins with such characters

kept-singles : (bs : List ℕ) (room : ℕ) (gs : List (List ℕ)) → ArePrintable bs → length bs ≤ room
    → kept room (singles bs ++ gs) ≡ singles bs ++ kept (room - length bs) gs
kept-singles [] room gs all le = let e : room - 0 ≡ room = omega arith in rw e refl
kept-singles (b ∷ bs) room gs all le =
    let p : IsPrintable b = all 0 (omega arith) in
    let wide : 0 < painted_width (b ∷ []) = omega (arith, painted_width-printable b p) in
    let less : room - 1 - length bs ≡ room - suc (length bs) = omega arith in
    kept-take room (b ∷ []) (singles bs ++ gs) wide (omega (arith, one_byte b))
    ∙ rw (one_byte b) (ap (λ ks. (b ∷ []) ∷ ks) (kept-singles bs (room - 1) gs (λ k lt. all (suc k) (omega arith)) (omega arith)
    ∙ rw less refl))

pub columns-singles : (s : Style) (bs : List ℕ) → columns (pieces s (singles bs)) ≡ length bs
columns-singles s [] = refl
columns-singles s (b ∷ bs) = omega (
  arith,
  sum_by-cons piece_width (piece_of s (b ∷ [])) (pieces s (singles bs)),
  one_byte b,
  columns-singles s bs,
)

-- they are the first pieces of the text
pub pieces-split : (text : List ℕ) (n room : ℕ) (s : Style) → IsPrintableFront text n → n ≤ room
    → text_pieces room s text ≡ pieces s (singles (take n text)) ++ text_pieces (room - n) s (drop n text)
pieces-split text n room s h le =
    let count : length (take n text) ≡ n = length-take-le n text h.within in
    ap (λ gs. pieces s (kept room gs)) (graphemes-front text n h)
    ∙ ap (pieces s) (kept-singles (take n text) room (graphemes true (drop n text)) (front-bytes text n h) (omega arith)
    ∙ rw count refl)
    ∙ map-append (piece_of s) (singles (take n text)) (kept (room - n) (graphemes true (drop n text)))

pub ruleset byte_steps = (bytes-none)

pub ruleset ascii_steps = (encode_ascii)
