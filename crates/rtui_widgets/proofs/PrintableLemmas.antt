-- A row that begins with printable characters of ASCII.
use Rattle.std.proofs.Common.{◌≡◌, ℕ, suc, ◌+◌, ◌<◌, ◌≤◌, Bool, true, false, nat_eq, List, [], ◌∷◌, ◌++◌, length, length-take-le}
use Rattle.std.proofs.Common.{take, drop, set, refl, subst, length-set, arith}
use Rattle.std.proofs.lemmas.Bool.Decides.{nat_tests}
use Rattle.unicode_segmentation.specs.Grapheme.{graphemes}
use Rattle.rtui_cell.specs.declared.cell.Cell.{Cell}
use Rattle.rtui_style.specs.declared.Style.{Style}
use Rattle.rtui_text.specs.Printable.{ArePrintable, IsPrintableFront, singles}
use Rattle.rtui_text.proofs.PrintableLemmas.{printable-plain, graphemes-front, front-bytes}
use Rattle.rtui_diff.specs.Cells.{cell}
use Rattle.rtui_buffer.specs.Painting.{piece_of, pieces, shown, KeepsUnmarked}
use Rattle.rtui_buffer.specs.Painted.{emptied, painted}
use Rattle.rtui_buffer.proofs.{PaintLemmas.painted-nil, PaintLemmas.unmarked-set, PrintableLemmas.painted-byte}
use Rattle.rtui_cell.proofs.WidthLemmas.{one_byte}
use Rattle.rtui_widgets.specs.Inner.{with_next}
use Rattle.rtui_widgets.proofs.SpanLemmas.{HasShown, shown-none, shown-turn}

-- the next one, at a column after the others or as the first
next-byte : (is_first : Bool) (x : ℕ) (s : Style) (b : ℕ) (row : List Cell) → (is_first ≡ false → 0 < x)
    → with_next is_first x s (b ∷ []) row ≡ set row x (shown (piece_of s (b ∷ [])) (cell row x))
unfolding with_next emptied
next-byte true x s b row later = rw (one_byte b) refl
next-byte false x s b row later = let some : 0 < x = later refl in rw (one_byte b) (grind (arith, nat_tests))

-- these bytes, from column x on
shown-bytes : (s : Style) (text bs : List ℕ) (x : ℕ) (rest : List (List ℕ)) (old row : List Cell) → x + length bs ≤ length row
    → ArePrintable bs
    → HasShown s text x (nat_eq x 0) (singles bs ++ rest) old row
    → HasShown s text (x + length bs) (nat_eq (x + length bs) 0) rest old (painted x (pieces s (singles bs)) row)
shown-bytes s text [] x rest old row fits all h = let here : x + 0 ≡ x = omega arith in rw (here, painted-nil x row) h
shown-bytes s text (b ∷ bs) x rest old row fits all h =
    let is_first = nat_eq x 0 in
    let more : List Cell = set row x (shown (piece_of s (b ∷ [])) (cell row x)) in
    let plain = printable-plain b (all 0 (omega arith)) in
    let next : with_next is_first x s (b ∷ []) row ≡ more = next-byte is_first x s b row (λ e. grind (arith, nat_tests, e)) in
    let flag : false ≡ nat_eq (x + 1) 0 = grind (arith, nat_tests) in
    let turned = shown-turn s text x is_first _ old row h (b ∷ []) (singles bs ++ rest) refl plain (omega (arith, one_byte b))
    (omega arith) (omega arith) in
    let here : HasShown s text (x + 1) (nat_eq (x + 1) 0) (singles bs ++ rest) old more = rw (← flag, ← next)
    (rw (one_byte b) at turned) in
    let end : x + 1 + length bs ≡ x + length (b ∷ bs) = omega arith in
    rw (← end, painted-byte x s b bs row) (shown-bytes s text bs (x + 1) rest old more (simp length-set (omega arith))
    (λ k lt. all (suc k) (omega arith)) here)

pub shown-front : (s : Style) (text : List ℕ) (n : ℕ) (old : List Cell) → IsPrintableFront text n → n ≤ length old
    → HasShown s text n (nat_eq n 0) (graphemes true (drop n text)) old (painted 0 (pieces s (singles (take n text))) old)
shown-front s text n old h le =
    let count : length (take n text) ≡ n = length-take-le n text h.within in
    let end : 0 + length (take n text) ≡ n = omega arith in
    subst (λ m. HasShown s text m (nat_eq m 0) (graphemes true (drop n text)) old
    (painted 0 (pieces s (singles (take n text))) old)) end
    (shown-bytes s text (take n text) 0 (graphemes true (drop n text)) old old (omega arith) (front-bytes text n h)
    (rw (graphemes-front text n h) at (shown-none s text old)))

-- they set no option and no flag
pub unmarked-bytes : (s : Style) (bs : List ℕ) (x : ℕ) (old row : List Cell) → KeepsUnmarked old row
    → KeepsUnmarked old (painted x (pieces s (singles bs)) row)
unmarked-bytes s [] x old row h = rw (painted-nil x row) h
unmarked-bytes s (b ∷ bs) x old row h =
    rw (painted-byte x s b bs row) (unmarked-bytes s bs (x + 1) old _ (record {
      at = λ k u. unmarked-set row x _ (λ w. record { option = w.option; flag = w.flag }) k (h.at k u);
    }))
