-- What painting means, column by column.
use Rattle.std.proofs.Common.{◌≡◌, ℕ, suc, zero, ◌+◌, ◌-◌, ◌<◌, ◌≤◌, ⊎_elim, List, [], ◌∷◌, ◌++◌, length, length-append, set}
use Rattle.std.proofs.Common.{take, All, refl, sym, ap, subst, ◌∙◌, arith, inl, inr, ◌&&◌, nat_lt, if◌then◌else◌, nat_le}
use Rattle.std.proofs.lemmas.{Bool.cases_lt, List.get_or-set_same, List.length-set, List.ext_get_or, List.Elements.All-nil}
use Rattle.std.proofs.lemmas.{List.Elements.All-cons}
use Rattle.std.proofs.lemmas.{List.Sums.sum_by-cons, List.Sums.sum_by-append, List.Sums.sum_by_more_le, List.get_or_append_left}
use Rattle.std.proofs.lemmas.{List.get_or-append_right, List.take-append-le, Bool.Decides.nat_tests}
use Rattle.std.proofs.Math.Seq.{take-append-add}
use Rattle.rtui_style.specs.{declared.Style.Style, Style.new_style}
use Rattle.rtui_cell.specs.{declared.cell.Cell.Cell, Cell.empty_cell, Width.text_width}
use Rattle.rtui_diff.specs.Cells.{cell}
use Rattle.rtui_buffer.specs.Painting.{painted_width, kept, Piece, piece_of, pieces, piece_width, columns, AreWide, shown}
use Rattle.rtui_buffer.specs.Painting.{piece_at, place_of, IsSameOutside, HasPieces}
use Rattle.rtui_buffer.specs.Painted.{emptied, with_piece, painted}
use Rattle.rtui_buffer.proofs.PaintLemmas.{painted_width-painted, kept-nil, kept-skip, kept-take, kept-full, IsSameOutside-refl}
use Rattle.rtui_buffer.proofs.PaintLemmas.{IsSameOutside-emptied, IsSameOutside-put, IsSameOutside-then}

pub emptied-inside : (at n k : ℕ) (cells : List Cell) → at ≤ k → k < at + n → at + n ≤ length cells
    → cell (emptied at n cells) k ≡ empty_cell
unfolding emptied
emptied-inside at zero k cells le lt fits = absurd (omega arith)
emptied-inside at (suc n) k cells le lt fits =
    let more : List Cell = set cells at empty_cell in
    let len : length more ≡ length cells = length-set cells at empty_cell in
    ⊎_elim
    (λ (past : at < k). emptied-inside (at + 1) n k more (omega arith) (omega arith) (omega arith))
    (λ (here : k ≤ at).
    let same : k ≡ at = omega arith in
    let in_cells : at < length cells = omega arith in
    (IsSameOutside-emptied (at + 1) (at + 1 + n) (at + 1) n more more (omega arith) (omega arith)
    (IsSameOutside-refl (at + 1) (at + 1 + n) more)).before k (omega arith)
    ∙ ap (λ i. cell more i) same ∙ get_or-set_same cells at empty_cell empty_cell in_cells)
    (cases_lt at k)

pub emptied-outside : (at n : ℕ) (cells : List Cell) → IsSameOutside at (at + n) cells (emptied at n cells)
emptied-outside at n cells = IsSameOutside-emptied at (at + n) at n cells cells (omega arith) (omega arith)
    (IsSameOutside-refl at (at + n) cells)

-- a part that was made blank is emptied
pub emptied-filled : (from to : ℕ) (old new : List Cell) → from ≤ to → to ≤ length old → length new ≡ length old
    → ((k : ℕ) → cell new k ≡ (if nat_le from k && nat_lt k to then empty_cell else cell old k))
    → new ≡ emptied from (to - from) old
emptied-filled from to old new order fits count filled =
    let outside = emptied-outside from (to - from) old in
    ext_get_or empty_cell new (emptied from (to - from) old) (count ∙ sym outside.count)
    (λ k _. filled k ∙ elim (cases_lt k from) [
      | inl before ↦ let e = outside.before k before in grind (arith, nat_tests)
      | inr within ↦ elim (cases_lt k to) [
        | inl low ↦ let e = emptied-inside from (to - from) k old within (omega arith) (omega arith) in grind (arith, nat_tests)
        | inr past ↦ let e = outside.behind k (omega arith) in grind (arith, nat_tests)
      ]
    ])

with_piece-first : (at : ℕ) (p : Piece) (cells : List Cell) → at < length cells
    → cell (with_piece at p cells) at ≡ shown p (cell cells at)
unfolding with_piece
with_piece-first at p cells lt =
    let more : List Cell = set cells at (shown p (cell cells at)) in
    let n : ℕ = piece_width p - 1 in
    (emptied-outside (at + 1) n more).before at (omega arith)
    ∙ get_or-set_same cells at (shown p (cell cells at)) empty_cell lt

with_piece-behind : (at j : ℕ) (p : Piece) (cells : List Cell) → 0 < j → j < piece_width p → at + piece_width p ≤ length cells
    → cell (with_piece at p cells) (at + j) ≡ empty_cell
unfolding with_piece
with_piece-behind at j p cells pos lt fits =
    let c : Cell = shown p (cell cells at) in
    let len : length (set cells at c) ≡ length cells = length-set cells at c in
    emptied-inside (at + 1) (piece_width p - 1) (at + j) (set cells at c) (omega arith) (omega arith) (omega arith)

-- a piece ends before the pieces after it begin, and it takes a column
wide-at : (ps : List Piece) (k : ℕ) (d : Piece) → AreWide ps → k < length ps → 0 < piece_width (piece_at ps k)
wide-at [] k d wide lt = absurd (omega arith)
wide-at (p ∷ ps) zero d wide lt = wide.0
wide-at (p ∷ ps) (suc k) d wide lt = wide-at ps k d wide.1 (omega arith)

abbrev no_piece : Piece
no_piece = piece_of new_style []

module _ (at : ℕ) (ps qs : List Piece) (old mid new : List Cell) (wide : AreWide ps) (first : HasPieces at ps old mid)
    (second : HasPieces (at + columns ps) qs mid new) where
  -- a piece of the first ones
  module _ (k : ℕ) (lt : k < length ps) where
    front-at : piece_at (ps ++ qs) k ≡ piece_at ps k
    front-at = get_or_append_left ps qs no_piece k lt

    front-place : place_of at (ps ++ qs) k ≡ place_of at ps k
    front-place = ap (λ rs. at + columns rs) (take-append-le k ps qs (omega arith))

    front-ends : place_of at ps k + piece_width (piece_at ps k) ≤ at + columns ps
    front-ends = let e = sum_by_more_le piece_width ps k no_piece lt in omega arith

  -- a piece of the others
  module _ (k : ℕ) (ge : length ps ≤ k) where
    rest-at : piece_at (ps ++ qs) k ≡ piece_at qs (k - length ps)
    rest-at = get_or-append_right ps qs (length ps) k no_piece refl ge

    rest-place : place_of at (ps ++ qs) k ≡ place_of (at + columns ps) qs (k - length ps)
    rest-place =
        let e : k ≡ length ps + (k - length ps) = omega arith in
        ap (λ rs. at + columns rs) (ap (λ i. take i (ps ++ qs)) e ∙ take-append-add ps qs (k - length ps))
        ∙ (let sum = sum_by-append piece_width ps (take (k - length ps) qs) in omega arith)

  pub HasPieces-append : HasPieces at (ps ++ qs) old new
  HasPieces-append =
      let both : length (ps ++ qs) ≡ length ps + length qs = length-append ps qs in
      let ends : at + columns (ps ++ qs) ≡ at + columns ps + columns qs = omega (arith, sum_by-append piece_width ps qs) in
      record {
        starts = λ k lt. elim (cases_lt k (length ps)) [
          | inl front ↦
              let some = wide-at ps k no_piece wide front in let end = front-ends k front in
              rw (front-place k front, front-at k front) (second.outside.before (place_of at ps k) (omega arith)
              ∙ first.starts k front)
          | inr rest ↦
              rw (rest-place k rest, rest-at k rest)
              (second.starts (k - length ps) (omega arith) ∙ ap (shown (piece_at qs (k - length ps)))
              (first.outside.behind (place_of (at + columns ps) qs (k - length ps)) (omega arith)))
        ];
        behind = λ k j lt some less. elim (cases_lt k (length ps)) [
          | inl front ↦
              let inside : j < piece_width (piece_at ps k) = rw (front-at k front) at less in let end = front-ends k front in
              rw (front-place k front) (second.outside.before (place_of at ps k + j) (omega arith)
              ∙ first.behind k j front some inside)
          | inr rest ↦ rw (rest-place k rest) (second.behind (k - length ps) j (omega arith) some (rw (rest-at k rest) at less))
        ];
        outside = rw ends (IsSameOutside-then at (at + columns ps) (at + columns ps + columns qs) old mid new (omega arith)
            (omega arith) first.outside second.outside);
      }

HasPieces-one : (at : ℕ) (p : Piece) (cells : List Cell) → 0 < piece_width p → at + piece_width p ≤ length cells
    → HasPieces at (p ∷ []) cells (with_piece at p cells)
HasPieces-one at p cells pos fits =
    let here : at + columns [] ≡ at = omega arith in
    let one : columns (p ∷ []) ≡ piece_width p = sum_by-cons piece_width p [] ∙ omega arith in
    record {
      starts = λ k lt. let first : k ≡ 0 = omega arith in rw (first, here) (with_piece-first at p cells (omega arith));
      behind = λ k j lt q r. let first : k ≡ 0 = omega arith in
          rw (first, here) (with_piece-behind at j p cells q (rw first at r) fits);
      outside = rw one (IsSameOutside-put at at p cells cells (omega arith) pos (IsSameOutside-refl at at cells));
    }

pub HasPieces-none : (at : ℕ) (cells : List Cell) → HasPieces at [] cells cells
HasPieces-none at cells = record {
  starts = λ k lt. absurd (omega arith);
  behind = λ k j lt. absurd (omega arith);
  outside = IsSameOutside-refl at (at + 0) cells;
}

pub HasPieces-painted : (at : ℕ) (ps : List Piece) (cells : List Cell) → AreWide ps → at + columns ps ≤ length cells
    → HasPieces at ps cells (painted at ps cells)
unfolding painted
HasPieces-painted at [] cells wide fits = HasPieces-none at cells
HasPieces-painted at (p ∷ ps) cells wide fits =
    let pos : 0 < piece_width p = wide.0 in
    let sum : columns (p ∷ ps) ≡ piece_width p + columns ps = sum_by-cons piece_width p ps in
    let one : columns (p ∷ []) ≡ piece_width p = sum_by-cons piece_width p [] ∙ omega arith in
    let put = HasPieces-one at p cells pos (omega arith) in
    let rest = HasPieces-painted (at + piece_width p) ps (with_piece at p cells) wide.1 (omega (arith, put.outside.count)) in
    HasPieces-append at (p ∷ []) ps cells (with_piece at p cells) _ (pos, tt) put (rw one rest)

-- what holds of no graphemes, and with one more of some width, holds of the kept ones
kept-step : (P : ℕ → List (List ℕ) → Type 0) → ((room : ℕ) → P room [])
    → ((room : ℕ) (g : List ℕ) (ks : List (List ℕ)) → 0 < text_width g → text_width g ≤ room → P (room - text_width g) ks
    → P room (g ∷ ks))
    → (room : ℕ) (g : List ℕ) (gs : List (List ℕ)) → ((r : ℕ) → P r (kept r gs)) → P room (kept room (g ∷ gs))
kept-step P none more room g gs h = elim (cases_lt 0 (painted_width g)) [
  | inl pos ↦
      let same = painted_width-painted g pos in
      elim (cases_lt room (text_width g)) [
        | inl lt ↦ rw (kept-full room g gs pos lt) (none room)
        | inr le ↦ rw (kept-take room g gs pos le) (more room g (kept (room - text_width g) gs)
            (omega arith) le (h (room - text_width g)))
      ]
  | inr none_wide ↦ rw (kept-skip room g gs (omega arith)) (h room)
]

kept-ind : (P : ℕ → List (List ℕ) → Type 0) → ((room : ℕ) → P room [])
    → ((room : ℕ) (g : List ℕ) (ks : List (List ℕ)) → 0 < text_width g → text_width g ≤ room → P (room - text_width g) ks
    → P room (g ∷ ks))
    → (gs : List (List ℕ)) (room : ℕ) → P room (kept room gs)
kept-ind P none more [] room = subst (P room) (sym (kept-nil room)) (none room)
kept-ind P none more (g ∷ gs) room = kept-step P none more room g gs (λ r. kept-ind P none more gs r)

pub AreWide-kept : (s : Style) (room : ℕ) (gs : List (List ℕ)) → AreWide (pieces s (kept room gs))
AreWide-kept s room gs = kept-ind (λ _ ks. AreWide (pieces s ks)) (λ _. tt) (λ room g ks pos le h. (pos, h)) gs room

pub wide_graphemes : (room : ℕ) (gs : List (List ℕ)) → All (λ g. 0 < text_width g) (kept room gs)
wide_graphemes room gs = kept-ind (λ _ ks. All (λ g. 0 < text_width g) ks) (λ _. All-nil (λ g. 0 < text_width g))
    (λ room g ks pos le h. All-cons (λ g. 0 < text_width g) g ks pos h) gs room

pub columns-kept : (s : Style) (room : ℕ) (gs : List (List ℕ)) → columns (pieces s (kept room gs)) ≤ room
columns-kept s room gs = kept-ind (λ r ks. columns (pieces s ks) ≤ r) (λ r. omega arith)
    (λ r g ks pos le h. omega (arith, sum_by-cons piece_width (piece_of s g) (pieces s ks))) gs room

-- in no room nothing is painted
pub kept-none : (gs : List (List ℕ)) → kept 0 gs ≡ []
kept-none gs = kept-ind (λ r ks. r ≡ 0 → ks ≡ []) (λ r e. refl) (λ r g ks pos le h e. absurd (omega arith)) gs 0 refl
