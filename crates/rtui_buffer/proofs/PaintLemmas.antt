-- How painting goes on, a piece at a time.
use Rattle.std.proofs.Common.{◌≡◌, ◌≢◌, ℕ, suc, zero, ◌+◌, ◌-◌, ◌<◌, ◌≤◌, true, List, [], ◌∷◌, set, refl, ◌∙◌, arith}
use Rattle.std.proofs.lemmas.{Bool.cond_both, Bool.Decides.nat_tests, List.get_or-set_other, List.length-set}
use Rattle.rtui_cell.specs.{declared.cell.Cell.Cell, Cell.empty_cell, Cell.IsUnmarked, Width.text_width}
use Rattle.rtui_buffer.specs.Painting.{has_control, painted_width, has_painted_width, fitting, kept, Piece, piece_width}
use Rattle.rtui_buffer.specs.Painted.{emptied}
use Rattle.rtui_buffer.specs.Painting.{IsSameOutside, KeepsUnmarked}
use Rattle.rtui_buffer.specs.Painted.{with_piece, painted}
use Rattle.rtui_diff.specs.Cells.{cell}

-- a grapheme that is painted takes its width
pub painted_width-painted : (g : List ℕ) → 0 < painted_width g → painted_width g ≡ text_width g
unfolding painted_width
painted_width-painted g = cond_both (has_control g) 0 (text_width g) (λ n. 0 < n → n ≡ text_width g)
    (λ _ lt. absurd (omega arith)) (λ _ lt. refl)

pub kept-nil : (room : ℕ) → kept room [] ≡ []
unfolding kept fitting
kept-nil room = refl

pub kept-skip : (room : ℕ) (g : List ℕ) (gs : List (List ℕ)) → painted_width g ≡ 0 → kept room (g ∷ gs) ≡ kept room gs
unfolding kept
kept-skip room g gs h = rw h

pub kept-take : (room : ℕ) (g : List ℕ) (gs : List (List ℕ)) → 0 < painted_width g → text_width g ≤ room
    → kept room (g ∷ gs) ≡ g ∷ kept (room - text_width g) gs
unfolding kept fitting
kept-take room g gs h le = let p : has_painted_width g ≡ true = grind (arith, nat_tests) in rw p (grind (arith, nat_tests))

pub kept-full : (room : ℕ) (g : List ℕ) (gs : List (List ℕ)) → 0 < painted_width g → room < text_width g → kept room (g ∷ gs) ≡ []
unfolding kept fitting
kept-full room g gs h lt = let p : has_painted_width g ≡ true = grind (arith, nat_tests) in rw p (grind (arith, nat_tests))

pub painted-nil : (at : ℕ) (cells : List Cell) → painted at [] cells ≡ cells
unfolding painted
painted-nil at cells = refl

pub painted-cons : (at : ℕ) (p : Piece) (ps : List Piece) (cells : List Cell)
    → painted at (p ∷ ps) cells ≡ painted (at + piece_width p) ps (with_piece at p cells)
unfolding painted
painted-cons at p ps cells = refl

pub IsSameOutside-refl : (from to : ℕ) (cells : List Cell) → IsSameOutside from to cells cells
IsSameOutside-refl from to cells = record { count = refl; before = λ k h. refl; behind = λ k h. refl }

pub IsSameOutside-set : (from to i : ℕ) (c : Cell) (old new : List Cell) → from ≤ i → i < to → IsSameOutside from to old new
    → IsSameOutside from to old (set new i c)
IsSameOutside-set from to i c old new le lt h = record {
  count = length-set new i c ∙ h.count;
  before = λ k b. (let ne : k ≢ i = omega arith in get_or-set_other new i k c empty_cell ne) ∙ h.before k b;
  behind = λ k b. (let ne : k ≢ i = omega arith in get_or-set_other new i k c empty_cell ne) ∙ h.behind k b;
}

pub IsSameOutside-wider : (from to to2 : ℕ) (old new : List Cell) → to ≤ to2 → IsSameOutside from to old new
    → IsSameOutside from to2 old new
IsSameOutside-wider from to to2 old new le h = record {
  count = h.count;
  before = h.before;
  behind = λ k b. h.behind k (omega arith);
}

pub IsSameOutside-then : (from mid to : ℕ) (a b c : List Cell) → from ≤ mid → mid ≤ to → IsSameOutside from mid a b
    → IsSameOutside mid to b c → IsSameOutside from to a c
IsSameOutside-then from mid to a b c le le2 h g = record {
  count = g.count ∙ h.count;
  before = λ k lt. g.before k (omega arith) ∙ h.before k lt;
  behind = λ k ge. g.behind k ge ∙ h.behind k (omega arith);
}

pub IsSameOutside-emptied : (from to at n : ℕ) (old new : List Cell) → from ≤ at → at + n ≤ to → IsSameOutside from to old new
    → IsSameOutside from to old (emptied at n new)
unfolding emptied
IsSameOutside-emptied from to at zero old new le lt h = h
IsSameOutside-emptied from to at (suc n) old new le lt h =
    IsSameOutside-emptied from to (at + 1) n old (set new at empty_cell) (omega arith) (omega arith)
    (IsSameOutside-set from to at empty_cell old new le (omega arith) h)

pub IsSameOutside-put : (from at : ℕ) (p : Piece) (old new : List Cell) → from ≤ at → 0 < piece_width p
    → IsSameOutside from at old new → IsSameOutside from (at + piece_width p) old (with_piece at p new)
unfolding with_piece
IsSameOutside-put from at p old new le lt h =
    IsSameOutside-emptied from (at + piece_width p) (at + 1) (piece_width p - 1) old _ (omega arith) (omega arith)
    (IsSameOutside-set from (at + piece_width p) at _ old new le (omega arith)
    (IsSameOutside-wider from at (at + piece_width p) old new (omega arith) h))

pub unmarked-refl : (cells : List Cell) → KeepsUnmarked cells cells
unmarked-refl cells = record { at = λ k u. u }

pub unmarked-then : (a b c : List Cell) → KeepsUnmarked a b → KeepsUnmarked b c → KeepsUnmarked a c
unmarked-then a b c h g = record { at = λ k u. g.at k (h.at k u) }

pub unmarked-set : (cells : List Cell) (i : ℕ) (c : Cell) → (IsUnmarked (cell cells i) → IsUnmarked c) → (k : ℕ)
    → IsUnmarked (cell cells k) → IsUnmarked (cell (set cells i c) k)
unmarked-set [] i c keep k u = u
unmarked-set (x ∷ xs) zero c keep zero u = keep u
unmarked-set (x ∷ xs) zero c keep (suc k) u = u
unmarked-set (x ∷ xs) (suc i) c keep zero u = u
unmarked-set (x ∷ xs) (suc i) c keep (suc k) u = unmarked-set xs i c keep k u

pub unmarked-emptied : (at n : ℕ) (old new : List Cell) → KeepsUnmarked old new → KeepsUnmarked old (emptied at n new)
unfolding emptied
unmarked-emptied at zero old new h = h
unmarked-emptied at (suc n) old new h =
    unmarked-emptied (at + 1) n old (set new at empty_cell)
    (record { at = λ k u. unmarked-set new at empty_cell (λ w. record { option = refl; flag = refl }) k (h.at k u) })
