-- Frames of a script, of which no cell has an option or a flag.
use Rattle.std.proofs.Common.{◌≡◌, ℕ, ◌+◌, ◌*◌, ◌<◌, Bool, true, false, if◌then◌else◌, List, [], ◌∷◌, Some, refl, sym, ◌∙◌, subst}
use Rattle.std.proofs.Common.{encode_utf8}
use Rattle.rtui_geometry.specs.{declared.rect.Rect.Rect, Rect.has_position}
use Rattle.rtui_cell.specs.{declared.cell.Cell.Cell, Cell.is_skipped, Cell.IsUnmarked, Grid.Grid}
use Rattle.rtui_diff.specs.{Cells.cell_at, Shows.Shows}
use Rattle.rtui_text.specs.Text.{TextData}
use Rattle.rtui_buffer.specs.BufferData.{BufferData, IsEmptied, area_size, cell_index, cell_in, position_of, with_cell}
use Rattle.rtui_backend.specs.CellGrid.{AreUnmarked}
use Rattle.rtui_backend.proofs.PlainLemmas.{AreUnmarked-empties, unmarked_set}
use Rattle.screenplay.specs.{Puts.with_put, Puts.with_puts, Run.IsFrame}

unskipped : (c : Cell) → IsUnmarked c → is_skipped c ≡ false
unfolding is_skipped
unskipped c unmarked = rw (unmarked.option, unmarked.flag) refl

pub AreUnmarked-emptied : (r : Rect) (s : BufferData) → IsEmptied r s → AreUnmarked s.cells
AreUnmarked-emptied r s emptied = subst AreUnmarked (sym emptied.cells) (AreUnmarked-empties (area_size r))

AreUnmarked-put : (put : ℕ × ℕ × ℕ) (s : BufferData) → AreUnmarked s.cells → AreUnmarked (with_put put s).cells
AreUnmarked-put put s all = either (has_position s.area (position_of (put.0, put.1)))
  where
    either : (holds : Bool) → AreUnmarked (if holds then with_cell s (position_of (put.0, put.1))
        (record (cell_in s (position_of (put.0, put.1))) { symbol = Some (encode_utf8 put.2) }) else s).cells
    either true = let former = all (cell_index s.area (position_of (put.0, put.1))) in
        unmarked_set s.cells _ _ all (record { option = former.option; flag = former.flag })
    either false = all

AreUnmarked-puts : (puts : List (ℕ × ℕ × ℕ)) (s : BufferData) → AreUnmarked s.cells → AreUnmarked (with_puts puts s).cells
AreUnmarked-puts [] s all = all
AreUnmarked-puts (put ∷ puts) s all = AreUnmarked-puts puts (with_put put s) (AreUnmarked-put put s all)

pub AreUnmarked-frame : (area : Rect) (text : TextData) (puts : List (ℕ × ℕ × ℕ)) (frame : BufferData)
    → IsFrame area text puts frame → AreUnmarked frame.cells
AreUnmarked-frame area text puts frame made =
    subst (λ (s : BufferData). AreUnmarked s.cells) (sym made.painted)
    (AreUnmarked-puts puts made.rendered (λ k. made.renders.marks.at k (AreUnmarked-emptied area made.blank made.emptied k)))

-- cells without marks that are shown in an area, and then in other rows of its columns
pub shown_again : (r : Rect) (y : ℕ) (cells : List Cell) (g g' : Grid) → AreUnmarked cells
    → Shows r.x r.y r.width r.height cells g → Shows r.x y r.width r.height cells g'
    → (a b : ℕ) → a < r.width → b < r.height → g' (r.x + a) (y + b) ≡ g (r.x + a) (r.y + b)
shown_again r y cells g g' unmarked shown again a b a_in b_in =
    let shows = unskipped (cell_at r.width cells a b) (unmarked (b * r.width + a)) in
    (again.at a b a_in b_in).look shows ∙ sym ((shown.at a b a_in b_in).look shows)
