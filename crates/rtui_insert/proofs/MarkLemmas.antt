-- An empty buffer whose first row is skipped for a while.
use Rattle.std.proofs.Common.{◌≡◌, ℕ, ◌+◌, ◌*◌, ◌<◌, ◌≤◌, ◌&&◌, nat_lt, true, List, length, drop, if◌then◌else◌, refl, ◌∙◌, arith}
use Rattle.std.proofs.Common.{inl, inr, nat_le}
use Rattle.std.proofs.lemmas.{Bool.cases_lt, Bool.Decides.nat_tests}
use Rattle.std.proofs.lemmas.List.{get_or-take, get_or-drop, get_or_past, length-take, take_at}
use Rattle.rtui_geometry.specs.declared.rect.Rect.{Rect}
use Rattle.rtui_cell.specs.{declared.cell.Cell.Cell, declared.cell.CellDiffOption.TheVariants.Skip, Cell.empty_cell}
use Rattle.rtui_cell.specs.{Cell.width_of, Cell.is_skipped}
use Rattle.rtui_cell.proofs.CellLemmas.{width-empty}
use Rattle.rtui_diff.specs.Cells.{cell}
use Rattle.rtui_buffer.specs.BufferData.{BufferData, with_cells, IsEmptied, area_size}
use Rattle.rtui_buffer.specs.RowsDiff.{part_cells}
use Rattle.rtui_buffer.proofs.EmptyLemmas.{cell-empty, all-empty}
use Rattle.rtui_backend.specs.Screen.{Screen}
use Rattle.rtui_insert.specs.Rows.{IsUnknownRow, IsBlankFor, DrawsRows, DrawsFirstRow}

-- a skipped blank takes one column
pub skipped-option : (c : Cell) → is_skipped (record c { diff_option = Skip }) ≡ true
unfolding is_skipped
skipped-option c = refl

pub narrow-option : width_of (record empty_cell { diff_option = Skip }) ≡ 1
unfolding width_of
narrow-option = width-empty

-- the cells of a part are the buffer's
pub part_at : (s : BufferData) (i n k : ℕ) → k < s.area.width * n
    → cell (part_cells s i n) k ≡ cell s.cells (i * s.area.width + k)
part_at s i n k low =
    get_or-take (s.area.width * n) (drop (i * s.area.width) s.cells) k empty_cell low
    ∙ get_or-drop (i * s.area.width) s.cells k empty_cell

-- a part of empty cells has empty ones alone
pub part_of_empty : (over : Rect) (s : BufferData) → IsEmptied over s → (i n k : ℕ) → cell (part_cells s i n) k ≡ empty_cell
part_of_empty over s emptied i n k = elim (cases_lt k (s.area.width * n)) [
  | inl low ↦ part_at s i n k low ∙ rw emptied.cells (cell-empty (area_size over) (i * s.area.width + k))
  | inr past ↦ get_or_past (part_cells s i n) k empty_cell (simp length-take (omega arith))
]

-- all cells of a buffer written anew
pub cells_written : (s : BufferData) (cells : List Cell) → length cells ≡ length s.cells → (with_cells s cells).cells ≡ cells
cells_written s cells size = rw size (take_at cells (drop (length s.cells) s.cells) (length s.cells) size)

-- the first row of a buffer whose first cells are skipped
pub unknown_row : (over : Rect) (new : BufferData) (cells : List Cell) → 0 < over.height → new.area ≡ over → new.cells ≡ cells
    → ((k : ℕ) → k < over.width → is_skipped (cell cells k) ≡ true) → ((k : ℕ) → k < over.width → width_of (cell cells k) ≡ 1)
    → IsUnknownRow new
unknown_row over new cells some area same skipped narrow = rw (area, same) (record {
  row = some;
  skipped = λ a low. let place : 0 * over.width + a ≡ a = omega arith in rw place (skipped a low);
  narrow = λ a low. let place : 0 * over.width + a ≡ a = omega arith in rw place (omega (arith, narrow a low));
})

-- what was drawn over such a buffer
pub marked_first : {s old : BufferData} → IsBlankFor 1 s old → (cells : List Cell) (n : ℕ) → n ≡ old.area.width
    → length cells ≡ length old.cells → ((k : ℕ) → k < n → is_skipped (cell cells k) ≡ true)
    → ((k : ℕ) → k < n → width_of (cell cells k) ≡ 1) → (q r : Screen)
    → DrawsRows (with_cells old cells) s 0 1 0 q r → DrawsFirstRow s q r
marked_first {s} {old} is cells n columns size skipped narrow q r drawn = record {
  former = with_cells old cells;
  unknown = unknown_row old.area (with_cells old cells) cells is.rows refl (cells_written old cells size)
      (rw columns at skipped) (rw columns at narrow);
  width = is.width;
  drawn = drawn;
}

-- and a buffer of which they were made blank is empty again
pub emptied_again : (over : Rect) (old new : BufferData) (mid cells : List Cell) (w : ℕ) → IsEmptied over old → new.area ≡ over
    → new.cells ≡ cells → length cells ≡ area_size over
    → ((k : ℕ) → w ≤ k → cell mid k ≡ cell old.cells k)
    → ((k : ℕ) → cell cells k ≡ (if nat_le 0 k && nat_lt k w then empty_cell else cell mid k)) → IsEmptied over new
emptied_again over old new mid cells w emptied area same size rest blanked = record {
  area = area;
  cells = same ∙ all-empty (area_size over) cells size (λ k _. blanked k ∙ elim (cases_lt k w) [
    | inl low ↦ grind (arith, nat_tests)
    | inr past ↦ let e : cell mid k ≡ empty_cell = rest k past ∙ rw emptied.cells (cell-empty (area_size over) k) in
        grind (arith, nat_tests)
  ]);
}
