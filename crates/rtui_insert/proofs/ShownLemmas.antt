-- Rows of a settled buffer, drawn over blank rows by the updates from empty ones.
use Rattle.std.proofs.Common.{◌≡◌, ℕ, ◌+◌, ◌-◌, ◌*◌, ◌/◌, ◌%◌, ◌<◌, ◌≤◌, ◌⊎◌, min, false, List, [], ◌∷◌, ◌++◌, map, refl, sym, ap}
use Rattle.std.proofs.Common.{subst, ◌∙◌, arith, append_assoc, zero-add, inl, inr}
use Rattle.std.specs.List.{range_with_len}
use Rattle.std.proofs.lemmas.{Bool.cases_lt, Bool.true≢false, Bool.Decides.nat_tests, List.FromFn.length-map-range_with_len}
use Rattle.std.proofs.lemmas.{List.FromFn.get_or-map-range_with_len}
use Rattle.std.proofs.lemmas.List.{get_or_append_left, get_or-append_right, length-append}
use Rattle.rtui_cell.specs.{declared.cell.Cell.Cell, Cell.empty_cell, Cell.width_of, Cell.is_skipped, Look.Look, Look.look_of}
use Rattle.rtui_cell.specs.{Look.empty_look}
use Rattle.rtui_cell.proofs.CellLemmas.{look-empty, width-empty}
use Rattle.rtui_diff.specs.{Cells.cell, Cells.cell_at, Settled.IsSettled, Shows.ShowsColumn, Shows.Shows, Shows.RowAgrees}
use Rattle.rtui_diff.specs.DiffRule.{start}
use Rattle.rtui_diff.specs.Updates.{update_at, updates}
use Rattle.rtui_diff.proofs.{ScreenLemmas.RisesFrom, ReplayLemmas.rises}
use Rattle.rtui_diff.proofs.{DiffPromise.is_diff, FrameLemmas.row_end, FrameLemmas.row_in}
use Rattle.rtui_buffer.specs.{BufferData.BufferData, BufferData.IsEmptied, Shown.IsSettledBuffer}
use Rattle.rtui_backend.specs.Screen.{Screen, seen, row_of, rows_above, Draws}
use Rattle.rtui_buffer.specs.RowsDiff.{part_cells}
use Rattle.rtui_insert.specs.Rows.{DrawsRows, IsUnknownRow, RowsFit, lowered_update, IsBlankAt}
use Rattle.rtui_insert.specs.Insertion.{AppendsPart}
use Rattle.rtui_backend.proofs.ScrollLemmas.{above_same}
use Rattle.rtui_grid.proofs.RangeLemmas.{range_split}
use Rattle.rtui_insert.proofs.MarkLemmas.{part_at, part_of_empty}

-- the first n rows of a buffer are settled, and a screen shows them at row y
pub record ShowsFirst (s : BufferData) (n y : ℕ) (screen : Screen) : Type 0 where
  pub settled : IsSettled s.area.width n (part_cells s 0 n)
  pub shown : Shows 0 y s.area.width n (part_cells s 0 n) screen.grid

-- n rows of a settled buffer, from row i on, can be drawn over the first n rows of a former one
pub record CanShowRows (former s : BufferData) (i n y : ℕ) (screen : Screen) : Type 0 where
  pub fit : RowsFit s n y screen
  pub inside : i + n ≤ s.area.height
  pub settled : IsSettledBuffer s
  pub shown : ShowsFirst former n y screen

-- n rows of a buffer, from row i on, are shown at row y, and all else is as before
pub record ShowsRows (s : BufferData) (i n y : ℕ) (old new : Screen) : Type 0 where
  pub history : new.history ≡ old.history
  pub width : new.width ≡ old.width
  pub height : new.height ≡ old.height
  pub visible : new.visible ≡ old.visible
  pub shown : (a b : ℕ) → a < s.area.width → b < n → ShowsColumn s.area.width s.cells a (i + b) (new.grid a (y + b))
  pub outside : (a b : ℕ) → (b < y) ⊎ (y + n ≤ b) → new.grid a b ≡ old.grid a b

-- updates further down are those of the same frames at another corner
module _ (w n y : ℕ) (fits : y + n ≤ 65535) (ps ns : List Cell) where
  lowered_one : (i : ℕ) → i < w * n → lowered_update y (update_at 0 0 w ns i) ≡ update_at 0 y w ns i
  lowered_one i i_in =
      let r : i / w < n = row_in w n i i_in in
      let row : min (0 + i / w + y) 65535 ≡ y + i / w = omega arith in
      ap (λ k. record { x = 0 + i % w; y = k; cell = cell ns i }) row

  lowered_given : (lo : ℕ) (is : List ℕ) → RisesFrom ns lo (w * n) is
      → map (lowered_update y) (map (update_at 0 0 w ns) is) ≡ map (update_at 0 y w ns) is
  lowered_given lo [] r = refl
  lowered_given lo (i ∷ is) r = cc (lowered_one i r.1, lowered_given (i + 1) is r.3)

  pub lowered_updates : map (lowered_update y) (updates 0 0 w n ps ns) ≡ updates 0 y w n ps ns
  lowered_updates = lowered_given 0 _ (rises ps ns (w * n) start 0 (w * n) (omega arith))

-- the cells of a part of a buffer
module _ (s : BufferData) (i n : ℕ) where
  pub part_cell : (a b : ℕ) → a < s.area.width → b < n
      → cell_at s.area.width (part_cells s i n) a b ≡ cell_at s.area.width s.cells a (i + b)
  part_cell a b a_in b_in =
      let end : b * s.area.width + s.area.width ≤ s.area.width * n = row_end s.area.width n b b_in in
      let place : i * s.area.width + (b * s.area.width + a) ≡ (i + b) * s.area.width + a = grind arith in
      part_at s i n (b * s.area.width + a) (omega arith) ∙ ap (cell s.cells) place

  pub part_settled : i + n ≤ s.area.height → IsSettledBuffer s → IsSettled s.area.width n (part_cells s i n)
  part_settled inside settled = record {
    skipped = λ a b a_in b_in. rw (part_cell a b a_in b_in) (settled.skipped a (i + b) a_in (omega arith));
    within = λ a b a_in b_in. rw (part_cell a b a_in b_in) (settled.within a (i + b) a_in (omega arith));
    behind = λ a b k a_in b_in. rw (part_cell a b a_in b_in) (λ plain more less.
        let ends = settled.within a (i + b) a_in (omega arith) plain in
        rw (part_cell k b (omega arith) b_in) (settled.behind a (i + b) k a_in (omega arith) plain more less));
  }

  -- a column that shows it shows the buffer's
  pub part_shows : (a b : ℕ) (look : Look) → a < s.area.width → b < n → ShowsColumn s.area.width (part_cells s i n) a b look
      → ShowsColumn s.area.width s.cells a (i + b) look
  part_shows a b look a_in b_in shows = record {
    look = rw (part_cell a b a_in b_in) at shows.look;
    behind = λ j before. rw (part_cell j b (omega arith) b_in) at (shows.behind j before);
  }

-- rows of narrow cells are shown if the screen has the look of each unskipped one
narrow_first : (s : BufferData) (n y : ℕ) (screen : Screen)
    → ((a b : ℕ) → a < s.area.width → b < n → width_of (cell_at s.area.width (part_cells s 0 n) a b) ≤ 1)
    → ((a b : ℕ) → a < s.area.width → b < n → is_skipped (cell_at s.area.width (part_cells s 0 n) a b) ≡ false
    → screen.grid a (y + b) ≡ look_of (cell_at s.area.width (part_cells s 0 n) a b))
    → ShowsFirst s n y screen
narrow_first s n y screen narrow looks = record {
  settled = record {
    skipped = λ a b a_in b_in skip. narrow a b a_in b_in;
    within = λ a b a_in b_in plain. omega (arith, narrow a b a_in b_in);
    behind = λ a b k a_in b_in plain more less. absurd (omega (arith, narrow a b a_in b_in));
  };
  shown = record {
    at = λ a b a_in b_in. record {
      look = λ plain. ap (λ x. screen.grid x (y + b)) (zero-add a) ∙ looks a b a_in b_in plain;
      behind = λ j before plain covers. absurd (omega (arith, narrow j b (omega arith) b_in));
    };
  };
}

-- empty rows are shown if the screen is blank
pub blank_first : (s : BufferData) (n y : ℕ) (screen : Screen) → IsEmptied s.area s → s.area.width ≡ screen.width
    → IsBlankAt n y screen → ShowsFirst s n y screen
blank_first s n y screen emptied width blank =
    let empty : (a b : ℕ) → cell_at s.area.width (part_cells s 0 n) a b ≡ empty_cell =
    λ a b. part_of_empty s.area s emptied 0 n (b * s.area.width + a) in
    narrow_first s n y screen (λ a b a_in b_in. omega (arith, ap width_of (empty a b) ∙ width-empty))
    (λ a b a_in b_in plain. blank.at a b (omega arith) b_in ∙ sym (ap look_of (empty a b) ∙ look-empty))

-- a row of which nothing is known is shown anywhere
pub unknown_first : (s : BufferData) (screen : Screen) → IsUnknownRow s → ShowsFirst s 1 0 screen
unknown_first s screen unknown =
    let at : (a b : ℕ) → a < s.area.width → b < 1
    → cell_at s.area.width (part_cells s 0 1) a b ≡ cell_at s.area.width s.cells a 0 =
    λ a b a_in b_in. part_cell s 0 1 a b a_in b_in ∙ ap (cell_at s.area.width s.cells a) (omega arith) in
    narrow_first s 1 0 screen (λ a b a_in b_in. rw (at a b a_in b_in) (unknown.narrow a a_in))
    (λ a b a_in b_in plain. absurd (true≢false (sym (ap is_skipped (at a b a_in b_in) ∙ unknown.skipped a a_in) ∙ plain)))

-- the updates from rows that a screen shows to rows of a settled buffer show these there
module _ (former s : BufferData) (wide : s.area.width ≡ former.area.width) (i n y : ℕ) (fits : y + n ≤ 65535) where
  pub rows_shown : {old new : Screen} → DrawsRows former s i n y old new → CanShowRows former s i n y old
      → ShowsRows s i n y old new
  rows_shown {old} {new} draws can =
      let ps = part_cells former 0 n in
      let ns = part_cells s i n in
      let drew : Draws old (updates 0 y former.area.width n ps ns) new = subst (λ vs. Draws old vs new)
      (ap (map (lowered_update y)) draws.diff.walks ∙ lowered_updates former.area.width n y fits ps ns) draws.drawn in
      let settled : IsSettled former.area.width n ns =
      subst (λ m. IsSettled m n ns) wide (part_settled s i n can.inside can.settled) in
      let replay = (is_diff 0 y former.area.width n ps ns).replays can.shown.settled settled in
      let right : 0 + former.area.width ≤ old.width = omega (arith, can.fit.width) in
      let bottom : y + n ≤ old.height = can.fit.bottom in
      let shows = replay.shows old.width old.height old.grid right bottom can.shown.shown in
      record {
        history = drew.history;
        width = drew.width;
        height = drew.height;
        visible = drew.visible;
        shown = λ a b a_in b_in.
            part_shows s i n a b (new.grid a (y + b)) a_in b_in (subst (λ m. ShowsColumn m ns a b (new.grid a (y + b))) (sym wide)
            (rw (drew.grid a (y + b)) (rw (zero-add a) at (shows.at a b (omega arith) b_in))));
        outside = λ a b out. drew.grid a b ∙ replay.outside old.width old.height old.grid right bottom a b (inr (inr out));
      }

-- the rows of a screen from row y on, after those above it, as an appended part
module _ {s : BufferData} {i n y : ℕ} {old new : Screen} (shown : ShowsRows s i n y old new) (fit : RowsFit s n y old) where
  row_agrees : (b : ℕ) → b < n → RowAgrees s.area.width s.cells (i + b) (row_of new (y + b))
  row_agrees b low = record {
    width = length-map-range_with_len (λ a. seen new a (y + b)) 0 new.width ∙ shown.width ∙ sym fit.width;
    at = λ a a_in plain.
        let inside : y + b < new.height = omega (arith, shown.height, fit.bottom) in
        let here : seen new a (y + b) ≡ new.grid a (y + b) = grind (arith, nat_tests) in
        get_or-map-range_with_len (λ a. seen new a (y + b)) 0 new.width a a empty_look (omega (arith, shown.width, fit.width))
        (omega arith)
        ∙ here ∙ (shown.shown a b a_in low).look plain;
  }

  pub above_grown : AppendsPart s i n (rows_above old y) (rows_above new (y + n))
  above_grown = record {
    rows = map (row_of new) (range_with_len y n);
    appended =
        ap (λ rows. new.history ++ rows) (range_split (row_of new) 0 y n)
        ∙ ap (λ k. new.history ++ (map (row_of new) (range_with_len 0 y) ++ map (row_of new) (range_with_len k n))) (zero-add y)
        ∙ sym (append_assoc new.history _ _)
        ∙ ap (λ rows. rows ++ map (row_of new) (range_with_len y n))
        (above_same old new y shown.history shown.width shown.height (λ a b a_in b_in low. shown.outside a b (inl low)));
    agree = record {
      count = length-map-range_with_len (row_of new) y n;
      agree = λ b low. subst (RowAgrees s.area.width s.cells (i + b))
          (sym (get_or-map-range_with_len (row_of new) y n b (y + b) [] low refl)) (row_agrees b low);
    };
  }

-- parts one after the other
pub parts_join : {s : BufferData} {i n m j k : ℕ} {p q r : List (List Look)} → AppendsPart s i n p q → AppendsPart s j m q r
    → j ≡ i + n → k ≡ n + m → AppendsPart s i k p r
parts_join {s} {i} {n} {m} {j} {k} {p} {q} {r} one two next all = record {
  rows = one.rows ++ two.rows;
  appended = two.appended ∙ ap (λ rows. rows ++ two.rows) one.appended ∙ append_assoc p one.rows two.rows;
  agree = record {
    count = length-append one.rows two.rows ∙ omega (arith, one.agree.count, two.agree.count, all);
    agree = λ b low. elim (cases_lt b n) [
      | inl first ↦ rw (get_or_append_left one.rows two.rows [] b (omega (arith, one.agree.count))) (one.agree.agree b first)
      | inr past ↦
          let place : j + (b - n) ≡ i + b = omega arith in
          rw (get_or-append_right one.rows two.rows n b [] one.agree.count past)
          (rw place at (two.agree.agree (b - n) (omega arith)))
    ];
  };
}
