-- Plain cells are settled, and painting keeps what is still to be painted plain.
use Rattle.std.proofs.Common.{◌≡◌, ℕ, ◌+◌, ◌-◌, ◌<◌, ◌≤◌, ◌⊎◌, ⊎_elim, inl, inr, Bool, true, false, List, take, refl, sym, ap}
use Rattle.std.proofs.Common.{subst, ◌∙◌, arith, if◌then◌else◌, Result, Ok, Err, OnOk}
use Rattle.std.proofs.lemmas.Bool.{cases_lt}
use Rattle.rtui_buffer.proofs.{ColumnLemmas.PaintsByColumns-paints, EmptyLemmas.cell-empty, PaintsLemmas.IsSettledBuffer-painted}
use Rattle.rtui_widgets.specs.Changes.{ChangesEach}
use Rattle.rtui_geometry.proofs.PositionTests.{has-or-not}
use Rattle.rtui_buffer.proofs.{SettledLemmas.IsIn, SettledLemmas.is_in, SettledLemmas.width-shown, ShownLemmas.index-at}
use Rattle.rtui_buffer.specs.Shown.{IsSettledBuffer}
use Rattle.rtui_buffer.specs.PaintedText.{IsPaintable, PaintsPieces, PaintsByColumns, Paints}
use Rattle.rtui_buffer.specs.Painting.{Piece, piece_at, piece_width, columns, shown}
use Rattle.rtui_buffer.specs.BufferData.{BufferData, cell_in, cell_index, area_size, IsEmptied, HasRow, position_of}
use Rattle.rtui_cell.proofs.CellLemmas.{width-empty}
use Rattle.rtui_cell.specs.Cell.{empty_cell, styled, width_of, is_skipped, IsUnmarked, with_symbol}
use Rattle.rtui_cell.specs.{Width.text_width, declared.cell.Cell.Cell}
use Rattle.rtui_diff.specs.{Cells.cell, Cells.cell_at, Settled.IsSettled, Settled.IsBlankOrSkipped}
use Rattle.rtui_geometry.specs.{Rect.HasPosition, Rect.EdgesFit, declared.position.Position.Position, declared.rect.Rect.Rect}
use Rattle.rtui_style.specs.declared.Style.{Style}
use Rattle.std.specs.declared.alloc.AllocError.{AllocError}
use Rattle.rtui_widgets.specs.Plain.{IsPlain, IsPlainFrom, IsReadyAt, IsReadyFrom}

pub plain-empty : IsPlain empty_cell
plain-empty = record { narrow = rw width-empty (omega arith); unmarked = record { option = refl; flag = refl } }

pub plain-styled : (s : Style) (c : Cell) → IsPlain c → IsPlain (styled s c)
unfolding width_of
plain-styled s c is = record { narrow = is.narrow; unmarked = record { option = is.unmarked.option; flag = is.unmarked.flag } }

-- a symbol of at most one column keeps a cell plain
pub plain-with_symbol : (symbol : List ℕ) (c : Cell) → IsPlain c → text_width symbol ≤ 1 → IsPlain (with_symbol symbol c)
unfolding width_of
plain-with_symbol symbol c is le = let e = is.unmarked.option in
    record { narrow = rw e le; unmarked = record { option = is.unmarked.option; flag = is.unmarked.flag } }

pub plain-if : (t : Bool) (a b : Cell) → IsPlain a → IsPlain b → IsPlain (if t then a else b)
plain-if true a b pa pb = pa
plain-if false a b pa pb = pb

-- a buffer of plain cells is settled
module _ (s : BufferData) (edges : EdgesFit s.area) (plain : IsPlainFrom 0 s) where
  plain-at : (a b : ℕ) → a < s.area.width → b < s.area.height → IsPlain (cell_at s.area.width s.cells a b)
  plain-at a b a_in b_in =
      let right = edges.right in let bottom = edges.bottom in
      subst (λ i. IsPlain (cell s.cells i)) (index-at s.area.x s.area.y s.area.width a b)
      (plain (position_of (s.area.x + a, s.area.y + b)) (record {
        left = omega arith;
        right = omega arith;
        top = omega arith;
        bottom = omega arith;
      }) (omega arith))

  pub settled-plain : IsSettledBuffer s
  settled-plain = record {
    skipped = λ a b a_in b_in skip. (plain-at a b a_in b_in).narrow;
    within = λ a b a_in b_in off. let one = (plain-at a b a_in b_in).narrow in omega arith;
    behind = λ a b k a_in b_in off more less. let one = (plain-at a b a_in b_in).narrow in absurd (omega arith);
  }

empty-there : (r : Rect) (s : BufferData) → IsEmptied r s → (p : Position) → cell_in s p ≡ empty_cell
empty-there r s emptied p = rw emptied.cells (cell-empty (area_size r) (cell_index s.area p))

pub plain-emptied : (r : Rect) (s : BufferData) → IsEmptied r s → IsPlainFrom 0 s
plain-emptied r s emptied = λ p has le. subst IsPlain (sym (empty-there r s emptied p)) plain-empty

-- pieces painted in columns that may be painted: those after them may be painted still, and other rows are as before
module _ (p : Position) (n : ℕ) (ps : List Piece) (old new : BufferData) (edges : EdgesFit old.area) (row : HasRow old.area p.y)
    (starts : old.area.x ≤ p.x) (fits : p.x + n ≤ old.area.x + old.area.width)
    (le : columns ps ≤ n) (able : IsPaintable p n old) (same : new.area ≡ old.area) (by : PaintsByColumns p ps old new) where
  has : (a : ℕ) → old.area.x ≤ a → a < old.area.x + old.area.width → HasPosition old.area (position_of (a, p.y))
  has a from to = let r = edges.right in let b = edges.bottom in let t = row.top in let d = row.bottom in
      record { left = from; right = omega arith; top = t; bottom = omega arith }

  ends-there : (a : ℕ) → p.x ≤ a → a < p.x + columns ps → a + width_of (cell_in new (position_of (a, p.y))) ≤ p.x + columns ps
  ends-there a from to =
      let r : IsIn ps (a - p.x) = is_in ps (a - p.x) (omega arith) in
      let at = r.place in let inside = r.in_piece in let end = r.ends in
      ⊎_elim
      (λ (behind : 0 < r.column).
      let e : p.x + (columns (take r.piece ps) + r.column) ≡ a = omega arith in
      let blank : cell_in new (position_of (a, p.y)) ≡ empty_cell = subst (λ x. cell_in new (position_of (x, p.y)) ≡ empty_cell) e
      (by.behind r.piece r.column r.in_list behind r.in_piece) in
      let w : width_of (cell_in new (position_of (a, p.y))) ≡ 1 = ap width_of blank ∙ width-empty in omega arith)
      (λ (first : r.column ≤ 0).
      let e : p.x + columns (take r.piece ps) ≡ a = omega arith in
      let here : cell_in new (position_of (a, p.y)) ≡ shown (piece_at ps r.piece) (cell_in old (position_of (a, p.y))) =
      subst (λ x. cell_in new (position_of (x, p.y)) ≡ shown (piece_at ps r.piece) (cell_in old (position_of (x, p.y)))) e
      (by.starts r.piece r.in_list) in
      let w : width_of (cell_in new (position_of (a, p.y))) ≡ piece_width (piece_at ps r.piece) = ap width_of here
      ∙ width-shown (piece_at ps r.piece) (cell_in old (position_of (a, p.y))) (able.unmarked a from (omega arith)) in
      omega arith)
      (cases_lt 0 r.column)

  pub paintable-next : IsPaintable (position_of (p.x + columns ps, p.y)) (n - columns ps) new
  paintable-next = record {
    unmarked = λ a from to. subst IsUnmarked (sym (by.outside (position_of (a, p.y)) (has a (omega arith) (omega arith))
        (λ e. inr from))) (able.unmarked a (omega arith) (omega arith));
    uncovered = λ a from to off.
        let left : new.area.x ≡ old.area.x = ap (λ q. q.x) same in
        ⊎_elim
        (λ (before : a < p.x).
        let stays : cell_in new (position_of (a, p.y)) ≡ cell_in old (position_of (a, p.y)) = by.outside (position_of (a, p.y))
        (has a (omega arith) (omega arith)) (λ e. inl before) in
        let plain : is_skipped (cell_in old (position_of (a, p.y))) ≡ false = subst (λ c. is_skipped c ≡ false) stays off in
        let end = able.uncovered a (omega arith) before plain in
        let w : width_of (cell_in new (position_of (a, p.y))) ≡ width_of (cell_in old (position_of (a, p.y))) =
        ap width_of stays in
        omega arith)
        (λ (there : p.x ≤ a). ends-there a there to)
        (cases_lt a p.x);
  }

-- a plain row may be painted anywhere
pub paintable-plain : (p : Position) (n : ℕ) (s : BufferData) → EdgesFit s.area → HasRow s.area p.y → s.area.x ≤ p.x
    → p.x + n ≤ s.area.x + s.area.width → IsPlainFrom p.y s → IsPaintable p n s
paintable-plain p n s edges row starts fits plain =
    let r = edges.right in let b = edges.bottom in let t = row.top in let d = row.bottom in
    record {
      unmarked = λ a from to. (plain (position_of (a, p.y)) (record {
        left = omega arith;
        right = omega arith;
        top = t;
        bottom = omega arith;
      }) (omega arith)).unmarked;
      uncovered = λ a from to off. let one =
          (plain (position_of (a, p.y)) (record { left = from; right = omega arith; top = t; bottom = omega arith })
          (omega arith)).narrow in omega arith;
    }

pub plain-later : (y z : ℕ) (s : BufferData) → y ≤ z → IsPlainFrom y s → IsPlainFrom z s
plain-later y z s le plain = λ p has from. plain p has (omega arith)

module _ (x y : ℕ) (s : BufferData) (ready : IsReadyAt x y s) (row : HasRow s.area y) (starts : s.area.x ≤ x) where
  there : (a : ℕ) → s.area.x ≤ a → a < s.area.x + s.area.width → HasPosition s.area (position_of (a, y))
  there a from to = let e = ready.edges in let r = e.right in let b = e.bottom in let t = row.top in let d = row.bottom in
      record { left = from; right = omega arith; top = t; bottom = omega arith }

  pub ready-paintable : (n : ℕ) → x + n ≤ s.area.x + s.area.width → IsPaintable (position_of (x, y)) n s
  ready-paintable n fits = record {
    unmarked = λ a from to. (ready.plain (position_of (a, y)) (there a (omega arith) (omega arith)) (inr (refl, from))).unmarked;
    uncovered = λ a from to off. ready.before a from to off;
  }

  pub ready-next : (m : ℕ) (ps : List Piece) (new : BufferData) → x + m ≤ s.area.x + s.area.width → columns ps ≤ m
      → new.area ≡ s.area → PaintsByColumns (position_of (x, y)) ps s new → IsSettledBuffer new
      → IsReadyAt (x + m) y new
  ready-next m ps new fits le same by settled =
      let behind = paintable-next (position_of (x, y)) (columns ps) ps s new ready.edges row starts (omega arith) (omega arith)
      (ready-paintable (columns ps) (omega arith)) same by in
      let left : new.area.x ≡ s.area.x = ap (λ q. q.x) same in
      let stays : (p : Position) → HasPosition s.area p → (y < p.y) ⊎ ((p.y ≡ y) × (x + columns ps ≤ p.x))
      → IsPlain (cell_in new p) = λ p has from.
      subst IsPlain
      (sym (by.outside p has (λ e. ⊎_elim (λ (below : y < p.y). absurd (omega arith))
      (λ (at : (p.y ≡ y) × (x + columns ps ≤ p.x)). inr at.1) from)))
      (ready.plain p has (⊎_elim (λ (below : y < p.y). inl below)
      (λ (at : (p.y ≡ y) × (x + columns ps ≤ p.x)). inr (at.0, (let more = at.1 in omega arith))) from)) in
      record {
        edges = rw same ready.edges;
        settled = settled;
        plain = λ p has from. stays p (subst (λ q. HasPosition q p) same has) (⊎_elim (λ (below : y < p.y). inl below)
            (λ (at : (p.y ≡ y) × (x + m ≤ p.x)). inr (at.0, (let more = at.1 in omega arith))) from);
        before = λ a from to off.
            ⊎_elim
            (λ (lt : a < x + columns ps). let end = behind.uncovered a from lt off in omega arith)
            (λ (ge : x + columns ps ≤ a). let one = (stays (position_of (a, y)) (there a (omega arith) (omega arith))
            (inr (refl, ge))).narrow in omega arith)
            (cases_lt a (x + columns ps));
      }

pub put-ready : {A : Type 0} (r : Result A AllocError) (x y m : ℕ) (ps : List Piece) (old new : BufferData) → IsReadyAt x y old
    → HasRow old.area y → old.area.x ≤ x → x + m ≤ old.area.x + old.area.width → columns ps ≤ m
    → Paints (position_of (x, y)) ps r old new → OnOk r (IsReadyAt (x + m) y new)
put-ready (Ok v) x y m ps old new ready row starts fits le paints =
    ready-next x y old ready row starts m ps new fits le paints.ok.area
    (PaintsByColumns-paints (position_of (x, y)) ps old new row starts (omega arith) paints.ok)
    (IsSettledBuffer-painted (position_of (x, y)) ps old new starts (omega arith) ready.settled
    (ready-paintable x y old ready row starts (columns ps) (omega arith)) paints.ok)
put-ready (Err e) x y m ps old new ready row starts fits le paints = tt

-- a change of plain cells that no cell before reaches
module _ (x y : ℕ) (r : Rect) (f : Position → Cell → Cell) (s new : BufferData) (ready : IsReadyAt x y s)
    (there : (p : Position) → HasPosition r p → (y < p.y) ⊎ ((p.y ≡ y) × (x ≤ p.x)))
    (keeps : (p : Position) (c : Cell) → IsPlain c → IsPlain (f p c)) (is : ChangesEach r f s new) where
  abbrev place : ℕ → ℕ → Position
  place a b = position_of (s.area.x + a, s.area.y + b)

  has-place : (a b : ℕ) → a < s.area.width → b < s.area.height → HasPosition s.area (place a b)
  has-place a b a_in b_in = let e = ready.edges in let right = e.right in let bottom = e.bottom in
      record { left = omega arith; right = omega arith; top = omega arith; bottom = omega arith }

  was-at : (a b : ℕ) → cell_in s (place a b) ≡ cell_at s.area.width s.cells a b
  was-at a b = ap (λ i. cell s.cells i) (index-at s.area.x s.area.y s.area.width a b)

  now-at : (a b : ℕ) → cell_in new (place a b) ≡ cell_at s.area.width new.cells a b
  now-at a b = ap (λ q. cell new.cells (cell_index q (place a b))) is.area ∙ ap (λ i. cell new.cells i)
      (index-at s.area.x s.area.y s.area.width a b)

  stays : (a b : ℕ) → a < s.area.width → b < s.area.height → (HasPosition r (place a b) → ⊥)
      → cell_at s.area.width new.cells a b ≡ cell_at s.area.width s.cells a b
  stays a b a_in b_in off = sym (now-at a b) ∙ is.outside (place a b) (has-place a b a_in b_in) off ∙ was-at a b

  plain-was : (a b : ℕ) → a < s.area.width → b < s.area.height → (y < s.area.y + b) ⊎ ((s.area.y + b ≡ y) × (x ≤ s.area.x + a))
      → IsPlain (cell_at s.area.width s.cells a b)
  plain-was a b a_in b_in from = subst IsPlain (was-at a b) (ready.plain (place a b) (has-place a b a_in b_in) from)

  plain-now : (a b : ℕ) → a < s.area.width → b < s.area.height → HasPosition r (place a b)
      → IsPlain (cell_at s.area.width new.cells a b)
  plain-now a b a_in b_in here =
      let has = has-place a b a_in b_in in
      subst IsPlain (sym (is.inside (place a b) has here) ∙ now-at a b) (keeps (place a b) (cell_in s (place a b))
      (ready.plain (place a b) has (there (place a b) here)))

  -- no cell reaches into what changed
  apart : (a b k : ℕ) → a < s.area.width → b < s.area.height → is_skipped (cell_at s.area.width s.cells a b) ≡ false → a < k
      → k < a + width_of (cell_at s.area.width s.cells a b) → HasPosition r (place k b) → ⊥
  apart a b k a_in b_in off more less here =
      ⊎_elim
      (λ (below : y < s.area.y + b). let one = (plain-was a b a_in b_in (inl below)).narrow in omega arith)
      (λ (at : (s.area.y + b ≡ y) × (x ≤ s.area.x + k)).
      ⊎_elim
      (λ (before : s.area.x + a < x).
      let same : cell_in s (position_of (s.area.x + a, y)) ≡ cell_at s.area.width s.cells a b =
      subst (λ z. cell_in s (position_of (s.area.x + a, z)) ≡ cell_at s.area.width s.cells a b) at.0 (was-at a b) in
      let end = ready.before (s.area.x + a) (omega arith) before (ap is_skipped same ∙ off) in
      let w : width_of (cell_in s (position_of (s.area.x + a, y))) ≡ width_of (cell_at s.area.width s.cells a b) =
      ap width_of same in
      let from = at.1 in omega arith)
      (λ (from : x ≤ s.area.x + a). let one = (plain-was a b a_in b_in (inr (at.0, from))).narrow in omega arith)
      (cases_lt (s.area.x + a) x))
      (there (place k b) here)

  pub changed-settled : IsSettledBuffer new
  changed-settled = subst (λ q. IsSettled q.width q.height new.cells) (sym is.area) (record {
    skipped = λ a b a_in b_in skip. ⊎_elim
        (λ (here : HasPosition r (place a b)). (plain-now a b a_in b_in here).narrow)
        (λ (off : HasPosition r (place a b) → ⊥). let same = stays a b a_in b_in off in
        rw same (ready.settled.skipped a b a_in b_in (sym (ap is_skipped same) ∙ skip)))
        (has-or-not r (place a b));
    within = λ a b a_in b_in plain. ⊎_elim
        (λ (here : HasPosition r (place a b)). let one = (plain-now a b a_in b_in here).narrow in omega arith)
        (λ (off : HasPosition r (place a b) → ⊥). let same = stays a b a_in b_in off in
        rw same (ready.settled.within a b a_in b_in (sym (ap is_skipped same) ∙ plain)))
        (has-or-not r (place a b));
    behind = λ a b k a_in b_in plain more less. ⊎_elim
        (λ (here : HasPosition r (place a b)). let one = (plain-now a b a_in b_in here).narrow in absurd (omega arith))
        (λ (off : HasPosition r (place a b) → ⊥).
        let same = stays a b a_in b_in off in
        let w : width_of (cell_at s.area.width new.cells a b) ≡ width_of (cell_at s.area.width s.cells a b) = ap width_of same in
        let was = sym (ap is_skipped same) ∙ plain in
        let ends = ready.settled.within a b a_in b_in was in
        subst IsBlankOrSkipped (sym (stays k b (omega arith) b_in (λ here. apart a b k a_in b_in was more (omega arith) here)))
        (ready.settled.behind a b k a_in b_in was more (omega arith)))
        (has-or-not r (place a b));
  })

pub ready-row : (x y : ℕ) (s : BufferData) → IsReadyFrom y s → HasRow s.area y → x ≤ s.area.x + s.area.width → IsReadyAt x y s
ready-row x y s ready row fits = record {
  edges = ready.edges;
  settled = ready.settled;
  plain = λ p has from. ready.plain p has (⊎_elim (λ (below : y < p.y). omega arith)
      (λ (at : (p.y ≡ y) × (x ≤ p.x)). (let e = at.0 in omega arith)) from);
  before = λ a from to off.
      let e = ready.edges in let r = e.right in let b = e.bottom in let t = row.top in let d = row.bottom in
      let one = (ready.plain (position_of (a, y)) (record { left = from; right = omega arith; top = t; bottom = omega arith })
      (omega arith)).narrow in omega arith;
}

pub ready-plain : (y : ℕ) (s : BufferData) → EdgesFit s.area → IsPlainFrom 0 s → IsReadyFrom y s
ready-plain y s edges plain = record {
  edges = edges;
  settled = settled-plain s edges plain;
  plain = plain-later 0 y s (omega arith) plain;
}

-- pieces painted in a row of plain cells
pub painted-settled : (x y : ℕ) (ps : List Piece) (old new : BufferData) → EdgesFit old.area → IsPlainFrom 0 old
    → HasRow old.area y → old.area.x ≤ x → x + columns ps ≤ old.area.x + old.area.width
    → PaintsPieces (position_of (x, y)) ps old new → IsSettledBuffer new
painted-settled x y ps old new edges plain row starts fits paints =
    IsSettledBuffer-painted (position_of (x, y)) ps old new starts (omega arith) (settled-plain old edges plain)
    (paintable-plain (position_of (x, y)) (columns ps) old edges row starts fits (plain-later 0 y old (omega arith) plain)) paints

-- a change that keeps cells plain
pub plain-changed : (r : Rect) (f : Position → Cell → Cell) (old new : BufferData)
    → ((p : Position) (c : Cell) → IsPlain c → IsPlain (f p c)) → ChangesEach r f old new → IsPlainFrom 0 old → IsPlainFrom 0 new
plain-changed r f old new keeps is plain = λ p in_new le.
    let in_own : HasPosition old.area p = subst (λ a. HasPosition a p) is.area in_new in
    ⊎_elim
    (λ (here : HasPosition r p). subst IsPlain (sym (is.inside p in_own here)) (keeps p (cell_in old p) (plain p in_own le)))
    (λ (off : HasPosition r p → ⊥). subst IsPlain (sym (is.outside p in_own off)) (plain p in_own le))
    (has-or-not r p)

pub ruleset plain_steps = (settled-plain)
