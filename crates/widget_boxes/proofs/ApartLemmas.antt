-- What is rendered in an area that is ready leaves it apart.
use Rattle.std.proofs.Common.{◌≡◌, ℕ, ◌+◌, ◌-◌, ◌<◌, ◌≤◌, ◌⊎◌, ⊎_elim, inl, inr, zero, suc, true, false, ◌==◌, List, [], ◌∷◌}
use Rattle.std.proofs.Common.{length, map, drop, slice_index_or, All, Bool, if◌then◌else◌, Option, refl, sym, ap, subst, ◌∙◌}
use Rattle.std.proofs.Common.{arith}
use Rattle.std.proofs.lemmas.{Bool.cases_lt, List.Elements.All-head, List.Elements.All-tail, List.Elements.All-nil}
use Rattle.std.proofs.lemmas.List.{get_or-take, get_or-drop, get_or_default, get_or_past, length-take}
use Rattle.ratatui_core.specs.Layout.{Rect, Position, HasPosition, EdgesFit, IsInside, intersected, right_edge}
use Rattle.ratatui_core.specs.{Style.Style, Widgets.ChangesWithin, Widgets.RendersLine, Widgets.RendersText}
use Rattle.ratatui_core.specs.declared.layout.HorizontalAlignment.{HorizontalAlignment}
use Rattle.ratatui_core.specs.Text.{LineData, TextData, line_of, EachGrapheme}
use Rattle.ratatui_core.specs.Buffer.{BufferData, Cell, cell, cell_at, cell_in, cell_index, position_of, empty_cell, styled}
use Rattle.ratatui_core.specs.Buffer.{width_of, is_skipped, is_same, IsUnmarked, IsPlain, IsPlainOver, IsPlainFrom, IsSettledBuffer}
use Rattle.ratatui_core.specs.Buffer.{IsBlankOrSkipped, IsStyled}
use Rattle.ratatui_core.proofs.BufferLemmas.{settled-plain, has-or-not, index-at, same-empty, width-empty, styled-plain, plain-styled, within-wider}
use Rattle.ratatui_core.proofs.WidgetLemmas.{within-styled}
use Rattle.rtui_widgets.specs.Rendering.{RendersRows, area_row, in_first_row, text_row, text_line, alignment_or}
use Rattle.rtui_widgets.specs.Line.{Part, line_rendered, parts}
use Rattle.widget_boxes.specs.Apart.{IsUnreached, StandsApart, IsReadyIn, IsShowable, IsShowableAs, IsShowableText, TakesColumns}
use Rattle.widget_boxes.specs.Apart.{KeepApart}
use Rattle.widget_boxes.specs.Highlights.{IsContinuation, IsHighlighted}
use Rattle.widget_boxes.proofs.WholeRowLemmas.{IsWhole, whole-plain, line-whole, laid-plain}

-- ---- a settled buffer, position by position

pub record IsFineAt (s : BufferData) (p : Position) : Type 0 where
  pub narrow : is_skipped (cell_in s p) ≡ true → width_of (cell_in s p) ≤ 1
  pub within : is_skipped (cell_in s p) ≡ false → p.x + width_of (cell_in s p) ≤ s.area.x + s.area.width
  pub behind : is_skipped (cell_in s p) ≡ false → (k : ℕ) → p.x < k → k < p.x + width_of (cell_in s p)
      → IsBlankOrSkipped (cell_in s (position_of (k, p.y)))

settled-fine : (s : BufferData) → EdgesFit s.area → IsSettledBuffer s → (p : Position) → HasPosition s.area p → IsFineAt s p
settled-fine s edges is p has =
    let l = has.left in let r = has.right in let t = has.top in let b = has.bottom in
    let e = edges.right in let d = edges.bottom in
    let a = p.x - s.area.x in let row = p.y - s.area.y in
    record {
      narrow = is.skipped a row (omega arith) (omega arith);
      within = λ off. let ends = is.within a row (omega arith) (omega arith) off in omega arith;
      behind = λ off k more less. is.behind a row (k - s.area.x) (omega arith) (omega arith) off (omega arith) (omega arith);
    }

fine-settled : (s : BufferData) → EdgesFit s.area → ((p : Position) → HasPosition s.area p → IsFineAt s p) → IsSettledBuffer s
fine-settled s edges fine =
    let e = edges.right in let d = edges.bottom in
    let has : (a b : ℕ) → a < s.area.width → b < s.area.height
    → HasPosition s.area (position_of (s.area.x + a, s.area.y + b)) = λ (a : ℕ) (b : ℕ) lt less. record {
      left = omega arith;
      right = omega arith;
      top = omega arith;
      bottom = omega arith;
    } in
    let at : (a b : ℕ) → cell_in s (position_of (s.area.x + a, s.area.y + b)) ≡ cell_at s.area.width s.cells a b =
    λ (a : ℕ) (b : ℕ). ap (cell s.cells) (index-at s.area.x s.area.y s.area.width a b) in
    record {
      skipped = λ a b lt less skip. rw (at a b) at ((fine (position_of (s.area.x + a, s.area.y + b)) (has a b lt less)).narrow
          (ap is_skipped (at a b) ∙ skip));
      within = λ a b lt less off.
          let w : width_of (cell_in s (position_of (s.area.x + a, s.area.y + b))) ≡ width_of (cell_at s.area.width s.cells a b) =
          ap width_of (at a b) in
          let ends = (fine (position_of (s.area.x + a, s.area.y + b)) (has a b lt less)).within (ap is_skipped (at a b) ∙ off) in
          omega arith;
      behind = λ a b k lt less off more far.
          let w : width_of (cell_in s (position_of (s.area.x + a, s.area.y + b))) ≡ width_of (cell_at s.area.width s.cells a b) =
          ap width_of (at a b) in
          subst IsBlankOrSkipped (at k b) ((fine (position_of (s.area.x + a, s.area.y + b)) (has a b lt less)).behind
          (ap is_skipped (at a b) ∙ off) (s.area.x + k) (omega arith) (omega arith));
    }

-- ---- an area that was made anew, cell by cell

pub record IsMadeAt (r : Rect) (s : BufferData) (p : Position) : Type 0 where
  pub unmarked : IsUnmarked (cell_in s p)
  pub within : p.x + width_of (cell_in s p) ≤ s.area.x + s.area.width
  pub ends : p.x + width_of (cell_in s p) ≤ r.x + r.width
  pub behind : (k : ℕ) → p.x < k → k < p.x + width_of (cell_in s p) → cell_in s (position_of (k, p.y)) ≡ empty_cell

plain-blank : IsPlain empty_cell
plain-blank = record { narrow = rw width-empty (omega arith); unmarked = record { option = refl; flag = refl } }

unskipped : (c : Cell) → IsUnmarked c → is_skipped c ≡ true → ⊥
unfolding is_skipped
unskipped c is skip = let a = is.option in let b = is.flag in
    let e : is_skipped c ≡ false = rw (a, b) refl in let no : true ≡ false = sym skip ∙ e in absurd (cc)

pub made-plain : (r : Rect) (s : BufferData) → EdgesFit s.area → (p : Position) → HasPosition s.area p → HasPosition r p
    → IsPlain (cell_in s p) → IsMadeAt r s p
made-plain r s edges p in_own here is =
    let one = is.narrow in let e = in_own.right in let h = here.right in
    record { unmarked = is.unmarked; within = omega arith; ends = omega arith; behind = λ k more less. absurd (omega arith) }

module _ (r : Rect) (old new : BufferData) (edges : EdgesFit old.area) (was : IsSettledBuffer old) (unreached : IsUnreached r old)
    (within : ChangesWithin r old new) where
  own : {p : Position} → HasPosition new.area p → HasPosition old.area p
  own {p} has = subst (λ a. HasPosition a p) within.same_area has

  -- what an unchanged cell reaches is unchanged
  apart-from : (p : Position) (k : ℕ) → HasPosition old.area p → (HasPosition r p → ⊥) → is_skipped (cell_in old p) ≡ false
      → p.x < k → k < p.x + width_of (cell_in old p) → HasPosition r (position_of (k, p.y)) → ⊥
  apart-from p k in_own off plain more less there =
      let t = there.top in let b = there.bottom in let e = there.right in let l = there.left in
      ⊎_elim
      (λ (before : p.x < r.x).
      let ends = unreached p k in_own there before plain in omega arith)
      (λ (from : r.x ≤ p.x). off (record { left = from; right = omega arith; top = t; bottom = b }))
      (cases_lt p.x r.x)

  pub still-unreached : IsUnreached r new
  still-unreached p k has there before plain =
      let in_own = own has in
      let off : HasPosition r p → ⊥ = λ (h : HasPosition r p). let l = h.left in omega arith in
      let same = within.outside p in_own off in
      let w : width_of (cell_in new p) ≡ width_of (cell_in old p) = ap width_of same in
      let ends = unreached p k in_own there before (sym (ap is_skipped same) ∙ plain) in omega arith

  module _ (made : (p : Position) → HasPosition old.area p → HasPosition r p → IsMadeAt r new p) where
    fine-made : (p : Position) → HasPosition new.area p → IsFineAt new p
    fine-made p has =
        let in_own = own has in
        ⊎_elim
        (λ (here : HasPosition r p).
        let is = made p in_own here in
        record {
          narrow = λ skip. absurd (unskipped (cell_in new p) is.unmarked skip);
          within = λ plain. is.within;
          behind = λ plain k more less. inl (ap (λ c. is_same c empty_cell) (is.behind k more less) ∙ same-empty);
        })
        (λ (off : HasPosition r p → ⊥).
        let same = within.outside p in_own off in
        let fine = settled-fine old edges was p in_own in
        let w : width_of (cell_in new p) ≡ width_of (cell_in old p) = ap width_of same in
        let s : is_skipped (cell_in new p) ≡ is_skipped (cell_in old p) = ap is_skipped same in
        let a : new.area.x ≡ old.area.x = ap (λ q. q.x) within.same_area in
        let b : new.area.width ≡ old.area.width = ap (λ q. q.width) within.same_area in
        record {
          narrow = λ skip. let le = fine.narrow (sym s ∙ skip) in omega arith;
          within = λ plain. let ends = fine.within (sym s ∙ plain) in omega arith;
          behind = λ plain k more less.
              let ends = fine.within (sym s ∙ plain) in
              let l = in_own.left in let e = in_own.right in let t = in_own.top in let d = in_own.bottom in
              let fit = edges.right in
              let q : Position = position_of (k, p.y) in
              let q_own : HasPosition old.area q = record { left = omega arith; right = omega arith; top = t; bottom = d } in
              let stays = within.outside q q_own (apart-from p k in_own off (sym s ∙ plain) more (omega arith)) in
              subst IsBlankOrSkipped (sym stays) (fine.behind (sym s ∙ plain) k more (omega arith));
        })
        (has-or-not r p)

    new-edges : EdgesFit new.area
    new-edges = rw within.same_area edges

    pub apart-made : StandsApart r new
    apart-made = record {
      edges = new-edges;
      settled = fine-settled new new-edges fine-made;
      unreached = still-unreached;
      enclosed = λ p has here plain. (made p (own has) here).ends;
    }

-- ---- what is ready

pub ready-apart : (r : Rect) (s : BufferData) → IsReadyIn r s → StandsApart r s
ready-apart r s is = record {
  edges = is.edges;
  settled = is.settled;
  unreached = is.unreached;
  enclosed = λ p has here plain. (made-plain r s is.edges p has here (is.plain p has here)).ends;
}

-- each area of plain cells
pub plain-ready : (r : Rect) (s : BufferData) → EdgesFit s.area → IsPlainFrom 0 s → IsReadyIn r s
plain-ready r s edges plain = record {
  edges = edges;
  settled = settled-plain s edges plain;
  plain = λ p has here. plain p has (omega arith);
  unreached = λ p k has there before off. let one = (plain p has (omega arith)).narrow in let l = there.left in omega arith;
}

-- an area that stays plain stays ready
pub ready-stays : (r : Rect) (old new : BufferData) → IsReadyIn r old → ChangesWithin r old new → IsPlainOver r new
    → IsReadyIn r new
ready-stays r old new is within plain =
    let edges : EdgesFit new.area = rw within.same_area is.edges in
    let apart = apart-made r old new is.edges is.settled is.unreached within (λ p in_own here.
    let has : HasPosition new.area p = rw within.same_area in_own in
    made-plain r new edges p has here (plain p has here)) in
    record { edges = edges; settled = apart.settled; unreached = apart.unreached; plain = plain }

pub ready-styled : (r : Rect) (style : Style) (old new : BufferData) → IsReadyIn r old → IsStyled r style old new → IsReadyIn r new
ready-styled r style old new is styled =
    ready-stays r old new is (within-styled r r style old new (λ p has h. h) styled) (styled-plain r r style old new is.plain styled)

-- a part of an area that is ready, and nothing else of which it was made
pub plain-kept : (r q : Rect) (old new : BufferData) → ((p : Position) → HasPosition r p → HasPosition q p → ⊥)
    → ChangesWithin q old new → IsPlainOver r old → IsPlainOver r new
plain-kept r q old new off within plain = λ p has here.
    let in_own : HasPosition old.area p = subst (λ a. HasPosition a p) within.same_area has in
    subst IsPlain (sym (within.outside p in_own (λ there. off p here there))) (plain p in_own here)

-- ---- a part of an area

-- where a part ends the area hasn't ended
edge-in : (r q : Rect) → IsInside q r → (p : Position) → HasPosition q p → right_edge q ≤ right_edge r
edge-in r q inside p h =
    let l = h.left in let e = h.right in let t = h.top in let b = h.bottom in
    let last = inside (position_of (right_edge q - 1, p.y))
    (record { left = omega arith; right = omega arith; top = t; bottom = b }) in
    let far = last.right in omega arith

start-in : (r q : Rect) → IsInside q r → (p : Position) → HasPosition q p → r.x ≤ q.x
start-in r q inside p h =
    let l = h.left in let e = h.right in let t = h.top in let b = h.bottom in
    let first = inside (position_of (q.x, p.y))
    (record { left = omega arith; right = omega arith; top = t; bottom = b }) in
    first.left

-- what is left beside a part of an area that stands apart does so still
pub apart-around : (r q : Rect) (old new : BufferData) → IsInside q r → StandsApart r old → ChangesWithin q old new
    → StandsApart q new → StandsApart r new
apart-around r q old new inside was within is =
    let wider = within-wider q r old new inside within in
    record {
      edges = is.edges;
      settled = is.settled;
      unreached = still-unreached r old new was.edges was.settled was.unreached wider;
      enclosed = λ p has here plain.
          let in_own : HasPosition old.area p = subst (λ a. HasPosition a p) within.same_area has in
          ⊎_elim
          (λ (there : HasPosition q p).
          let ends = is.enclosed p has there plain in
          let fine = settled-fine new is.edges is.settled p has in
          let own_end = fine.within plain in let fit = is.edges.right in
          let e = edge-in r q inside p there in omega arith)
          (λ (off : HasPosition q p → ⊥).
          let same = within.outside p in_own off in
          let w : width_of (cell_in new p) ≡ width_of (cell_in old p) = ap width_of same in
          let ends = was.enclosed p in_own here (sym (ap is_skipped same) ∙ plain) in omega arith)
          (has-or-not q p);
    }

-- a part of an area that is ready is ready, too, also after another part was made that it doesn't meet
module _ (r q rest : Rect) (old new : BufferData) (ready : IsReadyIn r old) (within : ChangesWithin q old new)
    (is : StandsApart q new) (q_in : IsInside q r) (rest_in : IsInside rest r)
    (apart : (p : Position) → HasPosition rest p → HasPosition q p → ⊥) where
  rest-unreached : IsUnreached rest new
  rest-unreached p k has there before off =
      let in_own : HasPosition old.area p = subst (λ a. HasPosition a p) within.same_area has in
      let k_in_r = rest_in (position_of (k, p.y)) there in
      let l = there.left in let e = k_in_r.right in let t = k_in_r.top in let b = k_in_r.bottom in
      ⊎_elim
      (λ (here : HasPosition q p).
      let ends = is.enclosed p has here off in
      let fine = settled-fine new is.edges is.settled p has in
      let own_end = fine.within off in let fit = is.edges.right in
      let qt = here.top in let qb = here.bottom in let ql = here.left in let qr = here.right in
      ⊎_elim
      (λ (less : k < right_edge q). absurd (apart (position_of (k, p.y)) there (record {
        left = omega arith;
        right = less;
        top = qt;
        bottom = qb;
      })))
      (λ (ge : right_edge q ≤ k). omega arith)
      (cases_lt k (right_edge q)))
      (λ (out : HasPosition q p → ⊥).
      let same = within.outside p in_own out in
      let w : width_of (cell_in new p) ≡ width_of (cell_in old p) = ap width_of same in
      ⊎_elim
      (λ (outside : p.x < r.x).
      let ends = ready.unreached p k in_own k_in_r outside (sym (ap is_skipped same) ∙ off) in omega arith)
      (λ (from : r.x ≤ p.x).
      let one = (ready.plain p in_own (record { left = from; right = omega arith; top = t; bottom = b })).narrow in omega arith)
      (cases_lt p.x r.x))
      (has-or-not q p)

  pub ready-beside : IsReadyIn rest new
  ready-beside = record {
    edges = is.edges;
    settled = is.settled;
    unreached = rest-unreached;
    plain = plain-kept rest q old new apart within (λ p has here. ready.plain p has (rest_in p here));
  }

pub ready-inside : (r q : Rect) (s : BufferData) → IsInside q r → IsReadyIn r s → IsReadyIn q s
ready-inside r q s inside is = record {
  edges = is.edges;
  settled = is.settled;
  plain = λ p has here. is.plain p has (inside p here);
  unreached = λ p k has there before off.
      let k_in_r = inside (position_of (k, p.y)) there in
      let l = there.left in let e = k_in_r.right in let t = k_in_r.top in let b = k_in_r.bottom in
      ⊎_elim
      (λ (outside : p.x < r.x). is.unreached p k has k_in_r outside off)
      (λ (from : r.x ≤ p.x).
      let one = (is.plain p has (record { left = from; right = omega arith; top = t; bottom = b })).narrow in omega arith)
      (cases_lt p.x r.x);
}

-- a part that was made leaves the area apart in which it was ready
pub apart-part : (r q : Rect) (old new : BufferData) → IsInside q r → IsReadyIn r old → ChangesWithin q old new
    → StandsApart q new → StandsApart r new
apart-part r q old new inside ready within is = apart-around r q old new inside (ready-apart r old ready) within is

-- ---- rows of plain cells

along : (q o x j : ℕ) → o ≤ x → q + (x - o) + j ≡ q + (x + j - o)
along q o x j le = omega arith

module _ (area : Rect) (f : ℕ → List Cell → List Cell) (old new : BufferData) (ready : IsReadyIn area old)
    (is : RendersRows area f old new) (keeps : (k : ℕ) (row : List Cell) → All IsPlain row → IsWhole (f k row)) where
  abbrev part : Rect
  part = intersected area old.area

  -- column j of row k of the part
  column : (s : BufferData) (k j : ℕ) → s.area ≡ old.area → j < part.width
      → cell (area_row part k s) j ≡ cell_in s (position_of (part.x + j, part.y + k))
  column s k j same j_in =
      let start = cell_index s.area (position_of (part.x, part.y + k)) in
      let at : start + j ≡ cell_index s.area (position_of (part.x + j, part.y + k)) =
      rw same (along _ old.area.x part.x j (omega arith)) in
      get_or-take part.width (drop start s.cells) j empty_cell j_in ∙ get_or-drop start s.cells j empty_cell
      ∙ ap (λ i. slice_index_or s.cells i empty_cell) at

  there : (k j : ℕ) → j < part.width → k < part.height → HasPosition area (position_of (part.x + j, part.y + k))
      × HasPosition old.area (position_of (part.x + j, part.y + k))
  there k j j_in k_in = (
    record { left = omega arith; right = omega arith; top = omega arith; bottom = omega arith },
    record { left = omega arith; right = omega arith; top = omega arith; bottom = omega arith },
  )

  row-plain : (k : ℕ) → k < part.height → All IsPlain (area_row part k old)
  row-plain k k_in j d lt =
      let start = cell_index old.area (position_of (part.x, part.y + k)) in
      let count = length-take part.width (drop start old.cells) in
      let j_in : j < part.width = omega arith in
      let at = there k j j_in k_in in
      subst IsPlain (sym (get_or_default (area_row part k old) j d empty_cell lt ∙ column old k j refl j_in))
      (ready.plain (position_of (part.x + j, part.y + k)) at.1 at.0)

  made-row : (p : Position) → HasPosition old.area p → HasPosition area p → IsMadeAt area new p
  made-row p in_own in_area =
      let l1 = in_area.left in let r1 = in_area.right in let t1 = in_area.top in let b1 = in_area.bottom in
      let l2 = in_own.left in let r2 = in_own.right in let t2 = in_own.top in let b2 = in_own.bottom in
      let k = p.y - part.y in let j = p.x - part.x in
      let k_in : k < part.height = omega arith in
      let j_in : j < part.width = omega arith in
      let same = is.within.same_area in
      let x : part.x + j ≡ p.x = omega arith in
      let y : part.y + k ≡ p.y = omega arith in
      let count = length-take part.width (drop (cell_index new.area (position_of (part.x, part.y + k))) new.cells) in
      let at : (m : ℕ) → m < part.width → cell (area_row part k new) m ≡ cell_in new (position_of (part.x + m, p.y)) =
      λ (m : ℕ) lt. column new k m same lt ∙ ap (λ row. cell_in new (position_of (part.x + m, row))) y in
      let own_cell : cell (area_row part k new) j ≡ cell_in new p = at j j_in ∙ ap (λ c. cell_in new (position_of (c, p.y))) x in
      ⊎_elim
      (λ (lt : j < length (area_row part k new)).
      let whole = subst IsWhole (sym (is.rows k k_in)) (keeps k (area_row part k old) (row-plain k k_in)) in
      let here = whole j lt in
      let w : width_of (cell (area_row part k new) j) ≡ width_of (cell_in new p) = ap width_of own_cell in
      let ends = here.ends in
      let own_x : new.area.x ≡ old.area.x = ap (λ q. q.x) same in
      let own_w : new.area.width ≡ old.area.width = ap (λ q. q.width) same in
      record {
        unmarked = subst IsUnmarked own_cell here.unmarked;
        within = omega arith;
        ends = omega arith;
        behind = λ m more less.
            let z : part.x + (m - part.x) ≡ m = omega arith in
            sym (at (m - part.x) (omega arith) ∙ ap (λ c. cell_in new (position_of (c, p.y))) z)
            ∙ here.behind (m - part.x) (omega arith) (omega arith);
      })
      (λ (ge : length (area_row part k new) ≤ j).
      let blank : cell_in new p ≡ empty_cell = sym own_cell ∙ get_or_past (area_row part k new) j empty_cell ge in
      let has : HasPosition new.area p = rw same in_own in
      made-plain area new (rw same ready.edges) p has in_area (subst IsPlain (sym blank) plain-blank))
      (cases_lt j (length (area_row part k new)))

  pub rows-apart : StandsApart area new
  rows-apart = apart-made area old new ready.edges ready.settled ready.unreached is.within made-row

-- lines and texts
in-first : (t : Bool) (a b : List Cell) → IsWhole a → IsWhole b → IsWhole (if t then a else b)
in-first true a b is_a is_b = is_a
in-first false a b is_a is_b = is_b

pub line-apart : (line : LineData) (area : Rect) (old new : BufferData) → IsShowable line → IsReadyIn area old
    → RendersLine line area old new → StandsApart area new
line-apart line area old new shows ready is =
    rows-apart area (in_first_row (line_rendered line.alignment line)) old new ready is
    (λ k row plain. in-first (k == 0) (line_rendered line.alignment line row) row (line-whole line.alignment line row shows plain)
    (whole-plain row plain))

no-line : (alignment : Option HorizontalAlignment) → IsShowableAs alignment (line_of [])
unfolding parts KeepApart
no-line alignment = record {
  graphemes = λ excess. All-nil (λ (part : Part). EachGrapheme TakesColumns part.content);
  spans = λ excess. tt;
}

module _ (whole : Option HorizontalAlignment) where
  abbrev IsLine : LineData → Type 0
  IsLine line = IsShowableAs (alignment_or line.alignment whole) line

  line-of : (ls : List LineData) (k : ℕ) → All IsLine ls → IsLine (slice_index_or ls k (line_of []))
  line-of [] k all = no-line (alignment_or (line_of []).alignment whole)
  line-of (l ∷ ls) zero all = All-head IsLine l ls all
  line-of (l ∷ ls) (suc k) all = line-of ls k (All-tail IsLine l ls all)

pub text-apart : (text : TextData) (area : Rect) (old new : BufferData) → IsShowableText text → IsReadyIn area old
    → RendersText text area old new → StandsApart area new
text-apart text area old new shows ready is =
    rows-apart area (text_row text) old new ready is
    (λ k row plain. line-whole (alignment_or (text_line text k).alignment text.alignment) (text_line text k)
    (map (styled text.style) row) (line-of text.alignment text.lines k shows) (laid-plain text.style row plain))

-- ---- highlights

lit-width : (style : Style) (c : Cell) → width_of (styled style c) ≡ width_of c
unfolding width_of
lit-width style c = refl

lit-skipped : (style : Style) (c : Cell) → is_skipped (styled style c) ≡ is_skipped c
unfolding is_skipped
lit-skipped style c = refl

module _ (style : Style) (r : Rect) (old new : BufferData) (is : IsHighlighted r style old new) where
  -- a position is highlighted, or its cell stays
  lit-or : (p : Position) → HasPosition old.area p → (cell_in new p ≡ styled style (cell_in old p))
      ⊎ (cell_in new p ≡ cell_in old p)
  lit-or p in_own =
      ⊎_elim
      (λ (here : HasPosition r p).
      ⊎_elim
      (λ (under : IsContinuation r old p × (cell_in new p ≡ cell_in old p)). inr under.1)
      (λ (free : (IsContinuation r old p → ⊥) × (cell_in new p ≡ styled style (cell_in old p))). inl free.1)
      (is.inside p in_own here))
      (λ (off : HasPosition r p → ⊥). inr (is.outside p in_own off))
      (has-or-not r p)

  same-width : (p : Position) → HasPosition old.area p → width_of (cell_in new p) ≡ width_of (cell_in old p)
  same-width p in_own =
      ⊎_elim
      (λ (lit : cell_in new p ≡ styled style (cell_in old p)). ap width_of lit ∙ lit-width style (cell_in old p))
      (λ (same : cell_in new p ≡ cell_in old p). ap width_of same)
      (lit-or p in_own)

  same-skipped : (p : Position) → HasPosition old.area p → is_skipped (cell_in new p) ≡ is_skipped (cell_in old p)
  same-skipped p in_own =
      ⊎_elim
      (λ (lit : cell_in new p ≡ styled style (cell_in old p)). ap is_skipped lit ∙ lit-skipped style (cell_in old p))
      (λ (same : cell_in new p ≡ cell_in old p). ap is_skipped same)
      (lit-or p in_own)

  pub plain-lit : (q : Rect) → IsPlainOver q old → IsPlainOver q new
  plain-lit q plain p has here =
      let in_own : HasPosition old.area p = subst (λ a. HasPosition a p) is.area has in
      ⊎_elim
      (λ (lit : cell_in new p ≡ styled style (cell_in old p)).
      subst IsPlain (sym lit) (plain-styled style (cell_in old p) (plain p in_own here)))
      (λ (same : cell_in new p ≡ cell_in old p). subst IsPlain (sym same) (plain p in_own here))
      (lit-or p in_own)

  module _ (was : StandsApart r old) where
    lit-own : {p : Position} → HasPosition new.area p → HasPosition old.area p
    lit-own {p} has = subst (λ a. HasPosition a p) is.area has

    -- what a symbol covers stays
    stays-behind : (p : Position) (k : ℕ) → HasPosition old.area p → HasPosition old.area (position_of (k, p.y))
        → is_skipped (cell_in old p) ≡ false
        → p.x < k → k < p.x + width_of (cell_in old p)
        → cell_in new (position_of (k, p.y)) ≡ cell_in old (position_of (k, p.y))
    stays-behind p k in_own q_own plain more less =
        let q : Position = position_of (k, p.y) in
        ⊎_elim
        (λ (there : HasPosition r q).
        ⊎_elim
        (λ (under : IsContinuation r old q × (cell_in new q ≡ cell_in old q)). under.1)
        (λ (free : (IsContinuation r old q → ⊥) × (cell_in new q ≡ styled style (cell_in old q))).
        let t = there.top in let b = there.bottom in let e = there.right in
        ⊎_elim
        (λ (before : p.x < r.x). let ends = was.unreached p k in_own there before plain in absurd (omega arith))
        (λ (from : r.x ≤ p.x). absurd (free.0 (record {
          column = p.x;
          before = more;
          own = in_own;
          there = record { left = from; right = omega arith; top = t; bottom = b };
          reaches = less;
        })))
        (cases_lt p.x r.x))
        (is.inside q q_own there))
        (λ (off : HasPosition r q → ⊥). is.outside q q_own off)
        (has-or-not r q)

    lit-fine : (p : Position) → HasPosition new.area p → IsFineAt new p
    lit-fine p has =
        let in_own = lit-own has in
        let fine = settled-fine old was.edges was.settled p in_own in
        let w = same-width p in_own in let s = same-skipped p in_own in
        let a : new.area.x ≡ old.area.x = ap (λ q. q.x) is.area in
        let b : new.area.width ≡ old.area.width = ap (λ q. q.width) is.area in
        record {
          narrow = λ skip. let le = fine.narrow (sym s ∙ skip) in omega arith;
          within = λ plain. let ends = fine.within (sym s ∙ plain) in omega arith;
          behind = λ plain k more less.
              let ends = fine.within (sym s ∙ plain) in
              let l = in_own.left in let e = in_own.right in let t = in_own.top in let d = in_own.bottom in
              let fit = was.edges.right in
              let q : Position = position_of (k, p.y) in
              let q_own : HasPosition old.area q = record { left = omega arith; right = omega arith; top = t; bottom = d } in
              subst IsBlankOrSkipped (sym (stays-behind p k in_own q_own (sym s ∙ plain) more (omega arith)))
              (fine.behind (sym s ∙ plain) k more (omega arith));
        }

    pub lit-apart : StandsApart r new
    lit-apart =
        let edges : EdgesFit new.area = rw is.area was.edges in
        record {
          edges = edges;
          settled = fine-settled new edges lit-fine;
          unreached = λ p k has there before plain.
              let in_own = lit-own has in let w = same-width p in_own in
              let ends = was.unreached p k in_own there before (sym (same-skipped p in_own) ∙ plain) in omega arith;
          enclosed = λ p has here plain.
              let in_own = lit-own has in let w = same-width p in_own in
              let ends = was.enclosed p in_own here (sym (same-skipped p in_own) ∙ plain) in omega arith;
        }

-- a part that is ready is so under a highlight
pub ready-lit : (style : Style) (r q : Rect) (old new : BufferData) → IsHighlighted r style old new → StandsApart r old
    → IsReadyIn q old → IsReadyIn q new
ready-lit style r q old new is was ready =
    let apart = lit-apart style r old new is was in
    record {
      edges = apart.edges;
      settled = apart.settled;
      plain = plain-lit style r old new is q ready.plain;
      unreached = λ p k has there before plain.
          let in_own = lit-own style r old new is was has in let w = same-width style r old new is p in_own in
          let ends = ready.unreached p k in_own there before (sym (same-skipped style r old new is p in_own) ∙ plain) in
          omega arith;
    }

pub lit-within : (style : Style) (r : Rect) (old new : BufferData) → IsHighlighted r style old new → ChangesWithin r old new
lit-within style r old new is = record { same_area = is.area; same_room = is.room; outside = is.outside }
