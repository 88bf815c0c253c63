-- The items of a list, drawn one after the other.
use Rattle.std.proofs.Common.{◌≡◌, ℕ, zero, suc, ◌+◌, ◌-◌, ◌<◌, ◌≤◌, Bool, List, [], ◌∷◌, length, take, drop, nat_lt, nat_eq}
use Rattle.std.proofs.Common.{min, refl, ap, arith, Option, Some, None, MatchOption, IsSomeAnd, IfSome, true, false}
use Rattle.std.proofs.Common.{Result, Ok, Err, OnOk}
use Rattle.std.specs.declared.alloc.AllocError.{AllocError}
use Rattle.std.specs.Option.{option_eq}
use Rattle.std.proofs.Math.ListN.{get_or}
use Rattle.ratatui_core.specs.{Layout.Rect, Style.Style, Text.LineData, Buffer.BufferData, Widgets.ChangesWithin}
use Rattle.ratatui_core.proofs.WidgetLemmas.{element-next, within-then}
use Rattle.ratatui_core.proofs.BufferLemmas.{within-same}
use Rattle.widget_boxes.specs.{Lines.IsShortTitle, Titles.DoesIf, Highlights.IsHighlighted}
use Rattle.widget_boxes.proofs.ApartLemmas.{lit-within}
use Rattle.rtui_drawing.specs.Cuts.{cut_from}
use Rattle.rtui_drawing.specs.declared.cut.Cut.TheVariants.{First, After}
use Rattle.rtui_drawing.specs.Drawings.{Drawing, over, draw_if, DrawsAll, IsDone, IsShortDrawing}
use Rattle.rtui_drawing.proofs.DrawingLemmas.{draws-within, done-within}
use Rattle.widget_list.specs.{declared.list.List.List as ListData, declared.list.ListDirection.ListDirection}
use Rattle.widget_list.specs.declared.list.ListDirection.TheVariants.{TopToBottom, BottomToTop}
use Rattle.widget_list.specs.{declared.item.ListItem.ListItem, Windows.item_rows, Windows.rows_before, Windows.Fit}
use Rattle.widget_list.specs.Items.{item_cut, symbol_or_blanks, marks_drawing, is_marked, marks_over, item_drawing}
use Rattle.widget_list.specs.Items.{ShowsItem, is_selected_at, at_most, IsShortItem}
use Rattle.widget_list.proofs.WindowLemmas.{rows-next, rows-grow}

-- one row more
pub marks-next : (l : ListData) (is_selected : Bool) (j rows : ℕ) → j < rows
    → marks_drawing l is_selected j (rows - j) ≡ marks_drawing l is_selected j (suc (rows - (j + 1)))
marks-next l is_selected j rows lt = let e : rows - j ≡ suc (rows - (j + 1)) = omega arith in ap (marks_drawing l is_selected j) e

-- an item that is shown has all its rows
pub item-height : (d : ListDirection) (r : Rect) (used rows : ℕ) → used + rows ≤ r.height
    → (cut_from (item_cut d r used rows) r).height ≡ rows
item-height TopToBottom r used rows fits = omega arith
item-height BottomToTop r used rows fits = omega arith

module _ (items : List ListItem) (height offset count : ℕ) (inside : offset + count ≤ length items)
    (fits : Fit items height offset (offset + count)) where
  -- the items that are left
  abbrev left : ℕ → List ListItem
  left k = take (offset + count - k) (drop k items)

  pub left-first : take count (drop offset items) ≡ left offset
  left-first = let e : count ≡ offset + count - offset = omega arith in ap (λ n. take n (drop offset items)) e

  pub left-none : (k : ℕ) → offset + count ≤ k → left k ≡ []
  left-none k end = let none : offset + count - k ≡ 0 = omega arith in rw none refl

  module _ (k used : ℕ) (item : ListItem) (lt : k < offset + count) (is : item ≡ get_or items k item) where
    pub left-next : left k ≡ item ∷ left (k + 1)
    left-next =
        let more : offset + count - k ≡ suc (offset + count - (k + 1)) = omega arith in
        rw (element-next items k item (omega arith) is, more) refl

    -- the next one fits
    pub item-fits : rows_before items offset + used ≡ rows_before items k → used + item_rows item ≤ height
    item-fits so_far =
        let next = rows-next items k item (omega arith) is in
        let grow = rows-grow items (k + 1) (offset + count) (omega arith) in
        omega arith

-- a list of short items
if-short : (own : Rect) (b : Bool) (d : Drawing) (r : Rect) → IsShortDrawing own d r → IsShortDrawing own (draw_if b d) r
if-short own true d r short = short
if-short own false d r short = tt

pub text-short : (s : BufferData) (l : ListData) (n : ℕ) (i : ListItem) (r : Rect) → IsShortItem i
    → IsShortDrawing s.area (item_drawing l n i) r
text-short s l n i r text = (tt, λ k le. text (cut_from (After n) r) s k (omega arith))

module _ (s : BufferData) (l : ListData) (short : IfSome l.highlight_symbol IsShortTitle) where
  mark-short : (symbol : Option LineData) (t : Bool) (r : Rect) → IfSome symbol IsShortTitle
      → IsShortDrawing s.area (symbol_or_blanks symbol t) r
  mark-short symbol false r short = λ p c. tt
  mark-short None true r short = tt
  mark-short (Some line) true r short = short r s

  marks-short : (is_selected : Bool) (j more : ℕ) (r : Rect) → IsShortDrawing s.area (marks_drawing l is_selected j more) r
  marks-short is_selected j zero r = tt
  marks-short is_selected j (suc more) r =
      (mark-short l.highlight_symbol (is_marked l is_selected j) _ short, marks-short is_selected (j + 1) more r)

  pub over-short : (is_selected : Bool) (n rows : ℕ) (r : Rect) → IsShortDrawing s.area (marks_over l is_selected n rows) r
  over-short is_selected n rows r =
      if-short s.area (nat_lt 0 n) (over (First n) (marks_drawing l is_selected 0 rows)) r (marks-short is_selected 0 rows _)

-- an item: its text, the highlight, and the symbol
pub highlight-within : (t : Bool) (style : Style) (r : Rect) (old new : BufferData) → DoesIf t (IsHighlighted r style) old new
    → ChangesWithin r old new
highlight-within true style r old new is = lit-within style r old new is
highlight-within false style r old new same = rw same (within-same r old)

module _ {A : Type 0} (result : Result A AllocError) (l : ListData) (is_selected : Bool) (n : ℕ) (i : ListItem) (r : Rect)
    (old texted lit new : BufferData) (text : DrawsAll (item_drawing l n i) r old texted)
    (highlight : DoesIf is_selected (IsHighlighted r l.highlight_style) texted lit)
    (marks : IsDone (marks_over l is_selected n (item_rows i)) r result lit new) where
  pub item-within : ChangesWithin r old new
  item-within =
      within-then r old texted new (draws-within (item_drawing l n i) r old texted text)
      (within-then r texted lit new (highlight-within is_selected l.highlight_style r texted lit highlight)
      (done-within result marks))

  pub item-shown : OnOk result (ShowsItem l is_selected n i r old new)
  item-shown = shown result marks.ok
    where
      shown : (answer : Result A AllocError) → OnOk answer (DrawsAll (marks_over l is_selected n (item_rows i)) r lit new)
          → OnOk answer (ShowsItem l is_selected n i r old new)
      shown (Ok x) ok = record { texted = texted; lit = lit; text = text; highlight = highlight; marks = ok }
      shown (Err e) ok = tt

-- the selected number is asked for by equality
pub selected-by : (selected : Option ℕ) (k : ℕ) → option_eq nat_eq selected (Some k) ≡ is_selected_at selected k
selected-by None k = refl
selected-by (Some n) k = refl

-- a number is cut to another one
pub cut-by : (last : ℕ) (o cut : Option ℕ) → MatchOption o (cut ≡ None) (λ n. IsSomeAnd cut (λ m. m ≡ min n last))
    → cut ≡ at_most last o
cut-by last None cut is = is
cut-by last (Some n) (Some m) is = ap Some is
cut-by last (Some n) None is = absurd is

pub cut-inside : (n : ℕ) (o : Option ℕ) → 0 < n → IfSome (at_most (n - 1) o) (λ m. m < n)
cut-inside n None some = tt
cut-inside n (Some m) some = omega arith
