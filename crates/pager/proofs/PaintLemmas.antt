-- Texts and lines painted in rows, and what may be painted after them.
use Rattle.std.proofs.Common.{◌≡◌, ℕ, ◌+◌, ◌<◌, ◌≤◌, ⊎_elim, inl, inr, Bool, true, false}
use Rattle.std.proofs.Common.{List, [], ◌∷◌, refl, sym, ap, subst, ◌∙◌, arith, Result, Ok, Err, OnOk}
use Rattle.std.proofs.Common.{OnErr, add-one}
use Rattle.std.specs.{declared.alloc.AllocError.AllocError}
use Rattle.std.proofs.lemmas.{Bool.cases_lt, Bool.Decides.nat_tests}
use Rattle.ratatui_core.specs.{Layout.Rect, Layout.IsInside, Style.Style, Widgets.ChangesWithin}
use Rattle.ratatui_core.specs.{Widgets.IsClipped}
use Rattle.ratatui_core.specs.Buffer.{BufferData, HasRow, IsReadyAt, IsReadyFrom, IsSettledBuffer, PaintsPieces}
use Rattle.ratatui_core.specs.Buffer.{columns, pieces_at, room_at, text_pieces, position_of}
use Rattle.ratatui_core.proofs.{BufferLemmas.within-wider, BufferLemmas.ready-row}
use Rattle.ratatui_core.proofs.{BufferLemmas.ready-plain, WidgetLemmas.OnPart-clipped}
use Rattle.widget_boxes.specs.Boxes.{IsBoxArea}
use Rattle.widget_boxes.proofs.PaintLemmas.{part-has_row, part-right, room-is}
use Rattle.pager.specs.declared.view.View.{View}
use Rattle.pager.specs.declared.styles.Run.{Run}
use Rattle.pager.specs.declared.sought.Sought.{Sought}
use Rattle.pager.specs.Symbols.{LineSymbol, Reach, line_symbol, style_at, reach_after, symbols_from, is_in_view, symbols_in_view}
use Rattle.pager.specs.Pages.{PaintsSymbols, PaintsLine, PaintsPageRow, PaintsPageRows}
use Rattle.pager.specs.Inner.{PaintsIf, PaintsIfInView}
use Rattle.pager.specs.Pages.{PaintsPage, PaintsPager}
use Rattle.pager.specs.declared.pager.Pager.{Pager}

-- a text painted in columns that its row has
pub text-painted : (x y m n : ℕ) (style : Style) (text : List ℕ) (old new : BufferData) → m ≡ n
    → x + n ≤ old.area.x + old.area.width → n ≤ 65535
    → PaintsPieces (position_of (x, y)) (pieces_at old.area x m style text) old new
    → PaintsPieces (position_of (x, y)) (text_pieces n style text) old new
text-painted x y m n style text old new same fits small paints =
    subst (λ k. PaintsPieces (position_of (x, y)) (text_pieces k style text) old new) (ap (room_at old.area x) same
    ∙ room-is old.area x n fits small) paints

pub text-columns : (own : Rect) (x m n : ℕ) (style : Style) (text : List ℕ) → m ≡ n → x + n ≤ own.x + own.width → n ≤ 65535
    → columns (pieces_at own x m style text) ≡ columns (text_pieces n style text)
text-columns own x m n style text same fits small = ap (λ k. columns (text_pieces k style text)) (ap (room_at own x) same
    ∙ room-is own x n fits small)

-- what may be painted from a column on may be painted from a later one
pub ready-later : (x z y : ℕ) (s : BufferData) → IsReadyAt x y s → HasRow s.area y → x ≤ z → z ≤ s.area.x + s.area.width
    → IsReadyAt z y s
ready-later x z y s ready row le fits =
    let e = ready.edges in let r = e.right in let b = e.bottom in let t = row.top in let d = row.bottom in
    record {
      edges = ready.edges;
      settled = ready.settled;
      plain = λ p has from. ready.plain p has (⊎_elim (λ (below : y < p.y). inl below)
          (λ (at : (p.y ≡ y) × (z ≤ p.x)). inr (at.0, (let more = at.1 in omega arith))) from);
      before = λ a from to off.
          ⊎_elim
          (λ (lt : a < x). let end = ready.before a from lt off in omega arith)
          (λ (ge : x ≤ a).
          let one = (ready.plain (position_of (a, y)) (record { left = from; right = omega arith; top = t; bottom = omega arith })
          (inr (refl, ge))).narrow in
          omega arith)
          (cases_lt a x);
    }

-- ---- symbols one by one

turn-if : (b : Bool) (x y : ℕ) (v : View) (s : LineSymbol) (ss : List LineSymbol) (now mid new : BufferData) → is_in_view v s ≡ b
    → PaintsIf b x y v s now mid
    → PaintsSymbols x y v (symbols_in_view v ss) mid new → PaintsSymbols x y v (symbols_in_view v (s ∷ ss)) now new
unfolding PaintsSymbols
turn-if true x y v s ss now mid new is made others = rw is (record { between = mid; first = made; second = others })
turn-if false x y v s ss now mid new is made others =
    rw is (subst (λ b. PaintsSymbols x y v (symbols_in_view v ss) b new) made others)

abbrev pub reach : List ℕ → ℕ → ℕ → List Run → Reach
reach line column marked runs = record { line = line; column = column; marked = marked; runs = runs }

-- to paint what is left of a line is to paint all of it
abbrev pub FinishesLine : ℕ → ℕ → View → Sought → List Run → Reach → List (List ℕ) → List ℕ → BufferData → BufferData → Type 0
FinishesLine x y v sought runs at gs line old now =
    (new : BufferData) → PaintsSymbols x y v (symbols_in_view v (symbols_from sought at gs)) now new
    → PaintsLine x y v sought runs line old new

pub line-turn : (x y : ℕ) (v : View) (sought : Sought) (runs : List Run) (at next : Reach) (style : Style) (g : List ℕ)
    (all rest : List (List ℕ)) (line : List ℕ) (old now mid : BufferData)
    → all ≡ g ∷ rest → style ≡ style_at sought at (g ∷ rest) → next ≡ reach_after sought at g rest
    → FinishesLine x y v sought runs at all line old now
    → PaintsIfInView x y v (line_symbol style at.column g) now mid → FinishesLine x y v sought runs next rest line old mid
unfolding symbols_from
line-turn x y v sought runs at next style g all rest line old now mid is style_is next_is finishes made = λ new others.
    let s = line_symbol (style_at sought at (g ∷ rest)) at.column g in
    let left = symbols_from sought (reach_after sought at g rest) rest in
    finishes new (subst (λ gs. PaintsSymbols x y v (symbols_in_view v (symbols_from sought at gs)) now new) (sym is)
    (turn-if (is_in_view v s) x y v s left now mid new refl
    (subst (λ t. PaintsIfInView x y v (line_symbol t at.column g) now mid) style_is made)
    (subst (λ r. PaintsSymbols x y v (symbols_in_view v (symbols_from sought r rest)) mid new) next_is others)))

off-view : (v : View) (style : Style) (column : ℕ) (g : List ℕ) → v.limit ≤ column
    → is_in_view v (line_symbol style column g) ≡ false
off-view v style column g le = grind (arith, nat_tests)

none-in-view : (v : View) (sought : Sought) (at : Reach) (gs : List (List ℕ)) → v.limit ≤ at.column
    → symbols_in_view v (symbols_from sought at gs) ≡ []
unfolding symbols_from
none-in-view v sought at [] le = refl
none-in-view v sought at (g ∷ gs) le =
    let off : is_in_view v (line_symbol (style_at sought at (g ∷ gs)) at.column g) ≡ false =
    off-view v (style_at sought at (g ∷ gs)) at.column g le in
    rw off (none-in-view v sought (reach_after sought at g gs) gs (omega arith))

painted-none : (x y : ℕ) (v : View) (ss : List LineSymbol) (now : BufferData) → ss ≡ [] → PaintsSymbols x y v ss now now
unfolding PaintsSymbols
painted-none x y v ss now none = rw none refl

-- no column is left
pub line-full : (x y : ℕ) (v : View) (sought : Sought) (runs : List Run) (at : Reach) (gs : List (List ℕ)) (line : List ℕ)
    (old now : BufferData) → v.limit ≤ at.column → FinishesLine x y v sought runs at gs line old now
    → PaintsLine x y v sought runs line old now
line-full x y v sought runs at gs line old now le finishes =
    finishes now (painted-none x y v _ now (none-in-view v sought at gs le))

-- no grapheme is left
pub line-end : (x y : ℕ) (v : View) (sought : Sought) (runs : List Run) (at : Reach) (gs : List (List ℕ)) (line : List ℕ)
    (old now : BufferData) → gs ≡ [] → FinishesLine x y v sought runs at gs line old now
    → PaintsLine x y v sought runs line old now
unfolding symbols_from
line-end x y v sought runs at gs line old now none finishes = finishes now (painted-none x y v _ now (rw none refl))

-- numbers take no columns or have room
pub numbers-fit : (columns width : ℕ) → (0 < columns → (columns ≡ 8) × (8 < width)) → columns ≤ width
numbers-fit columns width wide = ⊎_elim
    (λ (some : 0 < columns). let both = wide some in let eight = both.0 in let room = both.1 in omega arith)
    (λ (none : columns ≤ 0). omega arith)
    (cases_lt 0 columns)

-- ---- in a part of a buffer

module _ (part : Rect) (y : ℕ) (s : BufferData) (box : IsBoxArea part) (inside : IsInside part s.area) (top : part.y ≤ y)
    (bottom : y < part.y + part.height) where
  -- a row may be painted from each of its columns on
  pub part-ready : (x : ℕ) → x ≤ part.x + part.width → IsReadyFrom y s → IsReadyAt x y s
  part-ready x fits ready =
      let right = part-right part s.area x 0 box inside (omega arith) in
      ready-row x y s ready (part-has_row part s.area y box inside top bottom) (omega arith)

  pub part-later : (x z : ℕ) → x ≤ z → z ≤ part.x + part.width → IsReadyAt x y s → IsReadyAt z y s
  part-later x z le fits ready =
      let right = part-right part s.area z 0 box inside (omega arith) in
      ready-later x z y s ready (part-has_row part s.area y box inside top bottom) le (omega arith)

-- ---- a page

pub pager-ok : {A : Type 0} (r : Result A AllocError) (p : Pager) (area part : Rect) (old new : BufferData)
    → IsClipped area old.area part → ChangesWithin part old new → OnOk r (PaintsPage p part old new)
    → (IsReadyFrom part.y old → OnOk r (IsSettledBuffer new)) → OnOk r (PaintsPager p area old new)
pager-ok (Ok x) p area part old new is within page settled = record {
  within = within-wider part area old new is.of_area within;
  page = OnPart-clipped (PaintsPage p) area part old new is page;
  settled = λ edges plain. settled (ready-plain part.y old edges plain);
}
pager-ok (Err e) p area part old new is within page settled = tt

pub err-within : {A : Type 0} (r : Result A AllocError) (area part : Rect) (old new : BufferData) → IsClipped area old.area part
    → ChangesWithin part old new → OnErr r (ChangesWithin area old new)
err-within (Ok x) area part old new is within = tt
err-within (Err e) area part old new is within = within-wider part area old new is.of_area within

pub rows-none : (p : Pager) (r : Rect) (s : BufferData) → PaintsPageRows p r 0 s s
unfolding PaintsPageRows
rows-none p r s = refl

pub rows-next : (p : Pager) (r : Rect) (k : ℕ) (old mid new : BufferData) → PaintsPageRows p r k old mid
    → PaintsPageRow p r k mid new → PaintsPageRows p r (k + 1) old new
unfolding PaintsPageRows
rows-next p r k old mid new before row = rw add-one (record { between = mid; first = before; second = row })
