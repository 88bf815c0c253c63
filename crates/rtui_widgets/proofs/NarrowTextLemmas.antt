-- Texts whose graphemes take one column each keep cells plain.
use Rattle.std.proofs.Common.{◌≡◌, ℕ, zero, suc, ◌+◌, ◌-◌, ◌<◌, ◌≤◌, ◌⊎◌, ⊎_elim, inl, inr, Bool, true, false, if◌then◌else◌}
use Rattle.std.proofs.Common.{nat_lt, ◌==◌, not, List, [], ◌∷◌, ◌++◌, length, map, take, drop, filter, slice_index_or, All, Some}
use Rattle.std.proofs.Common.{Option, refl, sym, ap, subst, ◌∙◌, arith, append-nil}
use Rattle.std.specs.List.{concat}
use Rattle.std.proofs.lemmas.{Bool.cases_lt, Bool.Decides.nat_tests}
use Rattle.std.proofs.lemmas.List.{get_or-take, get_or-drop, get_or_default, length-take}
use Rattle.std.proofs.lemmas.List.Elements.{All-nil, All-cons, All-head, All-tail, All-take, All-drop, All-append, All-map}
use Rattle.unicode_segmentation.specs.Grapheme.{graphemes}
use Rattle.rtui_geometry.specs.{declared.rect.Rect.Rect, declared.position.Position.Position, Rect.HasPosition, Rect.intersected}
use Rattle.rtui_style.specs.{declared.Style.Style, Style.new_style}
use Rattle.rtui_cell.specs.{declared.cell.Cell.Cell, Cell.empty_cell, Cell.styled, Cell.width_of, Width.text_width}
use Rattle.rtui_text.specs.{Graphemes.has_control, Widths.span_width, Widths.line_width}
use Rattle.rtui_text.specs.Text.{SpanData, LineData, TextData, line_of}
use Rattle.rtui_buffer.specs.BufferData.{BufferData, cell_in, cell_index, position_of}
use Rattle.rtui_buffer.specs.Painting.{Piece, piece_of, piece_at, piece_width, columns, shown, kept, painted_width}
use Rattle.rtui_buffer.specs.Painting.{has_painted_width}
use Rattle.rtui_buffer.specs.PaintedText.{pieces_at, room_at, PaintsPieces, IsStyled}
use Rattle.rtui_buffer.proofs.{ShortLemmas.All-fitting, SettledLemmas.IsIn, SettledLemmas.is_in, SettledLemmas.width-shown}
use Rattle.rtui_widgets.specs.{Changes.ChangesEach, Parts.MakesParts, Plain.IsPlain, Plain.IsPlainFrom, Plain.IsPlainOver}
use Rattle.rtui_widgets.specs.Span.{showing, those_at, is_behind, with_graphemes, column_with, columns_from, span_rendered}
use Rattle.rtui_widgets.specs.Line.{Part, parts, parts_then, parts_rendered, columns_before, line_rendered}
use Rattle.rtui_widgets.specs.Rendering.{area_row, RendersRows, in_first_row, RendersSpan, RendersLine, RendersText, text_line}
use Rattle.rtui_widgets.specs.Rendering.{text_row, alignment_or}
use Rattle.rtui_geometry.proofs.PositionTests.{has-or-not}
use Rattle.rtui_widgets.proofs.{CutLemmas.parts-have, PlainLemmas.plain-empty, PlainLemmas.plain-styled, PlainLemmas.plain-if}
use Rattle.rtui_text.specs.Graphemes.{EachGrapheme, TakesOneColumn}
use Rattle.rtui_widgets.specs.Graphemes.{EachLineGrapheme, EachTextGrapheme}

abbrev IsOne : List ℕ → Type 0
IsOne g = text_width g ≡ 1

-- the graphemes that show take one column each
kept-one : (t : Bool) (g : List ℕ) (us : List (List ℕ)) → (t ≡ false → IsOne g) → All IsOne us
    → All IsOne (if not t then g ∷ us else us)
kept-one true g us one all = all
kept-one false g us one all = All-cons IsOne g us (one refl) all

all-plain : (gs : List (List ℕ)) → All TakesOneColumn gs → All IsOne (filter (λ g. not (has_control g)) gs)
all-plain [] all = All-nil IsOne
all-plain (g ∷ gs) all =
    kept-one (has_control g) g (filter (λ g. not (has_control g)) gs) (All-head TakesOneColumn g gs all)
    (all-plain gs (All-tail TakesOneColumn g gs all))

showing-one : (columns : ℕ) (text : List ℕ) → EachGrapheme TakesOneColumn text → All IsOne (showing columns (graphemes true text))
unfolding showing
showing-one columns text narrow = All-fitting IsOne columns (filter (λ g. not (has_control g)) (graphemes true text))
    (all-plain (graphemes true text) narrow)

-- to a column goes one of them, or none
abbrev IsAlone : List (List ℕ) → Type 0
IsAlone hs = (hs ≡ []) ⊎ ((g : List ℕ) × IsOne g × (hs ≡ g ∷ []))

those-cons : (k x : ℕ) (g : List ℕ) (gs : List (List ℕ)) → IsOne g
    → those_at k x (g ∷ gs) ≡ (if x == k then g ∷ those_at k (x + 1) gs else those_at k (x + 1) gs)
unfolding those_at
those-cons k x g gs one = rw one refl

those-before : (k x : ℕ) (gs : List (List ℕ)) → All IsOne gs → k < x → those_at k x gs ≡ []
unfolding those_at
those-before k x [] all lt = refl
those-before k x (g ∷ gs) all lt =
    let no : (x == k) ≡ false = grind (arith, nat_tests) in
    those-cons k x g gs (All-head IsOne g gs all) ∙ rw no (those-before k (x + 1) gs (All-tail IsOne g gs all) (omega arith))

alone : (t : Bool) (g : List ℕ) (hs : List (List ℕ)) → IsOne g → (t ≡ true → hs ≡ []) → IsAlone hs
    → IsAlone (if t then g ∷ hs else hs)
alone true g hs one none is = inr (g, one, ap (λ us. g ∷ us) (none refl))
alone false g hs one none is = is

those-alone : (k x : ℕ) (gs : List (List ℕ)) → All IsOne gs → IsAlone (those_at k x gs)
unfolding those_at
those-alone k x [] all = inl refl
those-alone k x (g ∷ gs) all =
    let rest = All-tail IsOne g gs all in
    subst IsAlone (sym (those-cons k x g gs (All-head IsOne g gs all)))
    (alone (x == k) g (those_at k (x + 1) gs) (All-head IsOne g gs all)
    (λ e. those-before k (x + 1) gs rest (grind (arith, nat_tests, e))) (those-alone k (x + 1) gs rest))

-- a column with them
plain-symbol : (g : List ℕ) (c : Cell) → IsOne g → IsPlain c → IsPlain (record c { symbol = Some (concat (g ∷ [])) })
unfolding width_of
plain-symbol g c one is =
    let whole : concat (g ∷ []) ≡ g = append-nil g in
    let e = is.unmarked.option in
    record {
      narrow = rw (e, whole, one) (omega arith);
      unmarked = record {
        option = is.unmarked.option;
        flag = is.unmarked.flag;
      };
    }

plain-with : (style : Style) (hs : List (List ℕ)) (c : Cell) → IsAlone hs → IsPlain c → IsPlain (with_graphemes style hs c)
plain-with style hs c is plain =
    ⊎_elim
    (λ (none : hs ≡ []). rw none plain)
    (λ (one : (g : List ℕ) × IsOne g × (hs ≡ g ∷ [])).
    rw one.2 (plain-styled style (record c { symbol = Some (concat (one.0 ∷ [])) }) (plain-symbol one.0 c one.1 plain)))
    is

plain-columns : (f : ℕ → Cell → Cell) (k : ℕ) (row : List Cell) → ((j : ℕ) (c : Cell) → IsPlain c → IsPlain (f j c))
    → All IsPlain row → All IsPlain (columns_from f k row)
unfolding columns_from
plain-columns f k [] keeps all = all
plain-columns f k (c ∷ cs) keeps all =
    All-cons IsPlain (f k c) (columns_from f (k + 1) cs) (keeps k c (All-head IsPlain c cs all))
    (plain-columns f (k + 1) cs keeps (All-tail IsPlain c cs all))

plain-span : (style : Style) (text : List ℕ) (row : List Cell) → EachGrapheme TakesOneColumn text → All IsPlain row
    → All IsPlain (span_rendered style text row)
unfolding span_rendered
plain-span style text row narrow all =
    let gs = showing (length row) (graphemes true text) in
    let ones = showing-one (length row) text narrow in
    plain-columns (column_with style gs) 0 row
    (λ k c plain. plain-with style (those_at k 0 gs) (if is_behind k 0 gs then empty_cell else c) (those-alone k 0 gs ones)
    (plain-if (is_behind k 0 gs) empty_cell c plain-empty plain)) all

plain-behind : (n : ℕ) (f : List Cell → List Cell) (row : List Cell) → ((cs : List Cell) → All IsPlain cs → All IsPlain (f cs))
    → All IsPlain row → All IsPlain (take n row ++ f (drop n row))
plain-behind n f row keeps all = All-append IsPlain (take n row) (f (drop n row)) (All-take IsPlain n row all)
    (keeps (drop n row) (All-drop IsPlain n row all))

plain-parts : (ps : List Part) (row : List Cell) → All (λ part. EachGrapheme TakesOneColumn part.content) ps → All IsPlain row
    → All IsPlain (parts_rendered ps row)
unfolding parts_then
plain-parts [] row narrow all = all
plain-parts (p ∷ ps) row narrow all =
    plain-behind p.indent _ row
    (λ left plain. plain-behind p.width (parts_rendered ps) (span_rendered p.style p.content left)
    (λ cs rest. plain-parts ps cs (All-tail (λ (part : Part). EachGrapheme TakesOneColumn part.content) p ps narrow) rest)
    (plain-span p.style p.content left
    (All-head (λ (part : Part). EachGrapheme TakesOneColumn part.content) p ps narrow) plain)) all

laid-plain : (style : Style) (row : List Cell) → All IsPlain row → All IsPlain (map (styled style) row)
laid-plain style row all = All-map IsPlain (styled style) row (λ k d lt. plain-styled style (slice_index_or row k d) (all k d lt))

either-row : (t : Bool) (a b : List Cell) → All IsPlain a → All IsPlain b → All IsPlain (if t then a else b)
either-row true a b pa pb = pa
either-row false a b pa pb = pb

plain-line : (alignment : Option _) (line : LineData) (row : List Cell) → EachLineGrapheme TakesOneColumn line → All IsPlain row
    → All IsPlain (line_rendered alignment line row)
unfolding line_rendered
plain-line alignment line row narrow all =
    let width = line_width line.spans in
    let skip = columns_before alignment (width - length row) in
    either-row (length row == 0) row _ all
    (either-row (width == 0) row _ all
    (plain-behind (columns_before alignment (length row - width)) (parts_rendered (parts skip line.spans))
    (map (styled line.style) row)
    (λ cs plain. plain-parts (parts skip line.spans) cs (parts-have TakesOneColumn skip line.spans narrow) plain)
    (laid-plain line.style row all)))

nth-plain : (cs : List Cell) (j : ℕ) → All IsPlain cs → IsPlain (slice_index_or cs j empty_cell)
nth-plain [] j all = plain-empty
nth-plain (c ∷ cs) zero all = All-head IsPlain c cs all
nth-plain (c ∷ cs) (suc j) all = nth-plain cs j (All-tail IsPlain c cs all)

along : (q o x j : ℕ) → o ≤ x → q + (x - o) + j ≡ q + (x + j - o)
along q o x j le = omega arith

no-spans : EachLineGrapheme TakesOneColumn (line_of [])
no-spans = All-nil (λ (span : SpanData). 0 < span_width span → EachGrapheme TakesOneColumn span.content)

-- rows of an area over plain cells
module _ (area r : Rect) (f : ℕ → List Cell → List Cell) (old new : BufferData) (is : RendersRows area f old new)
    (inside : (p : Position) → HasPosition old.area p → HasPosition area p → HasPosition r p) (plain : IsPlainOver r old) where
  abbrev part : Rect
  part = intersected area old.area

  -- column j of row k of the part
  column : (s : BufferData) (k j : ℕ) → s.area ≡ old.area → j < part.width
      → slice_index_or (area_row part k s) j empty_cell ≡ cell_in s (position_of (part.x + j, part.y + k))
  column s k j same j_in =
      let start = cell_index s.area (position_of (part.x, part.y + k)) in
      let at : start + j ≡ cell_index s.area (position_of (part.x + j, part.y + k)) =
      rw same (along _ old.area.x part.x j (omega arith)) in
      get_or-take part.width (drop start s.cells) j empty_cell j_in ∙ get_or-drop start s.cells j empty_cell
      ∙ ap (λ i. slice_index_or s.cells i empty_cell) at

  there : (k j : ℕ) → j < part.width → k < part.height → HasPosition area (position_of (part.x + j, part.y + k))
      × HasPosition old.area (position_of (part.x + j, part.y + k))
  there k j j_in k_in = (
    record { left = omega arith; right = omega arith; top = omega arith; bottom = omega arith },
    record {
      left = omega arith;
      right = omega arith;
      top = omega arith;
      bottom = omega arith;
    },
  )

  row-plain : (k : ℕ) → k < part.height → All IsPlain (area_row part k old)
  row-plain k k_in j d lt =
      let start = cell_index old.area (position_of (part.x, part.y + k)) in
      let count = length-take part.width (drop start old.cells) in
      let j_in : j < part.width = omega arith in
      let at = there k j j_in k_in in
      subst IsPlain (sym (get_or_default (area_row part k old) j d empty_cell lt ∙ column old k j refl j_in))
      (plain (position_of (part.x + j, part.y + k)) at.1 (inside (position_of (part.x + j, part.y + k)) at.1 at.0))

  pub rows-plain : ((k : ℕ) (row : List Cell) → All IsPlain row → All IsPlain (f k row)) → IsPlainOver r new
  rows-plain keeps p in_new here =
      let in_own : HasPosition old.area p = subst (λ a. HasPosition a p) is.within.same_area in_new in
      ⊎_elim
      (λ (in_area : HasPosition area p).
      let l1 = in_area.left in let r1 = in_area.right in let t1 = in_area.top in let b1 = in_area.bottom in
      let l2 = in_own.left in let r2 = in_own.right in let t2 = in_own.top in let b2 = in_own.bottom in
      let k = p.y - part.y in let j = p.x - part.x in
      let k_in : k < part.height = omega arith in
      let j_in : j < part.width = omega arith in
      let x : part.x + j ≡ p.x = omega arith in
      let y : part.y + k ≡ p.y = omega arith in
      let row = subst (All IsPlain) (sym (is.rows k k_in)) (keeps k (area_row part k old) (row-plain k k_in)) in
      let same : position_of (part.x + j, part.y + k) ≡ position_of (p.x, p.y) = rw (x, y) refl in
      let at : slice_index_or (area_row part k new) j empty_cell ≡ cell_in new p =
      subst (λ q. slice_index_or (area_row part k new) j empty_cell ≡ cell_in new q) same
      (column new k j is.within.same_area j_in) in
      subst IsPlain at (nth-plain (area_row part k new) j row))
      (λ (off : HasPosition area p → ⊥). subst IsPlain (sym (is.within.outside p in_own off)) (plain p in_own here))
      (has-or-not area p)

first-only : (f : List Cell → List Cell) (k : ℕ) (row : List Cell) → ((cs : List Cell) → All IsPlain cs → All IsPlain (f cs))
    → All IsPlain row → All IsPlain (in_first_row f k row)
first-only f k row keeps all = either-row (k == 0) (f row) row (keeps row all) all

-- texts over cells that are plain, and beside them
module _ (area r : Rect) (old new : BufferData) (inside : (p : Position) → HasPosition old.area p → HasPosition area p
    → HasPosition r p) (plain : IsPlainOver r old) where
  pub span-plain : (span : SpanData) → EachGrapheme TakesOneColumn span.content → RendersSpan span area old new
      → IsPlainOver r new
  span-plain span narrow is =
      rows-plain area r (in_first_row (span_rendered span.style span.content)) old new is inside plain
      (λ k row all. first-only (span_rendered span.style span.content) k row
      (λ cs each. plain-span span.style span.content cs narrow each) all)

  pub line-plain : (line : LineData) → EachLineGrapheme TakesOneColumn line → RendersLine line area old new → IsPlainOver r new
  line-plain line narrow is =
      rows-plain area r (in_first_row (line_rendered line.alignment line)) old new is inside plain
      (λ k row all. first-only (line_rendered line.alignment line) k row
      (λ cs each. plain-line line.alignment line cs narrow each) all)

  pub text-plain : (text : TextData) → EachTextGrapheme TakesOneColumn text → RendersText text area old new → IsPlainOver r new
  text-plain text narrow is =
      rows-plain area r (text_row text) old new is inside plain
      (λ k row all. plain-line (alignment_or (text_line text k).alignment text.alignment) (text_line text k)
      (map (styled text.style) row) (line-at text.lines k narrow) (laid-plain text.style row all))
    where
      line-at : (ls : List LineData) (k : ℕ) → All (EachLineGrapheme TakesOneColumn) ls
          → EachLineGrapheme TakesOneColumn (slice_index_or ls k (line_of []))
      line-at [] k all = no-spans
      line-at (l ∷ ls) zero all = All-head (EachLineGrapheme TakesOneColumn) l ls all
      line-at (l ∷ ls) (suc k) all = line-at ls k (All-tail (EachLineGrapheme TakesOneColumn) l ls all)

-- the pieces of a narrow text take one column each
abbrev IsNarrowPiece : Piece → Type 0
IsNarrowPiece p = piece_width p ≤ 1

kept-narrow : (t : Bool) (g : List ℕ) (us : List (List ℕ)) → (t ≡ true → IsOne g) → All IsOne us
    → All IsOne (if t then g ∷ us else us)
kept-narrow true g us one all = All-cons IsOne g us (one refl) all
kept-narrow false g us one all = all

no-control : (t : Bool) (w : ℕ) → nat_lt 0 (if t then 0 else w) ≡ true → t ≡ false
no-control true w e = let no : false ≡ true = e in absurd (cc)
no-control false w e = refl

painted-one : (g : List ℕ) → TakesOneColumn g → has_painted_width g ≡ true → IsOne g
unfolding painted_width
painted-one g narrow e = narrow (no-control (has_control g) (text_width g) e)

all-painted : (gs : List (List ℕ)) → All TakesOneColumn gs → All IsOne (filter has_painted_width gs)
all-painted [] all = All-nil IsOne
all-painted (g ∷ gs) all =
    kept-narrow (has_painted_width g) g (filter has_painted_width gs) (λ e. painted-one g (All-head TakesOneColumn g gs all) e)
    (all-painted gs (All-tail TakesOneColumn g gs all))

all-kept : (room : ℕ) (text : List ℕ) → EachGrapheme TakesOneColumn text → All IsOne (kept room (graphemes true text))
unfolding kept
all-kept room text narrow = All-fitting IsOne room (filter has_painted_width (graphemes true text))
    (all-painted (graphemes true text) narrow)

pub pieces-narrow : (own : Rect) (x max : ℕ) (style : Style) (text : List ℕ) → EachGrapheme TakesOneColumn text
    → All IsNarrowPiece (pieces_at own x max style text)
pieces-narrow own x max style text narrow =
    All-map IsNarrowPiece (piece_of style) (kept (room_at own x max) (graphemes true text))
    (λ k d lt. let one : IsOne (slice_index_or (kept (room_at own x max) (graphemes true text)) k d) = all-kept
    (room_at own x max) text narrow k d lt in omega arith)

plain-shown : (p : Piece) (c : Cell) → IsNarrowPiece p → IsPlain c → IsPlain (shown p c)
plain-shown p c narrow is = record {
  narrow = (let w = width-shown p c is.unmarked in omega arith);
  unmarked = record { option = is.unmarked.option; flag = is.unmarked.flag };
}

-- pieces of one column over cells that are plain, and beside them
pub pieces-plain : (from : Position) (ps : List Piece) (r : Rect) (old new : BufferData) → All IsNarrowPiece ps
    → IsPlainOver r old → PaintsPieces from ps old new → IsPlainOver r new
pieces-plain from ps r old new narrow plain is = λ p in_new here.
    let in_own : HasPosition old.area p = subst (λ a. HasPosition a p) is.area in_new in
    let at = cell_index old.area from in
    let i = cell_index old.area p in
    let was = plain p in_own here in
    let now : cell_in new p ≡ slice_index_or new.cells i empty_cell =
    ap (λ q. slice_index_or new.cells (cell_index q p) empty_cell) is.area in
    subst IsPlain (sym now)
    (⊎_elim
    (λ (before : i < at). subst IsPlain (sym (is.cells.outside.before i before)) was)
    (λ (from_on : at ≤ i).
    ⊎_elim
    (λ (inside : i < at + columns ps).
    let piece : IsIn ps (i - at) = is_in ps (i - at) (omega arith) in
    let one = narrow piece.piece (piece_of new_style []) piece.in_list in
    let place = piece.place in let in_piece = piece.in_piece in
    let e : at + columns (take piece.piece ps) ≡ i = omega arith in
    let start : slice_index_or new.cells i empty_cell ≡ shown (piece_at ps piece.piece) (slice_index_or old.cells i empty_cell) =
    subst (λ k. slice_index_or new.cells k empty_cell ≡ shown (piece_at ps piece.piece) (slice_index_or old.cells k empty_cell)) e
    (is.cells.starts piece.piece piece.in_list) in
    subst IsPlain (sym start) (plain-shown (piece_at ps piece.piece) (slice_index_or old.cells i empty_cell) one was))
    (λ (past : at + columns ps ≤ i). subst IsPlain (sym (is.cells.outside.behind i past)) was)
    (cases_lt i (at + columns ps)))
    (cases_lt i at))

-- changes and styles over cells that are plain, and beside them
pub changed-plain : (area r : Rect) (f : Position → Cell → Cell) (old new : BufferData)
    → ((p : Position) (c : Cell) → IsPlain c → IsPlain (f p c)) → IsPlainOver r old → ChangesEach area f old new
    → IsPlainOver r new
changed-plain area r f old new keeps plain is = λ p in_new here.
    let in_own : HasPosition old.area p = subst (λ a. HasPosition a p) is.area in_new in
    let was = plain p in_own here in
    ⊎_elim
    (λ (there : HasPosition area p). subst IsPlain (sym (is.inside p in_own there)) (keeps p (cell_in old p) was))
    (λ (off : HasPosition area p → ⊥). subst IsPlain (sym (is.outside p in_own off)) was)
    (has-or-not area p)

pub styled-plain : (area r : Rect) (style : Style) (old new : BufferData) → IsPlainOver r old → IsStyled area style old new
    → IsPlainOver r new
styled-plain area r style old new plain is =
    changed-plain area r (λ _. styled style) old new (λ p c cell. plain-styled style c cell) plain (record {
      area = is.area;
      room = is.room;
      inside = is.inside;
      outside = is.outside;
    })

-- parts that each stay plain
module _ (n : ℕ) (part : ℕ → Rect) (f : ℕ → BufferData → BufferData → Type 0) (r : Rect) (old new : BufferData)
    (is : MakesParts n part f old new) (inside : (k : ℕ) → k < n → (p : Position) → HasPosition old.area p
    → HasPosition (part k) p → HasPosition r p)
    (keeps : (k : ℕ) → k < n → (before after : BufferData) → before.area ≡ old.area → f k before after
    → IsPlainOver (part k) before → after.area ≡ before.area × IsPlainOver (part k) after) (plain : IsPlainOver r old) where
  part-plain : (k : ℕ) → k < n → (p : Position) → HasPosition old.area p → HasPosition (part k) p → IsPlain (cell_in new p)
  part-plain k lt p in_own here =
      let one = is.each k lt in
      let was : IsPlainOver (part k) one.before = λ q in_before there.
      let q_own : HasPosition old.area q = subst (λ a. HasPosition a q) one.same_area in_before in
      subst IsPlain (sym (one.from q q_own there)) (plain q q_own (inside k lt q q_own there)) in
      let after = keeps k lt one.before one.after one.same_area one.made was in
      let in_after : HasPosition one.after.area p = rw (after.0, one.same_area) in_own in
      subst IsPlain (sym (one.to p in_own here)) (after.1 p in_after here)

  -- the first of some parts that has a position
  found : (m : ℕ) → m ≤ n → (p : Position) → ((k : ℕ) × (k < n) × HasPosition (part k) p)
      ⊎ ((k : ℕ) → k < m → HasPosition (part k) p → ⊥)
  found zero le p = inr (λ k lt h. absurd (omega arith))
  found (suc m) le p =
      ⊎_elim
      (λ (here : HasPosition (part m) p). inl (m, omega arith, here))
      (λ (off : HasPosition (part m) p → ⊥).
      ⊎_elim
      (λ (some : (k : ℕ) × (k < n) × HasPosition (part k) p). inl some)
      (λ (none : (k : ℕ) → k < m → HasPosition (part k) p → ⊥).
      inr (λ k lt h. ⊎_elim (λ (less : k < m). none k less h) (λ (ge : m ≤ k). let e : k ≡ m = omega arith in
      off (subst (λ i. HasPosition (part i) p) e h)) (cases_lt k m)))
      (found m (omega arith) p))
      (has-or-not (part m) p)

  pub parts-plain : IsPlainOver r new
  parts-plain p in_new here =
      let in_own : HasPosition old.area p = subst (λ a. HasPosition a p) is.area in_new in
      ⊎_elim
      (λ (some : (k : ℕ) × (k < n) × HasPosition (part k) p). part-plain some.0 some.1 p in_own some.2)
      (λ (none : (k : ℕ) → k < n → HasPosition (part k) p → ⊥). subst IsPlain (sym (is.rest p in_own none)) (plain p in_own here))
      (found n (omega arith) p)

-- a buffer of plain cells
pub over-all : (s : BufferData) → IsPlainFrom 0 s → IsPlainOver s.area s
over-all s plain p has here = plain p has (omega arith)

pub from-over : (old new : BufferData) → new.area ≡ old.area → IsPlainOver old.area new → IsPlainFrom 0 new
from-over old new same plain p has from = plain p has (subst (λ a. HasPosition a p) same has)

module _ (area : Rect) (old new : BufferData) (plain : IsPlainFrom 0 old) where
  pub span-stays : (span : SpanData) → EachGrapheme TakesOneColumn span.content → RendersSpan span area old new
      → IsPlainFrom 0 new
  span-stays span narrow is = from-over old new is.within.same_area (span-plain area old.area old new (λ p has here. has)
      (over-all old plain) span narrow is)

  pub line-stays : (line : LineData) → EachLineGrapheme TakesOneColumn line → RendersLine line area old new → IsPlainFrom 0 new
  line-stays line narrow is = from-over old new is.within.same_area (line-plain area old.area old new (λ p has here. has)
      (over-all old plain) line narrow is)

  pub text-stays : (text : TextData) → EachTextGrapheme TakesOneColumn text → RendersText text area old new → IsPlainFrom 0 new
  text-stays text narrow is = from-over old new is.within.same_area (text-plain area old.area old new (λ p has here. has)
      (over-all old plain) text narrow is)
