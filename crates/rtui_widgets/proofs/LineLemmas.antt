-- How lines are rendered.
use Rattle.std.proofs.Common.{◌≡◌, ℕ, ◌+◌, ◌-◌, ◌<◌, ◌≤◌, true, false, min, List, [], ◌∷◌, ◌++◌, length, map, take, drop, sum_by}
use Rattle.std.proofs.Common.{slice_index_or, refl, sym, ap, subst, ◌∙◌, arith, append_assoc, take-add, take-append-drop, nat_le}
use Rattle.std.proofs.Common.{Option}
use Rattle.rtui_layout.specs.declared.alignment.HorizontalAlignment.{HorizontalAlignment}
use Rattle.std.proofs.lemmas.{Bool.Decides.nat_tests, Bool.cond_both, List.Folds.concat-append, List.Sums.sum_by-cons}
use Rattle.std.proofs.lemmas.{List.Sums.sum_by-append}
use Rattle.std.specs.List.{concat}
use Rattle.std.proofs.Math.Seq.{take-nil, drop-nil, take-append-add, drop-append-add}
use Rattle.std.proofs.lemmas.List.{take_all, drop_all, take_min, drop_min, take_rest, drop_more, append-nil, length-drop}
use Rattle.std.proofs.lemmas.List.{length-take, length-take-le, length-append, drop-drop}
use borrow.Rule.Slice.PartMut.{put_mid}
use Rattle.rtui_cell.specs.{declared.cell.Cell.Cell, Width.text_columns, Cell.styled}
use Rattle.rtui_style.specs.declared.Style.{Style}
use Rattle.rtui_text.specs.{Text.SpanData, Text.LineData, Text.line_of, Widths.span_width, Widths.line_width}
use Rattle.rtui_widgets.specs.Span.{span_rendered, graphemes_rendered, IsShortSpan}
use Rattle.rtui_widgets.specs.Refused.{IsShownFront, HasFrontOfSpan, HasFrontOfParts, HasFrontOfLine, columns_left}
use Rattle.rtui_widgets.proofs.SpanLemmas.{length-span_rendered, rendered-nothing}
use Rattle.rtui_widgets.specs.Line.{Part, columns_before, last_fitting, part_of, parts, after_first, parts_then, parts_rendered}
use Rattle.rtui_widgets.specs.Line.{line_rendered, AreShortParts}

-- ---- the end of a text

pub last_fitting-fits : (room : ℕ) (gs : List (List ℕ)) → sum_by text_columns gs ≤ room → last_fitting room gs ≡ gs
unfolding last_fitting
last_fitting-fits room [] le = refl
last_fitting-fits room (g ∷ gs) le = let yes : nat_le (sum_by text_columns (g ∷ gs)) room ≡ true = grind (arith, nat_tests, le) in
    rw yes

pub last_fitting-drop : (room : ℕ) (g : List ℕ) (gs : List (List ℕ)) → room < sum_by text_columns (g ∷ gs)
    → last_fitting room (g ∷ gs) ≡ last_fitting room gs
unfolding last_fitting
last_fitting-drop room g gs lt = let no : nat_le (sum_by text_columns (g ∷ gs)) room ≡ false = grind (arith, nat_tests, lt) in
    rw no

-- if a grapheme doesn't fit any more, those after it are the longest end that does
pub last_fitting-behind : (room : ℕ) (front : List (List ℕ)) (g : List ℕ) (kept : List (List ℕ)) → sum_by text_columns kept ≤ room
    → room < text_columns g + sum_by text_columns kept
    → last_fitting room (front ++ g ∷ kept) ≡ kept
last_fitting-behind room [] g kept fits over =
    last_fitting-drop room g kept (omega (arith, over, sum_by-cons text_columns g kept)) ∙ last_fitting-fits room kept fits
last_fitting-behind room (h ∷ front) g kept fits over =
    last_fitting-drop room h (front ++ g ∷ kept) (omega (
      arith,
      over,
      sum_by-cons text_columns h (front ++ g ∷ kept),
      sum_by-append text_columns front (g ∷ kept),
      sum_by-cons text_columns g kept,
    ))
    ∙ last_fitting-behind room front g kept fits over

-- the last grapheme of those that are left, taken
pub taken : (front : List (List ℕ)) (g : List ℕ) (kept left : List (List ℕ)) → left ≡ front ++ g ∷ []
    → front ++ g ∷ kept ≡ left ++ kept
taken front g kept left is = sym (append_assoc front (g ∷ []) kept) ∙ ap (λ gs. gs ++ kept) (sym is)

pub kept_behind : (room : ℕ) (left front : List (List ℕ)) (g : List ℕ) (kept all : List (List ℕ)) → left ≡ front ++ g ∷ []
    → left ++ kept ≡ all
    → sum_by text_columns kept ≤ room → room < text_columns g + sum_by text_columns kept → last_fitting room all ≡ kept
kept_behind room left front g kept all is whole fits over =
    ap (last_fitting room) (sym (taken front g kept left is ∙ whole)) ∙ last_fitting-behind room front g kept fits over

-- a text that is cut between two graphemes
pub split-text : (text : List ℕ) (front behind : List (List ℕ)) → concat (front ++ behind) ≡ text
    → concat front ++ concat behind ≡ text
split-text text front behind is = sym (concat-append front behind) ∙ is

-- ---- spans

pub parts-nil : (skip i : ℕ) (ss : List SpanData) → length ss ≤ i → parts skip (drop i ss) ≡ []
unfolding parts
parts-nil skip i ss le = rw (drop_all i ss le) refl

pub parts-skip : (skip : ℕ) (s : SpanData) (ss : List SpanData) → span_width s ≤ skip
    → parts skip (s ∷ ss) ≡ parts (skip - span_width s) ss
unfolding parts
parts-skip skip s ss le = let yes : nat_le (span_width s) skip ≡ true = grind (arith, nat_tests, le) in rw yes

pub parts-take : (skip : ℕ) (s : SpanData) (ss : List SpanData) → skip < span_width s
    → parts skip (s ∷ ss) ≡ part_of skip s ∷ parts 0 ss
unfolding parts
parts-take skip s ss lt =
    let no : nat_le (span_width s) skip ≡ false = grind (arith, nat_tests, lt) in
    let none : skip - span_width s ≡ 0 = omega arith in
    rw (no, none)

-- ---- a row whose columns from one on were lent

abbrev pub lent_from : ℕ → List Cell → List Cell → List Cell
lent_from at row part = put_mid at (length row - at) row part

put-part : (at : ℕ) (row part : List Cell) → lent_from at row part ≡ take at row ++ part
put-part at row part =
    let none : drop (length row - at) (drop at row) ≡ [] = drop_all _ (drop at row) (omega (arith, length-drop at row)) in
    rw (none, append-nil) refl

put-made : (g : List Cell → List Cell) (at : ℕ) (row part : List Cell) → part ≡ g (take (length row - at) (drop at row))
    → lent_from at row part ≡ take at row ++ g (drop at row)
put-made g at row part is = put-part at row part ∙ ap (λ cells. take at row ++ cells) (is ∙ ap g (take_rest row at))

pub length-rest : (at : ℕ) (row : List Cell) → length (take (length row - at) (drop at row)) ≡ length row - at
length-rest at row = ap length (take_rest row at) ∙ length-drop at row

pub length-lent : (at : ℕ) (row part : List Cell) → at ≤ length row → length part ≡ length row - at
    → length (lent_from at row part) ≡ length row
length-lent at row part le e = simp (length-append, length-take, length-drop) (omega arith)

-- ---- in no column nothing shows

pub span-none : (style : Style) (text : List ℕ) → span_rendered style text [] ≡ []
span-none style text = sym (rendered-nothing style text [] refl)

parts-none : (ps : List Part) → parts_rendered ps [] ≡ []
unfolding parts_then
parts-none [] = refl
parts-none (p ∷ ps) = rw (take-nil p.indent, drop-nil p.indent, span-none p.style p.content, take-nil p.width, drop-nil p.width)
    (parts-none ps)

-- ---- parts one after the other

columns_left-more : (n : ℕ) (ps : List Part) (p : Part) → columns_left n (ps ++ p ∷ []) ≡ columns_left n ps - p.indent - p.width
columns_left-more n [] p = refl
columns_left-more n (q ∷ ps) p = columns_left-more (n - q.indent - q.width) ps p

short-left : (n : ℕ) (ps left : List Part) → AreShortParts n (ps ++ left) → AreShortParts (columns_left n ps) left
unfolding AreShortParts
short-left n [] left short = short
short-left n (p ∷ ps) left short = short-left (n - p.indent - p.width) ps left short.1

-- these parts but for those that are left are rendered, in the columns before start
pub record HasDone (ps left : List Part) (start : ℕ) (old row : List Cell) : Type 0 where
  pub whole : List Part
  pub are : ps ≡ whole ++ left
  pub columns : columns_left (length old) whole ≡ length row - start
  pub follows : (f : List Cell → List Cell) (qs : List Part)
      → after_first start (parts_then f qs) row ≡ parts_then f (whole ++ qs) old

-- if none is left, all are
pub done-all : (ps left : List Part) (start : ℕ) (old row : List Cell) → left ≡ [] → HasDone ps left start old row
    → row ≡ parts_rendered ps old
unfolding parts_then
done-all ps left start old row none h =
    sym (take-append-drop start row) ∙ h.follows (λ cells. cells) [] ∙ ap (λ qs. parts_rendered qs old)
    (ap (λ qs. h.whole ++ qs) (sym none) ∙ sym h.are)

-- the next span: its part, if it has one
module _ (ps : List Part) (skip i width start : ℕ) (spans : List SpanData) (span : SpanData) (old row : List Cell)
    (lt : i < length spans) (is : span ≡ slice_index_or spans i span) (wide : width ≡ span_width span)
    (h : HasDone ps (parts skip (drop i spans)) start old row) where
  rest-is : drop i spans ≡ span ∷ drop (i + 1) spans
  rest-is = drop_more spans i span lt ∙ ap (λ s. s ∷ drop (i + 1) spans) (sym is)

  pub done-skip : width ≤ skip → HasDone ps (parts (skip - width) (drop (i + 1) spans)) start old row
  done-skip le = subst (λ left. HasDone ps left start old row) (ap (parts skip) rest-is
      ∙ rw wide (parts-skip skip span (drop (i + 1) spans) (omega arith))) h

  pub done-next : skip < width → HasDone ps (part_of skip span ∷ parts 0 (drop (i + 1) spans)) start old row
  done-next lt = subst (λ left. HasDone ps left start old row) (ap (parts skip) rest-is
      ∙ parts-take skip span (drop (i + 1) spans) (omega arith)) h

-- the next part, in the columns from start on, and after its indent
module _ (ps : List Part) (p : Part) (left : List Part) (start indent : ℕ) (old row : List Cell) (within : start ≤ length row)
    (indent-is : indent ≡ min p.indent (length row - start)) (h : HasDone ps (p ∷ left) start old row) where
  abbrev at : ℕ
  at = start + indent

  before : take at row ≡ take start row ++ take p.indent (drop start row)
  before = rw (indent-is, ← length-drop start row) (take-add start _ row ∙ ap (λ cells. take start row ++ cells)
      (take_min p.indent (drop start row)))

  behind : drop at row ≡ drop p.indent (drop start row)
  behind = rw (indent-is, ← length-drop start row) (sym (drop-drop _ start row) ∙ drop_min p.indent (drop start row))

  -- what f makes of the columns after its indent
  indented : (f : List Cell → List Cell) → take at row ++ f (drop at row) ≡ after_first start (after_first p.indent f) row
  indented f = rw (before, behind) (append_assoc (take start row) (take p.indent (drop start row))
      (f (drop p.indent (drop start row))))

  -- the part, and what f makes of the columns after it
  abbrev shown : (List Cell → List Cell) → List Cell → List Cell
  shown f cells = after_first p.width f (span_rendered p.style p.content cells)

  -- no column is left for it and the others
  pub done-past : at ≡ length row → row ≡ parts_rendered ps old
  unfolding parts_then
  done-past past =
      let all : take at row ≡ row = take_all at row (omega arith) in
      let none : drop at row ≡ [] = drop_all at row (omega arith) in
      let nothing : shown (parts_rendered left) [] ≡ [] = rw (span-none p.style p.content, take-nil p.width, drop-nil p.width)
      (parts-none left) in
      sym (append-nil row) ∙ rw (← nothing, ← none) (ap (λ cells. cells ++ shown (parts_rendered left) (drop at row)) (sym all))
      ∙ indented (shown (parts_rendered left)) ∙ h.follows (λ cells. cells) (p ∷ left) ∙ ap (λ qs. parts_rendered qs old)
      (sym h.are)

  -- it is rendered
  pub done-turn : (part : List Cell) (width : ℕ) → part ≡ span_rendered p.style p.content (take (length row - at) (drop at row))
      → width ≡ min p.width (length row - at)
      → length (lent_from at row part) ≡ length row → HasDone ps left (at + width) old (lent_from at row part)
  unfolding parts_then
  done-turn part width is width-is count = record {
    whole = h.whole ++ p ∷ [];
    are = h.are ∙ sym (append_assoc h.whole (p ∷ []) left);
    columns = columns_left-more (length old) h.whole p ∙ omega (arith, h.columns, count, indent-is, width-is, within);
    follows = λ f qs.
        let cells : List Cell = span_rendered p.style p.content (drop at row) in
        let len : length (take at row) ≡ at = length-take-le at row (omega arith) in
        let columns : length cells ≡ length row - at = length-span_rendered p.style p.content (drop at row)
        ∙ length-drop at row in
        let end : at + width ≡ length (take at row) + min p.width (length cells) = omega arith in
        let after : after_first (at + width) (parts_then f qs) (take at row ++ cells) ≡ take at row ++ shown (parts_then f qs)
        (drop at row) =
        rw (
          end,
          take-append-add (take at row) cells _,
          drop-append-add (take at row) cells _,
          take_min p.width cells,
          drop_min p.width cells,
        ) (append_assoc (take at row) (take p.width cells) _) in
        ap (after_first (at + width) (parts_then f qs)) (put-made (span_rendered p.style p.content) at row part is) ∙ after
        ∙ indented (shown (parts_then f qs)) ∙ h.follows f (p ∷ qs) ∙ ap (λ rs. parts_then f rs old)
        (sym (append_assoc h.whole (p ∷ []) qs));
  }

  -- it takes no memory if all don't
  pub done-short : AreShortParts (length old) ps → IsShortSpan (length (take (length row - at) (drop at row))) p.content
  unfolding AreShortParts
  done-short short =
      let columns : columns_left (length old) h.whole - p.indent ≡ length (take (length row - at) (drop at row)) =
      omega (arith, h.columns, indent-is, within, length-rest at row) in
      subst (λ n. IsShortSpan n p.content) columns (short-left (length old) h.whole (p ∷ left)
      (subst (AreShortParts (length old)) h.are short)).0

  -- it was refused memory
  pub done-refused : (part : List Cell) → HasFrontOfSpan p.style p.content (take (length row - at) (drop at row)) part
      → HasFrontOfParts ps old (lent_from at row part)
  unfolding parts_then
  done-refused part front =
      let columns : length (take (length row - at) (drop at row)) ≡ columns_left (length old) h.whole - p.indent =
      omega (arith, h.columns, indent-is, within, length-rest at row) in
      let f : List Cell → List Cell = graphemes_rendered p.style front.front in
      record {
        whole = h.whole;
        next = p;
        others = left;
        are = h.are;
        front = front.front;
        is = subst (λ n. IsShownFront n p.content front.front) columns front.is;
        row = put-made f at row part front.row ∙ indented f ∙ h.follows (after_first p.indent f) []
            ∙ ap (λ qs. parts_then (after_first p.indent f) qs old) (append-nil h.whole);
      }

-- the line was: its style lies over the row, and at columns stand before its parts
pub refused-line : (alignment : Option HorizontalAlignment) (line : LineData) (old laid : List Cell) (at skip : ℕ)
    (spans : List SpanData) (left : List Cell)
    → laid ≡ map (styled line.style) old → at ≡ columns_before alignment (length old - line_width line.spans)
    → skip ≡ columns_before alignment (line_width line.spans - length old)
    → spans ≡ line.spans → HasFrontOfParts (parts skip spans) (take (length laid - at) (drop at laid)) left
    → HasFrontOfLine alignment line old (lent_from at laid left)
refused-line alignment line old laid at skip spans left l a s e front = record {
  left = left;
  parts_are = rw (take_rest laid at, l, a, s, e) at front;
  row = put-part at laid left ∙ rw (l, a) refl;
}

pub part-style : (skip : ℕ) (s : SpanData) → (part_of skip s).style ≡ s.style
part-style skip s = cond_both _ _ _ (λ (p : Part). p.style ≡ s.style) (λ _. refl) (λ _. refl)

-- a line without spans leaves the row as it is
pub line-none : (alignment : Option HorizontalAlignment) (row : List Cell) → line_rendered alignment (line_of []) row ≡ row
unfolding line_rendered
line-none alignment row = cond_both _ row row (λ cells. cells ≡ row) (λ _. refl) (λ _. refl)

-- in no column nothing of a line shows
pub line-in_none : (alignment : Option HorizontalAlignment) (line : LineData) → line_rendered alignment line [] ≡ []
unfolding line_rendered
line-in_none alignment line = refl

pub ruleset end_steps = (last_fitting-fits, last_fitting-drop)

pub ruleset spans_steps = (parts-nil, parts-skip, parts-take)
