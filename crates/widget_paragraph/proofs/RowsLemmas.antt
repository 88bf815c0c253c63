-- The rows of a paragraph, painted one after the other.
use Rattle.std.proofs.Common.{◌≡◌, ℕ, zero, suc, ◌+◌, ◌-◌, ◌<◌, ◌≤◌, ◌++◌, ⊎_elim, Bool, true, false, nat_lt, All, List, [], ◌∷◌}
use Rattle.std.proofs.Common.{map, filter, take, drop, length, Some, None, refl, sym, ap, ap₂, subst, ◌∙◌, arith, slice_index_or}
use Rattle.std.specs.List.{flat_map}
use Rattle.std.proofs.lemmas.{Bool.cases_lt, Bool.cases_Bool, Bool.Decides.nat_tests}
use Rattle.std.proofs.lemmas.List.Elements.{All-nil, All-cons, All-head, All-tail, filter-append}
use Rattle.std.proofs.lemmas.List.{length-drop, take-append-drop, drop_more, drop_all, append_assoc, append-nil}
use Rattle.std.proofs.lemmas.List.{drop-map}
use Rattle.ratatui_core.specs.{Layout.Rect}
use Rattle.ratatui_core.specs.{declared.layout.HorizontalAlignment.HorizontalAlignment}
use Rattle.ratatui_core.specs.Text.{GraphemeData, LineData, has_control}
use Rattle.ratatui_core.specs.Buffer.{BufferData, PaintsPieces, columns, painted_width, text_width, text_pieces, right_by}
use Rattle.ratatui_core.specs.Buffer.{position_of}
use Rattle.ratatui_core.proofs.BufferLemmas.{PaintsPieces-append, PaintsPieces-none, grapheme-piece, pieces-wide}
use Rattle.ratatui_core.proofs.BufferLemmas.{text_pieces-none}
use Rattle.ratatui_core.specs.declared.layout.HorizontalAlignment.TheVariants.{Left, Center, Right}
use Rattle.widget_paragraph.specs.{declared.paragraph.Paragraph.Paragraph, declared.paragraph.Wrap.Wrap}
use Rattle.widget_paragraph.specs.Reflow.{grapheme_columns, columns_taken, words_of, is_of_word, AllFit, cut_row}
use Rattle.widget_paragraph.specs.Reflow.{after_columns, fits_row, split_row, rows_within, broken_rows}
use Rattle.widget_paragraph.specs.Paragraphs.{TextRow, alignment_of, graphemes_of, IsSingleGrapheme, row_pieces}
use Rattle.widget_paragraph.specs.Paragraphs.{aligned_rows, cut_line, broken_line, rows_of_lines, rows_shown, indent_of}
use Rattle.widget_paragraph.specs.Paragraphs.{PaintsGrapheme, PaintsGraphemes, PaintsRow, PaintsRows}
use Rattle.widget_paragraph.specs.{declared.paragraph.Filling.Filling, Inner.PaintsOn}
use Rattle.widget_paragraph.proofs.ReflowLemmas.{split_row-is, fit-past, count-fits, columns-next}

-- a row that fits ends in its area
pub indent-fits : (a : HorizontalAlignment) (width room : ℕ) → width ≤ room → indent_of a width room + width ≤ room
indent-fits Left width room le = omega arith
indent-fits Center width room le = omega arith
indent-fits Right width room le = omega arith

pub cut-fits : (width offset : ℕ) (gs : List GraphemeData) → columns_taken (cut_row width offset gs) ≤ width
cut-fits width offset gs = count-fits (after_columns offset (filter (fits_row width) gs)) width

-- ---- graphemes

-- one grapheme more
pub graphemes-next : (x y : ℕ) (g : GraphemeData) (gs : List GraphemeData) (now mid new : BufferData)
    → PaintsGrapheme x y g now mid → PaintsGraphemes (x + grapheme_columns g) y gs mid new → PaintsGraphemes x y (g ∷ gs) now new
graphemes-next x y g gs now mid new first rest = record { between = mid; first = first; second = rest }

-- to paint what is left is to paint all
abbrev pub FinishesRow : ℕ → ℕ → List GraphemeData → ℕ → List GraphemeData → BufferData → BufferData → Type 0
FinishesRow y x left start all old now = (new : BufferData) → PaintsGraphemes x y left now new
    → PaintsGraphemes start y all old new

pub row-next : (y x start : ℕ) (g : GraphemeData) (left rest all : List GraphemeData) (old now mid : BufferData) → left ≡ g ∷ rest
    → FinishesRow y x left start all old now → PaintsGrapheme x y g now mid
    → FinishesRow y (x + grapheme_columns g) rest start all old mid
row-next y x start g left rest all old now mid is finishes made = λ new others.
    finishes new (subst (λ gs. PaintsGraphemes x y gs now new) (sym is) (graphemes-next x y g rest now mid new made others))

-- ---- rows

-- as much fuel as there are graphemes is enough
fuel-same : (n m width : ℕ) (trim : Bool) (gs : List GraphemeData) → AllFit width gs → length gs ≤ n → length gs ≤ m
    → rows_within n width trim gs ≡ rows_within m width trim gs
fuel-same zero zero width trim gs fit le more = refl
fuel-same zero (suc m) width trim [] fit le more = refl
fuel-same zero (suc m) width trim (g ∷ gs) fit le more = absurd (omega arith)
fuel-same (suc n) zero width trim [] fit le more = refl
fuel-same (suc n) zero width trim (g ∷ gs) fit le more = absurd (omega arith)
fuel-same (suc n) (suc m) width trim [] fit le more = refl
fuel-same (suc n) (suc m) width trim (g ∷ gs) fit le more =
    let split = split_row width trim (g ∷ gs) in
    let is = split_row-is width trim (g ∷ gs) fit in
    let rest = drop split.1 (g ∷ gs) in
    let some = is.some (omega arith) in
    let less : length rest ≡ length (g ∷ gs) - split.1 = length-drop split.1 (g ∷ gs) in
    ap (λ rows. split.0 ∷ rows) (fuel-same n m width trim rest (fit-past width split.1 (g ∷ gs) fit) (omega arith) (omega arith))

-- the rows of graphemes that are left of a line
abbrev pub rows_left : ℕ → Bool → List GraphemeData → List (List GraphemeData)
rows_left width trim gs = rows_within (length gs) width trim gs

pub rows-next : (width : ℕ) (trim : Bool) (gs : List GraphemeData) → AllFit width gs → 0 < length gs
    → rows_left width trim gs ≡ (split_row width trim gs).0 ∷ rows_left width trim (drop (split_row width trim gs).1 gs)
rows-next width trim [] fit some = absurd (omega arith)
rows-next width trim (g ∷ gs) fit some =
    let split = split_row width trim (g ∷ gs) in
    let is = split_row-is width trim (g ∷ gs) fit in
    let rest = drop split.1 (g ∷ gs) in
    let one = is.some (omega arith) in
    let less : length rest ≡ length (g ∷ gs) - split.1 = length-drop split.1 (g ∷ gs) in
    ap (λ rows. split.0 ∷ rows) (fuel-same (length gs) (length rest) width trim rest (fit-past width split.1 (g ∷ gs) fit)
    (omega arith) (omega arith))

-- An area was filled so far, from a start on: to paint the rows that are left, and whatever rows come after them, is to paint all.
abbrev pub FinishesRows : Rect → Filling → List TextRow → Filling → List TextRow → BufferData → BufferData → Type 0
FinishesRows r at left start all old now =
    (more : List TextRow) (new : BufferData)
    → PaintsRows r (r.y + at.row) (rows_shown (r.height - at.row) at.skip (left ++ more)) now new
    → PaintsRows r (r.y + start.row) (rows_shown (r.height - start.row) start.skip (all ++ more)) old new

-- the rows of a line are painted, and those of the lines after it are left
pub rows-line : (r : Rect) (at next start : Filling) (line rest left all : List TextRow) (old now mid : BufferData)
    → left ≡ line ++ rest → FinishesRows r at left start all old now → PaintsOn r at next line now mid
    → FinishesRows r next rest start all old mid
rows-line r at next start line rest left all old now mid is finishes paints = λ more new others.
    let same : line ++ (rest ++ more) ≡ left ++ more = sym (append_assoc line rest more) ∙ ap (λ rows. rows ++ more) (sym is) in
    finishes more new (subst (λ rows. PaintsRows r (r.y + at.row) (rows_shown (r.height - at.row) at.skip rows) now new) same
    (paints (rest ++ more) new others))

-- all is painted
pub rows-done : (r : Rect) (at : Filling) (first : ℕ) (left all : List TextRow) (old now : BufferData)
    → rows_shown (r.height - at.row) at.skip left ≡ [] → FinishesRows r at left (record { skip = first; row = 0 }) all old now
    → PaintsRows r r.y (rows_shown r.height first all) old now
rows-done r at first left all old now none finishes =
    let y : r.y + 0 ≡ r.y = omega arith in
    let h : r.height - 0 ≡ r.height = omega arith in
    let same : rows_shown (r.height - at.row) at.skip (left ++ []) ≡ [] =
    ap (rows_shown (r.height - at.row) at.skip) (append-nil left) ∙ none in
    let made = finishes [] now (subst (λ rows. PaintsRows r (r.y + at.row) rows now now) (sym same) refl) in
    subst (λ rows. PaintsRows r r.y (rows_shown r.height first rows) old now) (append-nil all)
    (subst (λ z. PaintsRows r z (rows_shown r.height first (all ++ [])) old now) y
    (subst (λ z. PaintsRows r (r.y + 0) (rows_shown z first (all ++ [])) old now) h made))

drop-none : (skip : ℕ) (left : List TextRow) → left ≡ [] → drop skip left ≡ []
drop-none zero left none = none
drop-none (suc n) left none = rw none refl

take-none : (n : ℕ) (left : List TextRow) → left ≡ [] → take n left ≡ []
take-none zero left none = refl
take-none (suc n) left none = rw none refl

pub shown-none : (n skip : ℕ) (left : List TextRow) → left ≡ [] → rows_shown n skip left ≡ []
shown-none n skip left none = take-none n (drop skip left) (drop-none skip left none)

pub shown-full : (n skip : ℕ) (left : List TextRow) → n ≡ 0 → rows_shown n skip left ≡ []
shown-full n skip left none = ap (λ k. take k (drop skip left)) none

-- ---- what rows keep

fit-one : (width : ℕ) (row : List GraphemeData) (rows : List (List GraphemeData)) → columns_taken row ≤ width
    → All (λ r. columns_taken r ≤ width) rows → All (λ r. columns_taken r ≤ width) (row ∷ rows)
fit-one width row rows one all = All-cons (λ r. columns_taken r ≤ width) row rows one all

fit-within : (n width : ℕ) (trim : Bool) (gs : List GraphemeData) → AllFit width gs
    → All (λ r. columns_taken r ≤ width) (rows_within n width trim gs)
fit-within zero width trim gs fit = All-nil (λ r. columns_taken r ≤ width)
fit-within (suc n) width trim [] fit = All-nil (λ r. columns_taken r ≤ width)
fit-within (suc n) width trim (g ∷ gs) fit =
    let split = split_row width trim (g ∷ gs) in
    fit-one width split.0 (rows_within n width trim (drop split.1 (g ∷ gs))) (split_row-is width trim (g ∷ gs) fit).fits
    (fit-within n width trim (drop split.1 (g ∷ gs)) (fit-past width split.1 (g ∷ gs) fit))

pub rows-fit : (width : ℕ) (trim : Bool) (gs : List GraphemeData) → AllFit width gs
    → All (λ r. columns_taken r ≤ width) (broken_rows width trim gs)
rows-fit width trim [] fit = fit-one width [] [] (omega arith) (All-nil (λ r. columns_taken r ≤ width))
rows-fit width trim (g ∷ gs) fit = fit-within (length (g ∷ gs)) width trim (g ∷ gs) fit

keep-within : (n width : ℕ) (trim : Bool) (gs : List GraphemeData) → AllFit width gs → length gs ≤ n
    → flat_map words_of (rows_within n width trim gs) ≡ words_of gs
keep-within zero width trim [] fit le = refl
keep-within zero width trim (g ∷ gs) fit le = absurd (omega arith)
keep-within (suc n) width trim [] fit le = refl
keep-within (suc n) width trim (g ∷ gs) fit le =
    let split = split_row width trim (g ∷ gs) in
    let is = split_row-is width trim (g ∷ gs) fit in
    let rest = drop split.1 (g ∷ gs) in
    let one = is.some (omega arith) in
    let less : length rest ≡ length (g ∷ gs) - split.1 = length-drop split.1 (g ∷ gs) in
    let others = keep-within n width trim rest (fit-past width split.1 (g ∷ gs) fit) (omega arith) in
    ap (λ ws. ws ++ flat_map words_of (rows_within n width trim rest)) (sym is.keeps)
    ∙ (ap (λ ws. words_of (take split.1 (g ∷ gs)) ++ ws) others
    ∙ (sym (filter-append is_of_word (take split.1 (g ∷ gs)) rest) ∙ ap words_of (take-append-drop split.1 (g ∷ gs))))

pub rows-keep : (width : ℕ) (trim : Bool) (gs : List GraphemeData) → AllFit width gs
    → flat_map words_of (broken_rows width trim gs) ≡ words_of gs
rows-keep width trim [] fit = refl
rows-keep width trim (g ∷ gs) fit = keep-within (length (g ∷ gs)) width trim (g ∷ gs) fit (omega arith)

-- ---- whole graphemes

shown-width : (text : List ℕ) → has_control text ≡ false → painted_width text ≡ text_width text
unfolding painted_width
shown-width text shows = rw shows refl

pieces-one : (g : GraphemeData) (gs : List GraphemeData) → IsSingleGrapheme g
    → row_pieces (g ∷ gs) ≡ text_pieces (grapheme_columns g) g.style g.symbol ++ row_pieces gs
pieces-one g gs is =
    let width = shown-width g.symbol is.shows in
    ⊎_elim
    (λ (some : 0 < grapheme_columns g).
    let t : nat_lt 0 (grapheme_columns g) ≡ true = grind (arith, nat_tests) in
    rw (t, grapheme-piece (grapheme_columns g) g.style g.symbol is.one (omega arith) (omega arith)) refl)
    (λ (le : grapheme_columns g ≤ 0).
    let t : nat_lt 0 (grapheme_columns g) ≡ false = grind (arith, nat_tests) in
    rw (t, text_pieces-none (grapheme_columns g) g.style g.symbol (omega arith)) refl)
    (cases_lt 0 (grapheme_columns g))

columns-one : (g : GraphemeData) → IsSingleGrapheme g
    → columns (text_pieces (grapheme_columns g) g.style g.symbol) ≡ grapheme_columns g
columns-one g is =
    let width = shown-width g.symbol is.shows in
    ⊎_elim
    (λ (some : 0 < grapheme_columns g). ap columns (grapheme-piece (grapheme_columns g) g.style g.symbol is.one (omega arith)
    (omega arith)) ∙ omega arith)
    (λ (le : grapheme_columns g ≤ 0). ap columns (text_pieces-none (grapheme_columns g) g.style g.symbol (omega arith))
    ∙ omega arith)
    (cases_lt 0 (grapheme_columns g))

pub whole-together : (x y : ℕ) (gs : List GraphemeData) (old new : BufferData) → old.area.x ≤ x → All IsSingleGrapheme gs
    → PaintsGraphemes x y gs old new → PaintsPieces (position_of (x, y)) (row_pieces gs) old new
whole-together x y [] old new starts all same = rw same (PaintsPieces-none (position_of (x, y)) [] old refl)
whole-together x y (g ∷ gs) old new starts all made =
    let is = All-head IsSingleGrapheme g gs all in
    let ps = text_pieces (grapheme_columns g) g.style g.symbol in
    let mid = made.between in
    let area : mid.area ≡ old.area = made.first.area in
    let left : mid.area.x ≡ old.area.x = ap (λ a. a.x) area in
    let rest = whole-together (x + grapheme_columns g) y gs mid new (omega arith)
    (All-tail IsSingleGrapheme g gs all) made.second in
    let there : PaintsPieces (right_by (columns ps) (position_of (x, y))) (row_pieces gs) mid new =
    subst (λ n. PaintsPieces (position_of (x + n, y)) (row_pieces gs) mid new) (sym (columns-one g is)) rest in
    subst (λ qs. PaintsPieces (position_of (x, y)) qs old new) (sym (pieces-one g gs is))
    (PaintsPieces-append (position_of (x, y)) ps (row_pieces gs) old mid new starts
    (pieces-wide (grapheme_columns g) g.style g.symbol) made.first there)

-- ---- a row for each line

-- to paint the rows from the k-th shown one on is to paint all that are shown
abbrev pub FinishesCut : Rect → ℕ → ℕ → List TextRow → BufferData → BufferData → Type 0
FinishesCut r k first all old now =
    (new : BufferData) → PaintsRows r (r.y + k) (rows_shown (r.height - k) (first + k) all) now new
    → PaintsRows r r.y (rows_shown r.height first all) old new

pub cut-next : (r : Rect) (k first : ℕ) (row : TextRow) (all : List TextRow) (old now mid : BufferData) → k < r.height
    → drop (first + k) all ≡ row ∷ drop (first + (k + 1)) all → FinishesCut r k first all old now
    → PaintsRow r (r.y + k) row now mid
    → FinishesCut r (k + 1) first all old mid
cut-next r k first row all old now mid lt is finishes made = λ new others.
    let e : r.height - k ≡ suc (r.height - (k + 1)) = omega arith in
    let y : r.y + (k + 1) ≡ r.y + k + 1 = omega arith in
    let same : rows_shown (r.height - k) (first + k) all ≡ row ∷ rows_shown (r.height - (k + 1)) (first + (k + 1)) all =
    ap (take (r.height - k)) is ∙ ap (λ h. take h (row ∷ drop (first + (k + 1)) all)) e in
    finishes new (subst (λ rows. PaintsRows r (r.y + k) rows now new) (sym same)
    (record {
      between = mid;
      first = made;
      second = subst (λ z. PaintsRows r z (rows_shown (r.height - (k + 1)) (first + (k + 1)) all) mid new) y others;
    }))

-- ---- a loop over graphemes

pub grapheme-turn : (row : List GraphemeData) (i used w width : ℕ) (d : GraphemeData) → i < length row
    → w ≡ grapheme_columns (slice_index_or row i d) → used + columns_taken (drop i row) ≤ width
    → used + w + columns_taken (drop (i + 1) row) ≤ width
grapheme-turn row i used w width d lt is fits =
    let e : columns_taken (drop i row) ≡ w + columns_taken (drop (i + 1) row) =
    ap columns_taken (drop_more row i d lt) ∙ (columns-next (slice_index_or row i d) (drop (i + 1) row)
    ∙ ap (λ n. n + columns_taken (drop (i + 1) row)) (sym is)) in
    omega arith

pub row-turn : (row : List GraphemeData) (i y x used w start : ℕ) (d : GraphemeData) (old now mid : BufferData)
    → i < length row → w ≡ grapheme_columns (slice_index_or row i d) → FinishesRow y (x + used) (drop i row) start row old now
    → PaintsGrapheme (x + used) y (slice_index_or row i d) now mid
    → FinishesRow y (x + (used + w)) (drop (i + 1) row) start row old mid
row-turn row i y x used w start d old now mid lt is finishes made = λ new others.
    let place : x + (used + w) ≡ x + used + grapheme_columns (slice_index_or row i d) = omega arith in
    row-next y (x + used) start (slice_index_or row i d) (drop i row) (drop (i + 1) row) row old now mid (drop_more row i d lt)
    finishes made new (subst (λ z. PaintsGraphemes z y (drop (i + 1) row) mid new) place others)

-- ---- a loop over the rows of a line

-- the row at the front of those that are left, and the rows after it
pub left-next : (width : ℕ) (trim : Bool) (gs row : List GraphemeData) (count : ℕ) → AllFit width gs → 0 < length gs
    → (row, count) ≡ split_row width trim gs
    → rows_left width trim gs ≡ row ∷ rows_left width trim (drop count gs)
left-next width trim gs row count fit some is =
    rows-next width trim gs fit some ∙ ap (λ s. s.0 ∷ rows_left width trim (drop s.1 gs)) (sym is)

pub fitting-fit : (width : ℕ) (gs : List GraphemeData) → AllFit width (filter (fits_row width) gs)
fitting-fit width [] = refl
fitting-fit width (g ∷ gs) = ⊎_elim
    (λ (fits : fits_row width g ≡ true). rw fits (rw fits (fitting-fit width gs)))
    (λ (off : fits_row width g ≡ false). rw off (fitting-fit width gs))
    (cases_Bool (fits_row width g))

-- ---- a loop over lines

pub lines-next : (p : Paragraph) (width : ℕ) (wrap : Wrap) (lines : List LineData) (i : ℕ) (line : LineData) → i < length lines
    → line ≡ slice_index_or lines i line
    → rows_of_lines (Some wrap) p width (drop i lines) ≡ broken_line p width wrap line ++ rows_of_lines (Some wrap) p width
    (drop (i + 1) lines)
lines-next p width wrap lines i line lt is = ap (rows_of_lines (Some wrap) p width) (drop_more lines i line lt
    ∙ ap (λ l. l ∷ drop (i + 1) lines) (sym is))

pub lines-none : (p : Paragraph) (width : ℕ) (wrap : Wrap) (lines : List LineData) (i : ℕ) → length lines ≤ i
    → rows_of_lines (Some wrap) p width (drop i lines) ≡ []
lines-none p width wrap lines i le = ap (rows_of_lines (Some wrap) p width) (drop_all i lines le)

pub cut-line-next : (p : Paragraph) (width : ℕ) (lines : List LineData) (i : ℕ) (line : LineData) → i < length lines
    → line ≡ slice_index_or lines i line
    → drop i (rows_of_lines None p width lines) ≡ cut_line p width line ∷ drop (i + 1) (rows_of_lines None p width lines)
cut-line-next p width lines i line lt is =
    drop-map (cut_line p width) i lines
    ∙ (ap (map (cut_line p width)) (drop_more lines i line lt ∙ ap (λ l. l ∷ drop (i + 1) lines) (sym is))
    ∙ ap (λ rows. cut_line p width line ∷ rows) (sym (drop-map (cut_line p width) (i + 1) lines)))

-- the rows of a line are those of its graphemes that fit
pub rows-of-line : (p : Paragraph) (width : ℕ) (wrap : Wrap) (line : LineData) (a : HorizontalAlignment) (gs : List GraphemeData)
    → a ≡ alignment_of p line → gs ≡ filter (fits_row width) (graphemes_of p line)
    → aligned_rows a (broken_rows width wrap.trim gs) ≡ broken_line p width wrap line
rows-of-line p width wrap line a gs same fit = ap₂ (λ b ds. aligned_rows b (broken_rows width wrap.trim ds)) same fit

pub fit-of-line : (width : ℕ) (gs all : List GraphemeData) → gs ≡ filter (fits_row width) all → AllFit width gs
fit-of-line width gs all fit = subst (AllFit width) (sym fit) (fitting-fit width all)
