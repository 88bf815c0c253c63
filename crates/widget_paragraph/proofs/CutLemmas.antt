-- A line that is cut, grapheme by grapheme.
use Rattle.std.proofs.Common.{◌≡◌, ℕ, ◌+◌, ◌-◌, ◌<◌, ◌≤◌, ◌&&◌, not, nat_lt, nat_le, true, false, List, [], ◌∷◌}
use Rattle.std.proofs.Common.{All, filter, take, ⊎_elim, refl, sym, ap, ◌∙◌, arith}
use Rattle.std.proofs.lemmas.{Bool.cases_lt, Bool.and_right, Bool.cond_both, Bool.Decides.nat_tests}
use Rattle.std.proofs.lemmas.List.Elements.{All-nil, All-head, All-tail, All-append, All-filter, All-map, All-take}
use Rattle.unicode_segmentation.specs.Grapheme.{graphemes}
use Rattle.ratatui_core.specs.{Style.Style, Style.patch}
use Rattle.ratatui_core.specs.Text.{GraphemeData, SpanData, has_control, line_graphemes, EachGrapheme, EachSpanGrapheme}
use Rattle.ratatui_core.specs.Buffer.{IsShort}
use Rattle.widget_paragraph.specs.Reflow.{grapheme_columns, fits_row, after_columns, fitting_front, cut_row}
use Rattle.widget_paragraph.proofs.ReflowLemmas.{count-next}

-- ---- what is left of a row

-- of these graphemes, with so many columns used, and others to be left out
abbrev row_left : ℕ → ℕ → ℕ → List GraphemeData → List GraphemeData
row_left width used offset gs = fitting_front (width - used) (after_columns offset (filter (fits_row width) gs))

after-none : (gs : List GraphemeData) → after_columns 0 gs ≡ gs
after-none [] = refl
after-none (g ∷ gs) = refl

skip-not : (n m : ℕ) → (0 < n → n < m) → (nat_lt 0 n && nat_le m n) ≡ false
skip-not n m lt = ⊎_elim
    (λ (some : 0 < n). let less = lt some in let f : nat_le m n ≡ false = grind (arith, nat_tests) in
    and_right (nat_lt 0 n) (nat_le m n) f)
    (λ (le : n ≤ 0). let f : nat_lt 0 n ≡ false = grind (arith, nat_tests) in rw f refl)
    (cases_lt 0 n)

module _ (width used offset w : ℕ) (d : GraphemeData) (left others : List GraphemeData) (is : left ≡ d ∷ others)
    (columns : w ≡ grapheme_columns d) where
  kept : w ≤ width → filter (fits_row width) left ≡ d ∷ filter (fits_row width) others
  kept fits =
      let on : fits_row width d ≡ true = grind (arith, nat_tests) in
      ap (filter (fits_row width)) is ∙ rw on refl

  here : w ≤ width → (0 < offset → offset < w)
      → after_columns offset (filter (fits_row width) left) ≡ d ∷ filter (fits_row width) others
  here fits stops =
      let off : (nat_lt 0 offset && nat_le (grapheme_columns d) offset) ≡ false = skip-not offset (grapheme_columns d)
      (λ some. (let lt = stops some in omega arith)) in
      ap (after_columns offset) (kept fits) ∙ rw off refl

  -- it is the next one of the row
  pub cut-turn : w ≤ width → w ≤ width - used → (0 < offset → offset < w)
      → row_left width used offset left ≡ d ∷ row_left width (used + w) 0 others
  cut-turn fits room stops =
      let more : width - used - grapheme_columns d ≡ width - (used + w) = omega arith in
      ap (fitting_front (width - used)) (here fits stops)
      ∙ ap (λ n. take n (d ∷ filter (fits_row width) others)) (count-next (width - used) d
      (filter (fits_row width) others) (omega arith))
      ∙ ap (λ n. d ∷ fitting_front n (filter (fits_row width) others)) more
      ∙ ap (λ gs. d ∷ fitting_front (width - (used + w)) gs) (sym (after-none (filter (fits_row width) others)))

-- ---- what takes no memory

abbrev IsShortOne : GraphemeData → Type 0
IsShortOne g = IsShort g.symbol

short-after : (n : ℕ) (gs : List GraphemeData) → All IsShortOne gs → All IsShortOne (after_columns n gs)
short-after n [] all = all
short-after n (g ∷ gs) all =
    cond_both (nat_lt 0 n && nat_le (grapheme_columns g) n) (after_columns (n - grapheme_columns g) gs) (g ∷ gs) (All IsShortOne)
    (λ _. short-after (n - grapheme_columns g) gs (All-tail IsShortOne g gs all)) (λ _. all)

-- a row of short graphemes
pub short-cut : (width offset : ℕ) (gs : List GraphemeData) → All IsShortOne gs → All IsShortOne (cut_row width offset gs)
short-cut width offset gs all =
    All-take IsShortOne _ (after_columns offset (filter (fits_row width) gs))
    (short-after offset (filter (fits_row width) gs) (All-filter (fits_row width) IsShortOne gs all))

-- the graphemes of short spans
pub short-line : (base : Style) (spans : List SpanData) → EachSpanGrapheme IsShort spans
    → All IsShortOne (line_graphemes base spans)
short-line base [] all = All-nil IsShortOne
short-line base (s ∷ ss) all =
    let shown = filter (λ g. not (has_control g)) (graphemes true s.content) in
    All-append IsShortOne _ (line_graphemes base ss)
    (All-map IsShortOne (λ g. record { symbol = g; style = patch base s.style }) shown
    (All-filter (λ g. not (has_control g)) IsShort (graphemes true s.content)
    (All-head (λ (t : SpanData). EachGrapheme IsShort t.content) s ss all)))
    (short-line base ss (All-tail (λ (t : SpanData). EachGrapheme IsShort t.content) s ss all))
