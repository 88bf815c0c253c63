-- A line of which as many graphemes are held as the next row needs.
use Rattle.std.proofs.Common.{◌≡◌, ℕ, suc, ◌+◌, ◌-◌, ◌<◌, ◌≤◌, ◌++◌, ◌⊎◌, ⊎_elim, Bool, true, false, if◌then◌else◌}
use Rattle.std.proofs.Common.{List, [], ◌∷◌, filter, take, drop, length, refl, sym, ap, ◌∙◌, inl, inr, arith}
use Rattle.std.proofs.Common.{append-nil}
use Rattle.std.specs.List.{prefix_len, list_all}
use Rattle.std.proofs.lemmas.Bool.{cases_lt, cases_Bool, and_parts}
use Rattle.std.proofs.lemmas.{List.Sums.sum_by-append, List.Folds.list_all-append}
use Rattle.std.proofs.Math.Seq.{take-append_seam}
use Rattle.std.proofs.lemmas.List.{take-append-le, drop-append-le, length-drop, length-take, drop-drop, take_rest}
use Rattle.ratatui_core.specs.{Text.GraphemeData}
use Rattle.widget_paragraph.specs.Reflow.{is_break, grapheme_columns, columns_taken, fits_row, AllFit, count_fitting}
use Rattle.widget_paragraph.specs.Reflow.{last_end, break_at_blank, break_in_word, break_before, row_break}
use Rattle.widget_paragraph.specs.Reflow.{trimmed_start, split_row}
use Rattle.widget_paragraph.specs.Inner.{columns_ahead, IsEnough, HasLeft, left_of}
use Rattle.widget_paragraph.specs.declared.ahead.Ahead.{Ahead}
use Rattle.widget_paragraph.proofs.ReflowLemmas.{columns-next, count-next, count-full}
use Rattle.widget_paragraph.proofs.ReflowLemmas.{last_end-le, fit-past, row_break-is}

-- ---- what comes after enough graphemes changes nothing of the next row

prefix-step : (b : Bool) (n m l : ℕ) → (n < l → m ≡ n) → (if b then 1 + n else 0) < suc l
    → (if b then 1 + m else 0) ≡ (if b then 1 + n else 0)
prefix-step true n m l same lt = ap (λ k. 1 + k) (same (omega arith))
prefix-step false n m l same lt = refl

-- the blanks at the front, if something stands after them
prefix-append : (gs more : List GraphemeData) → prefix_len is_break gs < length gs
    → prefix_len is_break (gs ++ more) ≡ prefix_len is_break gs
prefix-append [] more lt = absurd (omega arith)
prefix-append (g ∷ gs) more lt = prefix-step (is_break g) (prefix_len is_break gs) (prefix_len is_break (gs ++ more)) (length gs)
    (prefix-append gs more) lt

trimmed-append : (trim : Bool) (gs more : List GraphemeData) → trimmed_start trim gs < length gs
    → trimmed_start trim (gs ++ more) ≡ trimmed_start trim gs
trimmed-append true gs more lt = prefix-append gs more lt
trimmed-append false gs more lt = refl

some-columns : (n : ℕ) (gs : List GraphemeData) → n < columns_taken gs → 0 < length gs
some-columns n [] lt = absurd (omega arith)
some-columns n (g ∷ gs) lt = omega arith

count-append : (room : ℕ) (gs more : List GraphemeData) → room < columns_taken gs
    → count_fitting room (gs ++ more) ≡ count_fitting room gs
count-append room [] more lt = absurd (omega arith)
count-append room (g ∷ gs) more lt = ⊎_elim
    (λ (full : room < grapheme_columns g). count-full room g (gs ++ more) full ∙ sym (count-full room g gs full))
    (λ (le : grapheme_columns g ≤ room).
    let fewer : room - grapheme_columns g < columns_taken gs = omega (arith, columns-next g gs) in
    count-next room g (gs ++ more) le ∙ (ap suc (count-append (room - grapheme_columns g) gs more fewer)
    ∙ sym (count-next room g gs le)))
    (cases_lt room (grapheme_columns g))

count-short : (room : ℕ) (gs : List GraphemeData) → room < columns_taken gs → count_fitting room gs < length gs
count-short room [] lt = absurd (omega arith)
count-short room (g ∷ gs) lt = ⊎_elim
    (λ (full : room < grapheme_columns g). omega (arith, count-full room g gs full))
    (λ (le : grapheme_columns g ≤ room).
    let fewer : room - grapheme_columns g < columns_taken gs = omega (arith, columns-next g gs) in
    omega (arith, count-next room g gs le, count-short (room - grapheme_columns g) gs fewer))
    (cases_lt room (grapheme_columns g))

module _ (width : ℕ) (gs more : List GraphemeData) (lt : width < columns_taken gs) where
  abbrev fitting : ℕ
  fitting = count_fitting width gs

  short : fitting < length gs
  short = count-short width gs (omega arith)

  front : take fitting (gs ++ more) ≡ take fitting gs
  front = take-append-le fitting gs more (omega (arith, short))

  at-blank : break_at_blank (gs ++ more) fitting ≡ break_at_blank gs fitting
  at-blank = rw front refl

  in-word : break_in_word (gs ++ more) fitting ≡ break_in_word gs fitting
  in-word =
      let word = last_end is_break (take fitting gs) in
      let le : word ≤ fitting = omega (arith, last_end-le is_break (take fitting gs), length-take fitting gs) in
      let before : take word (gs ++ more) ≡ take word gs = take-append-le word gs more (omega (arith, short)) in
      rw (front, before) refl

  break-append : row_break width (gs ++ more) ≡ row_break width gs
  break-append = rw (count-append width gs more (omega arith), drop-append-le fitting gs more (omega (arith, short)))
      (cases (drop fitting gs) refl)
    where
      cases : (after : List GraphemeData) → drop fitting gs ≡ after
          → break_before (gs ++ more) fitting (after ++ more) ≡ break_before gs fitting after
      cases [] is = absurd (omega (arith, short, length-drop fitting gs, ap length is))
      cases (g ∷ after) is = by (is_break g)
        where
          by : (b : Bool) → (if b then break_at_blank (gs ++ more) fitting else break_in_word (gs ++ more) fitting)
              ≡ (if b then break_at_blank gs fitting else break_in_word gs fitting)
          by true = at-blank
          by false = in-word

-- a row of enough graphemes is the row of all
pub split-append : (width : ℕ) (trim : Bool) (gs more : List GraphemeData) → IsEnough width trim gs → AllFit width gs
    → split_row width trim (gs ++ more) ≡ split_row width trim gs
split-append width trim gs more lt fit =
    let start = trimmed_start trim gs in
    let rest = drop start gs in
    let some : 0 < length rest = some-columns width rest lt in
    let inside : start < length gs = omega (arith, length-drop start gs) in
    let ends = row_break width rest in
    let is = row_break-is width rest (fit-past width start gs fit) in
    let within : ends.0 ≤ length rest = omega (arith, is.ends, is.inside) in
    rw (trimmed-append trim gs more inside, drop-append-le start gs more (omega arith), break-append width rest more lt)
    (ap (λ row. (row, start + ends.1)) (take-append-le ends.0 rest more within))

-- the graphemes at the front fit, if all do
pub fit-front : (width : ℕ) (gs more : List GraphemeData) → AllFit width (gs ++ more) → AllFit width gs
fit-front width gs more fit = (and_parts (list_all (fits_row width) gs) (list_all (fits_row width) more)
    (sym (list_all-append (fits_row width) gs more) ∙ fit)).0

-- ---- one grapheme more is held

append-columns : (gs : List GraphemeData) (g : GraphemeData)
    → columns_taken (gs ++ g ∷ []) ≡ columns_taken gs + grapheme_columns g
append-columns gs g = sum_by-append grapheme_columns gs (g ∷ []) ∙ ap (λ n. columns_taken gs + n)
    (columns-next g [] ∙ omega arith)

-- columns after the blanks at the front, one grapheme further
abbrev after_blanks : List GraphemeData → ℕ
after_blanks gs = columns_taken (drop (prefix_len is_break gs) gs)

blanks-next : (g : GraphemeData) (gs : List GraphemeData) → is_break g ≡ true → after_blanks (g ∷ gs) ≡ after_blanks gs
blanks-next g gs blank =
    let one : prefix_len is_break (g ∷ gs) ≡ suc (prefix_len is_break gs) = rw blank (omega arith) in
    ap (λ n. columns_taken (drop n (g ∷ gs))) one

blanks-end : (g : GraphemeData) (gs : List GraphemeData) → is_break g ≡ false → after_blanks (g ∷ gs) ≡ columns_taken (g ∷ gs)
blanks-end g gs word =
    let none : prefix_len is_break (g ∷ gs) ≡ 0 = rw word refl in
    ap (λ n. columns_taken (drop n (g ∷ gs))) none

blanks-grown : (gs : List GraphemeData) (g : GraphemeData) → (0 < after_blanks gs) ⊎ (is_break g ≡ false)
    → after_blanks gs + grapheme_columns g ≤ after_blanks (gs ++ g ∷ [])
blanks-grown [] g (inl some) = absurd (omega arith)
blanks-grown [] g (inr word) = omega (arith, blanks-end g [] word, columns-next g [])
blanks-grown (h ∷ gs) g counts = ⊎_elim
    (λ (blank : is_break h ≡ true).
    let same = blanks-next h gs blank in
    omega (
      arith,
      same,
      blanks-next h (gs ++ g ∷ []) blank,
      blanks-grown gs g (⊎_elim (λ (some : 0 < after_blanks (h ∷ gs)). inl (omega (arith, same)))
          (λ (word : is_break g ≡ false). inr word) counts),
    ))
    (λ (word : is_break h ≡ false). omega (
      arith,
      blanks-end h gs word,
      blanks-end h (gs ++ g ∷ []) word,
      append-columns (h ∷ gs) g,
    ))
    (cases_Bool (is_break h))

pub ahead-grown : (trim : Bool) (gs : List GraphemeData) (g : GraphemeData)
    → (trim ≡ true → (0 < columns_ahead trim gs) ⊎ (is_break g ≡ false))
    → columns_ahead trim gs + grapheme_columns g ≤ columns_ahead trim (gs ++ g ∷ [])
ahead-grown true gs g counts = blanks-grown gs g (counts refl)
ahead-grown false gs g counts = omega (arith, append-columns gs g)

-- ---- what is held, and what is left

-- so many more are passed
pub left-passed : (passed count : ℕ) (gs more : List GraphemeData) → passed + count ≤ length gs
    → drop (passed + count) gs ++ more ≡ drop count (drop passed gs ++ more)
left-passed passed count gs more le =
    let rest = drop passed gs in
    let long : count ≤ length rest = omega (arith, length-drop passed gs) in
    let further : drop count rest ≡ drop (passed + count) gs = drop-drop count passed gs ∙ ap (λ n. drop n gs) (omega arith) in
    ap (λ xs. xs ++ more) (sym further) ∙ sym (drop-append-le count rest more long)

-- those that were passed are no longer held
pub left-moved : (passed : ℕ) (gs moved : List GraphemeData) (n : ℕ) → passed ≤ length gs → n + passed ≡ length gs
    → moved ≡ take n (drop passed gs ++ take passed gs)
    → moved ≡ drop passed gs
left-moved passed gs moved n le long is =
    let count : n ≡ length (drop passed gs) = omega (arith, length-drop passed gs) in
    is ∙ (ap (λ k. take k (drop passed gs ++ take passed gs)) count ∙ take-append_seam (drop passed gs) (take passed gs))

-- the row of what is held is the row of all that is left
pub row-of-left : (width passed : ℕ) (trim : Bool) (gs more : List GraphemeData)
    → IsEnough width trim (drop passed gs) ⊎ (more ≡ []) → AllFit width (drop passed gs ++ more)
    → split_row width trim (take (length gs - passed) (drop passed gs)) ≡ split_row width trim (drop passed gs ++ more)
row-of-left width passed trim gs more enough fit =
    let here = drop passed gs in
    ap (split_row width trim) (take_rest gs passed) ∙ ⊎_elim
    (λ (enough : IsEnough width trim here). sym (split-append width trim here more enough (fit-front width here more fit)))
    (λ (none : more ≡ []). ap (split_row width trim) (sym (ap (λ xs. here ++ xs) none ∙ append-nil here)))
    enough

-- nothing that fits is left of a line of which nothing is left
pub none-left : {Enough : Type 0} (width : ℕ) (rest : List GraphemeData) → Enough ⊎ (rest ≡ [])
    → Enough ⊎ (filter (fits_row width) rest ≡ [])
none-left width rest (inl enough) = inl enough
none-left width rest (inr none) = inr (ap (filter (fits_row width)) none)

-- a row was passed, and the next one is held
pub line-step : (count : ℕ) (old passed filled : Ahead) → HasLeft (drop count (left_of old)) old passed
    → HasLeft (left_of passed) passed filled
    → HasLeft (drop count (left_of old)) old filled
line-step count old passed filled step fill = record {
  left = fill.left ∙ step.left;
  width = fill.width ∙ step.width;
  trim = fill.trim ∙ step.trim;
}
