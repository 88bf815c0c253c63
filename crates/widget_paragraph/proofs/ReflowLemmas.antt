-- A row at the front of a line: where it ends, and what it keeps.
use Rattle.std.proofs.Common.{◌≡◌, ℕ, zero, suc, ◌+◌, ◌-◌, ◌<◌, ◌≤◌, ◌++◌, ⊎_elim, Bool, true, false, nat_lt}
use Rattle.std.proofs.Common.{if◌then◌else◌, List, [], ◌∷◌, take, drop, length, refl, sym, ap, ap₂, subst, ◌∙◌, arith}
use Rattle.std.proofs.Common.{slice_index_or}
use Rattle.std.specs.List.{list_all, prefix_len}
use Rattle.std.proofs.lemmas.Bool.{cases_lt, and_parts, cases_Bool}
use Rattle.std.proofs.lemmas.{Bool.Decides.nat_tests, List.Elements.filter-append, List.Folds.list_all-append}
use Rattle.std.proofs.lemmas.{List.Sums.sum_by-cons, List.Sums.sum_by-take-le}
use Rattle.std.proofs.lemmas.List.{take-append-drop, take-take, drop-take, length-drop, length-take}
use Rattle.std.proofs.lemmas.List.{drop_more, append-nil, take_rest}
use Rattle.ratatui_core.specs.{Text.GraphemeData}
use Rattle.widget_paragraph.specs.Reflow.{is_break, is_of_word, grapheme_columns, columns_taken, words_of, fits_row}
use Rattle.widget_paragraph.specs.Reflow.{AllFit, count_fitting, last_end, leading_word}
use Rattle.widget_paragraph.specs.Reflow.{break_at_blank, break_in_word, break_before, row_break, trimmed_start, split_row}

-- ---- graphemes one by one

pub columns-next : (g : GraphemeData) (gs : List GraphemeData) → columns_taken (g ∷ gs) ≡ grapheme_columns g + columns_taken gs
columns-next g gs = sum_by-cons grapheme_columns g gs

pub count-next : (room : ℕ) (g : GraphemeData) (gs : List GraphemeData) → grapheme_columns g ≤ room
    → count_fitting room (g ∷ gs) ≡ suc (count_fitting (room - grapheme_columns g) gs)
count-next room g gs le = let fits : fits_row room g ≡ true = grind (arith, nat_tests) in rw fits refl

pub count-full : (room : ℕ) (g : GraphemeData) (gs : List GraphemeData) → room < grapheme_columns g
    → count_fitting room (g ∷ gs) ≡ 0
count-full room g gs lt = let full : fits_row room g ≡ false = grind (arith, nat_tests) in rw full refl

-- the columns of the first word
pub word-next : (g : GraphemeData) (gs : List GraphemeData) → is_break g ≡ false
    → columns_taken (leading_word (g ∷ gs)) ≡ grapheme_columns g + columns_taken (leading_word gs)
word-next g gs is = rw is (columns-next g (leading_word gs))

-- ---- what holds of a row's end

abbrev pub end_after : ℕ → Bool → ℕ
end_after n here = if nat_lt 0 n then suc n else if here then 1 else 0

end_after-le : (n k : ℕ) (here : Bool) → n ≤ k → end_after n here ≤ suc k
end_after-le n k true le = grind (arith, nat_tests)
end_after-le n k false le = grind (arith, nat_tests)

pub end_after-some : (n : ℕ) (here : Bool) → 0 < n → end_after n here ≡ suc n
end_after-some n here lt = grind (arith, nat_tests)

pub end_after-none : (n : ℕ) (here : Bool) → n ≡ 0 → end_after n here ≡ (if here then 1 else 0)
end_after-none n here none = rw none refl

pub last_end-le : (p : GraphemeData → Bool) (gs : List GraphemeData) → last_end p gs ≤ length gs
last_end-le p [] = omega arith
last_end-le p (g ∷ gs) = end_after-le (last_end p gs) (length gs) (p g) (last_end-le p gs)

-- a grapheme of the kind stands after the first n: it is the last one of all, too
last_end-later : (p : GraphemeData → Bool) (n : ℕ) (gs : List GraphemeData) → 0 < last_end p (drop n gs)
    → last_end p gs ≡ n + last_end p (drop n gs)
last_end-later p zero gs some = omega arith
last_end-later p (suc n) [] some = absurd (omega arith)
last_end-later p (suc n) (g ∷ gs) some =
    let more = last_end-later p n gs some in
    omega (arith, more, end_after-some (last_end p gs) (p g) (omega (arith, more, some)))

-- after the last word there are blanks alone
abbrev words_with : Bool → GraphemeData → List GraphemeData → List GraphemeData
words_with here g ws = if here then g ∷ ws else ws

none-step : (n : ℕ) (here : Bool) (g : GraphemeData) (ws : List GraphemeData) → (n ≡ 0 → ws ≡ []) → end_after n here ≡ 0
    → words_with here g ws ≡ []
none-step n true g ws more none = let no : ⊥ = grind (arith, nat_tests, none) in absurd no
none-step n false g ws more none = more (grind (arith, nat_tests, none))

pub none-after : (gs : List GraphemeData) → last_end is_of_word gs ≡ 0 → words_of gs ≡ []
none-after [] none = refl
none-after (g ∷ gs) none = none-step (last_end is_of_word gs) (is_of_word g) g (words_of gs) (none-after gs) none

keeps-step : (g : GraphemeData) (gs : List GraphemeData) (n : ℕ) → words_of (take n gs) ≡ words_of gs → (n ≡ 0 → words_of gs ≡ [])
    → words_of (take (end_after n (is_of_word g)) (g ∷ gs)) ≡ words_of (g ∷ gs)
keeps-step g gs n more none = ⊎_elim
    (λ (some : 0 < n). rw (end_after-some n (is_of_word g) some) (ap (words_with (is_of_word g) g) more))
    (λ (le : n ≤ 0).
    let zero_is : n ≡ 0 = omega arith in
    ⊎_elim
    (λ (word : is_of_word g ≡ true).
    let one : end_after n (is_of_word g) ≡ 1 = end_after-none n (is_of_word g) zero_is ∙ ap (λ b. if b then 1 else 0) word in
    ap (λ k. words_of (take k (g ∷ gs))) one ∙ rw word (ap (λ ws. g ∷ ws) (sym (none zero_is))))
    (λ (blank : is_of_word g ≡ false).
    let nothing : end_after n (is_of_word g) ≡ 0 = end_after-none n (is_of_word g) zero_is ∙ ap (λ b. if b then 1 else 0) blank in
    ap (λ k. words_of (take k (g ∷ gs))) nothing ∙ rw blank (sym (none zero_is)))
    (cases_Bool (is_of_word g)))
    (cases_lt 0 n)

pub last_word-keeps : (gs : List GraphemeData) → words_of (take (last_end is_of_word gs) gs) ≡ words_of gs
last_word-keeps [] = refl
last_word-keeps (g ∷ gs) = keeps-step g gs (last_end is_of_word gs) (last_word-keeps gs) (none-after gs)

pub count-le : (gs : List GraphemeData) (room : ℕ) → count_fitting room gs ≤ length gs
count-le [] room = omega arith
count-le (g ∷ gs) room = ⊎_elim
    (λ (full : room < grapheme_columns g). let e = count-full room g gs full in omega arith)
    (λ (le : grapheme_columns g ≤ room). let e = count-next room g gs le in let more = count-le gs (room - grapheme_columns g) in
    omega arith)
    (cases_lt room (grapheme_columns g))

pub count-fits : (gs : List GraphemeData) (room : ℕ) → columns_taken (take (count_fitting room gs) gs) ≤ room
count-fits [] room = omega arith
count-fits (g ∷ gs) room = ⊎_elim
    (λ (full : room < grapheme_columns g). rw (count-full room g gs full) (omega arith))
    (λ (le : grapheme_columns g ≤ room).
    let more = count-fits gs (room - grapheme_columns g) in
    let n = count_fitting (room - grapheme_columns g) gs in
    rw (count-next room g gs le) (let e = columns-next g (take n gs) in omega arith))
    (cases_lt room (grapheme_columns g))

-- a shorter front has no more columns
pub front-fits : (n m width : ℕ) (gs : List GraphemeData) → n ≤ m → columns_taken (take m gs) ≤ width
    → columns_taken (take n gs) ≤ width
front-fits n m width gs le fits =
    let h = sum_by-take-le grapheme_columns (take m gs) n in
    let k : columns_taken (take n gs) ≤ columns_taken (take m gs) = subst (λ ys. columns_taken ys ≤ columns_taken (take m gs))
    (take-take n m gs le) h in
    omega arith

count-some : (gs : List GraphemeData) (width : ℕ) → AllFit width gs → 0 < length gs → 0 < count_fitting width gs
count-some [] width fit some = absurd (omega arith)
count-some (g ∷ gs) width fit some = let here = (and_parts (fits_row width g) (list_all (fits_row width) gs) fit).0 in
    rw here (omega arith)

-- the graphemes after the blanks at the front, if rows are trimmed, have all words
blanks-step : (b : Bool) (n k : ℕ) → n ≤ k → (if b then 1 + n else 0) ≤ suc k
blanks-step true n k le = omega arith
blanks-step false n k le = omega arith

pub blanks-le : (gs : List GraphemeData) → prefix_len is_break gs ≤ length gs
blanks-le [] = omega arith
blanks-le (g ∷ gs) = blanks-step (is_break g) (prefix_len is_break gs) (length gs) (blanks-le gs)

blank-words : (g : GraphemeData) (gs : List GraphemeData) (n : ℕ) → words_of (take n gs) ≡ []
    → words_of (take (if is_break g then 1 + n else 0) (g ∷ gs)) ≡ []
blank-words g gs n none = ⊎_elim
    (λ (blank : is_break g ≡ true).
    let more : (if is_break g then 1 + n else 0) ≡ suc n = rw blank (omega arith) in
    let gone : is_of_word g ≡ false = rw blank refl in
    ap (λ k. words_of (take k (g ∷ gs))) more ∙ rw gone none)
    (λ (word : is_break g ≡ false). let first : (if is_break g then 1 + n else 0) ≡ 0 = rw word refl in
    ap (λ k. words_of (take k (g ∷ gs))) first)
    (cases_Bool (is_break g))

blanks-none : (gs : List GraphemeData) → words_of (take (prefix_len is_break gs) gs) ≡ []
blanks-none [] = refl
blanks-none (g ∷ gs) = blank-words g gs (prefix_len is_break gs) (blanks-none gs)

pub trimmed-le : (trim : Bool) (gs : List GraphemeData) → trimmed_start trim gs ≤ length gs
trimmed-le true gs = blanks-le gs
trimmed-le false gs = omega arith

trimmed-none : (trim : Bool) (gs : List GraphemeData) → words_of (take (trimmed_start trim gs) gs) ≡ []
trimmed-none true gs = blanks-none gs
trimmed-none false gs = refl

-- after blanks a front has the words of what stands there
words-past : (start n : ℕ) (gs : List GraphemeData) → words_of (take start gs) ≡ []
    → words_of (take (start + n) gs) ≡ words_of (take n (drop start gs))
words-past start n gs none =
    let parts : take (start + n) gs ≡ take start gs ++ take n (drop start gs) =
    sym (take-append-drop start (take (start + n) gs))
    ∙ (ap (λ xs. xs ++ drop start (take (start + n) gs)) (take-take start (start + n) gs (omega arith))
    ∙ ap (λ ys. take start gs ++ ys) (drop-take start n gs)) in
    ap words_of parts ∙ (filter-append is_of_word (take start gs) (take n (drop start gs))
    ∙ ap (λ xs. xs ++ words_of (take n (drop start gs))) none)

-- what is left fits, too
pub fit-past : (width n : ℕ) (gs : List GraphemeData) → AllFit width gs → AllFit width (drop n gs)
fit-past width n gs fit =
    (and_parts (list_all (fits_row width) (take n gs)) (list_all (fits_row width) (drop n gs))
    (sym (list_all-append (fits_row width) (take n gs) (drop n gs)) ∙ (ap (list_all (fits_row width)) (take-append-drop n gs)
    ∙ fit))).1

-- where a row ends, and where the next one begins
pub record IsBreak (width : ℕ) (gs : List GraphemeData) (b : ℕ × ℕ) : Type 0 where
  pub ends : b.0 ≤ b.1
  pub inside : b.1 ≤ length gs
  pub some : 0 < length gs → 0 < b.1
  pub fits : columns_taken (take b.0 gs) ≤ width
  pub keeps : words_of (take b.1 gs) ≡ words_of (take b.0 gs)

same-break : (width n : ℕ) (gs : List GraphemeData) → n ≤ length gs → (0 < length gs → 0 < n) → columns_taken (take n gs) ≤ width
    → IsBreak width gs (n, n)
same-break width n gs inside some fits = record { ends = omega arith; inside = inside; some = some; fits = fits; keeps = refl }

-- the words of a front that ends with its last word
front-keeps : (n : ℕ) (gs : List GraphemeData) → words_of (take n gs) ≡ words_of (take (last_end is_of_word (take n gs)) gs)
front-keeps n gs =
    let le = last_end-le is_of_word (take n gs) in
    let short : last_end is_of_word (take n gs) ≤ n = omega (arith, le, length-take n gs) in
    sym (last_word-keeps (take n gs)) ∙ ap words_of (take-take (last_end is_of_word (take n gs)) n gs short)

at-blank : (width n : ℕ) (gs after : List GraphemeData) (g : GraphemeData) → n ≤ length gs → columns_taken (take n gs) ≤ width
    → drop n gs ≡ g ∷ after → is_break g ≡ true → IsBreak width gs (break_at_blank gs n)
at-blank width n gs after g inside fits is blank =
    let end = last_end is_of_word (take n gs) in
    let le : end ≤ n = omega (arith, last_end-le is_of_word (take n gs), length-take n gs) in
    let room : length gs ≡ n + suc (length after) = (let d = length-drop n gs in let l = ap length is in omega arith) in
    let more : take (n + 1) gs ≡ take n gs ++ g ∷ [] =
    sym (take-append-drop n (take (n + 1) gs)) ∙ (ap (λ xs. xs ++ drop n (take (n + 1) gs)) (take-take n (n + 1) gs (omega arith))
    ∙ ap (λ ys. take n gs ++ ys) (drop-take n 1 gs ∙ ap (take 1) is)) in
    let gone : words_of (g ∷ []) ≡ [] = (let none : is_of_word g ≡ false = rw blank refl in rw none refl) in
    let words : words_of (take (n + 1) gs) ≡ words_of (take n gs) = ap words_of more
    ∙ (filter-append is_of_word (take n gs) (g ∷ []) ∙ (ap (λ ws. words_of (take n gs) ++ ws) gone
    ∙ append-nil (words_of (take n gs)))) in
    cases (nat_lt 0 end) refl le room words
  where
    cases : (t : Bool) → nat_lt 0 (last_end is_of_word (take n gs)) ≡ t → last_end is_of_word (take n gs) ≤ n
        → length gs ≡ n + suc (length after) → words_of (take (n + 1) gs) ≡ words_of (take n gs)
        → IsBreak width gs (if t then last_end is_of_word (take n gs) else n, n + 1)
    cases true e le room words = record {
      ends = omega arith;
      inside = omega arith;
      some = λ _. omega arith;
      fits = front-fits (last_end is_of_word (take n gs)) n width gs le fits;
      keeps = words ∙ front-keeps n gs;
    }
    cases false e le room words = record {
      ends = omega arith;
      inside = omega arith;
      some = λ _. omega arith;
      fits = fits;
      keeps = words;
    }

in-word : (width n : ℕ) (gs : List GraphemeData) → n ≤ length gs → 0 < n → columns_taken (take n gs) ≤ width
    → IsBreak width gs (break_in_word gs n)
in-word width n gs inside some fits =
    let word = last_end is_break (take n gs) in
    let end = last_end is_of_word (take word gs) in
    let le : word ≤ n = omega (arith, last_end-le is_break (take n gs), length-take n gs) in
    let less : end ≤ word = omega (arith, last_end-le is_of_word (take word gs), length-take word gs) in
    cases word end le less (nat_lt 0 end) refl refl
  where
    cases : (word end : ℕ) → word ≤ n → end ≤ word → (t : Bool) → nat_lt 0 end ≡ t → end ≡ last_end is_of_word (take word gs)
        → IsBreak width gs (if t then (end, word) else (n, n))
    cases word end le less true e is = record {
      ends = less;
      inside = omega arith;
      some = λ _. (let lt : 0 < end = grind (arith, nat_tests, e) in omega arith);
      fits = front-fits end n width gs (omega arith) fits;
      keeps = front-keeps word gs ∙ ap (λ k. words_of (take k gs)) (sym is);
    }
    cases word end le less false e is = same-break width n gs inside (λ _. some) fits

pub row_break-is : (width : ℕ) (gs : List GraphemeData) → AllFit width gs → IsBreak width gs (row_break width gs)
row_break-is width gs fit = cases (drop n gs) refl
  where
    n : ℕ
    n = count_fitting width gs

    cases : (after : List GraphemeData) → drop n gs ≡ after → IsBreak width gs (break_before gs n after)
    cases [] is = same-break width n gs (count-le gs width) (λ some. count-some gs width fit some) (count-fits gs width)
    cases (g ∷ after) is = by (is_break g) refl
      where
        longer : 0 < length gs
        longer = let d = length-drop n gs in let l = ap length is in omega arith

        by : (b : Bool) → is_break g ≡ b → IsBreak width gs (if b then break_at_blank gs n else break_in_word gs n)
        by true e = at-blank width n gs after g (count-le gs width) (count-fits gs width) is e
        by false e = in-word width n gs (count-le gs width) (count-some gs width fit longer) (count-fits gs width)

-- the row at the front of a line
pub record IsSplit (width : ℕ) (gs : List GraphemeData) (split : List GraphemeData × ℕ) : Type 0 where
  pub fits : columns_taken split.0 ≤ width
  pub keeps : words_of (take split.1 gs) ≡ words_of split.0
  pub some : 0 < length gs → 0 < split.1
  pub inside : split.1 ≤ length gs

pub split_row-is : (width : ℕ) (trim : Bool) (gs : List GraphemeData) → AllFit width gs
    → IsSplit width gs (split_row width trim gs)
split_row-is width trim gs fit =
    let start = trimmed_start trim gs in
    let rest = drop start gs in
    let b = row_break-is width rest (fit-past width start gs fit) in
    let le = trimmed-le trim gs in
    let count = length-drop start gs in
    record {
      fits = b.fits;
      keeps = words-past start (row_break width rest).1 gs (trimmed-none trim gs) ∙ b.keeps;
      some = λ some. ⊎_elim
          (λ (more : 0 < length rest). let one = b.some more in omega arith)
          (λ (none : length rest ≤ 0). omega arith)
          (cases_lt 0 (length rest));
      inside = (let in_rest = b.inside in omega arith);
    }

-- ---- parts of a slice

-- from the last grapheme on backwards: none of the kind stands after the first n
module _ (p : GraphemeData → Bool) (gs : List GraphemeData) (n : ℕ) (d : GraphemeData) (some : 0 < n) (le : n ≤ length gs)
    (none : last_end p (drop n gs) ≡ 0) where
  before : drop (n - 1) gs ≡ slice_index_or gs (n - 1) d ∷ drop n gs
  before = let at : n - 1 + 1 ≡ n = omega arith in
      drop_more gs (n - 1) d (omega arith) ∙ ap (λ k. slice_index_or gs (n - 1) d ∷ drop k gs) at

  end-before : last_end p (drop (n - 1) gs) ≡ (if p (slice_index_or gs (n - 1) d) then 1 else 0)
  end-before = ap (last_end p) before
      ∙ end_after-none (last_end p (drop n gs)) (p (slice_index_or gs (n - 1) d)) none

  pub last-before : p (slice_index_or gs (n - 1) d) ≡ true → n ≡ last_end p gs
  last-before is =
      let one : last_end p (drop (n - 1) gs) ≡ 1 = end-before ∙ rw is refl in
      omega (arith, one, last_end-later p (n - 1) gs (omega (arith, one)))

module _ (gs : List GraphemeData) (n end : ℕ) (is : end ≡ last_end is_of_word (take n gs)) where
  last-in : last_end is_of_word (take n gs) ≡ end
  last-in = sym is

  pub blank-ends : 0 < end → (end, n + 1) ≡ break_at_blank gs n
  blank-ends some = let t : nat_lt 0 end ≡ true = grind (arith, nat_tests) in rw (last-in, t) refl

  pub blank-whole : end ≤ 0 → (n, n + 1) ≡ break_at_blank gs n
  blank-whole none = let t : nat_lt 0 end ≡ false = grind (arith, nat_tests) in rw (last-in, t) refl

pub last-inside : (p : GraphemeData → Bool) (gs : List GraphemeData) (n word : ℕ) → word ≡ last_end p (take n gs) → word ≤ n
last-inside p gs n word is = omega (arith, last_end-le p (take n gs), length-take n gs)

module _ (gs : List GraphemeData) (n word end : ℕ) (at : word ≡ last_end is_break (take n gs))
    (is : end ≡ last_end is_of_word (take word gs)) where
  word-at : last_end is_break (take n gs) ≡ word
  word-at = sym at

  end-at : last_end is_of_word (take word gs) ≡ end
  end-at = sym is

  pub word-ends-at : 0 < end → (end, word) ≡ break_in_word gs n
  word-ends-at some = let t : nat_lt 0 end ≡ true = grind (arith, nat_tests) in rw (word-at, end-at, t) refl

  pub word-broken : end ≤ 0 → (n, n) ≡ break_in_word gs n
  word-broken none = let t : nat_lt 0 end ≡ false = grind (arith, nat_tests) in rw (word-at, end-at, t) refl

module _ (gs : List GraphemeData) (width count : ℕ) (is : count ≡ count_fitting width gs) where
  count-at : count_fitting width gs ≡ count
  count-at = sym is

  pub count-inside : count ≤ length gs
  count-inside = omega (arith, count-le gs width)

  module _ (d : GraphemeData) (lt : count < length gs) where
    next-is : drop count gs ≡ slice_index_or gs count d ∷ drop (count + 1) gs
    next-is = drop_more gs count d lt

    pub break-blank : (b : ℕ × ℕ) → b ≡ break_at_blank gs count → is_break (slice_index_or gs count d) ≡ true
        → b ≡ row_break width gs
    break-blank b e blank = e ∙ rw (count-at, next-is, blank) refl

    pub break-word : (b : ℕ × ℕ) → b ≡ break_in_word gs count → is_break (slice_index_or gs count d) ≡ false
        → b ≡ row_break width gs
    break-word b e word = e ∙ rw (count-at, next-is, word) refl

-- a row and where the next one begins, in a slice
pub start-inside : (gs : List GraphemeData) (trim : Bool) (start : ℕ) → start ≡ trimmed_start trim gs → start ≤ length gs
start-inside gs trim start at = omega (arith, at, trimmed-le trim gs)

module _ (gs : List GraphemeData) (width : ℕ) (trim : Bool) (start : ℕ) (b : ℕ × ℕ) (fit : AllFit width gs)
    (at : start ≡ trimmed_start trim gs)
    (is : b ≡ row_break width (take (length gs - start) (drop start gs))) where
  abbrev rest : List GraphemeData
  rest = drop (trimmed_start trim gs) gs

  rest-at : take (length gs - start) (drop start gs) ≡ rest
  rest-at = take_rest gs start ∙ ap (λ s. drop s gs) at

  break-at : b ≡ row_break width rest
  break-at = is ∙ ap (row_break width) rest-at

  pub split-value : (take b.0 (take (length gs - start) (drop start gs)), start + b.1) ≡ split_row width trim gs
  split-value = ap₂ (λ xs n. (xs, n)) (ap (take b.0) rest-at ∙ ap (λ c. take c.0 rest) break-at)
      (ap (λ s. s + b.1) at ∙ ap (λ c. trimmed_start trim gs + c.1) break-at)

  pub split-is : IsSplit width gs (take b.0 (take (length gs - start) (drop start gs)), start + b.1)
  split-is = subst (IsSplit width gs) (sym split-value) (split_row-is width trim gs fit)

  pub next-inside : start + b.1 ≤ length gs
  next-inside = split-is.inside

  broken : IsBreak width rest b
  broken = subst (IsBreak width rest) (sym break-at) (row_break-is width rest (fit-past width (trimmed_start trim gs) gs fit))

  pub end-inside : b.0 ≡ length (take b.0 (take (length gs - start) (drop start gs)))
  end-inside =
      let le = broken.ends in let more = broken.inside in
      omega (arith, length-take b.0 (take (length gs - start) (drop start gs)), ap length rest-at)
