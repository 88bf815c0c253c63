-- A word is broken only if it stands first, after blanks at most, and doesn't fit its row with these.
use Rattle.std.proofs.Common.{◌≡◌, ℕ, zero, suc, ◌+◌, ◌-◌, ◌<◌, ◌≤◌, ⊎_elim, Bool, true, false, not, nat_lt, if◌then◌else◌}
use Rattle.std.proofs.Common.{List, [], ◌∷◌, take, drop, length, length-take, length-drop, refl, sym, ap, subst, ◌∙◌, arith}
use Rattle.std.proofs.Common.{slice_index_or}
use Rattle.std.proofs.lemmas.{Bool.cases_lt, Bool.cases_Bool, Bool.Decides.nat_tests, List.drop_more, List.get_or-take}
use Rattle.std.proofs.lemmas.{List.take-append-drop, List.drop-take, List.take-take, List.drop-drop, List.Sums.sum_by-append}
use Rattle.ratatui_core.specs.Text.{GraphemeData}
use Rattle.widget_paragraph.specs.Reflow.{is_break, is_of_word, grapheme_columns, columns_taken, count_fitting, last_end}
use Rattle.widget_paragraph.specs.Reflow.{leading_word, words_of, word_start, word_around, IsWithinWord, break_at_blank}
use Rattle.widget_paragraph.specs.Reflow.{break_in_word, break_before, row_break}
use Rattle.widget_paragraph.proofs.ReflowLemmas.{columns-next, count-next, count-full, count-le, word-next, end_after}
use Rattle.widget_paragraph.proofs.ReflowLemmas.{end_after-some, end_after-none, last_end-le, none-after}

same-head : (x g : GraphemeData) (xs after : List GraphemeData) → x ∷ xs ≡ g ∷ after → x ≡ g
same-head x g xs after e = cc

-- one grapheme more than those that fit doesn't fit
too-wide : (gs : List GraphemeData) (room : ℕ) (g : GraphemeData) (after : List GraphemeData)
    → drop (count_fitting room gs) gs ≡ g ∷ after → room < columns_taken (take (count_fitting room gs) gs) + grapheme_columns g
too-wide [] room g after e = let no : ⊥ = cc in absurd no
too-wide (x ∷ xs) room g after e = ⊎_elim
    (λ (full : room < grapheme_columns x).
    let none = count-full room x xs full in
    let same : x ≡ g = same-head x g xs after (subst (λ n. drop n (x ∷ xs) ≡ g ∷ after) none e) in
    rw none (let w = ap grapheme_columns same in omega arith))
    (λ (le : grapheme_columns x ≤ room).
    let one = count-next room x xs le in
    let n = count_fitting (room - grapheme_columns x) xs in
    let more = too-wide xs (room - grapheme_columns x) g after (subst (λ k. drop k (x ∷ xs) ≡ g ∷ after) one e) in
    rw one (let c = columns-next x (take n xs) in omega arith))
    (cases_lt room (grapheme_columns x))

-- the last grapheme of a kind is of that kind
last-one : (n : ℕ) (p : GraphemeData → Bool) (g : GraphemeData) (gs : List GraphemeData) (d : GraphemeData)
    → (0 < n → p (slice_index_or gs (n - 1) d) ≡ true) → 0 < end_after n (p g)
    → p (slice_index_or (g ∷ gs) (end_after n (p g) - 1) d) ≡ true
last-one n p g gs d rest some = ⊎_elim
    (λ (more : 0 < n).
    let e : end_after n (p g) - 1 ≡ suc (n - 1) = omega (arith, end_after-some n (p g) more) in
    ap (λ i. p (slice_index_or (g ∷ gs) i d)) e ∙ rest more)
    (λ (le : n ≤ 0).
    let none = end_after-none n (p g) (omega arith) in
    ⊎_elim
    (λ (here : p g ≡ true). let e : end_after n (p g) - 1 ≡ 0 = (let one : end_after n (p g) ≡ 1 = none
    ∙ ap (λ b. if b then 1 else 0) here in omega arith) in ap (λ i. p (slice_index_or (g ∷ gs) i d)) e ∙ here)
    (λ (other : p g ≡ false). let nothing : end_after n (p g) ≡ 0 = none ∙ ap (λ b. if b then 1 else 0) other in
    absurd (omega arith))
    (cases_Bool (p g)))
    (cases_lt 0 n)

last_end-at : (p : GraphemeData → Bool) (gs : List GraphemeData) (d : GraphemeData) → 0 < last_end p gs
    → p (slice_index_or gs (last_end p gs - 1) d) ≡ true
last_end-at p [] d some = absurd (omega arith)
last_end-at p (g ∷ gs) d some = last-one (last_end p gs) p g gs d (last_end-at p gs d) some

-- before the last blank of a front there is that blank
blank-before : (n : ℕ) (gs : List GraphemeData) (d : GraphemeData) → n ≤ length gs → 0 < last_end is_break (take n gs)
    → is_break (slice_index_or gs (last_end is_break (take n gs) - 1) d) ≡ true
blank-before n gs d inside some =
    let le : last_end is_break (take n gs) ≤ n = omega (arith, last_end-le is_break (take n gs), length-take n gs) in
    ap is_break (sym (get_or-take n gs (last_end is_break (take n gs) - 1) d (omega arith)))
    ∙ last_end-at is_break (take n gs) d some

-- a front without words that begins with no blank is empty
none-first : (n : ℕ) (gs : List GraphemeData) (d : GraphemeData) → is_break (slice_index_or gs 0 d) ≡ false
    → words_of (take n gs) ≡ [] → take n gs ≡ []
none-first zero gs d first none = refl
none-first (suc n) [] d first none = refl
none-first (suc n) (g ∷ gs) d first none =
    let word : is_of_word g ≡ true = ap not first in
    let some : g ∷ words_of (take n gs) ≡ [] = sym
    (ap (λ b. if b then g ∷ words_of (take n gs) else words_of (take n gs)) word) ∙ none in
    let no : ⊥ = cc in absurd no

-- a front without blanks is the front of the first word
none-both : (n : ℕ) (here : Bool) → end_after n here ≡ 0 → (n ≡ 0) × (here ≡ false)
none-both n true none = let no : ⊥ = grind (arith, nat_tests, none) in absurd no
none-both n false none = (grind (arith, nat_tests, none), refl)

word-front : (n : ℕ) (gs : List GraphemeData) → last_end is_break (take n gs) ≡ 0
    → columns_taken (leading_word gs) ≡ columns_taken (take n gs) + columns_taken (leading_word (drop n gs))
word-front zero gs none = omega arith
word-front (suc n) [] none = omega arith
word-front (suc n) (g ∷ gs) none =
    let both = none-both (last_end is_break (take n gs)) (is_break g) none in
    let rest = word-front n gs both.0 in
    let all = word-next g gs both.1 in
    let front = columns-next g (take n gs) in
    omega arith

-- after the last grapheme of a kind there is none
none-behind : (p : GraphemeData → Bool) (gs : List GraphemeData) → last_end p (drop (last_end p gs) gs) ≡ 0
none-behind p [] = refl
none-behind p (g ∷ gs) = ⊎_elim
    (λ (some : 0 < last_end p gs). rw (end_after-some (last_end p gs) (p g) some) (none-behind p gs))
    (λ (le : last_end p gs ≤ 0).
    let none : last_end p gs ≡ 0 = omega arith in
    let end = end_after-none (last_end p gs) (p g) none in
    ⊎_elim
    (λ (here : p g ≡ true).
    let one : end_after (last_end p gs) (p g) ≡ 1 = end ∙ ap (λ b. if b then 1 else 0) here in rw one none)
    (λ (other : p g ≡ false).
    let nothing : end_after (last_end p gs) (p g) ≡ 0 = end ∙ ap (λ b. if b then 1 else 0) other in rw nothing nothing)
    (cases_Bool (p g)))
    (cases_lt 0 (last_end p gs))

module _ (width : ℕ) (gs : List GraphemeData) (d : GraphemeData) where
  -- a place within a word has no other word before it, and the word doesn't fit with what is before it
  record IsWideAt (k : ℕ) : Type 0 where
    alone : words_of (take (word_start gs k) gs) ≡ []
    wide : width < columns_taken (take (word_start gs k) gs) + columns_taken (word_around gs k)

  abbrev n : ℕ
  n = count_fitting width gs

  after-blank : (k : ℕ) → is_break (slice_index_or gs (k - 1) d) ≡ true → IsWithinWord gs k d → IsWideAt k
  after-blank k blank is = let no : true ≡ false = sym blank ∙ is.before in absurd (cc)

  -- no word stands before the one that crosses the end of those that fit
  first-wide : last_end is_of_word (take (word_start gs n) gs) ≡ 0 → IsWithinWord gs n d → IsWideAt n
  first-wide none is =
      let word = word_start gs n in
      let le : word ≤ n = omega (arith, last_end-le is_break (take n gs), length-take n gs) in
      let next = drop_more gs n d is.inside in
      let full = too-wide gs width (slice_index_or gs n d) (drop (n + 1) gs) next in
      let whole : n ≡ word + (n - word) = omega (arith, le) in
      let part : drop word (take n gs) ≡ take (n - word) (drop word gs) =
      ap (λ k. drop word (take k gs)) whole ∙ drop-take word (n - word) gs in
      let behind : last_end is_break (take (n - word) (drop word gs)) ≡ 0 =
      ap (last_end is_break) (sym part) ∙ none-behind is_break (take n gs) in
      let front = word-front (n - word) (drop word gs) behind in
      let past : drop (n - word) (drop word gs) ≡ drop n gs = drop-drop (n - word) word gs
      ∙ ap (λ k. drop k gs) (omega (arith, le)) in
      let rest : columns_taken (leading_word (drop (n - word) (drop word gs))) ≡ grapheme_columns (slice_index_or gs n d)
      + columns_taken (leading_word (drop (n + 1) gs)) =
      ap (λ xs. columns_taken (leading_word xs)) (past ∙ next) ∙ word-next (slice_index_or gs n d) (drop (n + 1) gs) is.after in
      let both : columns_taken (take n gs) ≡ columns_taken (take word (take n gs)) + columns_taken (drop word (take n gs)) =
      ap columns_taken (sym (take-append-drop word (take n gs)))
      ∙ sum_by-append grapheme_columns (take word (take n gs)) (drop word (take n gs)) in
      let first : take word (take n gs) ≡ take word gs = take-take word n gs le in
      let blanks = ap columns_taken first in
      let inner = ap columns_taken part in
      record { alone = none-after (take word gs) none; wide = omega (arith, full, front, rest, both, blanks, inner) }

  abbrev ends_at : Bool → ℕ → ℕ × ℕ
  ends_at t end = if t then (end, word_start gs n) else (n, n)

  in-word-wide : (end : ℕ) → end ≡ last_end is_of_word (take (word_start gs n) gs) → (t : Bool) → nat_lt 0 end ≡ t
      → IsWithinWord gs (ends_at t end).1 d → IsWideAt (ends_at t end).1
  in-word-wide end at true e =
      let some : 0 < end = grind (arith, nat_tests, e) in
      let le = last_end-le is_of_word (take (word_start gs n) gs) in
      let more : 0 < word_start gs n = omega (arith, at, some, le, length-take (word_start gs n) gs) in
      after-blank (word_start gs n) (blank-before n gs d (count-le gs width) more)
  in-word-wide end at false e = first-wide (let none : end ≡ 0 = grind (arith, nat_tests, e) in sym at ∙ none)

  wide-before : (after : List GraphemeData) → drop n gs ≡ after → IsWithinWord gs (break_before gs n after).1 d
      → IsWideAt (break_before gs n after).1
  wide-before [] is =
      λ within. let lt = within.inside in let e = length-drop n gs in let none = ap length is in absurd (omega arith)
  wide-before (g ∷ after) is = by (is_break g) refl
    where
      lt : n < length gs
      lt = let e = length-drop n gs in let some = ap length is in omega arith

      here : slice_index_or gs n d ≡ g
      here = same-head (slice_index_or gs n d) g (drop (n + 1) gs) after (sym (drop_more gs n d lt) ∙ is)

      by : (b : Bool) → is_break g ≡ b → IsWithinWord gs (if b then break_at_blank gs n else break_in_word gs n).1 d
          → IsWideAt (if b then break_at_blank gs n else break_in_word gs n).1
      by true blank = after-blank (n + 1) (let place : n + 1 - 1 ≡ n = omega arith in
          ap (λ i. is_break (slice_index_or gs i d)) place ∙ (ap is_break here ∙ blank))
      by false word_ =
          let end = last_end is_of_word (take (word_start gs n) gs) in
          in-word-wide end refl (nat_lt 0 end) refl

  broken-wide : IsWithinWord gs (row_break width gs).1 d → IsWideAt (row_break width gs).1
  broken-wide = wide-before (drop n gs) refl

  pub broken-alone : IsWithinWord gs (row_break width gs).1 d → words_of (take (word_start gs (row_break width gs).1) gs) ≡ []
  broken-alone is = (broken-wide is).alone

  pub broken-blanks : IsWithinWord gs (row_break width gs).1 d
      → width < columns_taken (take (word_start gs (row_break width gs).1) gs)
      + columns_taken (word_around gs (row_break width gs).1)
  broken-blanks is = (broken-wide is).wide

  pub broken-first : IsWithinWord gs (row_break width gs).1 d → is_break (slice_index_or gs 0 d) ≡ false
      → width < columns_taken (word_around gs (row_break width gs).1)
  broken-first is first =
      let k = (row_break width gs).1 in
      let none = none-first (word_start gs k) gs d first (broken-alone is) in
      let nothing : columns_taken (take (word_start gs k) gs) ≡ 0 = ap columns_taken none in
      let wide = broken-blanks is in
      omega (arith, nothing, wide)
