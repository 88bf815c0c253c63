-- A line of graphemes cut, or broken into rows.
use Rattle.std.specs.Prelude.{◌≡◌, ℕ, zero, suc, ◌+◌, ◌-◌, ◌<◌, Bool, true, false, not, ◌&&◌, nat_le, nat_lt}
use Rattle.std.specs.Prelude.{List, [], ◌∷◌, length, take, drop, filter, if◌then◌else◌, slice_index_or}
use Rattle.std.specs.List.{sum_by, list_all, prefix_len}
use Rattle.ratatui_core.specs.{Text.GraphemeData, Text.is_whitespace_symbol, Buffer.text_width}

-- a blank: a grapheme at which a line may be broken
abbrev pub is_break : GraphemeData → Bool
is_break g = is_whitespace_symbol g.symbol

-- a part of a word: no blank
abbrev pub is_of_word : GraphemeData → Bool
is_of_word g = not (is_break g)

-- how many columns a grapheme takes
abbrev pub grapheme_columns : GraphemeData → ℕ
grapheme_columns g = text_width g.symbol

-- how many columns graphemes take
abbrev pub columns_taken : List GraphemeData → ℕ
columns_taken gs = sum_by grapheme_columns gs

-- the graphemes that no break takes: all but the blanks
abbrev pub words_of : List GraphemeData → List GraphemeData
words_of gs = filter is_of_word gs

-- the grapheme fits a row
abbrev pub fits_row : ℕ → GraphemeData → Bool
fits_row width g = nat_le (grapheme_columns g) width

-- each grapheme fits a row
abbrev pub AllFit : ℕ → List GraphemeData → Type 0
AllFit width gs = list_all (fits_row width) gs ≡ true

-- how many graphemes fit the room, from the first one on
abbrev pub count_fitting : ℕ → List GraphemeData → ℕ
count_fitting room [] = 0
count_fitting room (g ∷ gs) = if fits_row room g then suc (count_fitting (room - grapheme_columns g) gs)
    else 0

-- the graphemes that fit the room, from the first one on
abbrev pub fitting_front : ℕ → List GraphemeData → List GraphemeData
fitting_front room gs = take (count_fitting room gs) gs

-- the graphemes after the first n columns: those that end within them are left out
abbrev pub after_columns : ℕ → List GraphemeData → List GraphemeData
after_columns n [] = []
after_columns n (g ∷ gs) = if nat_lt 0 n && nat_le (grapheme_columns g) n then after_columns
    (n - grapheme_columns g) gs else g ∷ gs

-- a line cut: without its first columns, and as much of it as fits the width
abbrev pub cut_row : ℕ → ℕ → List GraphemeData → List GraphemeData
cut_row width offset gs = fitting_front width (after_columns offset (filter (fits_row width) gs))

-- where the last grapheme of a kind ends; 0 if there is none
abbrev pub last_end : (GraphemeData → Bool) → List GraphemeData → ℕ
last_end p [] = 0
last_end p (g ∷ gs) = if nat_lt 0 (last_end p gs) then suc (last_end p gs) else if p g then 1 else 0

-- the word that stands first
abbrev pub leading_word : List GraphemeData → List GraphemeData
leading_word [] = []
leading_word (g ∷ gs) = if is_break g then [] else g ∷ leading_word gs

-- where the word around a place of a line begins: after the last blank before it
abbrev pub word_start : List GraphemeData → ℕ → ℕ
word_start gs k = last_end is_break (take k gs)

-- that word, up to the next blank
abbrev pub word_around : List GraphemeData → ℕ → List GraphemeData
word_around gs k = leading_word (drop (word_start gs k) gs)

-- a place within a word: no blank stands before it, and none after it
pub record IsWithinWord (gs : List GraphemeData) (k : ℕ) (d : GraphemeData) : Type 0 where
  pub inside : k < length gs
  pub before : is_break (slice_index_or gs (k - 1) d) ≡ false
  pub after : is_break (slice_index_or gs k d) ≡ false

-- Where a row ends, and where the next one begins. A blank comes after the n graphemes that fit: the row ends
-- with its last word, if it has one, and the next one begins after the blank.
abbrev pub break_at_blank : List GraphemeData → ℕ → ℕ × ℕ
break_at_blank gs n =
    let end = last_end is_of_word (take n gs) in
    (if nat_lt 0 end then end else n, n + 1)

-- A word crosses the end of the n graphemes that fit: it goes to the next row, but for one that has no word
-- before it, which is broken.
abbrev pub break_in_word : List GraphemeData → ℕ → ℕ × ℕ
break_in_word gs n =
    let word = last_end is_break (take n gs) in
    let end = last_end is_of_word (take word gs) in
    if nat_lt 0 end then (end, word) else (n, n)

-- n graphemes fit, and these come after them
abbrev pub break_before : List GraphemeData → ℕ → List GraphemeData → ℕ × ℕ
break_before gs n [] = (n, n)
break_before gs n (g ∷ after) = if is_break g then break_at_blank gs n else break_in_word gs n

-- where the row at the front of graphemes ends, and where the next one begins: it has as many words as fit
-- the width
abbrev pub row_break : ℕ → List GraphemeData → ℕ × ℕ
row_break width gs = let n = count_fitting width gs in break_before gs n (drop n gs)

-- the blanks before the first row, if rows are trimmed
abbrev pub trimmed_start : Bool → List GraphemeData → ℕ
trimmed_start trim gs = if trim then prefix_len is_break gs else 0

-- the row at the front of graphemes, and how many stand before the next one
abbrev pub split_row : ℕ → Bool → List GraphemeData → List GraphemeData × ℕ
split_row width trim gs =
    let start = trimmed_start trim gs in
    let ends = row_break width (drop start gs) in
    (take ends.0 (drop start gs), start + ends.1)

-- the rows of at most n graphemes
abbrev pub rows_within : ℕ → ℕ → Bool → List GraphemeData → List (List GraphemeData)
rows_within zero width trim gs = []
rows_within (suc n) width trim [] = []
rows_within (suc n) width trim (g ∷ gs) =
    let split = split_row width trim (g ∷ gs) in
    split.0 ∷ rows_within n width trim (drop split.1 (g ∷ gs))

-- a line broken into rows: an empty one if nothing fits
abbrev pub broken_rows : ℕ → Bool → List GraphemeData → List (List GraphemeData)
broken_rows width trim [] = [] ∷ []
broken_rows width trim (g ∷ gs) = rows_within (length (g ∷ gs)) width trim (g ∷ gs)
