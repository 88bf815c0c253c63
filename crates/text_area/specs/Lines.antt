-- Lines of a text, by their numbers from 0 on, and columns in them.
use Rattle.std.specs.Prelude.{ℕ, zero, suc, ◌+◌, ◌-◌, if◌then◌else◌, List, [], ◌∷◌, length, take, drop}
use Rattle.std.specs.Prelude.{min, true}
use Rattle.std.specs.List.{count_by, concat}
use Rattle.unicode_segmentation.specs.Grapheme.{graphemes}
use Rattle.text_area.specs.Extents.{is_feed, line_right, line_left}

-- how many line feeds a text has: the number of the line in which it ends
abbrev pub feeds : List ℕ → ℕ
feeds text = count_by is_feed text

-- the byte at which a line begins; of a number that no line has, the text's end
abbrev pub nth_start : ℕ → List ℕ → ℕ
nth_start zero text = 0
nth_start (suc i) [] = 0
nth_start (suc i) (b ∷ text) = suc (nth_start (if is_feed b then i else suc i) text)

-- the line that a text begins with
abbrev pub first_line : List ℕ → List ℕ
first_line text = take (line_right text) text

-- a line of a text
abbrev pub nth_line : ℕ → List ℕ → List ℕ
nth_line i text = first_line (drop (nth_start i text) text)

-- the line that it ends with
abbrev pub last_line : List ℕ → List ℕ
last_line text = drop (length text - line_left text) text

-- the bytes of the first n graphemes of a line
abbrev pub columns_len : ℕ → List ℕ → ℕ
columns_len n line = length (concat (take n (graphemes true line)))

-- how many graphemes stand before the cursor in its line
abbrev pub column_after : List ℕ → ℕ
column_after before = length (graphemes true (last_line before))

-- the byte after n graphemes of a line, or at its end if there are fewer
abbrev pub nth_place : ℕ → ℕ → List ℕ → ℕ
nth_place i n text = let start = nth_start i text in start + columns_len n (nth_line i text)

-- the same of the line so many above the one that a part of the text ends in, or below
abbrev pub place_above : ℕ → ℕ → List ℕ → List ℕ → ℕ
place_above lines n before text = nth_place (feeds before - lines) n text

abbrev pub place_below : ℕ → ℕ → List ℕ → List ℕ → ℕ
place_below lines n before text = nth_place (min (feeds before + lines) (feeds text)) n text
