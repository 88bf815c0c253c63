-- How far a cursor goes in a text of lines, in bytes.
use Rattle.std.specs.Prelude.{ℕ, ◌+◌, ◌-◌, ◌==◌, ◌||◌, Bool, true, not, if◌then◌else◌, List, length, take}
use Rattle.std.specs.Prelude.{drop}
use Rattle.std.specs.List.{prefix_len, suffix_len}
use Rattle.unicode_segmentation.specs.Grapheme.{graphemes}
use Rattle.text_field.specs.Reach.{first_text, last_text}
use Rattle.text_area.specs.declared.extent.Extent.{Extent}
use Rattle.text_area.specs.declared.extent.Extent.TheVariants.{Grapheme, Word, Line, LineOrBreak, Text}

-- a line feed, which stands between two lines
abbrev pub is_feed : ℕ → Bool
is_feed b = b == 10

-- a byte between two words: a line feed, a tab or a blank
abbrev pub is_gap : ℕ → Bool
is_gap b = b == 10 || b == 9 || b == 32

-- a byte of a line, and one of a word
abbrev pub in_line : ℕ → Bool
in_line b = not (is_feed b)

abbrev pub in_word : ℕ → Bool
in_word b = not (is_gap b)

-- how many bytes of a line a text begins with
abbrev pub line_right : List ℕ → ℕ
line_right text = prefix_len in_line text

-- how many bytes of a line it ends with
abbrev pub line_left : List ℕ → ℕ
line_left text = suffix_len in_line text

-- how far it is to the right: over the first grapheme, over what is between words and the word after it, to
-- the
-- line's end, the same but over the line feed if there is nothing else, or over all
abbrev pub extent_right : Extent → List ℕ → ℕ
extent_right Grapheme text = length (first_text (graphemes true text))
extent_right Word text =
    let gap = prefix_len is_gap text in
    gap + prefix_len in_word (drop gap text)
extent_right Line text = line_right text
extent_right LineOrBreak text = if line_right text == 0 then length (take 1 text) else line_right text
extent_right Text text = length text

-- the same to the left
abbrev pub extent_left : Extent → List ℕ → ℕ
extent_left Grapheme text = length (last_text (graphemes true text))
extent_left Word text =
    let gap = suffix_len is_gap text in
    gap + suffix_len in_word (take (length text - gap) text)
extent_left Line text = line_left text
extent_left LineOrBreak text = if line_left text == 0 then length (take 1 text) else line_left text
extent_left Text text = length text
