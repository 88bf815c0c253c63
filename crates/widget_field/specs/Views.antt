-- Which part of a text is shown.
use Rattle.std.specs.Prelude.{◌≡◌, ℕ, ◌+◌, ◌<◌, ◌≤◌, ◌⊎◌, true, List, length, take, drop, sum_by}
use Rattle.std.specs.List.{concat}
use Rattle.unicode_segmentation.specs.Grapheme.{graphemes}
use Rattle.ratatui_core.specs.Buffer.{text_width}

-- the byte at which grapheme n begins
abbrev pub byte_of : List (List ℕ) → ℕ → ℕ
byte_of gs n = length (concat (take n gs))

-- the columns of the graphemes from n on
abbrev pub columns_after : List (List ℕ) → ℕ → ℕ
columns_after gs n = sum_by text_width (drop n gs)

-- the columns of a text, grapheme by grapheme
abbrev pub columns_in : List ℕ → ℕ
columns_in text = sum_by text_width (graphemes true text)

-- The view of a text whose cursor stands at its end, if it began at the byte `first` before, and the text
-- after the cursor takes `behind` columns. It begins with a grapheme, and all from there on fit the room. It
-- moves no further than it must: to the right of `first` only as far as the cursor wants it, and to the left
-- of it only if the cursor stands there, or if all to the text's end fits then.
pub record IsView (room behind : ℕ) (text : List ℕ) (first start : ℕ) : Type 0 where
  pub count : ℕ
  pub within : count ≤ length (graphemes true text)
  pub begins : start ≡ byte_of (graphemes true text) count
  pub fits : columns_after (graphemes true text) count ≤ room
  pub stays : (first ≤ start)
      ⊎ ((count ≡ length (graphemes true text)) ⊎ (columns_after (graphemes true text) count + behind ≤ room))
  pub least : (k : ℕ) → k < count → (room < columns_after (graphemes true text) k)
      ⊎ ((byte_of (graphemes true text) k < first) × (room < columns_after (graphemes true text) k + behind))
