-- How far a cursor goes in a text, in bytes.
use Rattle.std.specs.Prelude.{ℕ, ◌+◌, ◌==◌, Bool, true, not, List, [], ◌∷◌, length, drop, reverse, take_while}
use Rattle.std.specs.Str.{byte}
use Rattle.unicode_segmentation.specs.Grapheme.{graphemes}
use Rattle.text_field.specs.declared.reach.Reach.{Reach}
use Rattle.text_field.specs.declared.reach.Reach.TheVariants.{Grapheme, Word, All}

-- the first of these texts, and none if there is none
abbrev pub first_text : List (List ℕ) → List ℕ
first_text [] = []
first_text (g ∷ gs) = g

-- the last of these texts, and none if there is none
abbrev pub last_text : List (List ℕ) → List ℕ
last_text [] = []
last_text (g ∷ []) = g
last_text (g ∷ h ∷ gs) = last_text (h ∷ gs)

-- a blank
abbrev pub is_blank : ℕ → Bool
is_blank b = b == byte " "

-- how many bytes a text begins with that are blanks
abbrev pub blanks_len : List ℕ → ℕ
blanks_len text = length (take_while is_blank text)

-- how many bytes a text begins with that are none
abbrev pub solid_len : List ℕ → ℕ
solid_len text = length (take_while (λ b. not (is_blank b)) text)

-- how many bytes the blanks that a text begins with take, and the word after them
abbrev pub word_len : List ℕ → ℕ
word_len text = let blanks = blanks_len text in blanks + solid_len (drop blanks text)

-- how far it is to the right: over the first grapheme, over the blanks and the word after them, or over all
abbrev pub reach_right : Reach → List ℕ → ℕ
reach_right Grapheme text = length (first_text (graphemes true text))
reach_right Word text = word_len text
reach_right All text = length text

-- the same to the left, over the last grapheme, word and blanks
abbrev pub reach_left : Reach → List ℕ → ℕ
reach_left Grapheme text = length (last_text (graphemes true text))
reach_left Word text = word_len (reverse text)
reach_left All text = length text
