-- Lines as a terminal shows them, and a view of all that was read.
use Rattle.std.specs.Prelude.{◌≡◌, ℕ, ◌-◌, ◌<◌, ◌≤◌, ◌==◌, ◌||◌, Bool, true}
use Rattle.std.specs.Prelude.{if◌then◌else◌, List, [], ◌∷◌, ◌++◌, length, replicate, encode_utf8}
use Rattle.std.specs.{List.flat_map, Io.BufRead.take_through, Io.BufRead.drop_through}
use Rattle.unicode_segmentation.specs.Grapheme.{graphemes}
use Rattle.ratatui_core.specs.{Buffer.text_width, Buffer.kept, Text.has_control}
use Rattle.ansi_model.specs.Symbols.{is_printed}

-- no cell shows a grapheme: it has a control character or no columns
abbrev pub is_unpainted : List ℕ → Bool
is_unpainted g = has_control g || (text_width g == 0)

-- U+FFFD, and blanks after it up to so many columns
abbrev pub replacement : ℕ → List ℕ
replacement n = encode_utf8 0xFFFD ++ replicate (n - 1) 32

-- a grapheme as it is shown: in place of one that terminals don't print as one symbol U+FFFD in its columns
abbrev pub shown_grapheme : List ℕ → List ℕ
shown_grapheme g = if is_unpainted g || is_printed g then g else replacement (text_width g)

-- a line as it is shown
abbrev pub shown_line : List ℕ → List ℕ
shown_line line = flat_map shown_grapheme (graphemes true line)

-- two texts look alike in so many columns: the same graphemes of them are painted there, and in fewer columns
abbrev pub LookAlike : ℕ → List ℕ → List ℕ → Type 0
LookAlike columns s t = (room : ℕ) → room ≤ columns → kept room (graphemes true s) ≡ kept room (graphemes true t)

-- a text, cut after each line break
abbrev pub AreLinesOf : List ℕ → List (List ℕ) → Type 0
AreLinesOf text [] = text ≡ []
AreLinesOf text (line ∷ lines) = (0 < length line) × (line ≡ take_through 10 text)
    × AreLinesOf (drop_through 10 text) lines
