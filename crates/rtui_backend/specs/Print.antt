-- The printed text of a screen.
use Rattle.std.specs.Prelude.{ℕ, zero, suc, ◌-◌, List, [], ◌∷◌, ◌++◌, codes}
use Rattle.std.specs.List.{flat_map, range_with_len}
use Rattle.rtui_cell.specs.{Look.Look, Width.text_width}
use Rattle.rtui_backend.specs.Screen.{Screen, row_of}

-- the symbols of a row from left to right, but for the first few columns and those after a wide symbol
abbrev pub row_text : ℕ → List Look → List ℕ
row_text behind [] = []
row_text (suc behind) (look ∷ looks) = row_text behind looks
row_text zero (look ∷ looks) = look.symbol ++ row_text (text_width look.symbol - 1) looks

-- a row after a mark, with a line break
abbrev pub printed_row : List ℕ → List Look → List ℕ
printed_row mark row = mark ++ row_text 0 row ++ 10 ∷ []

-- the rows that scrolled off after `^`, then those of the screen after `|`
abbrev pub printed_screen : Screen → List ℕ
printed_screen s =
    flat_map (printed_row (codes "^")) s.history
    ++ flat_map (λ b. printed_row (codes "|") (row_of s b)) (range_with_len 0 s.height)
