-- Which symbol of a set stands, and how steps go around it.
use Rattle.std.specs.Prelude.{ℕ, ℤ, pos, ◌+ℤ◌, List, ◌∷◌, Option, Some, length, map, slice_get, unsigned_abs}
use Rattle.std.specs.Prelude.{[], ◌++◌, codes}
use Rattle.std.specs.Char.{encode_utf8}
use Rattle.std.specs.Int.{w64, int_rem_euclid, saturate_signed}
use Rattle.widget_throbber.specs.declared.set.Set.{Set}
use Rattle.widget_throbber.specs.declared.set.WhichUse.{WhichUse}
use Rattle.widget_throbber.specs.declared.set.WhichUse.TheVariants.{Full, Empty, Spin}

-- an index so many steps on, or back if they are negative, as far as an index goes
abbrev pub steps_on : ℤ → ℤ → ℤ
steps_on i steps = saturate_signed w64 (i +ℤ steps)

-- which of so many symbols an index means: it is counted around them
abbrev pub symbol_number : ℤ → ℕ → ℕ
symbol_number i n = unsigned_abs (int_rem_euclid i (pos n))

-- the texts of a set's symbols in turn
abbrev pub turning_texts : Set → List (List ℕ)
turning_texts set = map (λ symbol. symbol.now) set.symbols.now

-- all texts of a set
abbrev pub texts_of_set : Set → List (List ℕ)
texts_of_set set = set.full.now ∷ set.empty.now ∷ turning_texts set

-- characters, each as a text
abbrev pub each_alone : List ℕ → List (List ℕ)
each_alone characters = map encode_utf8 characters

-- the texts of the named sets: lines of ASCII, lines, arrows, and six and eight dots, of which U+2800 has
-- none
abbrev pub ascii_texts : List (List ℕ)
ascii_texts = each_alone (codes "* |/-\\")

abbrev pub straight_texts : List (List ℕ)
straight_texts = each_alone (codes "┼ │╱─╲")

abbrev pub arrow_texts : List (List ℕ)
arrow_texts = each_alone (codes "* ↑↗→↘↓↙←↖")

abbrev pub six_dots_texts : List (List ℕ)
six_dots_texts = each_alone (codes "⠿" ++ 0x2800 ∷ codes "⠷⠯⠟⠻⠽⠾")

abbrev pub eight_dots_texts : List (List ℕ)
eight_dots_texts = each_alone (codes "⣿" ++ 0x2800 ∷ codes "⣷⣯⣟⡿⢿⣻⣽⣾")

abbrev pub named_sets : List (List (List ℕ))
named_sets = ascii_texts ∷ straight_texts ∷ arrow_texts ∷ six_dots_texts ∷ eight_dots_texts ∷ []

-- the symbol that stands: the full one, the empty one, or the one that an index means; of a set without
-- symbols in turn it means none
abbrev pub turned_symbol : Set → WhichUse → ℤ → Option (List ℕ)
turned_symbol set Full i = Some set.full.now
turned_symbol set Empty i = Some set.empty.now
turned_symbol set Spin i = slice_get (turning_texts set) (symbol_number i (length (turning_texts set)))
