-- Sets of flags as texts: written, and read.
use Rattle.std.specs.Prelude.{◌≡◌, ◌⊎◌, ℕ, List, [], ◌∷◌, ◌++◌, ◌==◌, Bool, false, Ok, codes, filter, fold}
use Rattle.std.specs.Prelude.{map, if◌then◌else◌}
use Rattle.std.specs.Fmt.{digits}
use Rattle.std.specs.Int.RustNames.{bit_and}
use Rattle.bitflags.specs.Sets.{Row, known_bits, without}
use Rattle.bitflags.specs.Text.{flag_piece, read_text}

-- a text with one more part, after a bar if something stands already
abbrev pub with_part : List ℕ → List ℕ → List ℕ
with_part [] part = part
with_part (c ∷ text) part = (c ∷ text) ++ (codes " | " ++ part)

-- whether a set has all bits of a flag
abbrev pub has_flag : ℕ → Row → Bool
has_flag bits row = bit_and bits row.1 == row.1

-- the names of the flags that a set has
abbrev pub names_in : List Row → ℕ → List (List ℕ)
names_in table bits = map (λ row. row.0) (filter (has_flag bits) table)

-- a text with these names after it
abbrev pub with_names : List ℕ → List Row → ℕ → List ℕ
with_names text table bits = fold with_part text (names_in table bits)

-- a text with bits that no flag has after it, as a hexadecimal number
abbrev pub with_stray : List ℕ → ℕ → List ℕ
with_stray text bits = if bits == 0 then text else with_part text (codes "0x" ++ digits 16 false bits)

-- a set as a text: the names of its flags, and what else it has
abbrev pub flags_text : ℕ → List Row → ℕ → List ℕ
flags_text size table bits = with_stray (with_names [] table bits) (without size bits (known_bits table))

-- a text is read as this set: names and hexadecimal numbers between bars, in any order
abbrev pub ReadsFlags : ℕ → List Row → ℕ → List ℕ → Type 0
ReadsFlags size table bits text = read_text (flag_piece table size) text ≡ Ok bits

-- a text is read as these sides: so, or as the name of all of them
abbrev pub ReadsSides : List Row → ℕ → List ℕ → Type 0
ReadsSides table bits text = ReadsFlags 8 table bits text ⊎ ((text ≡ codes "ALL") × (bits ≡ known_bits table))
