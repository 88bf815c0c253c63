-- Sets of modifiers.
use Rattle.std.specs.Prelude.{ℕ, Bool, List, [], ◌∷◌, map, length, ◌-◌, ◌^◌, ◌==◌, codes}
use Rattle.std.specs.Int.RustNames.{bit_and, bit_or}
use Rattle.rtui_style.specs.declared.Modifier.{Modifier}

-- a modifier: its name, its bit in a set, and the number by which a terminal is told to set it
pub record ModifierRow : Type 0 where
  pub name : List ℕ
  pub bit : ℕ
  pub number : ℕ

-- all modifiers
abbrev pub modifiers : List ModifierRow
modifiers =
    record { name = codes "BOLD"; bit = 1; number = 1 }
    ∷ record { name = codes "DIM"; bit = 2; number = 2 }
    ∷ record { name = codes "ITALIC"; bit = 4; number = 3 }
    ∷ record { name = codes "UNDERLINED"; bit = 8; number = 4 }
    ∷ record { name = codes "SLOW_BLINK"; bit = 16; number = 5 }
    ∷ record { name = codes "RAPID_BLINK"; bit = 32; number = 6 }
    ∷ record { name = codes "REVERSED"; bit = 64; number = 7 }
    ∷ record { name = codes "HIDDEN"; bit = 128; number = 8 }
    ∷ record { name = codes "CROSSED_OUT"; bit = 256; number = 9 }
    ∷ []

-- their names, each with its bit
abbrev pub modifier_table : List (List ℕ × ℕ)
modifier_table = map (λ m. (m.name, m.bit)) modifiers

-- the bits of a set, as a number
abbrev pub bits_of : Modifier → ℕ
bits_of m = m.0

-- the set with these bits
abbrev pub modifier_of : ℕ → Modifier
modifier_of bits = record { 0 = bits }

abbrev pub no_modifier : Modifier
no_modifier = modifier_of 0

-- a set of them has bits below this number
abbrev pub modifier_sets : ℕ
modifier_sets = 2 ^ length modifiers

-- all of them
abbrev pub all_modifiers : Modifier
all_modifiers = modifier_of (modifier_sets - 1)

-- the modifiers of either set
abbrev pub modifier_with : Modifier → Modifier → Modifier
modifier_with a b = modifier_of (bit_or (bits_of a) (bits_of b))

-- the modifiers of the first set that the second lacks
abbrev pub modifier_without : Modifier → Modifier → Modifier
modifier_without a b = modifier_of (bit_and (bits_of a) (2 ^ 16 - 1 - bits_of b))

-- whether the first set has all of the second
abbrev pub has_all : Modifier → Modifier → Bool
has_all a b = bit_and (bits_of a) (bits_of b) == bits_of b
