-- Words that only private contracts use: they follow the code.
use Rattle.ansi_model.specs.{Modes.no_modes}
use Rattle.std.specs.Prelude.{ℕ, zero, suc, ◌≡◌, ◌+◌, ◌==◌, min, nat_lt, true, if◌then◌else◌, List, []}
use Rattle.std.specs.Prelude.{◌∷◌, ◌++◌}
use Rattle.ansi_model.specs.Emulator.{Emulator, cursor_moved, line_fed, lines_inserted, fed, returned}
use Rattle.std.specs.{Int.RustNames.bit_and, List.list_all, List.flat_map, Fmt.decimal}
use Rattle.ratatui_core.specs.Style.{Color, Rgb, Indexed, ModifierRow, modifiers}

-- a terminal in none of the modes that change how it takes text, with its cursor in the corner
abbrev pub without_modes : Emulator → Emulator
without_modes t = record t { modes = no_modes; x = 0; y = 0 }

-- as many rows as these and one more scrolled off a terminal at the top, and as many blank ones came in there
abbrev pub scrolled_off_by : ℕ → Emulator → Emulator
scrolled_off_by h t =
    lines_inserted (min (h + 1) 65535) (cursor_moved 0 0 (fed (h + 1) (returned (cursor_moved 0 65534 t))))

-- a line feed in the second row, and then a blank row in place of the first
abbrev pub fed_and_lowered : Emulator → Emulator
fed_and_lowered t = lines_inserted 1 (cursor_moved 0 0 (line_fed (cursor_moved 0 1 t)))

-- the same n times
abbrev pub fed_and_lowered_by : ℕ → Emulator → Emulator
fed_and_lowered_by zero t = t
fed_and_lowered_by (suc n) t = fed_and_lowered_by n (fed_and_lowered t)

-- what sets a colour of the underline; no named colour is one
abbrev pub underline_parameters : Color → List ℕ
underline_parameters (Rgb r g b) = 58 ∷ 2 ∷ r ∷ g ∷ b ∷ []
underline_parameters (Indexed n) = 58 ∷ 5 ∷ n ∷ []
underline_parameters _ = []

-- the modifier with this bit, by its number, if it is set
abbrev pub modifier_parameter : ℕ → ℕ → ℕ → List ℕ
modifier_parameter bits bit n = if bit_and bits bit == 0 then [] else n ∷ []

-- the numbers of those of a list that are set
abbrev pub parameters_of : ℕ → List ModifierRow → List ℕ
parameters_of bits rows = flat_map (λ m. modifier_parameter bits m.bit m.number) rows

abbrev pub modifier_parameters : ℕ → List ℕ
modifier_parameters bits = parameters_of bits modifiers

-- parameters as they are written, each after a semicolon
abbrev pub semicolons : List ℕ → List ℕ
semicolons [] = []
semicolons (p ∷ ps) = 59 ∷ (decimal p ++ semicolons ps)

-- the same, but the first one after this lead
abbrev pub led : List ℕ → List ℕ → List ℕ
led lead [] = []
led lead (p ∷ ps) = lead ++ (decimal p ++ semicolons ps)

-- parameters of a byte each were appended, the first one after this lead
pub record AddsParameters (lead old new parameters : List ℕ) : Type 0 where
  pub appended : new ≡ old ++ led lead parameters
  pub small : list_all (λ p. nat_lt p 256) parameters ≡ true
