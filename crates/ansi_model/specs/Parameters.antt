-- The parameters that set a rendition.
use Rattle.std.specs.Prelude.{ℕ, ◌+◌, ◌&&◌, ◌||◌, nat_lt, nat_le, Bool, true, false, if◌then◌else◌}
use Rattle.std.specs.Prelude.{List, [], ◌∷◌}
use Rattle.ratatui_core.specs.Style.{Color, Reset, Black, Red, Green, Yellow, Blue, Magenta, Cyan, Gray}
use Rattle.ratatui_core.specs.Style.{DarkGray, LightRed, LightGreen, LightYellow, LightBlue, LightMagenta}
use Rattle.ratatui_core.specs.Style.{LightCyan, White, Rgb, Indexed, bits_of, modifier_sets}
use Rattle.ansi_model.specs.{Sgr.is_default_color, Sgr.most_parameters, declared.sgr.Sgr.Sgr}

-- of a colour: those of the text count from 30, those of the background from 40
abbrev pub color_parameters : ℕ → Color → List ℕ
color_parameters base Reset = []
color_parameters base Black = base ∷ []
color_parameters base Red = (base + 1) ∷ []
color_parameters base Green = (base + 2) ∷ []
color_parameters base Yellow = (base + 3) ∷ []
color_parameters base Blue = (base + 4) ∷ []
color_parameters base Magenta = (base + 5) ∷ []
color_parameters base Cyan = (base + 6) ∷ []
color_parameters base Gray = (base + 7) ∷ []
color_parameters base DarkGray = (base + 60) ∷ []
color_parameters base LightRed = (base + 61) ∷ []
color_parameters base LightGreen = (base + 62) ∷ []
color_parameters base LightYellow = (base + 63) ∷ []
color_parameters base LightBlue = (base + 64) ∷ []
color_parameters base LightMagenta = (base + 65) ∷ []
color_parameters base LightCyan = (base + 66) ∷ []
color_parameters base White = (base + 67) ∷ []
color_parameters base (Rgb r g b) = (base + 8) ∷ 2 ∷ r ∷ g ∷ b ∷ []
color_parameters base (Indexed n) = (base + 8) ∷ 5 ∷ n ∷ []

-- whether a colour of the underline can be sent
abbrev pub is_underline : Color → Bool
is_underline Reset = true
is_underline (Rgb r g b) = true
is_underline (Indexed n) = true
is_underline _ = false

-- whether a terminal can be sent a rendition: only known modifiers are set
abbrev pub is_sendable : Sgr → Bool
is_sendable p = is_underline p.underline_color && nat_lt (bits_of p.modifier) modifier_sets

-- the same of a terminal that reads colours of the underline, or of one that doesn't
abbrev pub is_sendable_by : Bool → Sgr → Bool
is_sendable_by colors p = is_sendable p && (colors || is_default_color p.underline_color)

-- how many parameters a colour has
abbrev pub color_count : Color → ℕ
color_count Reset = 0
color_count (Rgb r g b) = 5
color_count (Indexed n) = 3
color_count _ = 1

-- whether so many parameters may follow others in one sequence
abbrev pub is_joined : ℕ → ℕ → Bool
is_joined count more = nat_le (count + more) most_parameters

-- what stands before them: a semicolon, or else what closes the sequence and begins another, which is m, ESC
-- and [
abbrev pub lead_of : ℕ → ℕ → List ℕ
lead_of count more = if is_joined count more then 59 ∷ [] else 109 ∷ 27 ∷ 91 ∷ []

-- how many the sequence has with them
abbrev pub count_with : ℕ → ℕ → ℕ
count_with count more = if is_joined count more then count + more else more
