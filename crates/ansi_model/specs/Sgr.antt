-- The colours and modifiers that text is printed with, and how SGR (select graphic rendition) changes them.
use Rattle.std.specs.Prelude.{ℕ, ◌-◌, ◌==◌, ◌&&◌, ◌||◌, nat_le, nat_lt, Bool, true, false, if◌then◌else◌}
use Rattle.std.specs.Prelude.{List, [], ◌∷◌, Option, Some, None, is_some}
use Rattle.std.specs.Int.RustNames.{bit_or}
use Rattle.ratatui_core.specs.Style.{Color, Reset, Black, Red, Green, Yellow, Blue, Magenta, Cyan, Gray}
use Rattle.ratatui_core.specs.Style.{DarkGray, LightRed, LightGreen, LightYellow, LightBlue, LightMagenta}
use Rattle.ratatui_core.specs.Style.{LightCyan, White, Rgb, Indexed, no_modifier, bits_of, modifier_of}
use Rattle.ratatui_core.specs.Style.{ModifierRow, modifiers}
use Rattle.ratatui_core.specs.Buffer.{Look, Cell}
use Rattle.ansi_model.specs.declared.sgr.Sgr.{Sgr}

-- the terminal's own colours, and no modifiers
abbrev pub default_sgr : Sgr
default_sgr = record { fg = Reset; bg = Reset; underline_color = Reset; modifier = no_modifier }

-- the rendition of a cell
abbrev pub sgr_of : Cell → Sgr
sgr_of c = record { fg = c.fg; bg = c.bg; underline_color = c.underline_color; modifier = c.modifier }

-- the look of a text in a rendition
abbrev pub inked : List ℕ → Sgr → Look
inked symbol sgr = record {
  symbol = symbol;
  fg = sgr.fg;
  bg = sgr.bg;
  underline_color = sgr.underline_color;
  modifier = sgr.modifier;
}

abbrev pub is_default_color : Color → Bool
is_default_color Reset = true
is_default_color _ = false

-- whether a rendition is the terminal's own
abbrev pub is_own : Sgr → Bool
is_own sgr = is_default_color sgr.fg && is_default_color sgr.bg && is_default_color sgr.underline_color &&
    (bits_of sgr.modifier == 0)

-- what the next parameter belongs to: to itself, to a colour that was begun (38 of the text, 48 of the
-- background, 58 of the underline), to its number, or to its three parts
pub data Awaits : Type 0 where
  Nothing : Awaits
  Kind : (target : ℕ) → Awaits
  Number : (target : ℕ) → Awaits
  Parts : (target : ℕ) (parts : List ℕ) → Awaits

-- a rendition, and what the next parameter belongs to
pub record Inking : Type 0 where
  pub sgr : Sgr
  pub awaits : Awaits

abbrev pub with_color : ℕ → Color → Sgr → Sgr
with_color target color sgr =
    if target == 38 then record sgr { fg = color }
    else (if target == 48 then record sgr { bg = color } else record sgr { underline_color = color })

-- the colours that have a number from 0 to 15
abbrev pub named : ℕ → Color
named n =
    if n == 0 then Black else (if n == 1 then Red else (if n == 2 then Green else (if n == 3 then Yellow
    else (if n == 4 then Blue else (if n == 5 then Magenta else (if n == 6 then Cyan else (if n == 7 then Gray
    else (if n == 8 then DarkGray else
    (if n == 9 then LightRed else (if n == 10 then LightGreen else (if n == 11 then LightYellow
    else (if n == 12 then LightBlue else
    (if n == 13 then LightMagenta else (if n == 14 then LightCyan else White))))))))))))))

-- the bit of the modifier that has this number, if one has it
abbrev pub bit_numbered : ℕ → List ModifierRow → Option ℕ
bit_numbered n [] = None
bit_numbered n (m ∷ ms) = if n == m.number then Some m.bit else bit_numbered n ms

-- a rendition, and nothing begun
abbrev pub done_with : Sgr → Inking
done_with sgr = record { sgr = sgr; awaits = Nothing }

-- a parameter that is no modifier's: 0 the own rendition, 30 and on the colours
abbrev pub inks_color : ℕ → Sgr → Inking
inks_color n sgr =
    if n == 0 then done_with default_sgr
    else (if (n == 38) || (n == 48) || (n == 58) then record { sgr = sgr; awaits = Kind n }
    else (if nat_le 30 n && nat_le n 37 then done_with (record sgr { fg = named (n - 30) })
    else (if nat_le 40 n && nat_le n 47 then done_with (record sgr { bg = named (n - 40) })
    else (if nat_le 90 n && nat_le n 97 then done_with (record sgr { fg = named (n - 82) })
    else (if nat_le 100 n && nat_le n 107 then done_with (record sgr { bg = named (n - 92) })
    else done_with sgr)))))

-- a parameter that stands for itself: a modifier that is set, or what else it says
abbrev pub inks_modifier : Option ℕ → ℕ → Sgr → Inking
inks_modifier (Some bit) n sgr =
    done_with (record sgr { modifier = modifier_of (bit_or (bits_of sgr.modifier) bit) })
inks_modifier None n sgr = inks_color n sgr

abbrev pub inks_alone : ℕ → Sgr → Inking
inks_alone n sgr = inks_modifier (bit_numbered n modifiers) n sgr

-- one more part of a colour
abbrev pub inks_part : ℕ → List ℕ → ℕ → Sgr → Inking
inks_part target [] n sgr = record { sgr = sgr; awaits = Parts target (n ∷ []) }
inks_part target (r ∷ []) n sgr = record { sgr = sgr; awaits = Parts target (r ∷ n ∷ []) }
inks_part target (r ∷ g ∷ more) n sgr = done_with (with_color target (Rgb r g n) sgr)

-- one parameter
abbrev pub inks_in : Awaits → ℕ → Sgr → Inking
inks_in Nothing n sgr = inks_alone n sgr
inks_in (Kind target) n sgr = if n == 5 then record {
  sgr = sgr;
  awaits = Number target;
} else record { sgr = sgr; awaits = Parts target [] }
inks_in (Number target) n sgr = done_with (with_color target (Indexed n) sgr)
inks_in (Parts target parts) n sgr = inks_part target parts n sgr

-- whether terminals know a parameter that stands for itself
abbrev pub is_known_alone : ℕ → Bool
is_known_alone n = is_some (bit_numbered n modifiers) || (n == 0) || (nat_le 30 n && nat_le n 38) ||
    (nat_le 40 n && nat_le n 48) || (n == 58) ||
    (nat_le 90 n && nat_le n 97) || (nat_le 100 n && nat_le n 107)

-- whether they take a parameter alike: a colour is begun by 5 or 2, and its numbers are below 256
abbrev pub is_known_parameter : Awaits → ℕ → Bool
is_known_parameter Nothing n = is_known_alone n
is_known_parameter (Kind target) n = (n == 5) || (n == 2)
is_known_parameter (Number target) n = nat_lt n 256
is_known_parameter (Parts target parts) n = nat_lt n 256

abbrev pub is_complete : Awaits → Bool
is_complete Nothing = true
is_complete _ = false

-- whether they take parameters alike, and no colour is left unfinished
unfoldable pub are_known : List ℕ → Awaits → Bool
are_known [] awaits = is_complete awaits
are_known (n ∷ ns) awaits = is_known_parameter awaits n && are_known ns (inks_in awaits n default_sgr).awaits

-- how many parameters of one sequence all terminals take: some ignore a longer one, and one crashes on it
abbrev pub most_parameters : ℕ
most_parameters = 16

-- parameters, in order
unfoldable pub inks : List ℕ → Inking → Inking
inks [] i = i
inks (n ∷ ns) i = inks ns (inks_in i.awaits n i.sgr)
