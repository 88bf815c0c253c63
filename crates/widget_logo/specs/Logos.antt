-- A logo: which character stands where.
use Rattle.std.specs.Prelude.{ℕ, ◌-◌, List, [], ◌∷◌, Option, Some, None, codes, slice_get}
use Rattle.std.specs.Prelude.{slice_index_or, encode_utf8}
use Rattle.ratatui_core.specs.Layout.{Rect, Position, intersected}
use Rattle.ratatui_core.specs.Buffer.{BufferData, Cell, with_symbol, ChangesEach}
use Rattle.widget_logo.specs.declared.logo.Size.{Size as LogoSize}
use Rattle.widget_logo.specs.declared.logo.Size.TheVariants.{Tiny, Small}

-- the rows of a logo, from the top
abbrev pub logo_rows : LogoSize → List (List ℕ)
logo_rows Tiny = codes "▛▚▗▀▖▜▘▞▚▝▛▐ ▌▌" ∷ codes "▛▚▐▀▌▐ ▛▜ ▌▝▄▘▌" ∷ []
logo_rows Small = codes "█▀▀▄ ▄▀▀▄▝▜▛▘▄▀▀▄▝▜▛▘█  █ █" ∷ codes "█▀▀▄ █▀▀█ ▐▌ █▀▀█ ▐▌ ▀▄▄▀ █" ∷ []

-- the characters of a row, none below the last one
abbrev pub logo_row : LogoSize → ℕ → List ℕ
logo_row size y = slice_index_or (logo_rows size) y []

-- the character in a column and a row, if there is one
abbrev pub logo_character : LogoSize → ℕ → ℕ → Option ℕ
logo_character size x y = slice_get (logo_row size y) x

-- a cell with a character, if there is one
abbrev pub showing_character : Option ℕ → Cell → Cell
showing_character None c = c
showing_character (Some character) c = with_symbol (encode_utf8 character) c

-- a cell of a logo at the corner of an area
abbrev pub logo_cell : LogoSize → Rect → Position → Cell → Cell
logo_cell size r p = showing_character (logo_character size (p.x - r.x) (p.y - r.y))

-- A logo over the part of an area that a buffer has: a character in each of its cells. Nothing else changes.
abbrev pub RendersLogo : LogoSize → Rect → BufferData → BufferData → Type 0
RendersLogo size area old new = let r = intersected area old.area in ChangesEach r (logo_cell size r) old new
