-- A mascot: which dots stand where, in which colours, and what a cell shows of two of them.
use Rattle.std.specs.Prelude.{ℕ, ◌+◌, ◌-◌, ◌*◌, ◌==◌, Bool, true, false, List, [], ◌∷◌, Option, Some, None}
use Rattle.std.specs.Prelude.{if◌then◌else◌, slice_index_or, encode_utf8}
use Rattle.ratatui_core.specs.Layout.{Rect, Position, intersected}
use Rattle.ratatui_core.specs.Buffer.{BufferData, Cell, with_symbol, ChangesEach}
use Rattle.ratatui_core.specs.Style.{Color, Indexed}
use Rattle.widget_logo.specs.declared.mascot.MascotEyeColor.{MascotEyeColor}
use Rattle.widget_logo.specs.declared.mascot.MascotEyeColor.TheVariants.{Default, Red}
use Rattle.widget_logo.specs.declared.mascot.TheConstants.{DOTS}

-- a row of dots, none below the last one
abbrev pub mascot_row : ℕ → List ℕ
mascot_row y = slice_index_or DOTS y []

-- the dot in a column and a row of dots, a letter; a full stop where there is none
abbrev pub mascot_dot : ℕ → ℕ → ℕ
mascot_dot x y = slice_index_or (mascot_row y) x 0x2e

abbrev pub eye_color : MascotEyeColor → Color
eye_color Default = Indexed 236
eye_color Red = Indexed 196

-- the colour of a dot, by its letter: r the rat, h its hat, e its eye, s a screen, b the screen's border, c what
-- is written on the screen
abbrev pub dot_color : MascotEyeColor → ℕ → Option Color
dot_color eye dot =
    if dot == 0x72 then Some (Indexed 252)
    else if dot == 0x68 then Some (Indexed 231)
    else if dot == 0x65 then Some (eye_color eye)
    else if dot == 0x73 then Some (Indexed 232)
    else if dot == 0x62 then Some (Indexed 237)
    else if dot == 0x63 then Some (Indexed 248)
    else None

-- a cell that shows two dots, one over the other, and whether they are of one kind: half a block for one dot, a
-- whole one for two of one kind, and else half a block in the upper one's colour on the lower one's
abbrev pub halves_shown : Option Color → Option Color → Bool → Cell → Cell
halves_shown None None is_one c = c
halves_shown (Some upper) None is_one c = with_symbol (encode_utf8 0x2580) (record c { fg = upper })
halves_shown None (Some lower) is_one c = with_symbol (encode_utf8 0x2584) (record c { fg = lower })
halves_shown (Some upper) (Some lower) true c = with_symbol (encode_utf8 0x2588) (record c { fg = upper })
halves_shown (Some upper) (Some lower) false c =
    with_symbol (encode_utf8 0x2580) (record c { fg = upper; bg = lower })

-- the dots that a cell of a mascot at the corner of an area shows
abbrev pub upper_dot : Rect → Position → ℕ
upper_dot r p = mascot_dot (p.x - r.x) (2 * (p.y - r.y))

abbrev pub lower_dot : Rect → Position → ℕ
lower_dot r p = mascot_dot (p.x - r.x) (2 * (p.y - r.y) + 1)

-- a cell of a mascot at the corner of an area
abbrev pub mascot_cell : MascotEyeColor → Rect → Position → Cell → Cell
mascot_cell eye r p =
    let upper = upper_dot r p in
    let lower = lower_dot r p in
    halves_shown (dot_color eye upper) (dot_color eye lower) (upper == lower)

-- A mascot over the part of an area that a buffer has: two dots in each of its cells. Nothing else changes.
abbrev pub RendersMascot : MascotEyeColor → Rect → BufferData → BufferData → Type 0
RendersMascot eye area old new = let r = intersected area old.area in ChangesEach r (mascot_cell eye r) old new
