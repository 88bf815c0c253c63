-- Lines and status lines, as rows of a screen.
use Rattle.std.specs.Prelude.{ℕ, ◌^◌, ◌+◌, ◌-◌, min, List, [], ◌∷◌, ◌++◌, length, codes, Option, Some}
use Rattle.std.specs.Fmt.{decimal}
use Rattle.ratatui_core.specs.Layout.{Position, Rect}
use Rattle.ratatui_core.specs.Style.{Style, new_style, with_modifier, modifier_of}
use Rattle.ratatui_core.specs.Buffer.{BufferData, PaintsPieces, pieces_at, Look}
use Rattle.ratatui_core.specs.Terminal.{IsRowOf}

-- a count, which stays at the greatest number
abbrev pub counted : ℕ → ℕ
counted n = min n (2 ^ 64 - 1)

-- the status line after so many lines
abbrev pub status_text : ℕ → List ℕ
status_text count = codes "lines: " ++ decimal count

-- how a status line looks: in reverse video; 64 is `REVERSED`
abbrev pub status_style : Style
status_style = with_modifier (modifier_of 64) new_style

-- a status line painted from the corner of an area on, in at most the area's columns
abbrev pub RendersStatus : List ℕ → Rect → BufferData → BufferData → Type 0
RendersStatus text area old = PaintsPieces (record { x = area.x; y = area.y })
    (pieces_at old.area area.x area.width status_style text) old

-- the place after a text of ASCII in the first row of an area, or the last column there
abbrev pub end_place : List ℕ → Rect → Option Position
end_place text area = Some (record {
  x = min (area.x + min (length text) (area.width - 1)) 65535;
  y = area.y;
})

-- a row that agrees with its line, for each line in order
abbrev pub AreRowsOfLines : ℕ → List (List ℕ) → List (List Look) → Type 0
AreRowsOfLines width [] [] = Unit {0}
AreRowsOfLines width [] (row ∷ rows) = ⊥
AreRowsOfLines width (line ∷ lines) [] = ⊥
AreRowsOfLines width (line ∷ lines) (row ∷ rows) = IsRowOf width line row × AreRowsOfLines width lines rows
