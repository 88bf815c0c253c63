-- The names of markers.
use Rattle.std.specs.Prelude.{◌≡◌, ◌≢◌, ℕ, List, Result, MatchResult, codes}
use Rattle.rtui_layout.specs.declared.parse_error.ParseError.{ParseError}
use Rattle.rtui_symbols.specs.declared.marker.Marker.{Marker}
use Rattle.rtui_symbols.specs.declared.marker.Marker.TheVariants.{Dot, Block, Bar, Braille, HalfBlock}
use Rattle.rtui_symbols.specs.declared.marker.Marker.TheVariants.{Quadrant, Sextant, Octant, Custom}

abbrev pub marker_name : Marker → List ℕ
marker_name Dot = codes "Dot"
marker_name Block = codes "Block"
marker_name Bar = codes "Bar"
marker_name Braille = codes "Braille"
marker_name HalfBlock = codes "HalfBlock"
marker_name Quadrant = codes "Quadrant"
marker_name Sextant = codes "Sextant"
marker_name Octant = codes "Octant"
marker_name (Custom c) = codes "Custom"

-- a text is read as the marker with exactly this name, at Custom with the null character, and refused if no
-- marker has it
abbrev pub ReadsMarker : List ℕ → Result Marker ParseError → Type 0
ReadsMarker text r = MatchResult r (λ m. (marker_name m ≡ text) × ((c : ℕ) → m ≡ Custom c → c ≡ 0))
    (λ _. (m : Marker) → marker_name m ≢ text)
