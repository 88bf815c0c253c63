-- Variants by their names.
use Rattle.std.specs.Prelude.{◌≡◌, ◌≢◌, ℕ, List, Result, Ok, MatchResult, codes}
use Rattle.rtui_layout.specs.{declared.alignment.HorizontalAlignment.HorizontalAlignment}
use Rattle.rtui_layout.specs.{declared.alignment.VerticalAlignment.VerticalAlignment}
use Rattle.rtui_layout.specs.declared.alignment.HorizontalAlignment.TheVariants as horizontal
use Rattle.rtui_layout.specs.declared.alignment.VerticalAlignment.TheVariants as vertical
use Rattle.rtui_layout.specs.declared.direction.Direction.{Direction}
use Rattle.rtui_layout.specs.{declared.direction.Direction.TheVariants.Horizontal}
use Rattle.rtui_layout.specs.{declared.direction.Direction.TheVariants.Vertical, declared.flex.Flex.Flex}
use Rattle.rtui_layout.specs.declared.flex.Flex.TheVariants as flex
use Rattle.rtui_layout.specs.declared.parse_error.ParseError.{ParseError}

-- the text is read as the variant with exactly this name, and refused if no variant has it
abbrev pub ReadsName : {V : Type 0} → (V → List ℕ) → List ℕ → Result V ParseError → Type 0
ReadsName {V} name text r = MatchResult r (λ v. name v ≡ text) (λ _. (v : V) → name v ≢ text)

abbrev pub direction_name : Direction → List ℕ
direction_name Horizontal = codes "Horizontal"
direction_name Vertical = codes "Vertical"

abbrev pub horizontal_name : HorizontalAlignment → List ℕ
horizontal_name horizontal.Left = codes "Left"
horizontal_name horizontal.Center = codes "Center"
horizontal_name horizontal.Right = codes "Right"

abbrev pub vertical_name : VerticalAlignment → List ℕ
vertical_name vertical.Top = codes "Top"
vertical_name vertical.Center = codes "Center"
vertical_name vertical.Bottom = codes "Bottom"

abbrev pub flex_name : Flex → List ℕ
flex_name flex.Legacy = codes "Legacy"
flex_name flex.Start = codes "Start"
flex_name flex.End = codes "End"
flex_name flex.Center = codes "Center"
flex_name flex.SpaceBetween = codes "SpaceBetween"
flex_name flex.SpaceEvenly = codes "SpaceEvenly"
flex_name flex.SpaceAround = codes "SpaceAround"

-- a printed name is read as the variant that printed it
abbrev pub ReadsBack : {V : Type 0} → (V → List ℕ) → Type 0
ReadsBack {V} name = (v : V) (r : Result V ParseError) → ReadsName name (name v) r → r ≡ Ok v
