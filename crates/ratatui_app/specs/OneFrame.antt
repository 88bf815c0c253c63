-- The frame of a state is one.
use Rattle.std.specs.Prelude.{◌≡◌}
use Rattle.ratatui_core.specs.{Layout.Rect, Buffer.BufferData, Buffer.IsEmptied, Buffer.IsSameBuffer}

-- of buffers that are the same but for room it makes such buffers
abbrev pub MakesOne : (BufferData → BufferData → Type 0) → Type 0
MakesOne makes = (s t a b : BufferData) → IsSameBuffer s t → makes s a → makes t b → IsSameBuffer a b

-- all that painting can make of empty buffers of one area is the same
abbrev pub HasOneFrame : (Rect → BufferData → BufferData → Type 0) → Type 0
HasOneFrame paints = (s t a b : BufferData) → IsEmptied a.area s → IsEmptied b.area t → b.area ≡ a.area
    → paints a.area s a → paints b.area t b → IsSameBuffer a b
