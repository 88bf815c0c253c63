-- What a tag draws, as the badge of `guide` does.
use Rattle.ratatui_core.specs.{Layout.Rect, Style.new_style, Buffer.BufferData}
use Rattle.rtui_drawing.specs.Drawings.{Drawing, ◌before◌, put_style, put_line}
use Rattle.rtui_inside.specs.Inside.{DrawsInside, LeavesInside, IsShortInside}
use Rattle.tests_apps.specs.declared.tag.Tag.{Tag}

-- its colour, and its line over it
abbrev pub tag_drawing : Tag → Rect → Drawing
tag_drawing b r = put_style b.style before put_line b.line

-- the box, and what it draws inside
abbrev pub RendersTag : Tag → Rect → BufferData → BufferData → Type 0
RendersTag b = DrawsInside new_style b.block (tag_drawing b)

-- what a refusal leaves
abbrev pub LeavesTag : Tag → Rect → BufferData → BufferData → Type 0
LeavesTag b = LeavesInside new_style b.block (tag_drawing b)

-- it takes no memory if its box and its line take none
abbrev pub IsShortTag : Tag → Rect → BufferData → Type 0
IsShortTag b = IsShortInside b.block (tag_drawing b)
