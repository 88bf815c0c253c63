-- What a badge draws.
use Rattle.ratatui_core.specs.{Layout.Rect, Style.new_style, Buffer.BufferData}
use Rattle.rtui_drawing.specs.Drawings.{Drawing, ◌before◌, put_style, put_line}
use Rattle.rtui_inside.specs.Inside.{DrawsInside, LeavesInside, IsShortInside}
use Rattle.guide.specs.declared.badge.Badge.{Badge}

-- its colour, and its line over it
abbrev pub badge_drawing : Badge → Rect → Drawing
badge_drawing b r = put_style b.style before put_line b.line

-- the box, and what it draws inside
abbrev pub RendersBadge : Badge → Rect → BufferData → BufferData → Type 0
RendersBadge b = DrawsInside new_style b.block (badge_drawing b)

-- what a refusal leaves
abbrev pub LeavesBadge : Badge → Rect → BufferData → BufferData → Type 0
LeavesBadge b = LeavesInside new_style b.block (badge_drawing b)

-- it takes no memory if its box and its line take none
abbrev pub IsShortBadge : Badge → Rect → BufferData → Type 0
IsShortBadge b = IsShortInside b.block (badge_drawing b)
