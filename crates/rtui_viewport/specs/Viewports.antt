-- The kinds of viewports.
use Rattle.std.specs.Prelude.{ℕ, min, List, ◌++◌, codes}
use Rattle.std.specs.Fmt.{decimal}
use Rattle.rtui_geometry.specs.{Rect.EdgesFit, Display.rect_text}
use Rattle.rtui_viewport.specs.declared.viewport.Viewport.{Viewport}
use Rattle.rtui_viewport.specs.declared.viewport.Viewport.TheVariants.{Fullscreen, Inline, Fixed}

abbrev pub IsInline : Viewport → Type 0
IsInline Fullscreen = ⊥
IsInline (Inline n) = Unit {0}
IsInline (Fixed r) = ⊥

abbrev pub IsFixed : Viewport → Type 0
IsFixed Fullscreen = ⊥
IsFixed (Inline n) = ⊥
IsFixed (Fixed r) = Unit {0}

-- the edges of a fixed viewport are at most 65535
abbrev pub FitsEdges : Viewport → Type 0
FitsEdges Fullscreen = Unit {0}
FitsEdges (Inline n) = Unit {0}
FitsEdges (Fixed r) = EdgesFit r

-- how many of h rows a viewport takes
abbrev pub rows_in : Viewport → ℕ → ℕ
rows_in Fullscreen h = h
rows_in (Inline n) h = min n h
rows_in (Fixed r) h = h

abbrev pub viewport_text : Viewport → List ℕ
viewport_text Fullscreen = codes "Fullscreen"
viewport_text (Inline n) = codes "Inline(" ++ decimal n ++ codes ")"
viewport_text (Fixed r) = codes "Fixed(" ++ rect_text r ++ codes ")"
