-- Styles as data, what one laid over another comes to, and what a style makes of colours and modifiers.
use Rattle.std.specs.Prelude.{Bool, ◌&&◌, not, Option, Some, None}
use Rattle.rtui_style.specs.Modifier.{no_modifier, all_modifiers, modifier_with, modifier_without, has_all}
use Rattle.rtui_style.specs.{declared.color.Color.Color, declared.color.Color.TheVariants.Reset}
use Rattle.rtui_style.specs.{declared.Modifier.Modifier, declared.Style.Style}

-- the style that changes nothing
abbrev pub new_style : Style
new_style = record {
  fg = None;
  bg = None;
  underline_color = None;
  add_modifier = no_modifier;
  sub_modifier = no_modifier;
}

-- the style that sets every colour to the terminal's own and takes every modifier away
abbrev pub reset_style : Style
reset_style = record {
  fg = Some Reset;
  bg = Some Reset;
  underline_color = Some Reset;
  add_modifier = no_modifier;
  sub_modifier = all_modifiers;
}

abbrev pub with_fg : Color → Style → Style
with_fg color s = record s { fg = Some color }

abbrev pub with_bg : Color → Style → Style
with_bg color s = record s { bg = Some color }

abbrev pub with_underline_color : Color → Style → Style
with_underline_color color s = record s { underline_color = Some color }

-- the style s that also adds m, and takes nothing of it away
abbrev pub with_modifier : Modifier → Style → Style
with_modifier m s = record s {
  add_modifier = modifier_with s.add_modifier m;
  sub_modifier = modifier_without s.sub_modifier m;
}

-- the style s that also takes m away, and adds nothing of it
abbrev pub without_modifier : Modifier → Style → Style
without_modifier m s = record s {
  add_modifier = modifier_without s.add_modifier m;
  sub_modifier = modifier_with s.sub_modifier m;
}

-- m is added whole, and not taken away whole
abbrev pub has_modifier : Modifier → Style → Bool
has_modifier m s = has_all s.add_modifier m && not (has_all s.sub_modifier m)

-- the first colour if it is set, else the second
abbrev pub color_or : Option Color → Option Color → Option Color
color_or (Some c) d = Some c
color_or None d = d

-- the style p with q laid over it
abbrev pub patch : Style → Style → Style
patch p q = record {
  fg = color_or q.fg p.fg;
  bg = color_or q.bg p.bg;
  underline_color = color_or q.underline_color p.underline_color;
  add_modifier = modifier_with (modifier_without p.add_modifier q.sub_modifier) q.add_modifier;
  sub_modifier = modifier_with (modifier_without p.sub_modifier q.add_modifier) q.sub_modifier;
}

-- a colour under a style: the style's if it sets one, else as it was
abbrev pub color_after : Option Color → Color → Color
color_after (Some c) d = c
color_after None d = d

-- the modifiers under a style: with those that it adds, then less those that it takes away
abbrev pub modifier_after : Style → Modifier → Modifier
modifier_after s m = modifier_without (modifier_with m s.add_modifier) s.sub_modifier
