-- Styles, colours and modifiers.
pub use Rattle.rtui_style.specs.declared.color.Color.{Color}
pub use Rattle.rtui_style.specs.declared.color.Color.TheVariants.{Reset, Black, Red, Green, Yellow, Blue}
pub use Rattle.rtui_style.specs.declared.color.Color.TheVariants.{Magenta, Cyan, Gray, DarkGray, LightRed}
pub use Rattle.rtui_style.specs.declared.color.Color.TheVariants.{LightGreen, LightYellow, LightBlue}
pub use Rattle.rtui_style.specs.declared.color.Color.TheVariants.{LightMagenta, LightCyan, White, Rgb}
pub use Rattle.rtui_style.specs.declared.color.Color.TheVariants.{Indexed}
pub use Rattle.rtui_style.specs.declared.Modifier.{Modifier}
pub use Rattle.rtui_style.specs.declared.Style.{Style}
pub use Rattle.rtui_style.specs.Color.{color_text, lowered, color_of, color_of_number}
pub use Rattle.rtui_style.specs.Modifier.{modifier_table, bits_of, modifier_of, no_modifier}
pub use Rattle.rtui_style.specs.Modifier.{ModifierRow, modifiers, modifier_sets}
pub use Rattle.rtui_style.specs.Style.{new_style, reset_style, with_fg, with_bg, with_underline_color}
pub use Rattle.rtui_style.specs.Style.{with_modifier, without_modifier, has_modifier, color_or, patch}
pub use Rattle.rtui_style.specs.Style.{color_after, modifier_after}
