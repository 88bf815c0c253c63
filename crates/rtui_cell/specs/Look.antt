-- What a column of a screen looks like.
use Rattle.std.specs.Prelude.{ℕ, List}
use Rattle.rtui_style.specs.{declared.color.Color.Color, declared.color.Color.TheVariants.Reset}
use Rattle.rtui_style.specs.{declared.Modifier.Modifier, Modifier.no_modifier}
use Rattle.rtui_cell.specs.{Symbol.blank, Symbol.symbol_text, declared.cell.Cell.Cell}

-- a text, three colours and a set of modifiers
pub record Look : Type 0 where
  pub symbol : List ℕ
  pub fg : Color
  pub bg : Color
  pub underline_color : Color
  pub modifier : Modifier

-- a blank without colours or modifiers
abbrev pub empty_look : Look
empty_look = record {
  symbol = blank;
  fg = Reset;
  bg = Reset;
  underline_color = Reset;
  modifier = no_modifier;
}

-- what a cell shows
unfoldable pub look_of : Cell → Look
look_of c = record {
  symbol = symbol_text c.symbol;
  fg = c.fg;
  bg = c.bg;
  underline_color = c.underline_color;
  modifier = c.modifier;
}
