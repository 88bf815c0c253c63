-- What `==` of cells answers, and what it means.
use Rattle.std.specs.Prelude.{◌≡◌, Bool}
use Rattle.std.specs.Str.{bytes_eq}
use Rattle.rtui_cell.specs.{Symbol.symbol_text, Look.look_of, declared.cell.Cell.Cell}
use Rattle.rtui_cell.specs.contracts.cell.CellPartialEq.TheImpl as equality

-- equal looks, options and flags; an unset symbol looks like a blank
pub record IsEqual (a b : Cell) : Type 0 where
  pub look : look_of a ≡ look_of b
  pub option : a.diff_option ≡ b.diff_option
  pub flag : a.skip ≡ b.skip

-- what `==` answers
unfoldable pub is_same : Cell → Cell → Bool
is_same = equality.eq-value.it

-- the same text, where an unset symbol reads as a blank
unfoldable pub is_same_symbol : Cell → Cell → Bool
is_same_symbol a b = bytes_eq (symbol_text a.symbol) (symbol_text b.symbol)
