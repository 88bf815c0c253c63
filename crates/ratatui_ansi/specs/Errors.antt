-- The printed texts of errors.
use Rattle.std.specs.Prelude.{ℕ, List, ◌++◌, Option, None, Some, codes}
use Rattle.ratatui_core.specs.Layout.{position_text}
use Rattle.ratatui_ansi.specs.{declared.draw.CellError.CellError, declared.error.AnsiError.AnsiError}
use Rattle.ratatui_ansi.specs.declared.draw.CellError.TheVariants as Refused
use Rattle.ratatui_ansi.specs.declared.error.AnsiError.TheVariants.{Memory, Symbol, Style, Cut, Size, Broken}
use Rattle.ratatui_ansi.specs.declared.error.AnsiError.TheVariants.{Write}

-- the printed error, which is unknown if it is the writer's
abbrev pub ansi_error_text : AnsiError → Option (List ℕ)
ansi_error_text Memory = Some (codes "no memory")
ansi_error_text (Symbol p) = Some (codes "symbol at " ++ position_text p)
ansi_error_text (Style p) = Some (codes "style at " ++ position_text p)
ansi_error_text (Cut p) = Some (codes "symbol cut at " ++ position_text p)
ansi_error_text Size = Some (codes "no columns or rows")
ansi_error_text Broken = Some (codes "broken")
ansi_error_text (Write error) = None

-- the error of a cell that isn't drawn
abbrev pub error_of : CellError → AnsiError
error_of Refused.Memory = Memory
error_of (Refused.Symbol p) = Symbol p
error_of (Refused.Style p) = Style p
error_of (Refused.Cut p) = Cut p
