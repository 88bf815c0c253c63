-- The printed texts.
use Rattle.std.specs.Prelude.{ℕ, List, Option, Some, codes}
use Rattle.std.specs.Fmt.{◌++?◌}
use Rattle.rtui_terminal.specs.declared.terminal.error.TerminalError.{TerminalError}
use Rattle.rtui_terminal.specs.declared.terminal.error.TerminalError.TheVariants.{Backend, Memory, Area}
use Rattle.rtui_terminal.specs.declared.terminal.error.TerminalError.TheVariants.{Closure}

-- the printed error, which is unknown if the text of the error inside is
abbrev pub terminal_error_text : {E : Type 0} → (E → Option (List ℕ)) → TerminalError E → Option (List ℕ)
terminal_error_text inner (Backend error) = Some (codes "backend: ") ++? inner error
terminal_error_text inner Memory = Some (codes "no memory")
terminal_error_text inner Area = Some (codes "buffer area")
terminal_error_text inner (Closure error) = Some (codes "closure: ") ++? inner error
