use Rattle.std.proofs.Common.{◌≡◌, drop}
use Rattle.ratatui_events.specs.Parsing.{code_among}
use Rattle.ratatui_events.proofs.parsing.code_among.Given as goal

abbrev pub invariant-loop-code : goal.invariant-loop-code
invariant-loop-code l = code_among (drop l.code-index l.keys) l.text ≡ code_among l.keys l.text
