use Rattle.std.proofs.Common.{rules}
use Rattle.ansi_model.proofs.TextLemmas.{only-first, only-more, only-none}
use Rattle.ansi_model.proofs.symbol.only_char.Goals.{in_default-via-in-None-1, in_default-via-in-Some+else-is_empty}
use Rattle.ansi_model.proofs.symbol.only_char.Goals as goal

pub returns : goal.returns
returns c = let at = c.in-Some.ensures.steps in search (rules, only-first)

pub returns-2 : goal.returns-2
returns-2 c = elim c.in_default.branch [
  | in_default-via-in-None-1 w ↦ let at = c.next.ensures.steps in search (rules, only-none)
  | in_default-via-in-Some+else-is_empty w ↦ let at = w.in-Some.ensures.steps in search (rules, only-more)
]
