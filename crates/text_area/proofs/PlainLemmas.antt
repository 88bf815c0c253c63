-- Printable characters of ASCII at the start of a text.
use Rattle.std.proofs.Common.{ℕ, ◌≡◌, true, arith}
use Rattle.rtui_text.specs.Printable.{IsPrintable}
use Rattle.rtui_text.proofs.PrintableLemmas.{graphemes-front, front-boundary}
use Rattle.text_area.specs.Inner.{in_run}
use Rattle.text_area.specs.declared.runs.Run.TheVariants as run

pub printable-is : (b : ℕ) → in_run run.Printable b ≡ true → IsPrintable b
printable-is b is = record { low = grind (arith, is); high = grind (arith, is) }

pub ruleset front_rules = (printable-is, front-boundary, graphemes-front)
