-- What fails at one command.
use Rattle.std.specs.Prelude.{◌≡◌, ◌+◌, ℕ, zero, suc, Bool, true, false}
use Rattle.ratatui_files.specs.declared.answer.Answer.{Answer}
use Rattle.ratatui_files.specs.declared.answer.Answer.TheVariants as answer
use Rattle.ratatui_files.specs.declared.command.Command.{Command}
use Rattle.ratatui_files.specs.declared.failing.Failing.{Failing}

module _ {P : Type 0} (does : P → Command → Answer → P → Type 0) where
  -- at one of the commands to come it fails, and nothing changes; all others are done
  abbrev pub DoesBefore : ℕ → Failing P → Command → Answer → Failing P → Type 0
  DoesBefore zero f c a g = (a ≡ answer.Failed f.failure) × (g ≡ record f { has_failed = true })
  DoesBefore (suc n) f c a g = does f.performs c a g.performs × (g ≡ record f { performs = g.performs; before = n })

  abbrev pub DoesUnless : Bool → Failing P → Command → Answer → Failing P → Type 0
  DoesUnless true f c a g = does f.performs c a g.performs × (g ≡ record f { performs = g.performs })
  DoesUnless false f c a g = DoesBefore f.before f c a g

  abbrev pub FailsAtOne : Failing P → Command → Answer → Failing P → Type 0
  FailsAtOne f c a g = DoesUnless f.has_failed f c a g
