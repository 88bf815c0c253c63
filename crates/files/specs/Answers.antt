-- What is told of an answer.
use Rattle.std.specs.Prelude.{◌≡◌}
use Rattle.ratatui_files.specs.declared.answer.Answer.{Answer}
use Rattle.ratatui_files.specs.declared.answer.Answer.TheVariants as answer
use Rattle.ratatui_files.specs.declared.answer.Failure.{Failure}
use Rattle.ratatui_files.specs.declared.answer.Failure.TheVariants as failure
use Rattle.files.specs.declared.list.Outcome.{Outcome}
use Rattle.files.specs.declared.list.Outcome.TheVariants as outcome

-- a change was done with this answer
abbrev pub told_of : Answer → Outcome
told_of answer.Done = outcome.Done
told_of (answer.Failed why) = outcome.Failed why
told_of _ = outcome.Failed failure.Other

-- nothing was done to files, and a reason is told
pub record DoesNothing {P : Type 0} (files : P) (o : Outcome) (files' : P) : Type 0 where
  pub why : Failure
  pub tells : o ≡ outcome.Failed why
  pub kept : files' ≡ files
