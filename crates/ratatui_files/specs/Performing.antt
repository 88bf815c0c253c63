-- What does commands.
use Rattle.std.specs.Prelude.{◌≡◌, ◌≤◌, ◌⊎◌, ℕ, zero, suc, length}
use Rattle.ratatui_files.specs.declared.answer.Answer.{Answer}
use Rattle.ratatui_files.specs.declared.answer.Answer.TheVariants as answer
use Rattle.ratatui_files.specs.declared.answer.Failure.{Failure}
use Rattle.ratatui_files.specs.declared.answer.Failure.TheVariants.{Memory}
use Rattle.ratatui_files.specs.declared.command.Command.{Command}
use Rattle.ratatui_files.specs.declared.command.Command.TheVariants as command
use Rattle.ratatui_files.specs.Trees.{Tree}
use Rattle.ratatui_files.specs.Changes.{answer_to, tree_after}

-- a tree does a command, or memory was refused and nothing has changed
abbrev pub DoesExactly : Tree → Command → Answer → Tree → Type 0
DoesExactly before c a after =
    ((a ≡ answer_to c before) × (after ≡ tree_after c before)) ⊎ ((a ≡ answer.Failed Memory) × (after ≡ before))

-- an answer is one to this command: what it asks for, of which a read has at most so many bytes; or it failed
abbrev pub IsAnswerTo : Command → Answer → Type 0
IsAnswerTo c (answer.Failed failure) = Unit {0}
IsAnswerTo (command.List folder) (answer.Listed entries unnamed) = Unit {0}
IsAnswerTo (command.Read path start most) (answer.Read bytes) = length bytes ≤ most
IsAnswerTo (command.Write path bytes) answer.Done = Unit {0}
IsAnswerTo (command.Rename from to) answer.Done = Unit {0}
IsAnswerTo (command.Copy from to) answer.Done = Unit {0}
IsAnswerTo (command.Remove path) answer.Done = Unit {0}
IsAnswerTo (command.RemoveFolder path) answer.Done = Unit {0}
IsAnswerTo (command.MakeFolder path) answer.Done = Unit {0}
IsAnswerTo (command.MakeFile path) answer.Done = Unit {0}
IsAnswerTo command.Now (answer.Time time) = Unit {0}
IsAnswerTo c a = ⊥
