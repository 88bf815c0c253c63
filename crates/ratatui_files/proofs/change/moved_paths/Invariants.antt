use Rattle.std.proofs.Common.{◌≡◌, map, take}
use Rattle.ratatui_files.specs.Paths.{moved_path}
use Rattle.ratatui_files.proofs.change.moved_paths.Given as goal

abbrev pub invariant-loop-entry : goal.invariant-loop-entry
invariant-loop-entry l = l.paths.items ≡ map (λ e. moved_path l.from l.to e.path) (take l.entry-index l.entries)
