use Rattle.std.proofs.Common.{◌≡◌, take}
use Rattle.ratatui_files.specs.Trees.{entries_in}
use Rattle.ratatui_files.proofs.change.entries_in.Given as goal

abbrev pub invariant-loop-entry : goal.invariant-loop-entry
invariant-loop-entry l = l.infos.items ≡ entries_in l.folder (take l.entry-index l.entries)
