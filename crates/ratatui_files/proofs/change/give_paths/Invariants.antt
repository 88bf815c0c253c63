use Rattle.std.proofs.Common.{◌≡◌, ◌++◌, take, drop}
use Rattle.std.specs.Vec.Iter.{into_iter_items}
use Rattle.ratatui_files.specs.Inner.{with_paths}
use Rattle.ratatui_files.proofs.change.give_paths.Given as goal

abbrev pub invariant-loop-entry : goal.invariant-loop-entry
invariant-loop-entry l =
    take l.entry-index l.entries ++ with_paths (drop l.entry-index l.entries) (into_iter_items l.paths)
    ≡ with_paths l.initial.entries (into_iter_items l.initial.paths)
