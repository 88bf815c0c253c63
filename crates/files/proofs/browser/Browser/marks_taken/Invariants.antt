use Rattle.std.proofs.Common.{◌≡◌, take}
use Rattle.std.specs.List.{filter_map}
use Rattle.files.specs.Moves.{mark_taken}
use Rattle.files.proofs.browser.Browser.marks_taken.Given as goal

-- the marks so far
abbrev pub invariant-loop-mark : goal.invariant-loop-mark
invariant-loop-mark l = l.notes ≡ filter_map (mark_taken l.is_moved l.self) (take l.mark-index l.mark-items)
