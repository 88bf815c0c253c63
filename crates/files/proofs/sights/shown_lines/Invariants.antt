use Rattle.std.proofs.Common.{◌≡◌, map}
use Rattle.files.specs.Names.{text_shown}
use Rattle.files.proofs.sights.shown_lines.Given as goal

abbrev pub invariant-loop-line : goal.invariant-loop-line
invariant-loop-line l = l.all.items ≡ map text_shown (map (λ line. line.now) l.yielded)
