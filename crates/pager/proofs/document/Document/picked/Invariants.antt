use Rattle.std.proofs.Common.{◌≡◌, map, take}
use Rattle.pager.specs.Search.{picked}
use Rattle.pager.proofs.document.Document.picked.Given as goal

abbrev pub invariant-loop-number : goal.invariant-loop-number
invariant-loop-number l = map (λ line. line.now) l.lines.items ≡ picked l.fn.self (take l.number-index l.number-items)
