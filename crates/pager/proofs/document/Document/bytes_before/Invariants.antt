use Rattle.std.proofs.Common.{◌≡◌, ◌-◌, ◌^◌, min}
use Rattle.pager.specs.Pages.{bytes_before}
use Rattle.pager.proofs.document.Document.bytes_before.Given as goal

abbrev pub invariant-loop-number : goal.invariant-loop-number
invariant-loop-number l = l.bytes ≡ min (bytes_before l.fn.self l.number) (2 ^ 64 - 1)
