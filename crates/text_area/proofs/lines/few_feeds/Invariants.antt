use Rattle.std.proofs.Common.{◌≡◌, ◌≤◌, take}
use Rattle.text_area.specs.Lines.{feeds}
use Rattle.text_area.proofs.lines.few_feeds.Given as goal

abbrev pub invariant-loop-byte : goal.invariant-loop-byte
invariant-loop-byte l = (l.count ≡ feeds (take l.byte-index l.bytes)) × (l.count ≤ l.byte-index)
