use Rattle.std.proofs.Common.{◌<◌, ℕ, slice_index, IsTrue, ◌↔◌}
use Rattle.rtui_text.specs.Printable.{IsPrintable}
use Rattle.rtui_text.proofs.printable.is_printable_text.Given as goal

abbrev pub invariant-loop-byte : goal.invariant-loop-byte
invariant-loop-byte l = IsTrue l.all ↔ ((k : ℕ) → k < l.byte-index → IsPrintable (slice_index l.byte-items k))
