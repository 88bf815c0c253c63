use Rattle.std.proofs.Common.{◌-◌, ◌<◌, ◌≤◌, ℕ, slice_index}
use Rattle.rtui_text.specs.Printable.{IsPrintable}
use Rattle.rtui_text.proofs.printable.printable_len.Given as goal

abbrev pub invariant-loop-len : goal.invariant-loop-len
invariant-loop-len l = record {
  within : l.len ≤ l.end;
  printable : (k : ℕ) → k < l.len → IsPrintable (slice_index l.bytes k);
}

abbrev pub decreases-loop-len : goal.decreases-loop-len
decreases-loop-len l = l.end - l.len
