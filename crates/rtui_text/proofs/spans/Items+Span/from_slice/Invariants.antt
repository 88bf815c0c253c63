use Rattle.std.proofs.Common.{◌≡◌, take}
use Rattle.rtui_text.proofs.spans.Items+Span.from_slice.Given as goal

abbrev pub invariant-loop-span : goal.invariant-loop-span
invariant-loop-span l = l.items.items ≡ take l.span-index l.spans
