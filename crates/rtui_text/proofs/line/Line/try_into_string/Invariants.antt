use Rattle.std.proofs.Common.{◌≡◌, take}
use Rattle.std.specs.String.{string_bytes}
use Rattle.rtui_text.specs.Display.{line_content}
use Rattle.rtui_text.proofs.line.Line.try_into_string.Given as goal

abbrev pub invariant-loop-span : goal.invariant-loop-span
invariant-loop-span l = string_bytes l.content ≡ line_content (take l.span-index l.span-items)
