use Rattle.std.proofs.Common.{◌≡◌, map, take}
use Rattle.rtui_text.specs.Text.{raw_line}
use Rattle.rtui_buffer.proofs.buffer.Buffer.from_texts.Given as goal

abbrev pub invariant-loop-text : goal.invariant-loop-text
invariant-loop-text l = l.lines.items ≡ map (λ text. raw_line text.now) (take l.text-index l.texts)
