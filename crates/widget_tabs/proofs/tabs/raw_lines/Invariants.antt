use Rattle.std.proofs.Common.{◌≡◌, take, map}
use Rattle.ratatui_core.specs.Text.{raw_line}
use Rattle.widget_tabs.proofs.tabs.raw_lines.Given as goal

abbrev pub invariant-loop-text : goal.invariant-loop-text
invariant-loop-text l = l.lines.items ≡ map (λ text. raw_line text.now) (take l.text-index l.texts)
