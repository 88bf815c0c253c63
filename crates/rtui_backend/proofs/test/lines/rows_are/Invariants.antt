use Rattle.std.proofs.Common.{◌≡◌, map, take}
use Rattle.rtui_buffer.specs.Line.{raw_lines}
use Rattle.rtui_backend.specs.ScreenLines.{symbols_of_line}
use Rattle.rtui_backend.proofs.HistoryLemmas.{symbols}
use Rattle.rtui_backend.proofs.test.lines.rows_are.Given as goal

abbrev pub invariant-loop-y : goal.invariant-loop-y
invariant-loop-y l = map symbols (take l.y (map (λ row. row.items) l.rows)) ≡ map (symbols_of_line l.width)
    (take l.y (raw_lines l.lines))
