use Rattle.std.proofs.Common.{length, ◌≤◌, map, IfSome}
use Rattle.rtui_style.specs.Style.{new_style}
use Rattle.rtui_text.specs.Text.{unstyled}
use Rattle.rtui_buffer.specs.Line.{line_pieces}
use Rattle.rtui_backend.specs.Inner.{symbol_in, EndsAfter}
use Rattle.rtui_backend.proofs.test.lines.line_end.Given as goal

abbrev pub invariant-loop-text : goal.invariant-loop-text
invariant-loop-text l = record {
  within : IfSome l.end (λ end. end ≤ length l.row);
  done : EndsAfter (symbol_in l.row) 0 (line_pieces (length l.row) new_style (map unstyled (map (λ text. text.now) l.yielded)))
      l.end;
}
