use Rattle.std.proofs.Common.{◌≡◌, ◌++◌, length, map, take, ◌≤◌}
use denote.Text.{Utf8}
use denote.Shadow.{shadow}
use Rattle.std.specs.Str.Lines.{lines}
use Rattle.pager.proofs.document.push_lines.Given as goal

abbrev pub invariant-loop-line : goal.invariant-loop-line
invariant-loop-line l = record {
  text : shadow (Utf8 l.rest);
  done : map (λ line. line.now) l.list.items ++ lines l.rest ≡ map (λ line. line.now) l.fn.list.items ++ lines l.fn.text;
  same : take (length l.fn.list.items) l.list.items ≡ l.fn.list.items;
  longer : length l.fn.list.items ≤ length l.list.items;
}

abbrev pub decreases-loop-line : goal.decreases-loop-line
decreases-loop-line l = length l.rest
