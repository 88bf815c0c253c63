use Rattle.std.proofs.Common.{◌≡◌, ◌≤◌, [], length, ◌^◌, ◌-◌}
use Rattle.unicode_segmentation.specs.Iter.{graphemes_left}
use Rattle.pager.specs.declared.sought.Sought.TheVariants.{Plain}
use Rattle.pager.specs.{Symbols.line_symbols, Symbols.symbols_from, Places.last_start}
use Rattle.pager.proofs.RowLemmas.{reach_at}
use Rattle.pager.proofs.place.last_start.Given as goal

abbrev pub invariant-loop-grapheme : goal.invariant-loop-grapheme
invariant-loop-grapheme l = record {
  can : (goal.iterator-loop-grapheme).can_next l.grapheme-iterator;
  ends : (goal.iterator-loop-grapheme).is_finite l.grapheme-iterator;
  column : l.column ≤ 4295032830;
  last : l.last ≤ 2 ^ 32 - 1;
  left : last_start 0 (line_symbols (Plain []) [] l.fn.line) ≡ last_start l.last
      (symbols_from (Plain []) (reach_at l.fn.line l.column) (graphemes_left l.grapheme-iterator));
}
