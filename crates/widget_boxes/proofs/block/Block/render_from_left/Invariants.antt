use Rattle.std.proofs.Common.{drop}
use Rattle.ratatui_core.specs.{Layout.IsInside, Widgets.ChangesWithin}
use Rattle.widget_boxes.specs.{Titles.from_left, Boxes.lines_placed}
use Rattle.widget_boxes.proofs.TitleLemmas.{Finishes}
use Rattle.widget_boxes.proofs.block.Block.render_from_left.Given as goal

abbrev pub invariant-loop-title : goal.invariant-loop-title
invariant-loop-title l = record {
  within : ChangesWithin l.fn.row l.fn.buf l.buf;
  inside : IsInside l.left l.fn.row;
  rest : Finishes l.fn.self.titles_style
      (from_left l.left (lines_placed l.fn.self l.fn.position l.fn.alignment (drop l.title-index l.title-items)))
      (from_left l.fn.row (lines_placed l.fn.self l.fn.position l.fn.alignment l.fn.self.titles.items)) l.fn.buf l.buf;
}
