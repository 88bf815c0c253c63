use Rattle.std.proofs.Common.{◌+◌, ◌≤◌, take, reverse}
use Rattle.ratatui_core.specs.{Layout.IsInside, declared.layout.HorizontalAlignment.TheVariants.Right, Widgets.ChangesWithin}
use Rattle.widget_boxes.specs.{Titles.from_right, Boxes.lines_placed}
use Rattle.widget_boxes.proofs.TitleLemmas.{Finishes}
use Rattle.widget_boxes.proofs.block.Block.render_right_titles.Given as goal

abbrev pub invariant-loop-k : goal.invariant-loop-k
invariant-loop-k l = record {
  within : ChangesWithin l.fn.row l.fn.buf l.buf;
  inside : IsInside l.left l.fn.row;
  fits : l.left.x + l.left.width ≤ 65535;
  rest : Finishes l.fn.self.titles_style
      (from_right l.left (lines_placed l.fn.self l.fn.position Right (reverse (take l.k l.titles))))
      (from_right l.fn.row (lines_placed l.fn.self l.fn.position Right (reverse l.fn.self.titles.items))) l.fn.buf l.buf;
}
