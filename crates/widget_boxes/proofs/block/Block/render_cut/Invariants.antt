use Rattle.std.proofs.Common.{drop}
use Rattle.ratatui_core.specs.{Layout.IsInside, declared.layout.HorizontalAlignment.TheVariants.Center, Widgets.ChangesWithin}
use Rattle.widget_boxes.specs.{Titles.from_outside, Boxes.lines_placed}
use Rattle.widget_boxes.proofs.TitleLemmas.{Finishes}
use Rattle.widget_boxes.proofs.block.Block.render_cut.Given as goal

abbrev pub invariant-loop-title : goal.invariant-loop-title
invariant-loop-title l = record {
  within : ChangesWithin l.fn.row l.fn.buf l.buf;
  inside : IsInside l.left l.fn.row;
  rest : Finishes l.fn.self.titles_style
      (from_outside l.offset l.left (lines_placed l.fn.self l.fn.position Center (drop l.title-index l.title-items)))
      (from_outside l.fn.excess l.fn.row (lines_placed l.fn.self l.fn.position Center l.fn.self.titles.items)) l.fn.buf l.buf;
}
