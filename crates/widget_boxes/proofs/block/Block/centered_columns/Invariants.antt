use Rattle.std.proofs.Common.{◌≡◌, ◌+◌, min, sum_by, drop, ◌^◌, ◌-◌}
use Rattle.ratatui_core.specs.declared.layout.HorizontalAlignment.TheVariants.{Center}
use Rattle.widget_boxes.specs.{Titles.title_width, Boxes.lines_placed}
use Rattle.widget_boxes.proofs.block.Block.centered_columns.Given as goal

abbrev pub invariant-loop-title : goal.invariant-loop-title
invariant-loop-title l =
    min (l.columns + sum_by (λ line. title_width line + 1)
    (lines_placed l.fn.self l.fn.position Center (drop l.title-index l.title-items))) (2 ^ 64 - 1)
    ≡ min (sum_by (λ line. title_width line + 1) (lines_placed l.fn.self l.fn.position Center l.fn.self.titles.items))
    (2 ^ 64 - 1)
