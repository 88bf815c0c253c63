use Rattle.std.proofs.Common.{◌≡◌, ◌%◌, All, ap, rules, arith}
use Rattle.ratatui_core.specs.{Buffer.IsShort, Buffer.with_symbol, Symbols.bar_texts}
use Rattle.widget_sparkline.specs.{Levels.level_text, Levels.level_mark, Inner.marked_row}
use Rattle.widget_sparkline.proofs.{BlockLemmas.block-ready, BlockLemmas.block-drawn, LevelLemmas.level-any, LevelLemmas.level-of-row}
use Rattle.widget_sparkline.proofs.fill.fill_levels.Goals as goal

pub fill_rows-requires-clause-inside : goal.fill_rows-requires-clause-inside
fill_rows-requires-clause-inside c = block-ready c.args.buf.now c.args.area c.area-own.result.now c.intersection-part.result _ _ _
    c.area-own.ensures.area c.intersection-part.ensures.value c.from-width.ensures c.block_of-block.ensures
    c.cells_mut-cells.ensures.cells c.if-is_empty.ensures.1 c.area-own.ensures.count

pub returns : goal.returns
returns c =
    let set = c.args.set.now in
    let level : c.level_of-level.result.now ≡ level_text set (c.args.eighths % 8) = search rules in
    let first : c.area-own.result.now.y ≡ c.args.buf.now.area.y = ap (λ r. r.y) c.area-own.ensures.area in
    let rows = rw first at c.level_rows-level_row.ensures in
    block-drawn c.args.buf.now c.args.area c.area-own.result.now c.intersection-part.result _ _ _
    c.area-own.ensures.area c.intersection-part.ensures.value c.from-width.ensures c.block_of-block.ensures
    c.cells_mut-cells.ensures.cells
    c.fill_rows.result (All IsShort (bar_texts set))
    (marked_row c.level_rows-level_row.result.0 c.level_rows-level_row.result.1 set.empty.now c.level_of-level.result.now set.full.now)
    (level_mark set c.args.area c.args.eighths) c.fill_rows.new.cells
    (λ p in_own here place cell.
    let t = in_own.top in let u = place.top in let d = place.bottom in let y = here.top in let b = here.bottom in
    ap (λ text. with_symbol text cell) (rw (rows.level, rows.full, level) (level-of-row set c.args.eighths c.args.area c.args.buf.now.area.y
    c.block_of-block.result p.y (omega arith) (omega arith) (omega arith) (omega arith)
    (omega arith))))
    c.fill_rows.ensures.ok c.fill_rows.ensures.err
    (λ short. c.fill_rows.ensures.short (level-any IsShort set 0 short) (rw level (level-any IsShort set (c.args.eighths % 8) short))
    (level-any IsShort set 8 short))
