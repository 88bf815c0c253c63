use Rattle.ratatui_core.specs.{Buffer.IsShort, Buffer.with_symbol, Symbols.bar_texts}
use Rattle.std.proofs.Common.{All}
use Rattle.widget_sparkline.specs.{Levels.level_mark, Sparklines.HasShortLevels, Inner.bar_mark}
use Rattle.widget_sparkline.proofs.ColumnLemmas.{done-by, value-marks, absent-marks}
use Rattle.widget_sparkline.proofs.sparkline.Bars.put_bar.Goals as goal

pub returns-in-Some : goal.returns-in-Some
returns-in-Some c =
    let s = c.args.self.now.sparkline.now in
    rw (← c.column-column.ensures) (done-by c.fill_levels.result c.column-column.result
    (level_mark s.bar_set c.column-column.result c.eighths_of-eighths.result)
    (bar_mark s c.args.self.now.greatest c.args.self.now.area c.args.bar.now) (All IsShort (bar_texts s.bar_set)) (HasShortLevels s)
    c.args.buf.now c.fill_levels.new.buf
    (λ p here cell. value-marks s c.args.self.now.area c.args.x c.args.self.now.greatest c.args.bar.now c.in-Some.value
    c.eighths_of-eighths.result c.column-column.result c.in-Some.is c.column-column.ensures c.eighths_of-eighths.ensures p cell)
    (λ short. short.levels) c.fill_levels.ensures)

pub returns-in-None : goal.returns-in-None
returns-in-None c =
    let s = c.args.self.now.sparkline.now in
    rw (← c.column-column.ensures) (done-by c.fill.result c.column-column.result (λ _. with_symbol s.absent_value_symbol.now)
    (bar_mark s c.args.self.now.greatest c.args.self.now.area c.args.bar.now) (IsShort s.absent_value_symbol.now) (HasShortLevels s)
    c.args.buf.now c.fill.new.buf
    (λ p here cell. absent-marks s c.args.self.now.area c.args.x c.args.self.now.greatest c.args.bar.now c.in-None.is p cell)
    (λ short. short.absent) c.fill.ensures)
