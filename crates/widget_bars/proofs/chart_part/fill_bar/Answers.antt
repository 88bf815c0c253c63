use Rattle.std.proofs.Common.{refl}
use Rattle.widget_sparkline.proofs.ColumnLemmas.{changes-styled, done-over}
use Rattle.widget_bars.proofs.chart_part.fill_bar.Goals as goal

pub returns : goal.returns
returns c = done-over c.fill_levels.result c.args.area _ _ _ _ c.args.buf.now c.lay_style.new.buf c.fill_levels.new.buf (λ p cell. refl)
    (changes-styled c.args.area c.args.style _ _ c.lay_style.ensures) c.fill_levels.ensures
