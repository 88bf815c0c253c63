use Rattle.widget_sparkline.proofs.ColumnLemmas.{styled-at-once}
use Rattle.widget_sparkline.proofs.sparkline.Bars.lay_styles.Goals as goal

pub returns-else-has_own_styles : goal.returns-else-has_own_styles
returns-else-has_own_styles c = rw c.requires (styled-at-once c.args.self.now.sparkline.now c.args.self.now.area c.args.buf.now
    c.put_style.new.buf c.new_style_is_identity.ensures.above (rw c.has_own_styles.ensures at c.if-has_own_styles.false)
    (rw c.requires at c.put_style.ensures))
