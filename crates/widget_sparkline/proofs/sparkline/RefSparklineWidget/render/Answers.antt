use Rattle.widget_sparkline.proofs.sparkline.RefSparklineWidget.render.Goals as goal

pub returns-clause-left : goal.returns-clause-left
returns-clause-left c = rw c.new.ensures at c.render_inside.ensures.left
