use Rattle.guide.proofs.GaugeLemmas.{shows-gauge}
use Rattle.guide.proofs.widget_frames.draw_gauge.Goals as goal

pub returns-clause-shown : goal.returns-clause-shown
returns-clause-shown g c = λ ready empty. shows-gauge g.B.Backend.screen c.args.gauge.now c.draw_widget.new.self
    c.draw_widget.result (c.draw_widget.ensures.shown ready empty) c.draw_widget.ensures.edges
