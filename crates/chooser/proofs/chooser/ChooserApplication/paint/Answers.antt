use Rattle.chooser.proofs.SettlingLemmas.{paints-ok}
use Rattle.chooser.proofs.chooser.ChooserApplication.paint.Goals as goal

pub returns-clause-ok : goal.returns-clause-ok
returns-clause-ok c =
    paints-ok c.render.result c.args.self.now c.args.area c.args.buf.now c.render.new.buf c.in_ok-planets.field-0
    c.render.new.state c.in_ok-planets.ensures c.render.ensures.ok
