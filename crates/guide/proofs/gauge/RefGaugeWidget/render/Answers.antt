use Rattle.std.proofs.Common.{rules}
use Rattle.ratatui_core.proofs.{BufferLemmas.IsSettledBuffer-empty, WidgetLemmas.OnPart-none}
use Rattle.guide.specs.Gauges.{PaintsGauge}
use Rattle.guide.proofs.GaugeLemmas.{renders-gauge}
use Rattle.guide.proofs.gauge.RefGaugeWidget.render.Goals as goal

pub returns-in_default-clause-ok : goal.returns-in_default-clause-ok
returns-in_default-clause-ok c = record {
  painted = OnPart-none (PaintsGauge c.args.self.now) c.args.area c.args.buf.now
      (search rules);
  settled = λ emptied. IsSettledBuffer-empty _ _ emptied;
}

pub returns-in_err-set_line-clause-err : goal.returns-in_err-set_line-clause-err
returns-in_err-set_line-clause-err c =
    let by = renders-gauge c.args.self.now c.args.area c.in-Some.part c.args.buf.now c.set_style.new.self c.set_line.new.self
    c.set_line.result c.in-Some.ensures (search rules) c.set_line.ensures.paints in
    search rules

pub returns-clause-ok : goal.returns-clause-ok
returns-clause-ok c =
    let by = renders-gauge c.args.self.now c.args.area c.in-Some.part c.args.buf.now c.set_style.new.self c.set_line.new.self
    c.set_line.result c.in-Some.ensures (search rules) c.set_line.ensures.paints in
    search rules
