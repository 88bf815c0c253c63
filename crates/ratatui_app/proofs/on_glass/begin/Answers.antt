use Rattle.std.proofs.Common.{◌∙◌}
use Rattle.ratatui_app.proofs.on_glass.begin.Goals as goal

pub returns : goal.returns
returns g c = record {
  begins = record {
    asked = c.ask_size.new.self;
    asks = c.in-Ok.ensures.asked;
    shown = c.in-Ok.ensures.ok;
    starts = c.in_ok-terminal.ensures.starts;
    faults = c.in_ok-terminal.ensures.count ∙ c.in-Ok.ensures.counts;
  };
}
