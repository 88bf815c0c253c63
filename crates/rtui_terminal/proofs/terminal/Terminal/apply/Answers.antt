use Rattle.std.proofs.Common.{◌≡◌, rules, inr}
use Rattle.rtui_terminal.specs.Writing.{HasDrawn}
use Rattle.rtui_terminal.proofs.{KeepLemmas.drawn_rest, MapErrLemmas.at_fault}
use Rattle.rtui_terminal.proofs.terminal.Terminal.apply.Goals as goal

pub returns-in_err-map_err-clause-outcome : goal.returns-in_err-map_err-clause-outcome
returns-in_err-map_err-clause-outcome g c =
    at_fault _ _ _ (search rules) c.from_residual-in_err-map_err.ensures.0 (λ error. inr (record {
      written = c.write_frame.new.self;
      writes = search rules;
      previous = search rules;
      current = search rules;
      rest = search rules;
    }))

pub returns-clause-outcome : goal.returns-clause-outcome
returns-clause-outcome g c =
    let screen = g.B.Backend.screen in
    let s = c.args.self.now in
    let view : c.self.inside.viewport_area ≡ s.viewport_area = search rules in
    let drawn : HasDrawn c.args.cursor s (screen s.backend) (screen c.flush.new.self) = search rules in
    record {
      areas = search rules;
      painted = search rules;
      emptied = search rules;
      rest = search rules;
      drawn = drawn;
      in_step = search rules;
      keeps = drawn_rest screen c.args.cursor s _ view drawn;
    }
