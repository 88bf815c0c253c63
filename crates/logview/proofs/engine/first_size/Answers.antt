use Rattle.std.proofs.Common.{[], refl, ◌∙◌}
use Rattle.std.specs.Str.Lines.{lines}
use Rattle.std.proofs.lemmas.{Iterator.Consumers.YieldsList-turn, Iterator.Splits.YieldsList-from_lines}
use Rattle.logview.proofs.LogLemmas.{first_line}
use Rattle.logview.proofs.engine.first_size.Goals as goal

pub returns-clause-value : goal.returns-clause-value
returns-clause-value c =
    let road = YieldsList-from_lines {s = c.lines.result} c.args.text.now (cc) in
    let turn = YieldsList-turn road [] c.lines.result refl c.next.result _ c.in_ok-first.first c.in_ok-first.was
    c.next.ensures.steps in
    c.read_size.ensures.value ∙ first_line (lines c.args.text.now) c.in_ok-first.first.now turn.0 turn.1
