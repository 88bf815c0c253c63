use Rattle.std.proofs.Common.{rules}
use Rattle.std.specs.Vec.{vec_len}
use Rattle.std.proofs.lemmas.Result.{on_ok_weaker}
use Rattle.rtui_text.proofs.LineLemmas.{set_last_line}
use Rattle.rtui_text.proofs.lines.Items+Line.push_span.Goals as goal

pub returns-in-Some-clause-ok : goal.returns-in-Some-clause-ok
returns-in-Some-clause-ok c = rw (← c.self.view_is)
    (on_ok_weaker _ (λ e. set_last_line c.args.span c.self.inside.items.items c.in-Some.line.now c.push_span.new.self
    (vec_len c.self.inside.items) (search rules) (search rules) (search rules) e) c.push_span.ensures.ok)
