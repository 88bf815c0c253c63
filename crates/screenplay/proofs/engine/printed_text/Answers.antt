use Rattle.std.proofs.lemmas.Result.{IfOk-weaker}
use Rattle.screenplay.proofs.engine.printed_text.Goals as goal

pub play_acts-requires : goal.play_acts-requires
play_acts-requires c = rw c.in-Some.is at c.in_ok-script.ensures.stage

pub returns-in-Some-clause-printed : goal.returns-in-Some-clause-printed
returns-in-Some-clause-printed c = IfOk-weaker c.play_acts.result _ _ (λ text prints. record {
  script = c.in_ok-script.script;
  is = c.in_ok-script.ensures.ok;
  prints = rw (c.in-Some.is, ← c.as_slice.ensures) prints;
}) c.play_acts.ensures.ok
