use Rattle.std.proofs.Common.{◌≤◌, drop}
use Rattle.screenplay.proofs.ActLemmas.{HasPlayed}
use Rattle.screenplay.proofs.engine.play_acts.Given as goal

abbrev pub invariant-loop-act : goal.invariant-loop-act
invariant-loop-act l = record {
  few : l.steps ≤ l.act-index;
  played : HasPlayed l.fn.stage l.acts (drop l.act-index l.acts) l.steps l.terminal l.text.items;
}
