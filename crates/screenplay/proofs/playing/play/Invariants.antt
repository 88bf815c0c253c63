use Rattle.std.proofs.Common.{◌≡◌, ◌+◌, length, drop}
use Rattle.screenplay.proofs.RunLemmas.{HasRun}
use Rattle.screenplay.proofs.playing.play.Given as goal

abbrev pub invariant-loop-index : goal.invariant-loop-index
invariant-loop-index l = record {
  count : length l.scenes.items ≡ l.index + 1;
  ran : HasRun l.fn.stage l.steps (drop l.index l.steps) l.scenes.items l.terminal;
}
