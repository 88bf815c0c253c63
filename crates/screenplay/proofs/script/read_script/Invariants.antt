use Rattle.std.proofs.Common.{◌≡◌, length, map, IfSome}
use Rattle.screenplay.specs.Run.{IsGoodStage}
use Rattle.screenplay.proofs.ScriptLemmas.{IsRead}
use Rattle.screenplay.proofs.script.read_script.Given as goal

abbrev pub invariant-loop-line : goal.invariant-loop-line
invariant-loop-line l = record {
  count : l.number ≡ length l.yielded;
  read : IsRead (map (λ line. line.now) l.yielded) l.script;
  stage : IfSome l.script.stage IsGoodStage;
}
