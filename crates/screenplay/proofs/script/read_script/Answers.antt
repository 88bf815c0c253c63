use Rattle.std.proofs.Common.{List, ℕ, length, map, rules, arith}
use Rattle.std.proofs.lemmas.{Grind.common_steps, List.map-append}
use Rattle.std.proofs.lemmas.Iterator.Consumers.{YieldsList-so_far, YieldsList-turn, YieldsList-end}
use Rattle.std.proofs.lemmas.Iterator.Splits.{YieldsList-from_lines}
use Rattle.std.specs.{Borrow.Bor, Str.Lines.lines}
use Rattle.screenplay.proofs.ScriptLemmas.{line-read, read-all, IsFirstBadLine-read}
use Rattle.screenplay.proofs.script.read_script.Goals as goal

pub loop-line-preserved : goal.loop-line-preserved
loop-line-preserved c =
    let taken = c.in_ok-take_line.ensures.taken in
    let done = map (λ (line : Bor (List ℕ)). line.now) c.loop-line.yielded in
    record {
      count = grind (arith, common_steps);
      read = rw map-append (line-read done c.in-Some.line.now _ _ c.loop-line.invariant.read (rw c.if-not-branch.false at taken));
      stage = c.in_ok-take_line.ensures.stage c.loop-line.invariant.stage;
    }

pub returns-then-not-branch-clause-err : goal.returns-then-not-branch-clause-err
returns-then-not-branch-clause-err c =
    let all = lines c.args.text.now in
    let done = map (λ (line : Bor (List ℕ)). line.now) c.loop-line.yielded in
    let road = YieldsList-from_lines c.args.text.now (cc) in
    let turn = YieldsList-turn road c.loop-line.yielded _ c.loop-line.yielded_by c.next.result _ c.in-Some.line c.in-Some.is
    c.next.ensures.steps in
    let front = YieldsList-so_far road c.loop-line.yielded _ c.loop-line.yielded_by in
    rw c.loop-line.invariant.count
    (IsFirstBadLine-read all done c.in-Some.line.now (length c.loop-line.yielded) _ front turn.0 turn.1 c.loop-line.invariant.read
    (search rules))

pub returns-clause-ok : goal.returns-clause-ok
returns-clause-ok c =
    let road = YieldsList-from_lines c.args.text.now (cc) in
    let end = YieldsList-end road c.loop-line.yielded _ c.loop-line.yielded_by _ _ c.in-None.is c.next.ensures.steps in
    rw end.0 at (read-all _ _ c.loop-line.invariant.read)
