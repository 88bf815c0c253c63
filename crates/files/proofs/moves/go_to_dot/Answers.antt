use Rattle.std.proofs.Common.{◌≡◌, ◌<◌, ◌≤◌, length, sym, ◌∙◌, ap, arith, true, false}
use Rattle.files.specs.Moves.{follows_dot}
use Rattle.files.proofs.MoveLemmas.{dot-here, dot-further, dot-end}
use Rattle.files.proofs.moves.go_to_dot.Goals as goal

pub returns-then-is_behind : goal.returns-then-is_behind
returns-then-is_behind c =
    let n = length c.args.field.now.before in
    let same = ap length c.before-count.ensures in
    let more : c.loop-step._step < n = omega (arith, c.loop-step-test.true, same) in
    let is : follows_dot c.loop-step.field ≡ true = sym c.follows_dot-is_behind.ensures ∙ c.if-is_behind.true in
    c.move_left.ensures ∙ sym (dot-here n c.loop-step._step c.loop-step.field more is) ∙ c.loop-step.invariant

pub loop-step-preserved : goal.loop-step-preserved
loop-step-preserved c =
    let n = length c.args.field.now.before in
    let same = ap length c.before-count.ensures in
    let more : c.loop-step._step < n = omega (arith, c.loop-step-test.true, same) in
    let is : follows_dot c.loop-step.field ≡ false = sym c.follows_dot-is_behind.ensures ∙ c.if-is_behind.false in
    rw c.move_left.ensures (sym (dot-further n c.loop-step._step c.loop-step.field more is) ∙ c.loop-step.invariant)

pub returns : goal.returns
returns c =
    let n = length c.args.field.now.before in
    let same = ap length c.before-count.ensures in
    let none : n ≤ c.loop-step._step = omega (arith, c.loop-step-test.false, same) in
    sym (dot-end n c.loop-step._step c.loop-step.field none) ∙ c.loop-step.invariant
