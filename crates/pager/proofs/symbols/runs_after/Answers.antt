use Rattle.std.proofs.Common.{rules, ◌≡◌, ◌∷◌, length, sym, ◌∙◌}
use Rattle.pager.proofs.StyleLemmas.{runs-here, runs-later, runs-none}
use Rattle.pager.proofs.symbols.runs_after.Goals as goal

pub returns-then-byte-run : goal.returns-then-byte-run
returns-then-byte-run c =
    let run = c.in-Some.run'.now in let rest = c.in-Some.rest.now in
    let all : c.loop-run.left.now ≡ run ∷ rest = search rules in
    sym (c.loop-run.invariant ∙ runs-here c.args.byte c.loop-run.left.now rest run all c.if-byte-run.true)

pub loop-run-preserved : goal.loop-run-preserved
loop-run-preserved c =
    let run = c.in-Some.run'.now in let rest = c.in-Some.rest.now in
    let all : c.loop-run.left.now ≡ run ∷ rest = search rules in
    c.loop-run.invariant ∙ runs-later c.args.byte c.loop-run.left.now rest run all c.if-byte-run.false

pub returns : goal.returns
returns c =
    let end : length c.loop-run.left.now ≡ 0 = search rules in
    sym (c.loop-run.invariant ∙ runs-none c.args.byte c.loop-run.left.now end)
