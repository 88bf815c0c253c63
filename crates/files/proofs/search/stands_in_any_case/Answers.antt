use Rattle.std.proofs.Common.{◌≡◌, sym, ap, ◌∙◌, ◌-◌, arith, take, drop, length, length-drop}
use Rattle.std.proofs.lemmas.List.{take_all}
use Rattle.files.specs.Finding.{starts_as}
use Rattle.files.proofs.FindLemmas.{stands-here, stands-later, stands-none}
use Rattle.files.proofs.search.stands_in_any_case.Goals as goal

pub returns-then-starts_as : goal.returns-then-starts_as
returns-then-starts_as c =
    let rest = drop c.loop-at.at c.args.name.now in
    let all : take (length c.args.name.now - c.loop-at.at) rest ≡ rest =
    take_all (length c.args.name.now - c.loop-at.at) rest (omega (arith, length-drop c.loop-at.at c.args.name.now)) in
    sym (c.loop-at.invariant ∙ stands-here c.args.text.now c.args.name.now c.loop-at.at
    (ap (starts_as c.args.text.now) (sym all) ∙ sym c.starts_as.ensures ∙ c.if-starts_as.true))

pub loop-at-preserved : goal.loop-at-preserved
loop-at-preserved c =
    let rest = drop c.loop-at.at c.args.name.now in
    let all : take (length c.args.name.now - c.loop-at.at) rest ≡ rest =
    take_all (length c.args.name.now - c.loop-at.at) rest (omega (arith, length-drop c.loop-at.at c.args.name.now)) in
    c.loop-at.invariant ∙ stands-later c.args.text.now c.args.name.now c.loop-at.at (omega arith)
    (ap (starts_as c.args.text.now) (sym all) ∙ sym c.starts_as.ensures ∙ c.if-starts_as.false)

pub returns : goal.returns
returns c = sym (c.loop-at.invariant ∙ stands-none c.args.text.now c.args.name.now c.loop-at.at c.requires.some (omega arith))
