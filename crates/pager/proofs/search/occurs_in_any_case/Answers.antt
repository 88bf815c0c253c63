use Rattle.std.proofs.Common.{◌≡◌, sym, ap, ◌∙◌, ◌-◌, arith, take, drop, length, length-drop}
use Rattle.std.specs.Str.{str_eq_ignore_ascii_case}
use Rattle.std.proofs.lemmas.List.{take_all}
use Rattle.pager.proofs.SearchLemmas.{occurs-here, occurs-later, occurs-none}
use Rattle.pager.proofs.search.occurs_in_any_case.Goals as goal

pub returns-then-begins_in_any_case : goal.returns-then-begins_in_any_case
returns-then-begins_in_any_case c =
    let pattern = c.args.pattern.now in let rest = drop c.loop-at.at c.args.line.now in
    let all : take (length c.args.line.now - c.loop-at.at) rest ≡ rest =
    take_all (length c.args.line.now - c.loop-at.at) rest (omega (arith, length-drop c.loop-at.at c.args.line.now)) in
    let same = ap (λ t. str_eq_ignore_ascii_case pattern (take (length pattern) t)) (sym all) in
    sym (c.loop-at.invariant ∙ occurs-here pattern c.args.line.now c.loop-at.at
    (rw c.requires.small (same ∙ sym c.begins_in_any_case.ensures ∙ c.if-begins_in_any_case.true)))

pub loop-at-preserved : goal.loop-at-preserved
loop-at-preserved c =
    let pattern = c.args.pattern.now in let rest = drop c.loop-at.at c.args.line.now in
    let all : take (length c.args.line.now - c.loop-at.at) rest ≡ rest =
    take_all (length c.args.line.now - c.loop-at.at) rest (omega (arith, length-drop c.loop-at.at c.args.line.now)) in
    let same = ap (λ t. str_eq_ignore_ascii_case pattern (take (length pattern) t)) (sym all) in
    c.loop-at.invariant ∙ occurs-later pattern c.args.line.now c.loop-at.at (omega arith)
    (rw c.requires.small (same ∙ sym c.begins_in_any_case.ensures ∙ c.if-begins_in_any_case.false))

pub returns : goal.returns
returns c = sym (c.loop-at.invariant ∙ occurs-none c.args.pattern.now c.args.line.now c.loop-at.at c.requires.some (omega arith))
