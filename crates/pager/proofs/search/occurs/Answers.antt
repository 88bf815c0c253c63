use Rattle.std.proofs.lemmas.{Bool.Decides.same_from_decides, Str.Pattern.contains_text}
use Rattle.std.proofs.Common.{sym, ◌∙◌}
use Rattle.pager.specs.Search.{occurs}
use Rattle.pager.proofs.SearchLemmas.{occurs-decides}
use Rattle.pager.proofs.search.occurs.Goals as goal

pub returns-then-has_capital : goal.returns-then-has_capital
returns-then-has_capital c =
    same_from_decides c.contains.result (occurs c.args.pattern.now c.args.line.now)
    (contains_text c.contains.result c.args.pattern.now c.args.line.now c.contains.ensures.cases)
    (occurs-decides c.args.pattern.now c.args.line.now (sym c.has_capital.ensures ∙ c.if-has_capital.true))
