use Rattle.std.proofs.lemmas.Str.Pattern.{starts_text}
use Rattle.std.proofs.Common.{sym, ◌∙◌}
use Rattle.pager.proofs.symbols.begins_with.Goals as goal

pub returns-then-has_capital : goal.returns-then-has_capital
returns-then-has_capital c = rw (sym c.has_capital.ensures ∙ c.if-has_capital.true)
    (starts_text c.starts_with.result c.args.pattern.now c.args.text.now c.starts_with.ensures.cases)
