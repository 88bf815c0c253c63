use Rattle.std.proofs.Common.{sym, ◌∙◌}
use Rattle.regex.specs.Strings.{matcher_pattern}
use Rattle.pager.proofs.PatternLemmas.{known-span}
use Rattle.pager.proofs.finder.next_span.Goals as goal

pub returns-then-reaches-clause-span : goal.returns-then-reaches-clause-span
returns-then-reaches-clause-span c =
    known-span (matcher_pattern c.args.matcher.now) c.args.line.now c.args.at c.args.ahead.now c.in-Some.known c.in-Some.is
    c.requires.within c.requires.known (sym c.reaches.ensures ∙ c.if-reaches.true)
