use Rattle.std.proofs.Common.{rules, ◌≡◌, ◌-◌, None, length, sym, ap, subst, ◌∙◌}
use Rattle.regex.specs.Strings.{matcher_pattern}
use Rattle.pager.specs.Patterns.{begun_at, span_from}
use Rattle.pager.specs.Symbols.{marked_bytes}
use Rattle.pager.specs.Inner.{IsAheadIn}
use Rattle.pager.proofs.PatternLemmas.{marked-by, ahead-by, ahead-for, seeks-plain}
use Rattle.pager.proofs.finder.Finder.marked.Goals as goal

pub returns-in_default-clause-marked : goal.returns-in_default-clause-marked
returns-in_default-clause-marked c =
    let line = c.args.line.now in
    let none : c.self.inside.matcher ≡ None = search rules in
    c.marked_text.ensures line
    ∙ ap (λ s. marked_bytes s line c.args.marked c.args.rest.now)
    (seeks-plain c.self.inside.text.now c.self.inside.matcher c.args.self.now none c.self.view_is)

pub next_span-requires-clause-known : goal.next_span-requires-clause-known
next_span-requires-clause-known c =
    let line = c.args.line.now in
    subst (λ k. IsAheadIn (matcher_pattern c.in-Some.matcher) line k c.args.ahead.now) (sym c.saturating_sub-at.ensures)
    (ahead-by c.self.inside.text.now c.in-Some.matcher c.self.inside.matcher c.in-Some.is c.args.self.now c.self.view_is
    c.self.invariant line (λ k. (c.type_inv.line k).fits) _ c.args.ahead.now c.requires)

pub returns-clause-marked : goal.returns-clause-marked
returns-clause-marked c =
    let line = c.args.line.now in let re = matcher_pattern c.in-Some.matcher in
    c.begun_at.ensures
    ∙ ap (begun_at c.saturating_sub-at.result) c.next_span.ensures.span
    ∙ ap (λ k. begun_at k (span_from re line k)) c.saturating_sub-at.ensures
    ∙ marked-by c.self.inside.text.now c.in-Some.matcher c.self.inside.matcher c.in-Some.is c.args.self.now c.self.view_is
    c.self.invariant line (λ k. (c.type_inv.line k).fits) c.args.marked c.args.rest.now c.if-marked-gt0.false

pub returns-clause-ahead : goal.returns-clause-ahead
returns-clause-ahead c =
    let line = c.args.line.now in
    ahead-for c.self.inside.text.now c.in-Some.matcher c.self.inside.matcher c.in-Some.is c.args.self.now c.self.view_is
    c.self.invariant line (λ k. (c.type_inv.line k).fits) _ c.next_span.new.ahead
    (subst (λ k. IsAheadIn (matcher_pattern c.in-Some.matcher) line k c.next_span.new.ahead) c.saturating_sub-at.ensures
    c.next_span.ensures.ahead)
