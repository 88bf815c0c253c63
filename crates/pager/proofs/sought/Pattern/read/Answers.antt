use Rattle.std.proofs.Common.{rules, ◌≡◌, Some, Err, option_map, not, sym, ap, ◌∙◌}
use Rattle.regex.specs.declared.error.Error.TheVariants.{Syntax}
use Rattle.regex.specs.Strings.{regex_pattern}
use Rattle.regex.specs.Views.{builder_source}
use Rattle.pager.specs.Patterns.{IsPatternOf}
use Rattle.pager.proofs.PatternLemmas.{made-alike, some-made, none-read, options-are}
use Rattle.pager.proofs.sought.Pattern.read.Goals as goal

pub invariant_of-result : goal.invariant_of-result
invariant_of-result c =
    let text = c.args.text.now in let made = c.in-Ok.ensures in
    let source = made.source ∙ ap builder_source c.case_insensitive.ensures ∙ c.new.ensures.source in
    let options = options-are c.case_insensitive.result c.new.result text (not c.has_capital-any_case.result)
    c.case_insensitive.ensures c.new.ensures.config (ap not c.has_capital-any_case.ensures) in
    rw (c.new-text.ensures ∙ c.in_ok-from_str-in-Ok.ensures.ok)
    (made-alike text c.in-Ok.regex source (made.config ∙ options) made.read)

pub returns-in_ok-from_str-in-Ok : goal.returns-in_ok-from_str-in-Ok
returns-in_ok-from_str-in-Ok c =
    let text = c.args.text.now in let made = c.in-Ok.ensures in
    let source = made.source ∙ ap builder_source c.case_insensitive.ensures ∙ c.new.ensures.source in
    let options = options-are c.case_insensitive.result c.new.result text (not c.has_capital-any_case.result)
    c.case_insensitive.ensures c.new.ensures.config (ap not c.has_capital-any_case.ensures) in
    ap Some (c.new-text.ensures ∙ c.in_ok-from_str-in-Ok.ensures.ok)
    ∙ some-made text (regex_pattern c.in-Ok.regex) (made-alike text c.in-Ok.regex source (made.config ∙ options) made.read)

pub returns-in-Err-Syntax : goal.returns-in-Err-Syntax
returns-in-Err-Syntax c =
    let text = c.args.text.now in
    let source = ap builder_source c.case_insensitive.ensures ∙ c.new.ensures.source in
    let options = options-are c.case_insensitive.result c.new.result text (not c.has_capital-any_case.result)
    c.case_insensitive.ensures c.new.ensures.config (ap not c.has_capital-any_case.ensures) in
    let failed : c.build-built.result ≡ Err (Syntax c.in-Err-Syntax.field-0-0) = search rules in
    sym (ap (option_map (λ re. text)) (none-read c.build-built.result c.in-Err-Syntax.field-0-0 _ _ text failed
    c.build-built.ensures.by_grammar c.build-built.ensures.kind options source))
