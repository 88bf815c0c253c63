use Rattle.std.proofs.Common.{[], ◌∷◌, ap, sym, ◌∙◌}
use Rattle.std.proofs.lemmas.Result.{IfOk-weaker}
use Rattle.rtui_text.specs.Text.{line_of}
use Rattle.rtui_text.proofs.BreakLemmas.{line-empty, line-whole}
use Rattle.rtui_text.proofs.line.Line.unbroken.Goals as goal

pub returns-then-is_empty : goal.returns-then-is_empty
returns-then-is_empty c = λ whole. c.default_in.ensures
    ∙ sym (line-empty c.args.content.now (sym c.is_empty.ensures ∙ c.if-is_empty.true))

pub returns : goal.returns
returns c = λ whole. IfOk-weaker c.from_span.result _ _ (λ l is. is ∙ ap (λ s. line_of (s ∷ [])) c.raw.ensures
    ∙ sym (line-whole c.args.content.now whole (sym c.is_empty.ensures ∙ c.if-is_empty.false))) c.from_span.ensures
