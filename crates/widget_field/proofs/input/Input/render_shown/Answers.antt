use Rattle.widget_field.proofs.PaintLemmas.{short-behind}
use Rattle.widget_field.proofs.input.Input.render_shown.Goals as goal

pub returns-in-None-clause-short : goal.returns-in-None-clause-short
returns-in-None-clause-short c = λ short.
    c.render_parts.ensures.short (rw c.before-in-None.ensures short.before)
    (short-behind c.args.self.now c.args.field.now _ _ _ c.in-None.is c.behind.ensures.style c.behind.ensures.text
    c.after.ensures short.behind)
