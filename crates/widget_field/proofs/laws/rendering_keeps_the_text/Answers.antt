use Rattle.std.proofs.Common.{ap}
use Rattle.text_field.specs.Field.{FieldData}
use Rattle.widget_field.proofs.laws.rendering_keeps_the_text.Goals as goal

pub returns-clause-before : goal.returns-clause-before
returns-clause-before c = λ input f g r old new shows. ap (λ (h : FieldData). h.before) shows.same

pub returns-clause-after : goal.returns-clause-after
returns-clause-after c = λ input f g r old new shows. ap (λ (h : FieldData). h.after) shows.same
