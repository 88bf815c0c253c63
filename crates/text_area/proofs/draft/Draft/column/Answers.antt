use Rattle.std.proofs.Common.{◌∙◌, ap, string_bytes}
use Rattle.text_field.specs.History.{CursorText}
use Rattle.text_area.specs.Lines.{column_after}
use Rattle.text_area.proofs.LineKept.{plain-column}
use Rattle.text_area.proofs.draft.Draft.column.Goals as goal

pub returns-then-self : goal.returns-then-self
returns-then-self c =
    plain-column (string_bytes c.self.inside.text) c.self.inside.line c.self.inside.at c.self.invariant.3 c.if-self.true
    c.self.invariant.4 c.self.invariant.5 ∙ ap (λ (t : CursorText). column_after t.before) c.self.view_is
