use Rattle.std.proofs.Common.{ℕ, List, ◌∙◌, ap, subst, arith, string_bytes}
use Rattle.rtui_text.specs.Printable.{ArePrintable}
use Rattle.text_field.specs.History.{CursorText}
use Rattle.text_area.specs.Lines.{first_line, last_line}
use Rattle.text_area.proofs.LineKept.{kept-last, kept-first, kept-plain}
use Rattle.text_area.proofs.draft.Draft.is_plain.Goals as goal

pub returns-clause-before : goal.returns-clause-before
returns-clause-before c plain =
    let text : List ℕ = string_bytes c.self.inside.text in
    let part = kept-last text c.self.inside.line c.self.invariant.3 c.self.inside.at c.self.invariant.4 c.self.invariant.5
    ∙ ap (λ (t : CursorText). last_line t.before) c.self.view_is in
    subst ArePrintable part (kept-plain text c.self.inside.line c.self.inside.line.start c.self.inside.at c.self.invariant.3
    plain (omega arith) c.self.invariant.5)

pub returns-clause-after : goal.returns-clause-after
returns-clause-after c plain =
    let text : List ℕ = string_bytes c.self.inside.text in
    let part = kept-first text c.self.inside.line c.self.invariant.3 c.self.inside.at c.self.invariant.4 c.self.invariant.5
    ∙ ap (λ (t : CursorText). first_line t.after) c.self.view_is in
    subst ArePrintable part (kept-plain text c.self.inside.line c.self.inside.at c.self.inside.line.end c.self.invariant.3
    plain c.self.invariant.4 (omega arith))
