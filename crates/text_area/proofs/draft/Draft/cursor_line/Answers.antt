use Rattle.std.proofs.Common.{rules, ℕ, List, ◌≡◌, ◌∙◌, ap, slice_range, string_bytes}
use Rattle.text_field.specs.History.{CursorText}
use Rattle.text_area.specs.Lines.{first_line, last_line}
use Rattle.text_area.proofs.LineKept.{kept-last, kept-first}
use Rattle.text_area.proofs.draft.Draft.cursor_line.Goals as goal

pub returns-clause-before : goal.returns-clause-before
returns-clause-before c =
    let text : List ℕ = string_bytes c.self.inside.text in
    let part : c.range.result.now ≡ slice_range text c.self.inside.line.start c.self.inside.at = search rules in
    part ∙ kept-last text c.self.inside.line c.self.invariant.3 c.self.inside.at c.self.invariant.4 c.self.invariant.5
    ∙ ap (λ (t : CursorText). last_line t.before) c.self.view_is

pub returns-clause-after : goal.returns-clause-after
returns-clause-after c =
    let text : List ℕ = string_bytes c.self.inside.text in
    let part : c.range-2.result.now ≡ slice_range text c.self.inside.at c.self.inside.line.end = search rules in
    part ∙ kept-first text c.self.inside.line c.self.invariant.3 c.self.inside.at c.self.invariant.4 c.self.invariant.5
    ∙ ap (λ (t : CursorText). first_line t.after) c.self.view_is
