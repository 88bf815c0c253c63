use Rattle.std.proofs.Common.{ℕ, List, ◌∙◌, ap, sym, take, string_bytes}
use Rattle.text_area.specs.Lines.{feeds}
use Rattle.text_area.proofs.LineKept.{kept-row}
use Rattle.text_area.proofs.draft.Draft.start_of.Goals as goal

pub nth_start-requires-clause-row : goal.nth_start-requires-clause-row
nth_start-requires-clause-row c =
    let text : List ℕ = string_bytes c.self.inside.text in
    c.self.invariant.1
    ∙ sym (kept-row text c.self.inside.line c.self.invariant.3 c.self.inside.at c.self.invariant.4 c.self.invariant.5)
    ∙ ap (λ t. feeds (take c.self.inside.line.start t)) (sym c.as_str.ensures.value)
