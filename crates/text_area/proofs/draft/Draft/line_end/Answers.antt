use Rattle.std.proofs.Common.{ℕ, List, ◌≡◌, ◌≤◌, ◌∙◌, ap, sym, subst, take, length, arith, string_bytes}
use Rattle.text_field.specs.History.{CursorText}
use Rattle.text_area.specs.{Drafts.draft_text, Lines.feeds}
use Rattle.text_area.proofs.DraftLemmas.{text-at}
use Rattle.text_area.proofs.LineKept.{kept-row}
use Rattle.text_area.proofs.draft.Draft.line_end.Goals as goal

pub returns-clause-at : goal.returns-clause-at
returns-clause-at c =
    let text : List ℕ = string_bytes c.self.inside.text in
    let whole : draft_text c.args.self.now ≡ text = ap draft_text (sym c.self.view_is) ∙ text-at _ c.self.inside.at in
    subst (λ t. c.self.inside.line.end ≤ length t) (sym whole) c.self.invariant.3.boundary.0

pub returns-clause-row : goal.returns-clause-row
returns-clause-row c =
    let text : List ℕ = string_bytes c.self.inside.text in
    let whole : draft_text c.args.self.now ≡ text = ap draft_text (sym c.self.view_is) ∙ text-at _ c.self.inside.at in
    ap (λ t. feeds (take c.self.inside.line.end t)) whole
    ∙ sym (kept-row text c.self.inside.line c.self.invariant.3 c.self.inside.line.end c.self.invariant.3.order
    (omega arith))
    ∙ kept-row text c.self.inside.line c.self.invariant.3 c.self.inside.at c.self.invariant.4 c.self.invariant.5
    ∙ ap (λ (t : CursorText). feeds t.before) c.self.view_is
