use Rattle.std.proofs.Common.{ℕ, List, ◌≡◌, ◌∙◌, ap, sym, take, string_bytes}
use Rattle.text_area.specs.{Drafts.draft_text, Lines.feeds}
use Rattle.text_area.proofs.DraftLemmas.{text-at}
use Rattle.text_area.proofs.LineKept.{kept-row}
use Rattle.text_area.proofs.draft.Draft.row_of.Goals as goal

pub returns-then-has : goal.returns-then-has
returns-then-has c =
    let text : List ℕ = string_bytes c.self.inside.text in
    let whole : draft_text c.args.self.now ≡ text = ap draft_text (sym c.self.view_is) ∙ text-at _ c.self.inside.at in
    c.self.invariant.1
    ∙ sym (kept-row text c.self.inside.line c.self.invariant.3 c.self.inside.at c.self.invariant.4 c.self.invariant.5)
    ∙ kept-row text c.self.inside.line c.self.invariant.3 c.args.at (c.has.ensures.from c.if-has.true)
    (c.has.ensures.to c.if-has.true) ∙ ap (λ t. feeds (take c.args.at t)) (sym whole)
