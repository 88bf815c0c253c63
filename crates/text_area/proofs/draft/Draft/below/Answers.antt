use Rattle.std.proofs.Common.{ℕ, List, ◌≡◌, ◌∙◌, ap, sym, take, arith, string_bytes}
use Rattle.text_field.specs.History.{CursorText}
use Rattle.text_area.specs.{Drafts.draft_text, Lines.feeds, Lines.place_below}
use Rattle.text_area.proofs.DraftLemmas.{text-at}
use Rattle.text_area.proofs.LineKept.{kept-row, below-kept}
use Rattle.text_area.proofs.draft.Draft.below.Goals as goal

pub returns-clause-value : goal.returns-clause-value
returns-clause-value c =
    let text : List ℕ = string_bytes c.self.inside.text in
    let whole : draft_text c.args.self.now ≡ text = ap draft_text (sym c.self.view_is) ∙ text-at _ c.self.inside.at in
    let kept = c.self.invariant.3 in
    let same = sym (kept-row text c.self.inside.line kept c.self.inside.line.end kept.order (omega arith))
    ∙ kept-row text c.self.inside.line kept c.self.inside.at c.self.invariant.4 c.self.invariant.5
    ∙ ap (λ (t : CursorText). feeds t.before) c.self.view_is in
    c.place_below.ensures.value
    ∙ ap (λ t. place_below c.args.lines c.args.columns (take c.self.inside.line.end t) t) c.as_str.ensures.value
    ∙ below-kept text (take c.self.inside.line.end text) c.args.self.now.before c.args.lines c.args.columns same
    ∙ ap (place_below c.args.lines c.args.columns c.args.self.now.before) (sym whole)
