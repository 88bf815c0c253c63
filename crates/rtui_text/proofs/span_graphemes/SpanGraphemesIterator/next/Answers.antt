use Rattle.std.proofs.Common.{◌∷◌, sym, ◌∙◌, ap, rules}
use Rattle.rtui_text.specs.Graphemes.{in_style, grapheme_data}
use Rattle.unicode_segmentation.specs.Iter.{graphemes_left}
use Rattle.rtui_text.proofs.GraphemeLemmas.{front-looked, shown-next}
use Rattle.rtui_text.proofs.span_graphemes.SpanGraphemesIterator.next.Goals as goal

pub returns-then-not-has_control-clause-steps : goal.returns-then-not-has_control-clause-steps
returns-then-not-has_control-clause-steps c =
    let invariant = c.loop-symbol.invariant in
    let style = c.loop-symbol.self.style in
    sym c.look_ahead.ensures.left ∙ sym invariant.1.1 ∙ front-looked style _ _ _ invariant.0 invariant.1.0
    ∙ ap (in_style style) c.in-Some.ensures.steps ∙ shown-next _ _ _ (search rules)
    ∙ ap (λ t. grapheme_data (record { symbol = c.in-Some.symbol; style = style }) ∷ t)
    (sym (front-looked style _ _ (graphemes_left c.next.new.self) invariant.0 invariant.1.0))
