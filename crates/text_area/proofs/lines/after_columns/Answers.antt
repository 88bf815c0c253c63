use Rattle.std.proofs.Common.{ℕ, ◌≡◌, ◌-◌, true, drop, ap, ◌∙◌, arith}
use Rattle.unicode_segmentation.specs.Grapheme.{graphemes}
use Rattle.text_area.proofs.{LineLemmas.left-step, FrontLemmas.front-left}
use Rattle.text_area.proofs.lines.after_columns.Goals as goal

pub walk-init : goal.walk-init
walk-init c =
    let text = c.args.line.now in
    let n : ℕ = c.plain_front-front.result in
    let max = c.plain_front-front.ensures.max in
    let size : n ≡ c.args.columns - (c.args.columns - n) = omega (arith, max) in (
      c.graphemes-left.ensures.left
          ∙ ap (graphemes true) c.range_from.ensures.value
          ∙ front-left text n c.plain_front-front.ensures.front.within c.plain_front-front.ensures.graphemes
          ∙ ap (λ k. drop k (graphemes true text)) size,
      omega (arith, max),
    )

pub walk-preserved : goal.walk-preserved
walk-preserved c = (
  left-step _ _ _ _ (c.args.columns - c.walk.more) (c.args.columns - (c.walk.more - 1)) c.walk.invariant.0
      c.in-Some.ensures.steps
      (omega (arith, c.walk.invariant.1)),
  omega (arith, c.walk.invariant.1),
)
