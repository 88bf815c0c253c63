use Rattle.std.proofs.Common.{◌≡◌, ◌*◌, ◌<◌, refl, sym, subst, arith}
use borrow.Author.Count.{below_more}
use Rattle.std.proofs.lemmas.Bool.{false≢true}
use Rattle.rtui_diff.specs.Settled.{IsSettledAt}
use Rattle.rtui_diff.proofs.{SettledLemmas.settled_at, SettledLemmas.settled_from, RepaintLemmas.repaints}
use Rattle.rtui_diff.proofs.settled.is_settled.Goals as goal

pub returns-then-not-is_settled_at-clause-settled :
    goal.returns-then-not-is_settled_at-clause-settled
returns-then-not-is_settled_at-clause-settled c =
    let a = c.args in
    let same : c.from-columns.result ≡ a.width = c.from-columns.ensures in
    let inside : c.loop-at.at < a.width * a.height = rw (← c.from-columns.ensures, ← c.from.ensures) c.loop-at-test.true in (
      λ t. absurd (false≢true t),
      λ s. c.if-not-is_settled_at.ensures.1 (subst (λ w. IsSettledAt w a.cells.now c.loop-at.at)
          (sym same) (settled_at a.width a.height a.cells.now c.loop-at.at inside s)),
    )

pub loop-at-preserved : goal.loop-at-preserved
loop-at-preserved c = record {
  before = below_more (IsSettledAt c.args.width c.args.cells.now) c.loop-at.at c.loop-at.invariant.before
      (subst (λ w. IsSettledAt w c.args.cells.now c.loop-at.at) c.from-columns.ensures (c.if-not-is_settled_at.ensures.0 refl));
}

pub returns : goal.returns
returns c =
    let a = c.args in
    let all : a.width * a.height ≡ c.loop-at.at = (let x = c.loop-at-test.false in let y = c.loop-at.auto.at-end in
    rw (← c.from-columns.ensures, ← c.from.ensures) (omega arith)) in
    let st = settled_from a.width a.height a.cells.now (λ i lt. c.loop-at.invariant.before i (omega arith)) in
    record { settled = (λ _. st, λ _. refl); repaints = λ _. repaints a.width a.height a.cells.now st }
