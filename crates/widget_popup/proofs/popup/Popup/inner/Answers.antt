use Rattle.widget_popup.proofs.PlaceLemmas.{inner-inside}
use Rattle.widget_popup.proofs.popup.Popup.inner.Goals as goal

pub returns-clause-inside : goal.returns-clause-inside
returns-clause-inside c = λ p has.
    c.area.ensures.inside p (inner-inside c.args.self.now.block c.area.result p (rw c.inner_if.ensures at has))
