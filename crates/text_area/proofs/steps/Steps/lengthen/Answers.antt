use Rattle.std.proofs.Common.{◌≡◌, ◌+◌, length, get_or, sym, ap, ◌∙◌, refl, arith, List}
use Rattle.text_area.specs.Journals.{StepData}
use Rattle.text_area.proofs.StepLemmas.{reverse-longer}
use Rattle.text_area.proofs.steps.Steps.lengthen.Goals as goal

pub returns-in-Some : goal.returns-in-Some
returns-in-Some c =
    let xs : List StepData = c.self.inside.items.items in
    let is = c.in-Some.ensures in
    let last : c.in-Some.last + 1 ≡ length xs = omega (arith, is.0, is.1, c.len.ensures) in
    let item : c.index_mut.result.now ≡ get_or xs c.in-Some.last c.index_mut.result.now =
    c.index_mut.ensures.value in
    let view = c.behind-self.view_is in
    reverse-longer _ _ _ _ _ _ c.self.view_is last
    (view ∙ item ∙ ap (get_or xs c.in-Some.last) (sym view)) refl
