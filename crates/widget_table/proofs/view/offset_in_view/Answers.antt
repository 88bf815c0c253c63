use Rattle.std.proofs.Common.{◌∙◌, sym}
use Rattle.widget_table.specs.Rows.{upper_height, full_height}
use Rattle.widget_table.proofs.ViewLemmas.{height-at, view-stays, view-moves}
use Rattle.widget_table.proofs.view.offset_in_view.Goals as goal

pub returns-then-first_fitting-least-clause-keeps : goal.returns-then-first_fitting-least-clause-keeps
returns-then-first_fitting-least-clause-keeps c =
    view-stays c.args.rows.now c.args.height c.args.selected c.args.was c.min-least.result c.upper_height-upper.result
    (c.upper_height-upper.ensures.value
    ∙ sym (height-at upper_height c.args.rows.now c.args.selected c.index-rows-selected.result c.requires.inside
    c.index-rows-selected.is)) c.min-least.ensures
    (rw c.if-first_fitting-least.true at c.first_fitting.ensures)

pub returns-clause-keeps : goal.returns-clause-keeps
returns-clause-keeps c =
    view-moves c.args.rows.now c.args.height c.args.selected c.args.was c.min-least.result c.upper_height-upper.result
    c.height_with_margin.result c.first_fitting.result c.first_fitting-2.result
    (c.upper_height-upper.ensures.value
    ∙ sym (height-at upper_height c.args.rows.now c.args.selected c.index-rows-selected.result c.requires.inside
    c.index-rows-selected.is))
    (c.height_with_margin.ensures.value
    ∙ sym (height-at full_height c.args.rows.now c.args.selected c.index-rows-selected.result c.requires.inside
    c.index-rows-selected.is)) c.min-least.ensures c.first_fitting.ensures
    c.if-first_fitting-least.false c.first_fitting-2.ensures
