use Rattle.std.proofs.Common.{rules, subst, arith}
use Rattle.ratatui_core.specs.Layout.{LayoutData, IsSplit, inner}
use Rattle.guide.proofs.AreaLemmas.{head_layout, no_margin, head_and_body}
use Rattle.guide.proofs.areas.head_and_body.Goals as goal

pub returns : goal.returns
returns c = λ some fits.
    let area = c.args.area in
    let parts = c.areas.result in
    let inside = inner area head_layout.margin in
    let P : LayoutData → Type 0 = λ l. IsSplit l (inner area l.margin) parts in
    let split : IsSplit head_layout inside parts = subst P (search rules) c.areas.ensures in
    let edges = no_margin area (omega arith) (omega arith) in
    head_and_body area inside parts split
    (c.who_takes_the_rest_leaves_nothing.ensures head_layout inside parts split tt tt tt tt (omega arith)
    (omega (arith, edges.1, edges.3, some, fits)))
    edges.0 edges.1 edges.2 edges.3 some fits
