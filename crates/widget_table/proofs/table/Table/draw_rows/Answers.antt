use Rattle.std.proofs.Common.{◌≡◌, ◌∙◌, drop, ap, refl, arith}
use Rattle.rtui_drawing.specs.Cuts.{cut_from}
use Rattle.rtui_drawing.specs.declared.cut.Cut.TheVariants.{Within}
use Rattle.rtui_drawing.proofs.DrawingLemmas.{done-in, continues-all, continues-next, continues-stop, continues-end}
use Rattle.widget_list.proofs.{ItemLemmas.selected-by}
use Rattle.widget_table.specs.Rows.{cells_area, full_height, below}
use Rattle.widget_table.proofs.PartLemmas.{rows-is, area-next, rows-end, rows-stop, area-end, below-area}
use Rattle.widget_table.proofs.table.Table.draw_rows.Goals as goal

pub loop-k-init : goal.loop-k-init
loop-k-init c = record { area = c.requires; rest = continues-all; found = refl }

pub returns-then-left-eq0-clause-done : goal.returns-then-left-eq0-clause-done
returns-then-left-eq0-clause-done c =
    let none = rows-stop c.loop-k.k c.loop-k.left (drop c.loop-k.k c.args.self.now.rows.items)
    (omega (arith, c.if-left-eq0.true)) in
    continues-end (rw none at c.loop-k.invariant.rest)

pub returns-then-left-eq0-clause-selected : goal.returns-then-left-eq0-clause-selected
returns-then-left-eq0-clause-selected c =
    let none = rows-stop c.loop-k.k c.loop-k.left (drop c.loop-k.k c.args.self.now.rows.items)
    (omega (arith, c.if-left-eq0.true)) in
    area-end c.args.state.selected c.loop-k.selected _ _ none c.loop-k.invariant.found

pub returns-clause-done : goal.returns-clause-done
returns-clause-done c =
    let none = rows-end c.loop-k.k c.loop-k.left c.args.self.now.rows.items (omega arith) in
    continues-end (rw none at c.loop-k.invariant.rest)

pub returns-clause-selected : goal.returns-clause-selected
returns-clause-selected c =
    let none = rows-end c.loop-k.k c.loop-k.left c.args.self.now.rows.items (omega arith) in
    area-end c.args.state.selected c.loop-k.selected _ _ none c.loop-k.invariant.found

pub returns-in_err-draw_row-clause-done : goal.returns-in_err-draw_row-clause-done
returns-in_err-draw_row-clause-done c =
    let is = rows-is c.loop-k.left c.loop-k.k c.args.self.now.rows.items c.index-rows-k.result (omega arith) (omega arith)
    (rw c.as_slice-rows.ensures.value at c.index-rows-k.is) in
    let cut = Within (cells_area c.index-rows-k.result c.loop-k.left) in
    let part : c.of-part.result ≡ cut_from cut c.args.area =
    c.of-part.ensures ∙ ap (λ q. cut_from (Within q) c.args.area) c.cells_area-stands.ensures in
    let selected = c.eq-is_selected.ensures ∙ selected-by c.args.state.selected c.loop-k.k in
    continues-stop c.from_residual.result c.from_residual.ensures.0 (rw is at c.loop-k.invariant.rest)
    (done-in cut (cut_from cut c.args.area) _ (rw (part, selected) at c.in_err-draw_row.ensures) refl)

pub loop-k-preserved : goal.loop-k-preserved
loop-k-preserved c =
    let row = c.index-rows-k.result in
    let there = rw c.as_slice-rows.ensures.value at c.index-rows-k.is in
    let is = rows-is c.loop-k.left c.loop-k.k c.args.self.now.rows.items row (omega arith) (omega arith) there in
    let cut = Within (cells_area row c.loop-k.left) in
    let part : c.of-part.result ≡ cut_from cut c.args.area =
    c.of-part.ensures ∙ ap (λ q. cut_from (Within q) c.args.area) c.cells_area-stands.ensures in
    let at : c.below-left.result ≡ below (full_height row) c.loop-k.left =
    c.below-left.ensures ∙ ap (λ n. below n c.loop-k.left) c.height_with_margin.ensures.value in
    let selected = c.eq-is_selected.ensures ∙ selected-by c.args.state.selected c.loop-k.k in
    record {
      area = rw at (below-area (full_height row) c.loop-k.left c.loop-k.invariant.area);
      rest = rw at (continues-next (rw is at c.loop-k.invariant.rest)
          (done-in cut (cut_from cut c.args.area) _ (rw (part, selected) at c.in_ok-draw_row.ensures) refl));
      found = rw (at, c.or-selected.ensures, c.area_if.ensures, selected, c.cells_area-stands.ensures)
          (area-next c.loop-k.left c.loop-k.k c.args.self.now.rows.items row (omega arith) (omega arith) there
          c.args.state.selected c.loop-k.selected _ c.loop-k.invariant.found);
    }
