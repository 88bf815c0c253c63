use Rattle.std.proofs.Common.{drop, arith}
use Rattle.std.proofs.lemmas.List.{drop_all}
use Rattle.rtui_drawing.specs.declared.cut.Cut.TheVariants.{Rows}
use Rattle.rtui_drawing.proofs.DrawingLemmas.{continues-all, continues-in, continues-next, continues-stop, continues-end}
use Rattle.rtui_inside.proofs.InsideLemmas.{row-inside}
use Rattle.widget_tabs.proofs.TabLemmas.{title-next, tabs-end}
use Rattle.widget_tabs.proofs.tabs.TabsDrawInside.draw_inside.Goals as goal

pub loop-k-init : goal.loop-k-init
loop-k-init c = record {
  row = row-inside c.args.buf.now.area c.args.inner c.of-row.result 0 c.requires.some c.requires.inside c.requires.some.rows
      c.of-row.ensures;
  rest = rw c.of-row.ensures (continues-in (Rows 0 1) continues-all);
}

pub returns-then-row-eq0 : goal.returns-then-row-eq0
returns-then-row-eq0 c =
    continues-end (rw (tabs-end c.args.self.now c.loop-k.row.width c.loop-k.k (drop c.loop-k.k c.args.self.now.titles.items)
    (omega (arith, c.if-row-eq0.true))) at c.loop-k.invariant.rest)

pub returns-in_err-row : goal.returns-in_err-row
returns-in_err-row c =
    let next = title-next c.args.self.now c.loop-k.row.width c.loop-k.k c.index-titles-k.result (omega arith)
    (rw c.as_slice-titles.ensures.value at c.index-titles-k.is) (omega arith) in
    continues-stop c.from_residual.result c.from_residual.ensures.0 (rw next at c.loop-k.invariant.rest) c.in_err-row.ensures.done

pub loop-k-preserved : goal.loop-k-preserved
loop-k-preserved c =
    let next = title-next c.args.self.now c.loop-k.row.width c.loop-k.k c.index-titles-k.result (omega arith)
    (rw c.as_slice-titles.ensures.value at c.index-titles-k.is) (omega arith) in
    record {
      row = c.in_ok-row.ensures.left;
      rest = rw c.in_ok-row.ensures.rest
          (continues-in _ (continues-next (rw next at c.loop-k.invariant.rest) c.in_ok-row.ensures.done));
    }

pub returns : goal.returns
returns c =
    let none = drop_all c.loop-k.k c.args.self.now.titles.items (omega arith) in
    continues-end (rw none at c.loop-k.invariant.rest)
