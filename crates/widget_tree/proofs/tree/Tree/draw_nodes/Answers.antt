use Rattle.std.proofs.Common.{◌≡◌, false, true, Err, subst}
use Rattle.ratatui_core.proofs.WidgetLemmas.{holds_anyway}
use Rattle.rtui_drawing.proofs.DrawingLemmas.{done-within, done-short}
use Rattle.widget_tree.specs.Trees.{HighlightsRow}
use Rattle.widget_tree.proofs.{ApartTreeLemmas.nodes-within}
use Rattle.widget_tree.proofs.tree.Tree.draw_nodes.Goals as goal

pub returns-in_err-selected-clause-within : goal.returns-in_err-selected-clause-within
returns-in_err-selected-clause-within c = done-within _ c.in_err-selected.ensures.done

pub returns-in_err-selected-clause-stopped : goal.returns-in_err-selected-clause-stopped
returns-in_err-selected-clause-stopped c = holds_anyway c.from_residual.result c.in_err-selected.ensures.done.err

pub returns-in_err-selected-clause-short : goal.returns-in_err-selected-clause-short
returns-in_err-selected-clause-short c = λ short.
    let no : false ≡ true = done-short (Err c.in_err-selected.field-0.0) short c.in_err-selected.ensures.done in
    absurd (cc)

pub returns-clause-ok : goal.returns-clause-ok
returns-clause-ok c = record {
  drawn = c.draw_rows.new.buf;
  nodes = c.in_ok-selected.ensures.done.ok;
  highlight = subst (λ o. HighlightsRow c.args.self.now o c.draw_rows.new.buf c.highlight_row.new.buf)
      c.in_ok-selected.ensures.selected c.highlight_row.ensures;
}

pub returns-clause-within : goal.returns-clause-within
returns-clause-within c =
    nodes-within c.args.self.now c.args.state.now c.args.first c.args.inner c.args.buf.now c.highlight_row.new.buf
    (returns-clause-ok c)
