use Rattle.std.proofs.Common.{subst}
use Rattle.widget_list.proofs.SettledFrameLemmas.{settles-inside, settles-one}
use Rattle.widget_table.specs.{Rows.rows_area, Tables.IsNextState}
use Rattle.widget_table.proofs.SettledTableLemmas.{table-leads}
use Rattle.widget_table.proofs.table.Table.settle.Goals as goal

pub returns-then-not-is_empty-clause-value : goal.returns-then-not-is_empty-clause-value
returns-then-not-is_empty-clause-value c =
    let t = c.args.self.now in
    settles-one t.style t.block (table-leads t) c.args.area c.args.state.now c.next_state.result
    (settles-inside t.block (λ r. IsNextState t (rows_area t.header t.footer r).height) c.args.area c.args.state.now
    c.next_state.result c.inner_if-inner.result c.is_empty.result c.inner_if-inner.ensures c.is_empty.ensures c.if-not-is_empty.true
    (subst (λ n. IsNextState t n c.args.state.now c.next_state.result) c.rows_height.ensures c.next_state.ensures))
