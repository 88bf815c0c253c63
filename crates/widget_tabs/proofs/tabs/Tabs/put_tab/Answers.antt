use Rattle.widget_tabs.proofs.TabLemmas.{part_then, part_stop}
use Rattle.widget_tabs.proofs.tabs.Tabs.put_tab.Goals as goal

pub returns-in_err-row-3 : goal.returns-in_err-row-3
returns-in_err-row-3 c =
    part_then _ c.in_ok-row.ensures (part_then _ c.in_ok-row-2.ensures
    (part_stop _ c.from_residual-in_err-row-3.ensures.0 (rw c.is_selected.ensures at c.in_err-row-3.ensures)))

pub returns : goal.returns
returns c =
    part_then _ c.in_ok-row.ensures (part_then _ c.in_ok-row-2.ensures
    (part_then _ (rw c.is_selected.ensures at c.in_ok-row-3.ensures) c.put_padding-2.ensures))
