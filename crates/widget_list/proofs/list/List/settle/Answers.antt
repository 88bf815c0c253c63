use Rattle.widget_list.specs.Items.{IsNextListState}
use Rattle.widget_list.proofs.{SettledFrameLemmas.settles-inside, SettledFrameLemmas.settles-one, SettledLemmas.list-leads}
use Rattle.widget_list.proofs.list.List.settle.Goals as goal

pub returns-then-not-is_empty-clause-value : goal.returns-then-not-is_empty-clause-value
returns-then-not-is_empty-clause-value c =
    let l = c.args.self.now in
    settles-one l.style l.block (list-leads l) c.args.area c.args.state.now c.next_state.result
    (settles-inside l.block (λ r. IsNextListState l r.height) c.args.area c.args.state.now
    c.next_state.result c.inner_if-inner.result c.is_empty.result c.inner_if-inner.ensures c.is_empty.ensures c.if-not-is_empty.true
    c.next_state.ensures.next)
