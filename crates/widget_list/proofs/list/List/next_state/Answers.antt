use Rattle.std.proofs.Common.{length, rules}
use Rattle.widget_list.specs.Windows.{last_item}
use Rattle.widget_list.proofs.ItemLemmas.{cut-by, cut-inside}
use Rattle.widget_list.proofs.list.List.next_state.Goals as goal

pub offset_for-requires-clause-inside : goal.offset_for-requires-clause-inside
offset_for-requires-clause-inside c =
    let cut = cut-by (last_item c.args.self.now.items.items) c.args.state.selected c.map-selected.result (search rules) in
    rw (c.as_slice-items.ensures.value, cut) (cut-inside (length c.args.self.now.items.items)
    c.args.state.selected (search rules))

pub returns-clause-next : goal.returns-clause-next
returns-clause-next c =
    let cut = cut-by (last_item c.args.self.now.items.items) c.args.state.selected c.map-selected.result (search rules) in
    search rules
