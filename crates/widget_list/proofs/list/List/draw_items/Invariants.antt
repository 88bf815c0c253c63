use Rattle.std.proofs.Common.{◌≡◌, ◌+◌, ◌-◌, take, drop}
use Rattle.ratatui_core.specs.{Buffer.BufferData, Widgets.ChangesWithin}
use Rattle.widget_list.specs.{Windows.rows_before, Items.ShowsItems}
use Rattle.widget_list.proofs.list.List.draw_items.Given as goal

abbrev pub invariant-loop-k : goal.invariant-loop-k
invariant-loop-k l = record {
  used : rows_before l.fn.self.items.items l.fn.offset + l.used ≡ rows_before l.fn.self.items.items l.k;
  within : ChangesWithin l.fn.inner l.fn.buf l.buf;
  rest : (new : BufferData) → ShowsItems l.fn.self l.fn.selected l.fn.inner l.k l.used
      (take (l.fn.offset + l.fn.count - l.k) (drop l.k l.fn.self.items.items)) l.buf new
      → ShowsItems l.fn.self l.fn.selected l.fn.inner l.fn.offset 0
      (take l.fn.count (drop l.fn.offset l.fn.self.items.items)) l.fn.buf new;
}
