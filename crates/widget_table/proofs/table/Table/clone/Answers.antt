use Rattle.widget_boxes.proofs.CloneLemmas.{block-same, if-same, all-same}
use Rattle.widget_table.specs.contracts.row.RowEq.TheImpl.Laws.{laws-law as row_laws}
use Rattle.widget_table.specs.contracts.table.TableEq.TheImpl.Laws.{laws-law}
use Rattle.widget_table.proofs.table.Table.clone.Goals as goal

pub returns : goal.returns
returns c =
    rw (
      all-same row_laws c.args.self.now.rows.items c.in_ok-cloned_rows.field-0.items
          (rw c.as_slice.ensures.value at c.in_ok-cloned_rows.ensures),
      if-same row_laws c.args.self.now.header c.in_ok-cloned_row.field-0 c.in_ok-cloned_row.ensures,
      if-same row_laws c.args.self.now.footer c.in_ok-cloned_row-2.field-0 c.in_ok-cloned_row-2.ensures,
      block-same _ _ c.in_ok-cloned_block.ensures,
      c.in_ok-cloned_text.ensures,
      c.in_ok-from_slice.ensures.items,
      c.as_slice-2.ensures.value,
    ) (laws-law.refl c.args.self.now)
