use Rattle.widget_table.specs.contracts.row.RowEq.TheImpl.Laws.{laws-law}
use Rattle.widget_table.proofs.row.Row.clone.Goals as goal

pub returns : goal.returns
returns c = rw (c.in_ok-cloned_cells.ensures, c.as_slice.ensures.value) (laws-law.refl c.args.self.now)
