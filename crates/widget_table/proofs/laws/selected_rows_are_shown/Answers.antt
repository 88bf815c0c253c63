use Rattle.widget_table.specs.Rows.{rows_area}
use Rattle.widget_table.proofs.{ViewLemmas.offset-in-view, ShownRowLemmas.shown-whole}
use Rattle.widget_table.proofs.laws.selected_rows_are_shown.Goals as goal

pub returns-clause-view : goal.returns-clause-view
returns-clause-view c = λ t s u r old new selected is fits shows.
    offset-in-view t.rows.items (rows_area t.header t.footer r).height selected u.selected s.selected s.offset u.offset is
    shows.state.selected fits shows.state.offset

pub returns-clause-whole : goal.returns-clause-whole
returns-clause-whole c = λ t s u r old new selected is fits some shows.
    let view = offset-in-view t.rows.items (rows_area t.header t.footer r).height selected u.selected s.selected s.offset u.offset
    is shows.state.selected fits shows.state.offset in
    shown-whole t u (rows_area t.header t.footer r) selected is view.0 view.1 some
