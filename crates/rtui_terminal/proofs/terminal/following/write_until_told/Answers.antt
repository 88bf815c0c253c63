use Rattle.rtui_cell.specs.Grid.{update_by}
use Rattle.rtui_terminal.proofs.DifferenceLemmas.{differences_drawn}
use Rattle.rtui_terminal.proofs.terminal.following.write_until_told.Goals as goal

pub returns-clause-ok : goal.returns-clause-ok
returns-clause-ok g c =
    let p = c.args.previous.now in
    let n = c.args.current.now in
    let drawn = differences_drawn (update_by (λ cell. cell.now)) (λ left. left.updates) _ p n _ _ in
    drawn c.requires.edges c.requires.same c.diff_iter.ensures c.in_ok-draw.ensures.ok
