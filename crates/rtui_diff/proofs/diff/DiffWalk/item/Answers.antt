use Rattle.std.proofs.Common.{arith, rules, ◌≡◌, ◌*◌, ◌+◌, ◌<◌}
use Rattle.rtui_diff.proofs.FrameLemmas.{update_by_row}
use Rattle.rtui_diff.proofs.diff.DiffWalk.item.Goals as goal

pub returns-clause-update : goal.returns-clause-update
returns-clause-update c =
    let d = c.args.self.now in
    let row = c.row_with-self.result in
    let start : row.start ≡ row.index * d.width = search rules in
    let inside : c.args.at < row.start + d.width = search rules in
    update_by_row d.x d.y d.width row.start row.index c.args.at d.next.now _ c.index-next-at.result start
    c.row_with-self.ensures.begun inside (omega arith) (search rules)
