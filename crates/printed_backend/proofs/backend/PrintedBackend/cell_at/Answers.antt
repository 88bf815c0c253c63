use Rattle.std.proofs.Common.{◌≡◌, ◌<◌, min, nat_lt, length, map, false, ap, sym, ◌∙◌, arith}
use Rattle.std.proofs.lemmas.{Bool.Decides.nat_tests, Result.IfOk-weaker}
use Rattle.rtui_cell.specs.Look.{look_of}
use Rattle.rtui_cell.proofs.CellLemmas.{look-empty}
use Rattle.rtui_backend.specs.Screen.{row_of, upper_part}
use Rattle.printed_backend.specs.Printed.{shown_on}
use Rattle.printed_backend.proofs.{RaisingLemmas.at_column, LeavingLemmas.row_within}
use Rattle.printed_backend.proofs.backend.PrintedBackend.cell_at.Goals as goal

pub returns-then-y-end : goal.returns-then-y-end
returns-then-y-end c =
    let past : nat_lt c.args.y (min c.args.end (shown_on c.args.self.now).height) ≡ false =
    grind (arith, nat_tests, c.if-y-end.true) in
    rw past look-empty

pub returns : goal.returns
returns c =
    let s = shown_on c.args.self.now in
    let wide = ap (λ r. r.width) c.buffer.ensures.area in
    let within : c.args.y < c.args.end = omega (arith, c.if-y-end.false) in
    let fits : c.args.x < length c.row.result.now = omega (arith, c.row.ensures.count, wide, c.requires.column) in
    let row : map look_of c.row.result.now ≡ row_of (upper_part c.args.end s) c.args.y =
    ap (map look_of) c.row.ensures.cells ∙ c.buffer.ensures.rows c.args.y (omega (arith, within, c.requires.rows))
    ∙ sym (row_within s c.args.end c.args.y c.requires.rows within) in
    let look = at_column (upper_part c.args.end s) c.row.result.now c.index-row-from.result c.index-row-from.result
    c.args.x c.args.y row (rw c.from.ensures at c.index-row-from.is) fits c.requires.column in
    IfOk-weaker c.clone.result _ _ (λ cell is. ap look_of is ∙ look) c.clone.ensures.value
