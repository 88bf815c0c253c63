use Rattle.std.proofs.Common.{◌+◌, ◌*◌, ◌<◌, length, arith, false}
use Rattle.std.proofs.lemmas.{Bool.Decides.nat_tests, Grind.common_steps}
use Rattle.rtui_backend.proofs.{LineLemmas.look_at-set, PutLemmas.put_shows, ShiftLemmas.look_emptied, ShiftLemmas.unmarked_moved}
use Rattle.rtui_backend.proofs.PlainLemmas.{unmarked_set, unmarked-empty}
use Rattle.rtui_cell.specs.Cell.{empty_cell}
use Rattle.rtui_backend.proofs.test.put.put_cell.Goals as goal

pub returns-then-not-is_single_byte-clause-grid : goal.returns-then-not-is_single_byte-clause-grid
returns-then-not-is_single_byte-clause-grid c =
    put_shows c.args.size.width c.args.size.height _ _ _ (omega arith) (omega arith)
    (λ k.
    let behind = simp (
      c.from.ensures,
      c.from-2.ensures,
      c.from-column.ensures,
      c.cell_width.ensures,
      c.from-then-not-is_single_byte.ensures,
      c.from-then-not-is_single_byte-2.ensures,
      c.max.ensures,
      c.min-end.ensures,
    ) at
    (look_emptied _ _ _ k (c.fill.ensures k)) in
    let inside : c.args.y * c.args.size.width + c.args.x < length c.args.cells.now = grind (arith, common_steps) in
    let copied = look_at-set c.args.cells.now (c.args.y * c.args.size.width + c.args.x) k c.copy_look.new.to inside in
    rw (behind, copied, c.copy_look.ensures.look) (grind (arith, nat_tests)))

pub returns-else-not-is_single_byte-clause-grid : goal.returns-else-not-is_single_byte-clause-grid
returns-else-not-is_single_byte-clause-grid c =
    let narrow = c.is_single_byte.ensures.narrow c.if-not-is_single_byte.false in
    rw (c.from.ensures, c.from-2.ensures, c.from-column.ensures)
    (put_shows c.args.size.width c.args.size.height _ _ _ (omega arith) (omega arith)
    (λ k.
    let inside : c.args.y * c.args.size.width + c.args.x < length c.args.cells.now = grind (arith, common_steps) in
    let copied = look_at-set c.args.cells.now (c.args.y * c.args.size.width + c.args.x) k c.copy_look.new.to inside in
    rw (copied, c.copy_look.ensures.look, narrow) (grind (arith, nat_tests))))

pub returns-then-not-is_single_byte-clause-unmarked : goal.returns-then-not-is_single_byte-clause-unmarked
returns-then-not-is_single_byte-clause-unmarked c = λ plain k.
    rw (c.fill.ensures k) (unmarked_moved _ false empty_cell _ unmarked-empty
    (unmarked_set c.args.cells.now _ c.copy_look.new.to plain c.in_ok-copy_look.ensures.unmarked k))
