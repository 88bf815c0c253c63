use Rattle.std.proofs.Common.{◌+◌, arith}
use Rattle.std.proofs.lemmas.List.{get_or_default}
use Rattle.rtui_cell.specs.Cell.{empty_cell}
use Rattle.rtui_diff.proofs.DiffLemmas.{given-visited, given-plain, given-narrow}
use Rattle.rtui_diff.proofs.diff.DiffWalk.advance.Goals as goal

pub returns-then-at-self-clause-gives : goal.returns-then-at-self-clause-gives
returns-then-at-self-clause-gives c =
    let s = c.args.self.now in
    given-visited s.prev.now s.next.now s.len s.pos s.end (s.pos + c.from.result) s.force c.is_given_when_visited.result _ _
    (omega arith) (omega arith) c.is_given_when_visited.ensures
    (get_or_default s.prev.now s.pos _ empty_cell (omega arith)) (get_or_default s.next.now s.pos _ empty_cell (omega arith))
    (omega arith)

pub returns-then-is_single_byte-2-clause-gives : goal.returns-then-is_single_byte-2-clause-gives
returns-then-is_single_byte-2-clause-gives c =
    let s = c.args.self.now in
    given-narrow s.prev.now s.next.now s.len s.pos s.end s.force c.is_single_byte_given.result _ _ (omega arith) (omega arith)
    (rw c.is_same_byte.ensures at c.is_single_byte_given.ensures)
    (c.is_single_byte-then-is_single_byte.ensures.narrow c.if-is_single_byte-2.true)
    (c.is_single_byte.ensures.narrow c.if-is_single_byte.true) (get_or_default s.prev.now s.pos _ empty_cell (omega arith))
    (get_or_default s.next.now s.pos _ empty_cell (omega arith))

pub returns-clause-gives : goal.returns-clause-gives
returns-clause-gives c =
    let s = c.args.self.now in
    let t = c.step_after-step.result in
    rw (c.place_behind-self.ensures, c.from-2.ensures)
    (given-plain s.prev.now s.next.now s.len s.pos s.end t.over t.left s.force c.is_given-given.result t.force _ _ (omega arith)
    (omega arith) (rw c.is_same.ensures at c.is_given-given.ensures) c.step_after-step.ensures
    (get_or_default s.prev.now s.pos _ empty_cell (omega arith)) (get_or_default s.next.now s.pos _ empty_cell (omega arith)))
