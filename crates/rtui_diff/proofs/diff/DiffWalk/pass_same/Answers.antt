use Rattle.std.proofs.Common.{arith, sym, ◌∙◌, false}
use Rattle.std.proofs.lemmas.List.{get_or_default}
use Rattle.rtui_cell.specs.Cell.{empty_cell}
use Rattle.rtui_diff.proofs.{DiffLemmas.given-narrow, WalkLemmas.same_byte_stays}
use Rattle.rtui_diff.proofs.diff.DiffWalk.pass_same.Goals as goal

pub loop-self-preserved : goal.loop-self-preserved
loop-self-preserved c =
    let s = c.loop-self.self in
    let was = c.loop-self.invariant in
    let next = c.is_single_byte.ensures in
    let prev = c.is_single_byte-else-not-is_single_byte.ensures in
    let stays = same_byte_stays _ _ c.is_same_byte.result (sym next.value ∙ c.if-not-is_single_byte.false)
    c.is_same_byte.ensures c.if-not-is_same_byte.false in
    record {
      left = sym (given-narrow s.prev.now s.next.now s.len s.pos s.end s.force false _ _ (omega arith) was.past stays
          (prev.narrow c.if-not-is_single_byte-2.false) (next.narrow c.if-not-is_single_byte.false)
          (get_or_default s.prev.now s.pos _ empty_cell (omega arith))
          (get_or_default s.next.now s.pos _ empty_cell (omega arith)))
          ∙ was.left;
      further = omega arith;
      past = omega arith;
      row = was.row;
      same = record {
        prev = was.same.prev;
        next = was.same.next;
        x = was.same.x;
        y = was.same.y;
        width = was.same.width;
        len = was.same.len;
      };
    }
