use Rattle.std.proofs.Common.{subst, arith}
use Rattle.rtui_diff.specs.Settled.{IsSettled}
use Rattle.rtui_diff.proofs.SettledLemmas.{settled_fewer}
use Rattle.rtui_buffer.specs.Shown.{common_rows}
use Rattle.rtui_buffer.proofs.laws.common_rows_are_settled.Goals as goal

pub returns : goal.returns
returns c = λ p n al sp sn. record {
  of_prev = settled_fewer p.area.width p.area.height (common_rows p n) p.cells (omega arith) sp;
  of_next = subst (λ w. IsSettled w (common_rows p n) n.cells) al.width (settled_fewer n.area.width n.area.height
      (common_rows p n) n.cells (omega arith) sn);
}
