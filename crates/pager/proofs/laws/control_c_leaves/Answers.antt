use Rattle.pager.proofs.LeaveLemmas.{leaves}
use Rattle.pager.proofs.laws.control_c_leaves.Goals as goal

pub returns : goal.returns
returns c = leaves
