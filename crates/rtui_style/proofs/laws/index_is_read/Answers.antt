use Rattle.std.proofs.Common.{arith}
use Rattle.rtui_style.proofs.ReadBack.{index_is_read}
use Rattle.rtui_style.proofs.laws.index_is_read.Goals as goal

pub returns : goal.returns
returns c = index_is_read c.args.index (omega arith)
