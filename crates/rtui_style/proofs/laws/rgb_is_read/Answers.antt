use Rattle.std.proofs.Common.{arith}
use Rattle.rtui_style.proofs.ReadBack.{rgb_is_read}
use Rattle.rtui_style.proofs.laws.rgb_is_read.Goals as goal

pub returns : goal.returns
returns c = rgb_is_read c.args.red c.args.green c.args.blue (omega arith) (omega arith) (omega arith)
