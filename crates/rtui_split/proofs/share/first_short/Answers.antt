use Rattle.std.proofs.Common.{arith}
use Rattle.rtui_split.proofs.ShareLemmas.{before-first}
use Rattle.rtui_split.proofs.share.first_short.Goals as goal

pub loop-turn-init : goal.loop-turn-init
loop-turn-init c = omega (arith, before-first c.args.slots.now)
