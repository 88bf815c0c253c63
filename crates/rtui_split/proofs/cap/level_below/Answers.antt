use Rattle.std.proofs.Common.{◌+◌, arith}
use Rattle.rtui_split.proofs.CapLemmas.{capped_first, capped_later}
use Rattle.rtui_split.proofs.cap.level_below.Goals as goal

pub halves-init : goal.halves-init
halves-init c = record { fits = omega (arith, capped_first c.args.turn c.args.slots.now); misses = c.requires }

pub returns-clause-most : goal.returns-clause-most
returns-clause-most c = omega (
  arith,
  c.halves.invariant.misses,
  capped_later c.args.turn c.halves.high (c.halves.low + 1) c.args.slots.now (omega arith),
)
