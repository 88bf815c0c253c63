use Rattle.std.proofs.Common.{◌+◌, arith}
use Rattle.rtui_split.proofs.CapLemmas.{capped_enough}
use Rattle.rtui_split.proofs.cap.highest_level.Goals as goal

pub returns-then-has_room-clause-most : goal.returns-then-has_room-clause-most
returns-then-has_room-clause-most c = omega (arith, capped_enough c.args.turn (c.args.room + 1) c.args.slots.now)
