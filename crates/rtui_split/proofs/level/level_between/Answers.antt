use Rattle.std.proofs.Common.{◌+◌, arith}
use Rattle.rtui_split.specs.Units.{unit_levels}
use Rattle.rtui_split.proofs.LevelLemmas.{sizes_later}
use Rattle.rtui_split.proofs.level.level_between.Goals as goal

pub returns-clause-most : goal.returns-clause-most
returns-clause-most c =
    omega (
      arith,
      c.halves.invariant.misses,
      sizes_later c.args.takers c.halves.high (c.halves.low + unit_levels) c.args.slots.now
          (omega arith),
    )
