use Rattle.std.proofs.Common.{arith}
use Rattle.rtui_split.proofs.LevelLemmas.{flat_sizes, sizes_at_first}
use Rattle.rtui_split.proofs.level.level_of.Goals as goal

pub returns-then-not-fits-clause-top : goal.returns-then-not-fits-clause-top
returns-then-not-fits-clause-top c = λ small modest.
    absurd (omega (
      arith,
      c.fits.ensures.yes c.if-fits.true,
      c.fits-then-fits.ensures.no c.if-not-fits.true,
      flat_sizes c.args.takers c.saturating_add-next.result c.min-near.result c.args.slots.now modest,
    ))

pub returns-clause-top : goal.returns-clause-top
returns-clause-top c = λ small modest.
    absurd (omega (
      arith,
      c.fits-2.ensures.no c.if-fits-2.false,
      flat_sizes c.args.takers c.top_of-top.result 0 c.args.slots.now modest,
      sizes_at_first c.args.takers c.args.slots.now,
      c.requires,
    ))
