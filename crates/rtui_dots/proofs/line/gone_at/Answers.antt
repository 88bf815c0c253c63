use Rattle.rtui_dots.proofs.LineLemmas.{gone-few}
use Rattle.rtui_dots.proofs.line.gone_at.Goals as goal

pub returns-clause-few : goal.returns-clause-few
returns-clause-few c = rw (c.from-whole.ensures, c.from.ensures, c.from-2.ensures, c.from-3.ensures) (gone-few c.args.run.long c.args.run.short c.args.steps c.requires.some c.requires.slope)
