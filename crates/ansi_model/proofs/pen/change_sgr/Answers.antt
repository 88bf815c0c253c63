use Rattle.std.proofs.Common.{refl, sym, ◌∙◌}
use Rattle.ansi_model.specs.Drawing.ChangesSgr.{Stays}
use Rattle.ansi_model.proofs.{SgrLemmas.same_sgr, DrawLemmas.pen-kept}
use Rattle.ansi_model.proofs.pen.change_sgr.Goals as goal

pub returns-then-eq-clause-changes : goal.returns-then-eq-clause-changes
returns-then-eq-clause-changes c = Stays (same_sgr c.args.pen.now.sgr c.args.sgr.now (sym c.eq.ensures ∙ c.if-eq.true)) refl

pub returns-then-eq-clause-sgr : goal.returns-then-eq-clause-sgr
returns-then-eq-clause-sgr c =
    pen-kept c.args.pen.now c.args.sgr.now (same_sgr c.args.pen.now.sgr c.args.sgr.now (sym c.eq.ensures ∙ c.if-eq.true))
