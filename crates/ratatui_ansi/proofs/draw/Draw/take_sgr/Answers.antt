use Rattle.std.proofs.Common.{◌≡◌, true, refl, subst}
use Rattle.ansi_model.specs.{Drawing.ChangesSgr.Stays, Parameters.is_sendable_by, Sgr.sgr_of}
use Rattle.ansi_model.proofs.DrawLemmas.{pen-kept}
use Rattle.ratatui_ansi.proofs.draw.Draw.take_sgr.Goals as goal

pub returns-then-is_of-clause-sets : goal.returns-then-is_of-clause-sets
returns-then-is_of-clause-sets c =
    let draw = c.args.self.now in
    let same = c.is_of.ensures.0 c.if-is_of.true in
    record {
      changes = Stays same refl;
      pen = pen-kept draw.state.pen (sgr_of c.args.cell.now) same;
      sendable = subst (λ sgr. is_sendable_by draw.target.has_underline_colors sgr ≡ true) same c.requires.sgr;
    }
