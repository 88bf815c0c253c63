use Rattle.std.proofs.Common.{◌-◌, string_bytes, ap, sym, subst, arith}
use Rattle.ansi_model.specs.{declared.pen.Pen.Pen, Drawing.blanked_in, Drawing.PenSends}
use Rattle.ansi_model.specs.{Places.PlacesOn, Sgr.default_sgr}
use Rattle.std.proofs.lemmas.Result.{on_ok_weaker}
use Rattle.ratatui_ansi.proofs.LayLemmas.{blanks-own}
use Rattle.ansi_model.proofs.PlaceLemmas.{places-sgr, places-on-then}
use Rattle.ratatui_ansi.proofs.draw.put_blanks.Goals as goal

pub returns-clause-paints : goal.returns-clause-paints
returns-clause-paints c =
    let own = ap (λ (b : Pen). b.sgr) c.in_ok-change_sgr.ensures.sgr in
    on_ok_weaker c.put_spaces.result (λ paints w h inside row.
    blanks-own w h c.args.x c.args.y (c.args.end - c.args.x)
    (c.args.end - c.args.x - 1) _ _ _ _ _ _ c.in_ok-change_sgr.ensures.changes c.in_ok-change_sgr.ensures.sgr
    (subst (λ sgr. PenSends w h (string_bytes c.change_sgr.new.out) c.change_sgr.new.pen
    (blanked_in sgr c.args.x c.args.y (c.args.end - c.args.x)) (string_bytes c.put_spaces.new.out) c.put_spaces.new.pen) own
    (paints w h inside row)) (omega arith)) c.put_spaces.ensures.paints

pub returns-clause-places : goal.returns-clause-places
returns-clause-places c =
    on_ok_weaker c.put_spaces.result (λ places. places-on-then
    (subst (PlacesOn (string_bytes c.args.out.now) c.args.pen.now (string_bytes c.change_sgr.new.out))
    (sym c.in_ok-change_sgr.ensures.sgr)
    (places-sgr c.args.pen.now default_sgr _ _ c.in_ok-change_sgr.ensures.changes)) places) c.put_spaces.ensures.places
