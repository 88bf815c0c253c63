use Rattle.std.proofs.Common.{◌≡◌, ◌∙◌, ap, refl, arith, nat_lt, true}
use Rattle.std.proofs.lemmas.{Bool.Decides.nat_tests}
use Rattle.ratatui_core.specs.Layout.{Rect}
use Rattle.rtui_drawing.specs.Cuts.{cut_from}
use Rattle.rtui_drawing.specs.declared.cut.Cut.TheVariants.{First, After, Rows}
use Rattle.rtui_drawing.proofs.DrawingLemmas.{done-in, done-if}
use Rattle.widget_chart.proofs.legend.draw_legend_at.Goals as goal

pub returns : goal.returns
returns c =
    let at = c.args.at in
    let last = c.draw_legend_in.result in
    let rows = Rows at.y at.height in
    let a = cut_from (After at.x) c.args.area in
    let b = cut_from (First at.width) a in
    let columns : c.of-columns.result ≡ b = c.of-columns.ensures ∙ ap (λ (q : Rect). cut_from (First at.width) q) c.of.ensures in
    let here : c.of-2.result ≡ cut_from rows b = c.of-2.ensures ∙ ap (λ (q : Rect). cut_from rows q) columns in
    let some : nat_lt 0 at.width ≡ true = grind (arith, nat_tests, c.if-at-eq0.false) in
    done-if (nat_lt 0 at.width) some (done-in (After at.x) a last (done-in (First at.width) b last
    (done-in rows (cut_from rows b) last (rw here at c.draw_legend_in.ensures) refl) refl) refl)
