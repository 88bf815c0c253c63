use Rattle.std.proofs.Common.{rules, sym, subst}
use Rattle.std.proofs.lemmas.Result.{on_ok_weaker}
use Rattle.rtui_viewport.specs.Viewports.{IsInline}
use Rattle.screenplay.proofs.PlayLemmas.{Plays-inserted, rows_area}
use Rattle.screenplay.proofs.playing.insert_text.Goals as goal

pub returns-clause-ok : goal.returns-clause-ok
returns-clause-ok c = on_ok_weaker c.insert_rows.result (λ inserted stage inline good playing.
    let made = rw c.viewport_area-area.ensures at c.in_ok-rows.ensures.made in
    Plays-inserted stage c.args.text.now _ c.args.terminal.now _ inline playing made good (search rules)
    (inserted (subst IsInline (sym playing.rest.kind_is) inline)
    (rows_area c.args.terminal.now c.args.text.now _ made))) c.insert_rows.ensures.ok
