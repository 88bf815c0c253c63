use Rattle.std.proofs.Common.{◌≡◌, Ok, ap, rules}
use Rattle.rtui_backend.specs.Screen.{Screen}
use Rattle.rtui_insert.proofs.PushLemmas.{still_blank}
use Rattle.rtui_terminal.proofs.InsertionLemmas.{inserted_covered, stopped_in_push, stopped_after_push, stopped_redrawing}
use Rattle.rtui_terminal.proofs.MapErrLemmas.{passed_ok, passed_err, was_err}
use Rattle.rtui_backend.proofs.FailureLemmas.{holds_anyway}
use Rattle.rtui_terminal.proofs.terminal.Terminal.insert_covered.Goals as goal

pub returns-clause-ok : goal.returns-clause-ok
returns-clause-ok g c =
    let pushes : c.push_rows.result ≡ Ok tt = search rules in
    let pushed = rw pushes at c.push_rows.ensures in
    passed_ok c.draw_rows.result _ c.map_err-2.ensures.variant (λ _ draws.
    let drawn = rw draws at c.draw_rows.ensures in
    rw (← c.self.view_is)
    (inserted_covered g.B.Backend.screen _ c.args.rows.now (rw (← c.self.view_is) at c.requires.over)
    (rw (← c.self.view_is) at c.requires.known) (rw (← c.self.view_is) at c.requires.covers) c.requires.some
    c.push_rows.new.backend c.draw_rows.new.backend pushed.shape drawn.shape pushed.ok _
    (still_blank c.requires.blank pushed.blank) (λ same. drawn.ok)))

pub returns-then-ne-clause-ok : goal.returns-then-ne-clause-ok
returns-then-ne-clause-ok g c =
    let pushes : c.push_rows.result ≡ Ok tt = search rules in
    let pushed = rw pushes at c.push_rows.ensures in
    let differs : c.self.inside.frames.previous.area ≡ c.self.inside.viewport_area → ⊥ = search rules in
    passed_ok c.flush.result _ c.map_err-then-ne.ensures.variant (λ _ flushes.
    let still = rw flushes at c.flush.ensures.ok in
    rw (← c.self.view_is)
    (inserted_covered g.B.Backend.screen _ c.args.rows.now (rw (← c.self.view_is) at c.requires.over)
    (rw (← c.self.view_is) at c.requires.known) (rw (← c.self.view_is) at c.requires.covers) c.requires.some
    c.push_rows.new.backend c.flush.new.self pushed.shape (record {
      width = ap (λ (s : Screen). s.width) still;
      height = ap (λ (s : Screen). s.height) still;
      visible = ap (λ (s : Screen). s.visible) still;
    }) pushed.ok _
    (still_blank c.requires.blank pushed.blank) (λ same. absurd (differs same))))

pub returns-in_err-map_err-clause-err : goal.returns-in_err-map_err-clause-err
returns-in_err-map_err-clause-err g c =
    let fails = was_err c.push_rows.result c.map_err.result _ c.map_err.ensures.variant c.in_err-map_err.was
    c.push_rows.ensures.err in
    holds_anyway c.from_residual.result (rw (← c.self.view_is) (stopped_in_push g.B.Backend.screen _ c.args.rows.now
    (rw (← c.self.view_is) at c.requires.over) (rw (← c.self.view_is) at c.requires.known) g.B.Backend.stops_at
    (rw (← c.self.view_is) at c.requires.covers) c.push_rows.new.backend fails))

pub returns-clause-err : goal.returns-clause-err
returns-clause-err g c =
    let pushes : c.push_rows.result ≡ Ok tt = search rules in
    let pushed = rw pushes at c.push_rows.ensures in
    passed_err c.draw_rows.result c.map_err-2.result c.map_err-2.ensures.variant c.draw_rows.ensures.err
    (λ fails. rw (← c.self.view_is)
    (stopped_redrawing g.B.Backend.screen _ c.args.rows.now (rw (← c.self.view_is) at c.requires.over)
    (rw (← c.self.view_is) at c.requires.known) g.B.Backend.stops_at (rw (← c.self.view_is) at c.requires.covers)
    c.push_rows.new.backend c.draw_rows.new.backend pushed.ok c.requires.some pushed.shape _
    (still_blank c.requires.blank pushed.blank) fails))

pub returns-then-ne-clause-err : goal.returns-then-ne-clause-err
returns-then-ne-clause-err g c =
    let pushes : c.push_rows.result ≡ Ok tt = search rules in
    let pushed = rw pushes at c.push_rows.ensures in
    passed_err c.flush.result c.map_err-then-ne.result c.map_err-then-ne.ensures.variant c.flush.ensures.stops
    (λ stop. rw (← c.self.view_is)
    (stopped_after_push g.B.Backend.screen _ c.args.rows.now (rw (← c.self.view_is) at c.requires.over)
    (rw (← c.self.view_is) at c.requires.known) g.B.Backend.stops_at (rw (← c.self.view_is) at c.requires.covers)
    c.push_rows.new.backend c.flush.new.self pushed.ok stop))
