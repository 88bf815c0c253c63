use Rattle.std.proofs.Common.{◌≡◌, ◌<◌, Ok, arith, rules}
use Rattle.rtui_terminal.proofs.InsertionLemmas.{inserted_moved, stopped_moved, stopped_lowering}
use Rattle.rtui_terminal.proofs.MapErrLemmas.{passed_ok, passed_err, was_err}
use Rattle.rtui_backend.proofs.FailureLemmas.{holds_anyway}
use Rattle.rtui_terminal.proofs.terminal.Terminal.insert_filled.Goals as goal

pub returns-clause-ok : goal.returns-clause-ok
returns-clause-ok g c =
    let lowers : c.insert_down.result ≡ Ok c.in_ok-down.down = search rules in
    let down = rw lowers at c.insert_down.ensures in
    passed_ok c.insert_up.result _ c.map_err-2.ensures.variant (λ _ raises.
    let up = rw raises at c.insert_up.ensures in
    rw (← c.self.view_is)
    (inserted_moved g.B.Backend.screen _ c.args.rows.now (rw (← c.self.view_is) at c.requires.over)
    (rw (← c.self.view_is) at c.requires.known) c.in_ok-down.down down.count
    c.insert_down.new.backend c.insert_up.new.backend c.follow.new.self.current c.follow.new.self.previous down.shape down.ok
    c.follow.ensures.current c.follow.ensures.previous up.shape up.ok))

pub returns-in_err-down-clause-err : goal.returns-in_err-down-clause-err
returns-in_err-down-clause-err g c =
    let lower : c.self.inside.viewport_area.height < c.self.inside.last_known_area.height = omega arith in
    let fails = was_err c.insert_down.result c.map_err.result _ c.map_err.ensures.variant c.in_err-down.was
    c.insert_down.ensures.err in
    holds_anyway c.from_residual.result (rw (← c.self.view_is) (stopped_lowering g.B.Backend.screen _ c.args.rows.now
    (rw (← c.self.view_is) at c.requires.over) (rw (← c.self.view_is) at c.requires.known) g.B.Backend.stops_at
    lower c.insert_down.new.backend fails))

pub returns-clause-err : goal.returns-clause-err
returns-clause-err g c =
    let lowers : c.insert_down.result ≡ Ok c.in_ok-down.down = search rules in
    let down = rw lowers at c.insert_down.ensures in
    passed_err c.insert_up.result c.map_err-2.result c.map_err-2.ensures.variant c.insert_up.ensures.err
    (λ fails. rw (← c.self.view_is)
    (stopped_moved g.B.Backend.screen _ c.args.rows.now (rw (← c.self.view_is) at c.requires.over)
    (rw (← c.self.view_is) at c.requires.known) c.in_ok-down.down down.count
    c.insert_down.new.backend c.insert_up.new.backend c.follow.new.self.current c.follow.new.self.previous
    down.shape down.ok c.follow.ensures.current c.follow.ensures.previous g.B.Backend.stops_at fails))
