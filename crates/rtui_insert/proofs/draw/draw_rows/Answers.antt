use Rattle.std.proofs.Common.{ℕ, Ok, inr}
use Rattle.std.proofs.lemmas.{Result.on_ok_weaker, Result.on_err_weaker, Iterator.Consumers.YieldsList-from_first}
use Rattle.rtui_cell.specs.Grid.{update_by}
use Rattle.rtui_backend.proofs.DrawLemmas.{Draws-along}
use Rattle.rtui_insert.specs.Remaining.{lowered_left}
use Rattle.rtui_insert.proofs.draw.draw_rows.Goals as goal

pub returns-clause-ok : goal.returns-clause-ok
returns-clause-ok g c =
    let drawn = Draws-along {T = ℕ} {E = ℕ} (Ok 0) _ _ c.in_ok-draw.ensures.ok
    (YieldsList-from_first (update_by (λ cell. cell.now)) lowered_left _ c.new.ensures) in
    on_ok_weaker c.flush.result
    (λ same. rw same (record { updates = _; diff = c.diff_rows-updates.ensures; drawn = drawn }))
    c.flush.ensures.ok

pub returns-clause-err : goal.returns-clause-err
returns-clause-err g c =
    let drawn = Draws-along {T = ℕ} {E = ℕ} (Ok 0) _ _ c.in_ok-draw.ensures.ok
    (YieldsList-from_first (update_by (λ cell. cell.now)) lowered_left _ c.new.ensures) in
    on_err_weaker c.flush.result (λ stopped. record {
      before = c.draw.new.self;
      was = inr (record { updates = _; diff = c.diff_rows-updates.ensures; drawn = drawn });
      stopped = stopped;
    }) c.flush.ensures.stops
