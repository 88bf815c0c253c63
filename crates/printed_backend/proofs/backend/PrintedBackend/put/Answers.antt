use Rattle.std.proofs.Common.{ℕ, Ok, refl, arith}
use Rattle.std.proofs.lemmas.{Grind.common_steps}
use Rattle.rtui_cell.specs.Grid.{update_by}
use Rattle.rtui_backend.specs.{TestBackend.screen_of}
use Rattle.printed_backend.specs.Inner.{looks_in}
use Rattle.printed_backend.proofs.DrawingLemmas.{draws_below, once_drawn, only_drawn}
use Rattle.printed_backend.proofs.backend.PrintedBackend.put.Goals as goal

pub returns-in-Ok-clause-ok : goal.returns-in-Ok-clause-ok
returns-in-Ok-clause-ok c =
    let s = c.args.self.now in
    let drawn = once_drawn {T = ℕ} {E = ℕ} (update_by (λ cell. cell.now)) (c.args.x, c.args.y, c.args.cell) c.once.result (Ok 0)
    (screen_of s.screen) (screen_of c.draw.new.self) c.once.ensures.item c.in-Ok.ensures.ok in
    draws_below (looks_in s.rows) s.written c.saturating_add-self.result _ (screen_of s.screen) (screen_of c.draw.new.self)
    (λ few. grind (arith, common_steps)) (λ many. grind (arith, common_steps)) drawn

pub returns-in-Err-clause-memory : goal.returns-in-Err-clause-memory
returns-in-Err-clause-memory c = only_drawn c.args.self.now _ refl c.in-Err.ensures.stops
