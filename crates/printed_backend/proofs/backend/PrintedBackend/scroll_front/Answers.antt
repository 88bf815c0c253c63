use Rattle.std.proofs.Common.{refl, arith}
use Rattle.printed_backend.specs.Printed.{shown_on}
use Rattle.printed_backend.proofs.{DrawingLemmas.none_drawn, DrawingLemmas.on_err, DrawingLemmas.ok_holds}
use Rattle.printed_backend.proofs.LeavingLemmas.{front_scrolled}
use Rattle.printed_backend.proofs.backend.PrintedBackend.scroll_front.Goals as goal

pub returns-in_err-text-clause-memory : goal.returns-in_err-text-clause-memory
returns-in_err-text-clause-memory c = on_err _ (none_drawn c.args.self.now _ refl)

pub returns-in_err-rows-clause-memory : goal.returns-in_err-rows-clause-memory
returns-in_err-rows-clause-memory c = on_err _ (none_drawn c.args.self.now _ refl)

pub returns-clause-ok : goal.returns-clause-ok
returns-clause-ok c =
    let moved = ok_holds c.scroll_up.result (c.scroll_up.ensures.short (omega arith)) c.scroll_up.ensures.ok in
    front_scrolled c.args.end c.args.n (shown_on c.args.self.now) (shown_on c.raise_row.new.self) _ c.requires.some
    c.requires.rows c.in_ok-raise_row.ensures.ok moved.grid c.in_ok-rows.ensures.rows moved.width moved.height moved.visible refl
    c.scroll_up.ensures.cursor
