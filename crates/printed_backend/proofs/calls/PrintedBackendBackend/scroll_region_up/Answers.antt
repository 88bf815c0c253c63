use Rattle.std.proofs.lemmas.{Result.on_err_weaker}
use Rattle.printed_backend.proofs.DrawingLemmas.{counted_drawn}
use Rattle.printed_backend.proofs.calls.PrintedBackendBackend.scroll_region_up.Goals as goal

pub returns-clause-stops : goal.returns-clause-stops
returns-clause-stops c = rw c.counted.ensures.answer (on_err_weaker c.scroll_up-scrolled.result
    (counted_drawn c.args.self.now c.scroll_up-scrolled.new.self c.counted.new.self c.counted.ensures.screen)
    c.scroll_up-scrolled.ensures.memory)
