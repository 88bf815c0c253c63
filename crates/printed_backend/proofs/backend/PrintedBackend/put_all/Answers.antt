use Rattle.std.proofs.Common.{rules, refl}
use Rattle.std.proofs.lemmas.List.{map-append}
use Rattle.rtui_backend.proofs.DrawLemmas.{Draws-none, Draws-push}
use Rattle.printed_backend.proofs.DrawingLemmas.{drawn_further, on_err}
use Rattle.printed_backend.proofs.backend.PrintedBackend.put_all.Goals as goal

pub loop-x-init : goal.loop-x-init
loop-x-init g c = record {
  can_next = search rules;
  is_finite = search rules;
  drawn = Draws-none _;
  cursor = refl;
  failures = refl;
}

pub loop-x-preserved : goal.loop-x-preserved
loop-x-preserved g c = record {
  can_next = search rules;
  is_finite = search rules;
  drawn = rw map-append (Draws-push c.loop-x.invariant.drawn (rw c.as_cell.ensures at c.in_ok-put.ensures.ok));
  cursor = search rules;
  failures = search rules;
}

pub returns-in_err-put-clause-memory : goal.returns-in_err-put-clause-memory
returns-in_err-put-clause-memory g c = on_err c.from_residual.result (drawn_further c.args.self.now c.loop-x.self c.put.new.self _
    c.loop-x.invariant.drawn c.loop-x.invariant.cursor c.in_err-put.ensures.memory)
