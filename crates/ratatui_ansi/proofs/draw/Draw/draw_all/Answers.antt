use Rattle.std.proofs.Common.{rules}
use Rattle.std.proofs.lemmas.List.{map-append}
use Rattle.ratatui_ansi.proofs.{FrameLemmas.draws-none, FrameLemmas.draws-push, RefusalLemmas.if-error}
use Rattle.ratatui_ansi.proofs.draw.Draw.draw_all.Goals as goal

pub loop-x-init : goal.loop-x-init
loop-x-init g c = record {
  can_next = search rules;
  is_finite = search rules;
  keeps = search rules;
  draws = draws-none _ c.requires.draw;
}

pub loop-x-preserved : goal.loop-x-preserved
loop-x-preserved g c = record {
  can_next = search rules;
  is_finite = search rules;
  keeps = search rules;
  draws = rw map-append (draws-push _ _ _ _ _ c.loop-x.invariant.keeps c.loop-x.invariant.draws
      (rw c.as_cell.ensures at c.in_ok-draw_cell.ensures.drawn));
}

pub returns-in_err-draw_cell-clause-refused : goal.returns-in_err-draw_cell-clause-refused
returns-in_err-draw_cell-clause-refused g c = if-error _ _ _ c.from_residual.ensures (record {
  front = c.loop-x.yielded;
  item = (c.in-Some.x, c.in-Some.y, c.in-Some.cell);
  rest = _;
  gives = (
    c.loop-x.x-iterator,
    rw c.into_iter-x-iterator.ensures.into_iter_gives at c.loop-x.yielded_by,
    c.in-Some.ensures.steps,
  );
  between = c.loop-x.self;
  keeps = c.loop-x.invariant.keeps;
  sends = c.loop-x.invariant.draws.sends;
  refused = rw c.as_cell.ensures at c.in_err-draw_cell.ensures.refused;
})
