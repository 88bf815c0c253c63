use Rattle.std.proofs.Common.{refl, rules, arith}
use Rattle.rtui_terminal.proofs.{InsertionLemmas.inserted_by, InsertionLemmas.inserted_none, MapErrLemmas.at_error}
use Rattle.rtui_terminal.proofs.terminal.Terminal.insert_inline.Goals as goal
use Rattle.rtui_terminal.proofs.terminal.Terminal.insert_inline.Goals.{then-known-eq0-2-via-then-known-eq0-2}
use Rattle.rtui_terminal.proofs.terminal.Terminal.insert_inline.Goals.{then-known-eq0-2-via-else-known-eq0-2+then-height-eq0}

pub returns-in_err-rows-clause-outcome : goal.returns-in_err-rows-clause-outcome
returns-in_err-rows-clause-outcome g c = rw (← c.self.view_is) (at_error _ _ _ _ c.from_residual-in_err-rows.ensures.1 (
  refl,
  c.in_err-rows.ensures.refused,
))

pub returns-then-ne-clause-outcome : goal.returns-then-ne-clause-outcome
returns-then-ne-clause-outcome g c = rw (← c.self.view_is) (record {
  inserted = c.in_ok-rows.rows;
  closure = c.in_ok-rows.ensures.filled;
  over = search rules;
  rest = refl;
})

pub returns-then-known-eq0-2-clause-outcome : goal.returns-then-known-eq0-2-clause-outcome
returns-then-known-eq0-2-clause-outcome g c = elim c.then-known-eq0-2.branch [
  | then-known-eq0-2-via-then-known-eq0-2 w ↦ rw (← c.self.view_is)
      (record {
        inserted = c.in_ok-rows.rows;
        closure = c.in_ok-rows.ensures.filled;
        over = search rules;
        none = λ zero. refl;
        inserts = λ more. absurd (omega (arith, more, w.if-known-eq0-2.true));
      })
  | then-known-eq0-2-via-else-known-eq0-2+then-height-eq0 w ↦ rw (← c.self.view_is)
      (record {
        inserted = c.in_ok-rows.rows;
        closure = c.in_ok-rows.ensures.filled;
        over = search rules;
        none = λ zero. refl;
        inserts = λ more. inserted_none g.B.Backend.screen _ c.in_ok-rows.rows _ (search rules) w.if-height-eq0.true;
      })
]

pub returns-clause-outcome : goal.returns-clause-outcome
returns-clause-outcome g c =
    inserted_by g.B.Backend.screen g.B.Backend.stops_at c.insert_filled.result _ _ c.in_ok-rows.rows _ _
    (rw (← c.self.view_is) c.in_ok-rows.ensures.filled) (search rules) (search rules) (search rules)
    c.insert_filled.ensures.ok c.insert_filled.ensures.err c.insert_filled.ensures.only
