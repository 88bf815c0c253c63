use Rattle.std.proofs.Common.{sym, ap, ◌∙◌, subst, inr, refl}
use Rattle.ratatui_acts.specs.declared.told.Told.{Told}
use Rattle.ratatui_acts.specs.Seats.{seated}
use Rattle.ratatui_acts.proofs.RunLemmas.{runs-on-start, runs-on-step, asks-again, ends-over, ends-used-up}
use Rattle.ratatui_acts.proofs.TurnLemmas.{true-false}
use Rattle.ratatui_acts.proofs.running.run.Goals as goal

pub returns-then-is_over-clause-runs : goal.returns-then-is_over-clause-runs
returns-then-is_over-clause-runs g c =
    ends-over _ c.args.has_ticks _ _ c.loop.is_used_up
    (ap g.A.Acts.is_over (sym c.state-in-loop.ensures) ∙ sym c.is_over.ensures ∙ c.if-is_over.true) c.loop.invariant

pub returns-then-not-asks-clause-runs : goal.returns-then-not-asks-clause-runs
returns-then-not-asks-clause-runs g c =
    ends-used-up _ c.args.has_ticks _ _ c.loop.is_used_up c.if-is_used_up.true
    (sym c.asks-asks.ensures ∙ c.if-not-asks.true) c.loop.invariant

pub returns-in-Err-step-clause-stops : goal.returns-in-Err-step-clause-stops
returns-in-Err-step-clause-stops g c = inr (record {
  now = record { standing = seated c.loop.seat; glass = c.loop.glass; ears = c.loop.ears; outside = c.loop.outside };
  runs = c.loop.invariant.runs;
  stops = c.in-Err-step.ensures.stops;
})

pub loop-init : goal.loop-init
loop-init g c =
    runs-on-start _ c.args.has_ticks _ c.show.new.self
    (subst (λ s. g.G.Glass.shows c.show.new.self s) c.state.ensures
    (c.in-Ok.ensures.shows c.requires
    (λ same. absurd (true-false (sym (ap (λ (told : Told). told.changed) c.first.ensures) ∙ same)))))
    (rw c.first.ensures at (c.in-Ok.ensures.moves c.requires))

pub loop-preserved : goal.loop-preserved
loop-preserved g c =
    rw c.is_end-is_used_up.ensures (runs-on-step _ c.args.has_ticks _ _ _ c.loop.is_used_up c.in-Ok-step.came
    (asks-again c.loop.is_used_up c.asks-asks.result _ c.else-is_used_up.either c.asks-asks.ensures)
    c.in-Ok-step.ensures.steps c.loop.invariant)

pub returns-clause-stops : goal.returns-clause-stops
returns-clause-stops g c = inr (record {
  now = record { standing = seated c.loop.seat; glass = c.loop.glass; ears = c.loop.ears; outside = c.loop.outside };
  runs = c.loop.invariant.runs;
  stops = refl;
})
