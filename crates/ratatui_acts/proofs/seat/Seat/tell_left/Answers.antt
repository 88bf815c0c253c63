use Rattle.std.proofs.Common.{sym, ap, drop, ◌∙◌}
use Rattle.ratatui_acts.specs.Seats.{seated}
use Rattle.ratatui_acts.proofs.TakingLemmas.{left-waits, left-told}
use Rattle.ratatui_acts.proofs.seat.Seat.tell_left.Goals as goal

pub returns-then-waits-clause-ok : goal.returns-then-waits-clause-ok
returns-then-waits-clause-ok g c =
    left-waits g.A.Acts _ _ _ _ _ _ _ _ (sym c.waits.ensures ∙ c.if-waits.true) c.loop-done.invariant.0

pub loop-done-preserved : goal.loop-done-preserved
loop-done-preserved g c = (
  left-told g.A.Acts _ _ _ _ _ _ c.loop-done.done c.loop-done.anew c.in-Some.event (drop 1 c.loop-done.self.left) _ _ _ _
      (sym c.waits.ensures ∙ c.if-waits.false) c.in-Some.ensures.some
      (ap (λ seat. (seated seat).decoder) c.in-Ok.ensures.ok) (c.remove_first.ensures ∙ ap (λ seat. drop 1 (seated seat).left) c.in-Ok.ensures.ok)
      (ap (λ seat. (seated seat).state) c.in-Ok.ensures.ok) c.is_anew-anew.ensures c.loop-done.invariant.0,
  λ same. let s = c.in-Ok.ensures.same same in (
    (c.loop-done.invariant.1 s.0).0,
    s.1 ∙ (c.loop-done.invariant.1 s.0).1,
  ),
)
