use Rattle.std.proofs.Common.{refl, sym, ap, ◌∙◌, arith}
use Rattle.text_places.specs.Places.{next_place}
use Rattle.text_places.proofs.WalkLemmas.{after-none, after-next, places-past}
use Rattle.text_places.proofs.text.places_after.Goals as goal

pub loop-done-init : goal.loop-done-init
loop-done-init g c = record {
  place = sym (after-none (g.T.BrokenText.rows c.args.text.now) c.args.place);
  line = omega arith;
  same = refl;
}

pub returns-then-place-eq0-clause-place : goal.returns-then-place-eq0-clause-place
returns-then-place-eq0-clause-place g c =
    places-past (g.T.BrokenText.rows c.args.text.now) (g.T.BrokenText.count c.args.text.now)
    (g.met.T.BrokenText.after c.args.text.now) c.args.rows c.loop-done.done c.args.place c.loop-done.place (omega arith)
    c.loop-done.invariant.place (omega (arith, c.line_count-count.ensures)) c.if-place-eq0.true

pub loop-done-preserved : goal.loop-done-preserved
loop-done-preserved g c =
    let i = c.loop-done.invariant in
    record {
      place = after-next (g.T.BrokenText.rows c.args.text.now) c.loop-done.done c.args.place c.loop-done.place
          c.next_place-place.result i.place
          (c.next_place-place.ensures.place ∙ ap (λ rows. next_place rows c.loop-done.place) i.same);
      line = omega (arith, c.next_place-place.ensures.line, i.line);
      same = c.next_place-place.ensures.same ∙ i.same;
    }
