use Rattle.std.proofs.Common.{refl, sym, ap, ◌∙◌, arith}
use Rattle.text_places.specs.Places.{previous_place}
use Rattle.text_places.proofs.WalkLemmas.{before-none, before-next}
use Rattle.text_places.proofs.text.places_before.Goals as goal

pub loop-init : goal.loop-init
loop-init g c = record {
  place = sym (before-none (g.T.BrokenText.rows c.args.text.now) c.args.place);
  line = omega arith;
  same = refl;
}

pub loop-preserved : goal.loop-preserved
loop-preserved g c =
    let i = c.loop.invariant in
    record {
      place = before-next (g.T.BrokenText.rows c.args.text.now) c.loop.counter c.args.place c.loop.place
          c.previous_place-place.result i.place
          (c.previous_place-place.ensures.place ∙ ap (λ rows. previous_place rows c.loop.place) i.same);
      line = omega (arith, c.previous_place-place.ensures.line, i.line);
      same = c.previous_place-place.ensures.same ∙ i.same;
    }
