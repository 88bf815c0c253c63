use Rattle.std.proofs.Common.{◌≡◌, ◌+◌, ◌≤◌}
use Rattle.text_places.specs.Places.{places_after}
use Rattle.text_places.proofs.text.places_after.Given as goal

abbrev pub invariant-loop-done : goal.invariant-loop-done
invariant-loop-done g l = record {
  place : l.place ≡ places_after (g.T.BrokenText.rows l.fn.text) l.done l.fn.place;
  line : l.place.line ≤ l.fn.place.line + l.done;
  same : g.T.BrokenText.rows l.text ≡ g.T.BrokenText.rows l.fn.text;
}
