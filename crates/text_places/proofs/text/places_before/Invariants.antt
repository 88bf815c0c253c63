use Rattle.std.proofs.Common.{◌≡◌, ◌≤◌}
use Rattle.text_places.specs.Places.{places_before}
use Rattle.text_places.proofs.text.places_before.Given as goal

abbrev pub invariant-loop : goal.invariant-loop
invariant-loop g l = record {
  place : l.place ≡ places_before (g.T.BrokenText.rows l.fn.text) l.counter l.fn.place;
  line : l.place.line ≤ l.fn.place.line;
  same : g.T.BrokenText.rows l.text ≡ g.T.BrokenText.rows l.fn.text;
}
