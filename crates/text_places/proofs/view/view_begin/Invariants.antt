use Rattle.std.proofs.Common.{◌-◌, ◌+◌, ◌≡◌, ◌≤◌, min}
use Rattle.text_places.specs.Places.{places_before, place_there}
use Rattle.text_places.proofs.PlaceLemmas.{rank}
use Rattle.text_places.proofs.view.view_begin.Given as goal

-- the walk hasn't passed where the view began
abbrev pub invariant-walk : goal.invariant-walk
invariant-walk g l = record {
  begin : l.begin ≡ places_before (g.T.BrokenText.rows l.fn.text) l.above l.fn.place;
  most : l.above ≤ l.rows - 1;
  far : l.above + min (rank (g.T.BrokenText.rows l.fn.text) (place_there (g.T.BrokenText.rows l.fn.text) l.fn.former))
      (rank (g.T.BrokenText.rows l.fn.text) l.fn.place) ≤ rank (g.T.BrokenText.rows l.fn.text) l.fn.place;
  same : g.T.BrokenText.rows l.text ≡ g.T.BrokenText.rows l.fn.text;
}

abbrev pub decreases-walk : goal.decreases-walk
decreases-walk g l = l.rows - l.above
