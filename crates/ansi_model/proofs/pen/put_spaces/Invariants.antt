use Rattle.std.proofs.Common.{◌≡◌, ℕ, ◌-◌, ◌<◌, ◌≤◌, string_bytes}
use Rattle.ansi_model.specs.Drawing.{blanked_in, PenSends}
use Rattle.ansi_model.specs.Places.{PlacesOn}
use Rattle.ansi_model.proofs.pen.put_spaces.Given as goal

abbrev pub invariant-loop-column : goal.invariant-loop-column
invariant-loop-column l = record {
  own : l.pen.sgr ≡ l.initial.pen.sgr;
  paints : (w h : ℕ) → l.end ≤ w → l.y < h
      → PenSends w h (string_bytes l.initial.out) l.initial.pen (blanked_in l.initial.pen.sgr l.x l.y (l.column - l.x))
      (string_bytes l.out) l.pen;
  places : PlacesOn (string_bytes l.initial.out) l.initial.pen (string_bytes l.out) l.pen;
}
