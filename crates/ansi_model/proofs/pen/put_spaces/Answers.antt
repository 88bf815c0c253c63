use Rattle.std.proofs.Common.{◌≡◌, ◌+◌, ◌-◌, string_bytes, refl, subst, ◌∙◌, arith}
use Rattle.ansi_model.specs.Drawing.{blanked_in, PenSends}
use Rattle.ansi_model.proofs.PaintLemmas.{blanks-none, blanks-more}
use Rattle.ansi_model.proofs.PlaceLemmas.{places-on, places-on-then}
use Rattle.ansi_model.proofs.pen.put_spaces.Goals as goal

pub loop-column-init : goal.loop-column-init
loop-column-init c = record {
  own = refl;
  paints = λ w h inside row. blanks-none w h _ _ _ c.args.x c.args.y (c.args.x - c.args.x) (omega arith);
  places = places-on _ _;
}

pub loop-column-preserved : goal.loop-column-preserved
loop-column-preserved c = record {
  own = c.in_ok-put_plain.ensures.sgr ∙ c.loop-column.invariant.own;
  paints = λ w h inside row.
      blanks-more w h c.args.pen.now.sgr c.args.x c.args.y c.loop-column.column (c.loop-column.column - c.args.x)
      (c.loop-column.column + 1 - c.args.x) _ _ _ _ _ _
      (c.loop-column.invariant.paints w h inside row) c.loop-column.invariant.own
      (c.in_ok-put_plain.ensures.prints w h (omega arith) row) (omega arith) (omega arith);
  places = places-on-then c.loop-column.invariant.places c.in_ok-put_plain.ensures.places;
}

pub returns-clause-paints : goal.returns-clause-paints
returns-clause-paints c = λ w h inside row.
    let at_end : c.loop-column.column ≡ c.args.end = omega arith in
    subst (λ k. PenSends w h (string_bytes c.args.out.now) c.args.pen.now (blanked_in c.args.pen.now.sgr c.args.x c.args.y
    (k - c.args.x)) (string_bytes c.loop-column.out) c.loop-column.pen) at_end
    (c.loop-column.invariant.paints w h inside row)
