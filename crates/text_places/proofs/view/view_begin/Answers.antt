use Rattle.std.proofs.Common.{◌≡◌, ◌-◌, ◌≤◌, true, inl, inr, refl, sym, ap, ◌∙◌, arith}
use Rattle.text_places.specs.Places.{is_before, previous_place, rows_between}
use Rattle.text_places.proofs.WalkLemmas.{before-none, before-next, walk-goes, walk-ends, walk-counts}
use Rattle.text_places.proofs.view.view_begin.Goals as goal

pub walk-init : goal.walk-init
walk-init g c = record {
  begin = sym (before-none (g.T.BrokenText.rows c.args.text.now) c.args.place);
  most = omega arith;
  far = omega arith;
  same = refl;
}

pub walk-preserved : goal.walk-preserved
walk-preserved g c =
    let i = c.walk.invariant in
    let before : is_before c.args.former c.walk.begin ≡ true = sym c.is_before.ensures ∙ c.if-is_before.true in
    record {
      begin = before-next (g.T.BrokenText.rows c.args.text.now) c.walk.above c.args.place c.walk.begin
          c.previous_place-begin.result i.begin
          (c.previous_place-begin.ensures.place ∙ ap (λ rows. previous_place rows c.walk.begin) i.same);
      most = omega (arith, c.walk-test.true);
      far = walk-goes (g.T.BrokenText.rows c.args.text.now) (g.met.T.BrokenText.some c.args.text.now) c.args.former c.args.place
          c.args.rows c.walk.above c.requires.place i.far
          (ap (is_before c.args.former) (sym i.begin) ∙ before);
      same = c.previous_place-begin.ensures.same ∙ i.same;
    }

pub returns-else-is_before-clause-begin : goal.returns-else-is_before-clause-begin
returns-else-is_before-clause-begin g c =
    let i = c.walk.invariant in
    i.begin ∙ walk-ends (g.T.BrokenText.rows c.args.text.now) (g.met.T.BrokenText.some c.args.text.now) c.args.former
    c.args.place c.args.rows c.walk.above c.requires.place i.far i.most
    (inr (ap (is_before c.args.former) (sym i.begin) ∙ sym c.is_before.ensures ∙ c.if-is_before.false))

pub returns-else-is_before-clause-row : goal.returns-else-is_before-clause-row
returns-else-is_before-clause-row g c =
    let i = c.walk.invariant in
    walk-counts (g.T.BrokenText.rows c.args.text.now) (g.met.T.BrokenText.some c.args.text.now) c.args.former c.args.place
    c.args.rows c.walk.above c.requires.place i.far
    ∙ ap (λ q. rows_between (g.T.BrokenText.rows c.args.text.now) q c.args.place) (sym i.begin)

pub returns-after-walk-clause-begin : goal.returns-after-walk-clause-begin
returns-after-walk-clause-begin g c =
    let i = c.walk.invariant in
    let all : c.args.rows - 1 ≤ c.walk.above = omega arith in
    i.begin ∙ walk-ends (g.T.BrokenText.rows c.args.text.now) (g.met.T.BrokenText.some c.args.text.now) c.args.former
    c.args.place c.args.rows c.walk.above c.requires.place i.far i.most (inl all)

pub returns-after-walk-clause-row : goal.returns-after-walk-clause-row
returns-after-walk-clause-row g c =
    let i = c.walk.invariant in
    walk-counts (g.T.BrokenText.rows c.args.text.now) (g.met.T.BrokenText.some c.args.text.now) c.args.former c.args.place
    c.args.rows c.walk.above c.requires.place i.far
    ∙ ap (λ q. rows_between (g.T.BrokenText.rows c.args.text.now) q c.args.place) (sym i.begin)
