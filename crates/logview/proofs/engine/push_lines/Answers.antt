use Rattle.std.proofs.Common.{◌≡◌, ◌+◌, ◌-◌, length, take, drop, Some, ap, sym, subst, ◌∙◌, arith, slice_get}
use Rattle.std.proofs.lemmas.{Option.slice_get-get_or, Grind.common_steps, List.map-append}
use Rattle.std.proofs.lemmas.Iterator.Consumers.{YieldsList-so_far, YieldsList-turn, YieldsList-end}
use Rattle.std.proofs.lemmas.{Iterator.Adapters.YieldsList-from_skip, Iterator.Splits.YieldsList-from_lines}
use Rattle.std.specs.Str.Lines.{lines}
use Rattle.script_words.proofs.ResultLemmas.{ok-unless-err}
use Rattle.logview.specs.Views.{IsViewOf}
use Rattle.logview.proofs.LogLemmas.{view_more}
use Rattle.logview.proofs.engine.push_lines.Goals as goal

pub loop-line-preserved : goal.loop-line-preserved
loop-line-preserved g c = record {
  count = grind (arith, common_steps);
  view = λ size start.
      let before = c.loop-line.invariant.view size start in
      rw map-append (view_more g.B.Backend.screen size _ c.in-Some.line.now c.loop-line.view c.push.new.self before
      (ok-unless-err c.push.result _ c.in_default.not-Err c.push.ensures.count)
      (ok-unless-err c.push.result _ c.in_default.not-Err (c.push.ensures.pushed before.following)));
}

pub returns-in-Err-clause-err : goal.returns-in-Err-clause-err
returns-in-Err-clause-err g c = λ size start.
    let road = YieldsList-from_skip {s = c.into_iter-line-iterator.result} 1 (YieldsList-from_lines c.args.text.now (cc)) (cc) in
    let turn = YieldsList-turn road c.loop-line.yielded _ c.loop-line.yielded_by c.next.result _ c.in-Some.line c.in-Some.is
    c.next.ensures.steps in
    let so_far = YieldsList-so_far road c.loop-line.yielded _ c.loop-line.yielded_by in
    let count = c.loop-line.invariant.count in
    let before = c.loop-line.invariant.view size start in
    let place : length c.loop-line.yielded ≡ c.loop-line.number + 1 - 2 = omega (arith, count) in
    record {
      after = omega (arith, count);
      line = c.in-Some.line.now;
      line_is = subst (λ n. slice_get (drop 1 (lines c.args.text.now)) n ≡ Some c.in-Some.line.now) place
          (slice_get-get_or (drop 1 (lines c.args.text.now)) (length c.loop-line.yielded) c.in-Some.line.now turn.0
          ∙ ap Some (sym turn.1));
      before = c.loop-line.view;
      shown = subst (λ pushed. IsViewOf g.B.Backend.screen size pushed c.loop-line.view)
          (so_far ∙ ap (λ n. take n (drop 1 (lines c.args.text.now))) place) before;
      error = c.in-Err.field-0;
      refused = c.in-Err.ensures.refused before.following;
    }

pub returns-clause-ok : goal.returns-clause-ok
returns-clause-ok g c = λ size start.
    let road = YieldsList-from_skip {s = c.into_iter-line-iterator.result} 1 (YieldsList-from_lines c.args.text.now (cc)) (cc) in
    let end = YieldsList-end road c.loop-line.yielded _ c.loop-line.yielded_by _ _ c.in-None.is c.next.ensures.steps in
    rw end.0 at (c.loop-line.invariant.view size start)
