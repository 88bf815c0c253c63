use Rattle.std.proofs.Common.{length, map, ap, subst, ◌∙◌, arith}
use Rattle.std.proofs.lemmas.{Iterator.Consumers.YieldsList-end, Iterator.Splits.YieldsList-from_lines}
use Rattle.std.specs.Str.Iter.{lines_rest}
use Rattle.rtui_style.specs.Style.{new_style}
use Rattle.rtui_text.specs.Text.{unstyled}
use Rattle.rtui_buffer.specs.Line.{line_pieces}
use Rattle.rtui_buffer.proofs.LineLemmas.{line_pieces-nil}
use Rattle.rtui_backend.specs.Inner.{symbol_in, EndsAfter}
use Rattle.rtui_backend.proofs.WalkLemmas.{ends-nil, line-turn, line-over}
use Rattle.rtui_backend.proofs.test.lines.line_end.Goals as goal

pub loop-text-init : goal.loop-text-init
loop-text-init c = record {
  within = omega arith;
  done = rw (line_pieces-nil (length c.args.row.now) new_style)
      (ends-nil (symbol_in c.args.row.now) 0);
}

pub loop-text-preserved-in-Some-end : goal.loop-text-preserved-in-Some-end
loop-text-preserved-in-Some-end c = record {
  within = c.text_end-end.ensures.within;
  done = line-turn _ _ _ _ _ c.loop-text.end _ c.loop-text.invariant.done c.in-Some-end.is c.text_end-end.ensures.end;
}

pub loop-text-preserved : goal.loop-text-preserved
loop-text-preserved c = record {
  within = tt;
  done = line-over _ _ _ _ c.loop-text.end c.loop-text.invariant.done c.in-None-end.is;
}

pub returns-clause-end : goal.returns-clause-end
returns-clause-end c =
    let all = YieldsList-end (YieldsList-from_lines c.args.line.now
    (ap lines_rest c.into_iter-text-iterator.ensures.into_iter_gives ∙ c.lines-text-items.ensures.rest)) c.loop-text.yielded _
    c.loop-text.yielded_by _ _ c.in-None.is c.next.ensures.steps in
    subst (λ texts. EndsAfter (symbol_in c.args.row.now) 0 (line_pieces (length c.args.row.now) new_style (map unstyled texts))
    c.loop-text.end) all.0 c.loop-text.invariant.done
