use Rattle.std.proofs.Common.{◌≡◌, [], sym, ◌∙◌, rules, arith}
use Rattle.std.proofs.lemmas.Bool.{false≢true}
use Rattle.unicode_segmentation.specs.Iter.{graphemes_left}
use Rattle.rtui_buffer.proofs.PaintLemmas.{painted_width-painted}
use Rattle.rtui_backend.proofs.WalkLemmas.{text-end, text-skip, text-full, text-not, text-take}
use Rattle.rtui_backend.proofs.test.lines.text_end.Goals as goal

pub loop-grapheme-preserved-then-width-eq0 : goal.loop-grapheme-preserved-then-width-eq0
loop-grapheme-preserved-then-width-eq0 c = record {
  can = search rules;
  ends = search rules;
  within = c.loop-grapheme.invariant.within;
  left = text-skip _ _ _ _ _ _ c.loop-grapheme.invariant.left c.in-Some.grapheme.now (graphemes_left c.next.new.self)
      (search rules) c.from-width.result (c.from-width.ensures ∙ c.painted_width.ensures) (omega arith);
}

pub returns-then-width-row-clause-end : goal.returns-then-width-row-clause-end
returns-then-width-row-clause-end c =
    text-full _ _ _ _ _ _ c.loop-grapheme.invariant.left c.in-Some.grapheme.now (graphemes_left c.next.new.self)
    (search rules) c.from-width.result (c.from-width.ensures ∙ c.painted_width.ensures) (omega arith) (omega arith)

pub is_piece-requires-clause-width : goal.is_piece-requires-clause-width
is_piece-requires-clause-width c = c.from-width.ensures ∙ c.painted_width.ensures ∙ painted_width-painted c.in-Some.grapheme.now
    (omega (arith, c.from-width.ensures, c.painted_width.ensures))

pub returns-then-not-is_piece-clause-end : goal.returns-then-not-is_piece-clause-end
returns-then-not-is_piece-clause-end c =
    text-not _ _ _ _ _ _ c.loop-grapheme.invariant.left c.in-Some.grapheme.now (graphemes_left c.next.new.self)
    (search rules) c.from-width.result (c.from-width.ensures ∙ c.painted_width.ensures) (omega arith) (omega arith)
    (λ has. false≢true (sym c.if-not-is_piece.true ∙ c.is_piece.ensures.1 has))

pub loop-grapheme-preserved : goal.loop-grapheme-preserved
loop-grapheme-preserved c = record {
  can = search rules;
  ends = search rules;
  within = omega arith;
  left = text-take _ _ _ _ _ _ c.loop-grapheme.invariant.left c.in-Some.grapheme.now (graphemes_left c.next.new.self)
      (search rules) c.from-width.result (c.from-width.ensures ∙ c.painted_width.ensures) (omega arith) (omega arith)
      (c.is_piece.ensures.0 c.if-not-is_piece.false);
}

pub returns-clause-end : goal.returns-clause-end
returns-clause-end c = text-end _ _ _ _ _ _ c.loop-grapheme.invariant.left
    (let none : graphemes_left c.loop-grapheme.grapheme-iterator ≡ [] = search rules in none)
