use Rattle.std.proofs.Common.{rules, ◌≡◌, ◌+◌, true, [], ◌∷◌, length, arith, ap, sym, ◌∙◌}
use Rattle.unicode_segmentation.specs.{Grapheme.graphemes, Iter.graphemes_left}
use Rattle.pager.specs.declared.sought.Sought.TheVariants.{Plain}
use Rattle.pager.specs.{Symbols.symbols_from, Places.last_start}
use Rattle.pager.proofs.RowLemmas.{reach_at, last-turn, last-far, last-none}
use Rattle.pager.proofs.place.last_start.Goals as goal

pub loop-grapheme-init : goal.loop-grapheme-init
loop-grapheme-init c =
    let all : graphemes_left c.into_iter-grapheme-iterator.result ≡ graphemes true c.args.line.now = search rules in
    record {
      can = search rules;
      ends = search rules;
      column = omega arith;
      last = omega arith;
      left = ap (λ gs. last_start 0 (symbols_from (Plain []) (reach_at c.args.line.now 0) gs)) (sym all);
    }

pub returns-then-column-ge4294967295 : goal.returns-then-column-ge4294967295
returns-then-column-ge4294967295 c =
    let is : graphemes_left c.loop-grapheme.grapheme-iterator ≡ c.in-Some.grapheme.now ∷ graphemes_left c.next.new.self =
    search rules in
    let far = last-far c.loop-grapheme.last c.args.line.now c.loop-grapheme.column c.in-Some.grapheme.now
    (graphemes_left c.loop-grapheme.grapheme-iterator) (graphemes_left c.next.new.self) is in
    omega (arith, c.loop-grapheme.invariant.left)

pub loop-grapheme-preserved : goal.loop-grapheme-preserved
loop-grapheme-preserved c =
    let i = c.loop-grapheme.invariant in
    let is : graphemes_left c.loop-grapheme.grapheme-iterator ≡ c.in-Some.grapheme.now ∷ graphemes_left c.next.new.self =
    search rules in
    record {
      can = search rules;
      ends = search rules;
      column = omega arith;
      last = omega arith;
      left = i.left ∙ (last-turn c.loop-grapheme.last c.args.line.now c.loop-grapheme.column c.in-Some.grapheme.now
          (graphemes_left c.loop-grapheme.grapheme-iterator) (graphemes_left c.next.new.self) is
          ∙ ap (λ n. last_start c.loop-grapheme.column (symbols_from (Plain []) (reach_at c.args.line.now (c.loop-grapheme.column + n))
          (graphemes_left c.next.new.self))) (sym c.shown_columns.ensures ∙ sym c.from-column.ensures));
    }

pub returns : goal.returns
returns c =
    let end : graphemes_left c.loop-grapheme.grapheme-iterator ≡ [] = search rules in
    let none = c.loop-grapheme.invariant.left ∙ last-none c.loop-grapheme.last c.args.line.now c.loop-grapheme.column
    (graphemes_left c.loop-grapheme.grapheme-iterator) end in
    omega (arith, none, c.loop-grapheme.invariant.last)
