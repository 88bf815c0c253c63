use Rattle.std.proofs.Common.{◌≡◌, ◌∷◌, ◌-◌, ◌<◌, [], true, rules, arith, ap, ◌∙◌}
use Rattle.unicode_segmentation.specs.{Grapheme.graphemes, Iter.graphemes_left}
use Rattle.rtui_buffer.specs.Painting.{pieces, kept, painted_width}
use Rattle.rtui_buffer.proofs.PaintLemmas.{kept-nil, kept-full, painted_width-painted}
use Rattle.rtui_buffer.proofs.RefusedLemmas.{so_far-none, so_far-turn, so_far-next_short, so_far-refused, so_far-all}
use Rattle.rtui_buffer.proofs.buffer.painting.paint_graphemes.Goals as goal

pub loop-grapheme-init : goal.loop-grapheme-init
loop-grapheme-init c =
    let all : graphemes_left c.into_iter-grapheme-iterator.result ≡ graphemes true c.args.text.now = search rules in
    let room : c.args.room - 0 ≡ c.args.room = omega arith in
    record {
      can = search rules;
      ends = search rules;
      within = omega arith;
      so_far = rw (all, room) (so_far-none _ _ _);
    }

pub returns-then-width-room : goal.returns-then-width-room
returns-then-width-room c =
    let i = c.loop-grapheme.invariant in
    let is : graphemes_left c.loop-grapheme.grapheme-iterator ≡ c.in-Some.grapheme.now ∷ graphemes_left c.next.new.self =
    search rules in
    let some : 0 < painted_width c.in-Some.grapheme.now = omega (arith, c.painted_width-width.ensures) in
    let same = painted_width-painted c.in-Some.grapheme.now some in
    let none : kept (c.args.room - c.loop-grapheme.used) (graphemes_left c.loop-grapheme.grapheme-iterator) ≡ [] =
    ap (kept _) is ∙ kept-full _ _ _ some (omega (arith, c.painted_width-width.ensures)) in
    let all = so_far-all _ _ _ _ _ _ i.so_far _ (ap (pieces c.args.style) none) in
    record { fits = i.within; columns = all.0; paints = all.1 }

pub loop-grapheme-preserved : goal.loop-grapheme-preserved
loop-grapheme-preserved c =
    let i = c.loop-grapheme.invariant in
    let is : graphemes_left c.loop-grapheme.grapheme-iterator ≡ c.in-Some.grapheme.now ∷ graphemes_left c.next.new.self =
    search rules in
    record {
      can = search rules;
      ends = search rules;
      within = omega arith;
      so_far = so_far-turn _ _ _ _ _ _ _ _ _ _ _ is c.painted_width-width.ensures (omega arith)
          (omega arith) i.so_far _ c.in_ok-put_piece.ensures.ok;
    }

pub returns-in_err-put_piece-clause-paints : goal.returns-in_err-put_piece-clause-paints
returns-in_err-put_piece-clause-paints c =
    let i = c.loop-grapheme.invariant in
    let is : graphemes_left c.loop-grapheme.grapheme-iterator ≡ c.in-Some.grapheme.now ∷ graphemes_left c.next.new.self =
    search rules in
    rw c.in_err-put_piece.ensures.err (so_far-refused _ _ _ _ _ _ i.so_far _ (search rules) (λ all.
    c.in_err-put_piece.ensures.short (so_far-next_short _ _ _ _ _ _ _ _ _ _ _ is c.painted_width-width.ensures (omega arith)
    (omega arith) i.so_far all)))

pub returns : goal.returns
returns c =
    let i = c.loop-grapheme.invariant in
    let end : graphemes_left c.loop-grapheme.grapheme-iterator ≡ [] = search rules in
    let all = so_far-all _ _ _ _ _ _ i.so_far _ (ap (λ gs. pieces c.args.style (kept (c.args.room - c.loop-grapheme.used) gs)) end
    ∙ ap (pieces c.args.style) (kept-nil _)) in
    record { fits = i.within; columns = all.0; paints = all.1 }
