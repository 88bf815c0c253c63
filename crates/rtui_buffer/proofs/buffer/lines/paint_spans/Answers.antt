use Rattle.std.proofs.Common.{◌≡◌, ◌-◌, arith, rules, ap, ◌∙◌}
use Rattle.rtui_style.specs.Style.{patch}
use Rattle.rtui_buffer.proofs.LineLemmas.{span-pieces, line_pieces-none, line_pieces-end}
use Rattle.rtui_buffer.proofs.RefusedLemmas.{so_far-none, so_far-next, so_far-all, so_far-within}
use Rattle.rtui_buffer.proofs.buffer.lines.paint_spans.Goals as goal

pub loop-span-init : goal.loop-span-init
loop-span-init c = let room : c.args.room - 0 ≡ c.args.room = omega arith in
    record { within = omega arith; so_far = rw room (so_far-none _ _ _) }

pub loop-span-preserved : goal.loop-span-preserved
loop-span-preserved c =
    let i = c.loop-span.invariant in
    let style : c.patch-style.result ≡ patch c.args.base c.span-item.result.style = c.patch-style.ensures
    ∙ ap (λ s. patch c.args.base s.style) c.span.view_is in
    let ran = rw (style, c.text.ensures) at c.in_ok-used.ensures in
    let pieces = span-pieces c.args.base c.loop-span.used c.args.room _ _ c.span-item.result
    c.loop-span-test.true c.span-item.is in
    record {
      within = omega (arith, ran.fits);
      so_far = rw ran.columns (so_far-next _ _ _ _ _ _ i.so_far _ _ _ pieces ran.paints);
    }

pub returns-in_err-used-clause-paints : goal.returns-in_err-used-clause-paints
returns-in_err-used-clause-paints c =
    let i = c.loop-span.invariant in
    let style : c.patch-style.result ≡ patch c.args.base c.span-item.result.style = c.patch-style.ensures
    ∙ ap (λ s. patch c.args.base s.style) c.span.view_is in
    let refused = rw (style, c.text.ensures) at c.in_err-used.ensures in
    let pieces = span-pieces c.args.base c.loop-span.used c.args.room _ _ c.span-item.result
    c.loop-span-test.true c.span-item.is in
    so_far-within _ _ _ _ _ _ i.so_far _ _ _ pieces _ (search rules) refused.paints

pub returns-then-used-room : goal.returns-then-used-room
returns-then-used-room c =
    let i = c.loop-span.invariant in
    let all = so_far-all _ _ _ _ _ _ i.so_far _ (line_pieces-none _ _ _ (omega arith)) in
    record { fits = i.within; columns = all.0; paints = all.1 }

pub returns : goal.returns
returns c =
    let i = c.loop-span.invariant in
    let all = so_far-all _ _ _ _ _ _ i.so_far _ (line_pieces-end _ _ _ _ c.loop-span-test.false) in
    record { fits = i.within; columns = all.0; paints = all.1 }
