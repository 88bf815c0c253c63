use Rattle.std.proofs.Common.{[], rules, arith, refl, sym, append-nil}
use Rattle.rtui_text.proofs.GraphemeLemmas.{none-left}
use Rattle.rtui_buffer.proofs.RefusedLemmas.{so_far-printable, so_far-next, so_far-all, so_far-within}
use Rattle.rtui_buffer.proofs.TextLemmas.{text_pieces-nil}
use Rattle.rtui_buffer.proofs.buffer.painting.paint_text.Goals as goal

pub returns-in_err-more-clause-paints : goal.returns-in_err-more-clause-paints
returns-in_err-more-clause-paints c =
    let a = c.args in
    let so_far = so_far-printable a.text.now c.range_from-rest.result.now c.printable_front-front.result a.start a.room a.style
    a.cells.now c.paint_printable.new.cells c.printable_front-front.ensures.front (omega arith) (search rules) (search rules) in
    so_far-within _ _ _ _ _ _ so_far _ [] _ (sym (append-nil _)) _ (search rules) c.in_err-more.ensures.paints

pub returns-then-is_empty : goal.returns-then-is_empty
returns-then-is_empty c =
    let a = c.args in
    let so_far = so_far-printable a.text.now c.range_from-rest.result.now c.printable_front-front.result a.start a.room a.style
    a.cells.now c.paint_printable.new.cells c.printable_front-front.ensures.front (omega arith) (search rules) (search rules) in
    let all = so_far-all _ _ _ _ _ _ so_far _ (text_pieces-nil _ _ _ (none-left _ c.if-is_empty.ensures)) in
    record { fits = omega arith; columns = omega (arith, all.0); paints = all.1 }

pub returns : goal.returns
returns c =
    let a = c.args in
    let so_far = so_far-printable a.text.now c.range_from-rest.result.now c.printable_front-front.result a.start a.room a.style
    a.cells.now c.paint_printable.new.cells c.printable_front-front.ensures.front (omega arith) (search rules) (search rules) in
    let more = c.in_ok-more.ensures in
    let all = so_far-all _ _ _ _ _ _ (so_far-next _ _ _ _ _ _ so_far _ [] _ (sym (append-nil _)) more.paints) _ refl in
    record { fits = omega (arith, more.fits); columns = omega (arith, all.0, more.columns); paints = all.1 }
