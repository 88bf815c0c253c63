use Rattle.std.proofs.Common.{◌≡◌, ◌++◌, length, take, drop, refl, ap, arith}
use Rattle.std.proofs.lemmas.Grind.{common_steps}
use Rattle.rtui_buffer.specs.Inner.{IsAround}
use Rattle.rtui_buffer.proofs.OverlayLemmas.{IsExtended-block, filled-empty}
use Rattle.rtui_buffer.proofs.buffer.Buffer.extend.Goals as goal

pub returns-clause-ok : goal.returns-clause-ok
returns-clause-ok c =
    let cells = c.move_inner.new.cells in
    let former = c.cut_or_fill.new.cells in
    let same : take former.len (cells ++ drop (length cells) former.items) ≡ cells = grind (arith, common_steps) in
    let around : IsAround c.args.area c.self.inside.area = rw (ap (λ s. s.area) c.self.view_is) c.requires.around in
    rw (← c.self.view_is)
    (IsExtended-block c.args.area _ _ former.items cells refl same c.self.invariant.edges around
    (filled-empty _ _ _ _ c.in_ok-cut_or_fill.ensures.ok c.in_ok-content.ensures.items)
    (rw (c.as_mut_slice.ensures.value, c.as_mut_slice-2.ensures.value) at c.move_inner.ensures))
