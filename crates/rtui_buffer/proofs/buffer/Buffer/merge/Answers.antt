use Rattle.std.proofs.Common.{◌≡◌, ◌++◌, length, take, drop, ap, arith}
use Rattle.std.proofs.lemmas.Grind.{common_steps}
use Rattle.rtui_geometry.specs.Rect.{united, EdgesFit}
use Rattle.rtui_buffer.specs.Inner.{IsExtended, HasInner}
use Rattle.rtui_buffer.proofs.OverlayLemmas.{IsOverlay-block}
use Rattle.rtui_buffer.proofs.buffer.Buffer.merge.Goals as goal

pub returns-clause-overlay : goal.returns-clause-overlay
returns-clause-overlay c =
    let cells = c.move_inner.new.cells in
    let former = c.self-2.inside.content in
    let same : take former.len (cells ++ drop (length cells) former.items) ≡ cells = grind (arith, common_steps) in
    let lower_edges : EdgesFit c.args.self.now.area = rw (← c.self.view_is) c.self.invariant.edges in
    let upper_edges : EdgesFit c.args.other.now.area = rw (← c.other.view_is) c.other.invariant.edges in
    let area : c.union-area.result ≡ united c.args.self.now.area c.args.other.now.area =
    rw (← c.self.view_is, ← c.other.view_is) c.union-area.ensures.value in
    let extended : IsExtended (united c.args.self.now.area c.args.other.now.area) c.args.self.now c.extend.new.self =
    rw (← area) c.in_ok-extend.ensures.ok in
    let block : HasInner (united c.args.self.now.area c.args.other.now.area) c.args.other.now.area c.args.other.now.cells
    c.extend.new.self.cells cells =
    rw (
      c.as_mut_slice.ensures.value,
      c.as_mut_slice-2.ensures.value,
      c.in_ok-upper.ensures.items,
      c.content.ensures.cells,
      area,
      ap (λ s. s.area) c.other.view_is,
      ap (λ s. s.cells) c.self-2.view_is,
    ) at c.move_inner.ensures in
    IsOverlay-block c.args.self.now c.args.other.now c.extend.new.self _ cells lower_edges upper_edges extended
    (ap (λ s. s.area) c.self-2.view_is) same block
