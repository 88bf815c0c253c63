use Rattle.std.proofs.Common.{◌≡◌, false, min, arith}
use Rattle.ratatui_core.specs.Backend.{scrolling_down}
use Rattle.rtui_grid.proofs.MoveLemmas.{rows_lowered}
use Rattle.ansi_model.proofs.FlagLemmas.{flags-moved}
use Rattle.ansi_model.proofs.flags.lower_flags.Goals as goal

pub returns-then-region-end : goal.returns-then-region-end
returns-then-region-end c = λ columns continuations.
    let w = c.args.size.width in
    let h = c.args.size.height in
    let end = min c.args.region.end h in
    let e : c.min-end.result ≡ end = c.min-end.ensures in
    flags-moved w h c.args.flags.now _ columns (scrolling_down c.args.region.start end c.args.n)
    (λ y y_in is. omega arith) continuations c.shift_down.auto.items
    (λ x y x_in. rows_lowered false w x x_in _ _ c.args.region.start end c.args.n
    (rw (
      c.from-then-region-end-2.ensures,
      c.from-then-region-end.ensures,
      c.from.ensures,
      c.from-width.ensures,
      e,
    ) at c.shift_down.ensures) y)
