use Rattle.std.proofs.Common.{◌≡◌, false, min, arith}
use Rattle.std.proofs.lemmas.Bool.Decides.{nat_tests}
use Rattle.ratatui_core.specs.Backend.{scrolling_up}
use Rattle.rtui_grid.proofs.MoveLemmas.{rows_raised}
use Rattle.ansi_model.proofs.FlagLemmas.{flags-moved}
use Rattle.ansi_model.proofs.flags.raise_flags.Goals as goal

pub returns-then-region-end : goal.returns-then-region-end
returns-then-region-end c = λ columns continuations.
    let w = c.args.size.width in
    let h = c.args.size.height in
    let end = min c.args.region.end h in
    let e : c.min-end.result ≡ end = c.min-end.ensures in
    flags-moved w h c.args.flags.now _ columns (scrolling_up c.args.region.start end c.args.n)
    (λ y y_in is. grind (arith, nat_tests)) continuations c.shift_up.auto.items
    (λ x y x_in. rows_raised false w x x_in _ _ c.args.region.start end c.args.n
    (rw (
      c.from-then-region-end-2.ensures,
      c.from-then-region-end.ensures,
      c.from.ensures,
      c.from-width.ensures,
      e,
    ) at c.shift_up.ensures) y)
