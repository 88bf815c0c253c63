use Rattle.std.proofs.Common.{◌-◌, sym, min, arith}
use Rattle.std.proofs.lemmas.Result.{on_ok_weaker}
use Rattle.ansi_model.specs.Emulator.{cursor_moved, returned, fed, with_region, without_region}
use Rattle.ansi_model.specs.Inner.{fed_and_lowered_by}
use Rattle.ansi_model.proofs.{ScrollLemmas.turns-from, RegionLemmas.screen-up, RegionLemmas.one-up, RegionLemmas.first-up}
use Rattle.ansi_model.proofs.screen.scroll_first_rows.Goals as goal

pub returns-then-end-height : goal.returns-then-end-height
returns-then-end-height c =
    on_ok_weaker c.feed_screen.result (λ does w b some e.
    turns-from w c.args.height _ _ (λ t. fed c.args.n (returned (cursor_moved 0 (c.args.height - 1) t))) _ does
    (screen-up w c.args.height b c.args.n some (omega arith) (omega arith))) c.feed_screen.ensures

pub returns-then-end-eq1 : goal.returns-then-end-eq1
returns-then-end-eq1 c =
    on_ok_weaker c.feed_first_row.result (λ does w b some e.
    turns-from w c.args.height _ _ (λ t. without_region (fed_and_lowered_by c.args.n (with_region 0 2 t))) _ does
    (one-up w c.args.height b c.args.n some (omega arith) (omega arith))) c.feed_first_row.ensures

pub returns-else-end-eq1 : goal.returns-else-end-eq1
returns-else-end-eq1 c =
    on_ok_weaker c.feed_rows.result (λ does w b some e.
    turns-from w c.args.height _ _
    (λ t. without_region (fed c.args.n (returned (cursor_moved 0 (min b c.args.height - 1)
    (with_region 0 (min b c.args.height) t))))) _ (rw (sym e) at does)
    (first-up w c.args.height b c.args.n some (omega arith))) c.feed_rows.ensures
