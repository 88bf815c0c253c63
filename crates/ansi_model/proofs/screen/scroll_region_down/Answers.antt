use Rattle.std.proofs.Common.{inl, inr, ◌≤◌, min, arith, ◌<◌, ◌≡◌}
use Rattle.std.proofs.lemmas.Result.{on_ok_weaker}
use Rattle.ansi_model.specs.Emulator.{cursor_moved, erased, with_region, without_region, lines_inserted}
use Rattle.ratatui_core.specs.Backend.{CurrentLine}
use Rattle.ansi_model.proofs.ScrollLemmas.{turns-from}
use Rattle.ansi_model.proofs.RegionLemmas.{Turns-none, row-down, rows-down, still-down}
use Rattle.ansi_model.proofs.screen.scroll_region_down.Goals as goal

pub returns-then-n-eq0 : goal.returns-then-n-eq0
returns-then-n-eq0 c =
    let a = c.args.region.start in
    let b = c.args.region.end in
    let h = c.args.height in
    let e : c.min-end.result ≡ min b h = c.min-end.ensures in
    let none : a < min b h → c.args.n ≡ 0 = λ inside. elim c.then-n-eq0.either [
      | inl z ↦ z
      | inr both ↦ let past : c.min-end.result ≤ a = both.1 in absurd (omega arith)
    ] in
    λ w some. Turns-none w h _ _ (λ t ready. still-down w h a b c.args.n t ready none)

pub returns-then-end-region-eq1 : goal.returns-then-end-region-eq1
returns-then-end-region-eq1 c =
    let a = c.args.region.start in
    let b = c.args.region.end in
    let h = c.args.height in
    let e : c.min-end.result ≡ min b h = c.min-end.ensures in
    on_ok_weaker c.empty_row.result (λ does w some.
    turns-from w h _ _ (λ t. erased CurrentLine (cursor_moved 0 a t)) _ does (row-down w h a b c.args.n some (omega arith)
    (omega arith) (omega arith))) c.empty_row.ensures

pub returns : goal.returns
returns c =
    let a = c.args.region.start in
    let b = c.args.region.end in
    let h = c.args.height in
    let e : c.min-end.result ≡ min b h = c.min-end.ensures in
    on_ok_weaker c.lower_rows.result (λ does w some.
    turns-from w h _ _ (λ t. without_region (lines_inserted c.args.n (cursor_moved 0 a (with_region a (min b h) t)))) _
    (rw e at does) (rows-down w h a b c.args.n some (omega arith))) c.lower_rows.ensures
