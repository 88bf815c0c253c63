use Rattle.std.proofs.Common.{ℕ, List, [], rules, arith, sym, ◌∙◌, below_more}
use Rattle.std.proofs.lemmas.{Grind.common_steps, Bool.false≢true}
use Rattle.std.specs.Borrow.{Bor}
use Rattle.rtui_text.specs.Text.{raw_line}
use Rattle.std.proofs.Math.ListN.{get_or-map as item-map}
use Rattle.rtui_backend.proofs.test.TestBackend.lines_are.Goals as goal

pub loop-y-preserved : goal.loop-y-preserved
loop-y-preserved c =
    let none : Bor (List ℕ) = record { ref_ptr = (0, 0); now = [] } in
    let line = item-map (λ line. raw_line line.now) c.args.lines.now c.loop-y.y none in
    let told = rw (c.row.ensures.width, c.from-in-loop-y.ensures) at (c.row_is.ensures.0 c.if-not-row_is.false) in
    below_more _ c.loop-y.y c.loop-y.invariant (rw line (λ a a_in. sym (c.row.ensures.symbols a a_in) ∙ told a a_in))

pub returns-then-not-row_is : goal.returns-then-not-row_is
returns-then-not-row_is c =
    let none : Bor (List ℕ) = record { ref_ptr = (0, 0); now = [] } in
    let line = item-map (λ line. raw_line line.now) c.args.lines.now c.loop-y.y none in (
      λ no. search rules,
      λ shows.
          absurd (false≢true (sym c.if-not-row_is.true ∙ c.row_is.ensures.1 (rw (c.row.ensures.width, c.from-in-loop-y.ensures)
          (λ a a_in. c.row.ensures.symbols a a_in ∙ rw line at (shows.rows c.loop-y.y (grind (arith, common_steps))) a a_in)))),
    )
