use Rattle.std.proofs.Common.{◌≡◌, ◌+◌, ◌-◌, ◌∙◌, ◌++◌, length, take, drop, refl, ap, arith}
use Rattle.std.specs.Prelude.{filter}
use Rattle.ratatui_core.specs.Text.{line_graphemes_left}
use Rattle.widget_paragraph.specs.Reflow.{fits_row}
use Rattle.widget_paragraph.proofs.AheadLemmas.{left-passed, left-moved}
use Rattle.widget_paragraph.proofs.ahead.Ahead.pass.Goals as goal

pub returns-then-self-gt-PASSED-clause-left : goal.returns-then-self-gt-PASSED-clause-left
returns-then-self-gt-PASSED-clause-left c =
    let a = c.args.self.now in
    let n = c.len.result - (a.passed + c.args.count) in
    let long : n + (a.passed + c.args.count) ≡ length a.held.items = omega (
      arith,
      c.len.ensures,
      c.rotate_left.ensures.len,
      c.requires.held,
    ) in
    let moved : c.truncate.new.self.items ≡ drop (a.passed + c.args.count) a.held.items =
    left-moved (a.passed + c.args.count) a.held.items c.truncate.new.self.items n c.requires.held long (c.truncate.ensures.items
    ∙ ap (take n) c.rotate_left.ensures.items) in
    record {
      left = ap (λ gs. gs ++ filter (fits_row a.width) (line_graphemes_left a.rest)) moved
          ∙ left-passed a.passed c.args.count a.held.items _ c.requires.held;
      width = refl;
      trim = refl;
    }

pub returns-else-self-gt-PASSED-clause-left : goal.returns-else-self-gt-PASSED-clause-left
returns-else-self-gt-PASSED-clause-left c =
    record {
      left = left-passed c.args.self.now.passed c.args.count c.args.self.now.held.items _ c.requires.held;
      width = refl;
      trim = refl;
    }
