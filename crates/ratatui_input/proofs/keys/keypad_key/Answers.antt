use Rattle.std.proofs.Common.{sym, ◌≤◌, arith}
use Rattle.ratatui_input.proofs.TableLemmas.{keypad-none}
use Rattle.ratatui_input.proofs.keys.keypad_key.Goals as goal

pub returns-then-is_printed : goal.returns-then-is_printed
returns-then-is_printed c =
    let low : 32 ≤ c.args.code = omega arith in
    let high : c.args.code ≤ 126 = omega arith in
    sym (keypad-none c.args.code low high)
