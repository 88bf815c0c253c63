use Rattle.std.proofs.Common.{sym, ◌≤◌, arith}
use Rattle.ratatui_input.proofs.TableLemmas.{name-none}
use Rattle.ratatui_input.proofs.keys.name_key.Goals as goal

pub returns-then-is_printed : goal.returns-then-is_printed
returns-then-is_printed c =
    let low : 32 ≤ c.args.code = omega arith in
    let high : c.args.code ≤ 126 = omega arith in
    sym (name-none c.args.code low high)
