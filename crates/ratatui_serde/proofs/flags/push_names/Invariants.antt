use Rattle.std.proofs.Common.{◌≡◌, take}
use Rattle.ratatui_serde.specs.Flags.{with_names}
use Rattle.ratatui_serde.proofs.flags.push_names.Given as goal

abbrev pub invariant-loop-i : goal.invariant-loop-i
invariant-loop-i g l = g.B.Flags.exact
    → l.text.bytes ≡ with_names l.initial.text.bytes (take l.i g.B.Flags.table) (g.B.Flags.set_of l.set)
