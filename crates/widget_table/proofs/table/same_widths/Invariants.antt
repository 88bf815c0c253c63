use Rattle.std.proofs.Common.{◌≡◌, replicate}
use Rattle.ratatui_core.specs.declared.layout.Constraint.TheVariants.{Length}
use Rattle.widget_table.proofs.table.same_widths.Given as goal

abbrev pub invariant-loop : goal.invariant-loop
invariant-loop l = l.widths.items ≡ replicate l.counter (Length l.each)
