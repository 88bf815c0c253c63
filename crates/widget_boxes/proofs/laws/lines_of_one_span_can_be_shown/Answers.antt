use Rattle.std.proofs.Common.{refl, Some, None}
use Rattle.ratatui_core.specs.declared.layout.HorizontalAlignment.TheVariants.{Left}
use Rattle.widget_boxes.proofs.WholeRowLemmas.{one-shown}
use Rattle.widget_boxes.proofs.laws.lines_of_one_span_can_be_shown.Goals as goal

pub returns-clause-left : goal.returns-clause-left
returns-clause-left c = λ line span is takes. one-shown (Some Left) line span (λ n. refl) is takes

pub returns-clause-unaligned : goal.returns-clause-unaligned
returns-clause-unaligned c = λ line span is takes. one-shown None line span (λ n. refl) is takes
