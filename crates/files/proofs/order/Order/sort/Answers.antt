use Rattle.std.proofs.Common.{rules}
use Rattle.std.specs.Ordering.{is_lt}
use Rattle.std.proofs.lemmas.List.Sorted.{ranks_by}
use Rattle.std.proofs.lemmas.Fn.{always_returns_same}
use Rattle.files.specs.declared.list.Row.{Row}
use Rattle.files.specs.Orders.{compare_rows}
use Rattle.files.proofs.OrderLemmas.{rows-total, done-weaker}
use Rattle.files.proofs.order.Order.sort.Goals as goal

pub returns-clause-ordered : goal.returns-clause-ordered
returns-clause-ordered c = done-weaker c.sort_by.result
    (λ sorted. sorted (λ x y. is_lt (compare_rows c.args.self x y)) (ranks_by (rows-total c.args.self) (λ (row : Row). row))
    (always_returns_same _ _ _ (λ a r f' called. search rules)))
    c.sort_by.ensures.sorted
