use Rattle.std.proofs.Common.{◌≡◌, ◌++◌, length, take, drop}
use Rattle.widget_chart.specs.Charts.{aligned_from}
use Rattle.widget_chart.proofs.axis.align_all.Given as goal

abbrev pub invariant-loop-i : goal.invariant-loop-i
invariant-loop-i l =
    let n = length l.fn.labels in
    record {
      count : length l.labels ≡ n;
      rest : take l.i l.labels ++ aligned_from l.fn.is_below l.fn.alignment n l.i (drop l.i l.labels)
          ≡ aligned_from l.fn.is_below l.fn.alignment n 0 l.fn.labels;
    }
