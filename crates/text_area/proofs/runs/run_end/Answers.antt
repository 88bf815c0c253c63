use Rattle.std.proofs.Common.{rules, ◌≡◌, ◌<◌, false, length, slice_index}
use Rattle.text_area.specs.Inner.{in_run}
use Rattle.text_area.proofs.RunLemmas.{run-right}
use Rattle.text_area.proofs.runs.run_end.Goals as goal

pub returns-after-walk-clause-value : goal.returns-after-walk-clause-value
returns-after-walk-clause-value c =
    let stops : c.walk.end < length c.args.bytes.now → in_run c.args.run (slice_index c.args.bytes.now c.walk.end) ≡ false =
    search rules in
    run-right (in_run c.args.run) c.args.bytes.now c.args.start c.walk.end c.walk.invariant.0 c.walk.invariant.1
    c.walk.invariant.2 stops
