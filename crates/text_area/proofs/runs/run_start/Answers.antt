use Rattle.std.proofs.Common.{rules, ◌≡◌, ◌-◌, ◌<◌, false, slice_index}
use Rattle.text_area.specs.Inner.{in_run}
use Rattle.text_area.proofs.RunLemmas.{run-left}
use Rattle.text_area.proofs.runs.run_start.Goals as goal

pub returns-after-walk-clause-value : goal.returns-after-walk-clause-value
returns-after-walk-clause-value c =
    let stops : 0 < c.walk.start → in_run c.args.run (slice_index c.args.bytes.now (c.walk.start - 1)) ≡ false =
    search rules in
    run-left (in_run c.args.run) c.args.bytes.now c.walk.start c.args.end c.walk.invariant.0 c.requires c.walk.invariant.1
    stops
